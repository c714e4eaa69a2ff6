use Rattle.std.proofs.Common.{inl, inr, sym, ap}
use Rattle.bcder.specs.calls.Meaning.{Encoded}
use Rattle.bcder.proofs.Noting.{where_ok, first_may, rest_may, then_read}
use Rattle.bcder.proofs.Writing.{stops, follows_on, halts, lacks_more, same_octets}
use Rattle.bcder.proofs.encode.values.parts.ChainParts.write_parts.Goals as goal

pub write_known-requires-clause-sized : goal.write_known-requires-clause-sized
write_known-requires-clause-sized g c =
    let mode = c.args.mode in
    let chain = c.args.self.now in
    first_may (g.V.Values.reads chain.first.now mode) (g.R.Parts.reads chain.rest mode) _ c.requires.sized

pub write_parts-requires-clause-sized : goal.write_parts-requires-clause-sized
write_parts-requires-clause-sized g c =
    let mode = c.args.mode in
    let chain = c.args.self.now in
    rest_may (g.V.Values.reads chain.first.now mode) (g.R.Parts.reads chain.rest mode) _ _ c.requires.sized c.in_ok-write_known.ensures.left

pub returns-in_err-write_known-clause-written : goal.returns-in_err-write_known-clause-written
returns-in_err-write_known-clause-written g c = λ e (x, y, p, q, is).
    let one = (g.met.V.Values.lawful c.args.self.now.first.now c.args.mode c.requires.can.0).one in
    same_octets (ap (λ (e : Encoded). e.octets) (sym is))
    (halts _ c.from_residual.ensures (lacks_more _ inl (stops y.octets (c.in_err-write_known.ensures.written one x p))))

pub returns-clause-written : goal.returns-clause-written
returns-clause-written g c = λ e (x, y, p, q, is).
    let one = (g.met.V.Values.lawful c.args.self.now.first.now c.args.mode c.requires.can.0).one in
    same_octets (ap (λ (e : Encoded). e.octets) (sym is)) (follows_on (c.in_ok-write_known.ensures.written one x p) (lacks_more _ inr (c.write_parts.ensures.written y q)))

pub returns-clause-left : goal.returns-clause-left
returns-clause-left g c =
    let mode = c.args.mode in
    let chain = c.args.self.now in
    where_ok c.write_parts.result
    (then_read (g.V.Values.reads chain.first.now mode) (g.R.Parts.reads chain.rest mode) _ _ _ c.in_ok-write_known.ensures.left) c.write_parts.ensures.left

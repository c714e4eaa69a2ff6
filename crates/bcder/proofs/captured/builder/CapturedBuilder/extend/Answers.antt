use Rattle.std.proofs.Common.{subst, Some}
use Rattle.bcder.specs.calls.Captured.{Kept}
use Rattle.bcder.specs.calls.Encoders.{WritesEncoding, into_result}
use Rattle.bcder.specs.calls.Gathered.{kept_from_start, GrowsBy}
use Rattle.bcder.proofs.Noting.{left_read}
use Rattle.bcder.proofs.Writing.{same_result}
use Rattle.bcder.proofs.Gathering.{written_grows, whole_grown}
use Rattle.bcder.proofs.captured.builder.CapturedBuilder.extend.Goals as goal

pub write_known-requires-clause-sized : goal.write_known-requires-clause-sized
write_known-requires-clause-sized g c = left_read _ _ c.left.ensures c.in_ok-len.ensures.noted

pub invariant_of-self-in-Ok : goal.invariant_of-self-in-Ok
invariant_of-self-in-Ok g c =
    let mode = c.self.inside.mode in
    let old = c.self.inside.octets.items in
    let new = c.write_known.new.target.items in
    let M = g.V.Values.means c.args.values mode in
    let (e, meant, size) = c.in_ok-len.ensures.sized in
    let lawful = g.met.V.Values.lawful c.args.values mode c.requires in
    let writes = subst (λ w. WritesEncoding M (g.V.Values.may_lack c.args.values mode) (Some w) (Some new)
    (into_result c.write_known.result c.write_known.new.why)) c.reserve.ensures.items (c.write_known.ensures.written lawful.one) in
    whole_grown mode old new c.self.invariant (written_grows mode old new _ lawful (e, meant) writes (same_result _ c.in-Ok.is))

pub returns-in-Ok-clause-extended : goal.returns-in-Ok-clause-extended
returns-in-Ok-clause-extended g c =
    let mode = c.self.inside.mode in
    let old = c.self.inside.octets.items in
    let new = c.write_known.new.target.items in
    let M = g.V.Values.means c.args.values mode in
    let (e, meant, size) = c.in_ok-len.ensures.sized in
    let lawful = g.met.V.Values.lawful c.args.values mode c.requires in
    let writes = subst (λ w. WritesEncoding M (g.V.Values.may_lack c.args.values mode) (Some w) (Some new)
    (into_result c.write_known.result c.write_known.new.why)) c.reserve.ensures.items (c.write_known.ensures.written lawful.one) in
    subst (λ (k : Kept). GrowsBy (g.V.Values.means c.args.values k.mode) k (kept_from_start mode new)) c.self.view_is
    (written_grows mode old new _ lawful (e, meant) writes (same_result _ c.in-Ok.is))

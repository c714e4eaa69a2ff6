use Rattle.bcder.specs.declared.mode.Mode.TheVariants.{Cer}
use Rattle.bcder.specs.x690.Octets.{closing}
use Rattle.bcder.proofs.Writing.{stops, follows_on, halts, lacks_more}
use Rattle.bcder.proofs.encode.values.constructed.put_indefinite.Goals as goal

pub returns-in_err-put_header-clause-written : goal.returns-in_err-put_header-clause-written
returns-in_err-put_header-clause-written g c = λ x meant is.
    let t = c.args.value.now.tag in
    let mode = Cer in
    let head = c.in_err-put_header.ensures in
    halts _ c.from_residual.ensures (lacks_more _ (λ h. absurd h) (stops (closing mode) (stops x.octets head)))

pub returns-in_err-write_known-clause-written : goal.returns-in_err-write_known-clause-written
returns-in_err-write_known-clause-written g c = λ x meant is.
    let t = c.args.value.now.tag in
    let mode = Cer in
    let one = (g.met.V.Values.lawful c.args.value.now.inner mode c.requires.can).one in
    let head = c.in_ok-put_header.ensures in
    halts _ c.from_residual-in_err-write_known.ensures (stops (closing mode) (follows_on head (c.in_err-write_known.ensures.written one x meant)))

pub returns-clause-written : goal.returns-clause-written
returns-clause-written g c = λ x meant is.
    let t = c.args.value.now.tag in
    let one = (g.met.V.Values.lawful c.args.value.now.inner Cer c.requires.can).one in
    let head = c.in_ok-put_header.ensures in
    follows_on (follows_on head (c.in_ok-write_known.ensures.written one x meant)) (lacks_more _ (λ h. absurd h) c.put_all.ensures)

use Rattle.bcder.specs.calls.StringOctets.{StringOctets}
use Rattle.bcder.specs.calls.Views.{of_constructed}
use Rattle.bcder.proofs.SameBorrow.{constructed_form}
use Rattle.bcder.proofs.Accepting.{read_checked, read_refused}
use Rattle.bcder.proofs.string.restricted.RestrictedString.from_values.Goals as goal

pub returns-in-Err-clause-read : goal.returns-in-Err-clause-read
returns-in-Err-clause-read g c =
    let i = of_constructed g.S.Source.stream c.args.values.now in
    let j = of_constructed g.S.Source.stream c.from_constructed.new.values in
    read_refused (λ (s : StringOctets). s) g.L.CharSet.step i j c.in-Err.error (constructed_form g.S.Source.stream c.args.values.now) c.in-Err.ensures.read

pub returns-clause-read : goal.returns-clause-read
returns-clause-read g c =
    let i = of_constructed g.S.Source.stream c.args.values.now in
    let j = of_constructed g.S.Source.stream c.from_constructed.new.values in
    read_checked (λ (s : StringOctets). s) g.L.CharSet.step i j c.in-Ok.octets c.accept.result c.accept.ensures.accepted
    c.accept.ensures.refused c.in-Ok.ensures.read

use Rattle.std.proofs.Common.{◌≡◌, rules}
use Rattle.bcder.specs.calls.Readers.{AreNot}
use Rattle.bcder.specs.x690.ObjectIdentifier.{identifier_tag, IsComplete}
use Rattle.bcder.specs.calls.Views.{of_constructed, of_primitive}
use Rattle.bcder.proofs.SameBorrow.{within_constructed}
use Rattle.bcder.proofs.Typed.{next_as, octets_form}
use Rattle.bcder.proofs.oid.Oid+Bytes.take_opt_from.Goals as goal

pub returns-clause-took : goal.returns-clause-took
returns-clause-took g c =
    next_as (of_primitive g.S.Source.stream) _ identifier_tag (λ _ w oid. (oid.0 ≡ w) × IsComplete w) (λ _. AreNot IsComplete) (octets_form g.S.Source.stream)
    (λ t p r q x. search rules)
    (of_constructed g.S.Source.stream c.args.cons.now) (of_constructed g.S.Source.stream c.take_opt_primitive_if.new.self) c.take_opt_primitive_if.result
    (within_constructed g.S.Source.stream g.met.S.Source.sound c.args.cons.now) c.take_opt_primitive_if.ensures.took

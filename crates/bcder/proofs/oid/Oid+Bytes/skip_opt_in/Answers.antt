use Rattle.std.proofs.Common.{rules}
use Rattle.bcder.specs.x690.ObjectIdentifier.{identifier_tag}
use Rattle.bcder.specs.calls.Readers.{HoldIdentifier}
use Rattle.bcder.specs.calls.Readers.{MeanNothing}
use Rattle.bcder.specs.calls.Views.{of_constructed, of_primitive}
use Rattle.bcder.proofs.SameBorrow.{within_constructed}
use Rattle.bcder.proofs.Typed.{next_as, octets_form}
use Rattle.bcder.proofs.oid.Oid+Bytes.skip_opt_in.Goals as goal

pub returns-clause-took : goal.returns-clause-took
returns-clause-took g c =
    next_as (of_primitive g.S.Source.stream) _ identifier_tag (λ _. HoldIdentifier) (λ _. MeanNothing {T = Unit {0}} HoldIdentifier)
    (octets_form g.S.Source.stream) (λ t p r q x. search rules)
    (of_constructed g.S.Source.stream c.args.cons.now) (of_constructed g.S.Source.stream c.take_opt_primitive_if.new.self) c.take_opt_primitive_if.result
    (within_constructed g.S.Source.stream g.met.S.Source.sound c.args.cons.now) c.take_opt_primitive_if.ensures.took

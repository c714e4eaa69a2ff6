use Rattle.std.proofs.Common.{rules, refl}
use Rattle.bcder.specs.x690.Identifier.{null_tag}
use Rattle.bcder.specs.calls.Readers.{IsNull, MeanNothing}
use Rattle.bcder.specs.calls.Views.{of_constructed, of_primitive}
use Rattle.bcder.proofs.SameBorrow.{within_constructed}
use Rattle.bcder.proofs.Typed.{passes_as, refuses_as, octets_form}
use Rattle.bcder.proofs.decode.content.Constructed.take_opt_null.Goals as goal

pub returns-in-Ok-clause-took : goal.returns-in-Ok-clause-took
returns-in-Ok-clause-took g c = passes_as (of_primitive g.S.Source.stream) _ null_tag (λ _. IsNull) (λ _. MeanNothing {T = Unit {0}} IsNull)
    (octets_form g.S.Source.stream) (λ t p r q x. search rules) _ (λ y. refl) (of_constructed g.S.Source.stream c.args.self.now)
    (of_constructed g.S.Source.stream c.take_opt_primitive_if.new.self) _
    (within_constructed g.S.Source.stream g.met.S.Source.sound c.args.self.now) c.in-Ok.ensures.took

pub returns-in-Err-clause-took : goal.returns-in-Err-clause-took
returns-in-Err-clause-took g c =
    refuses_as (of_primitive g.S.Source.stream) _ null_tag (λ _. IsNull) (λ _. MeanNothing {T = Unit {0}} IsNull) (octets_form g.S.Source.stream)
    (λ t p r q x. search rules) (of_constructed g.S.Source.stream c.args.self.now) (of_constructed g.S.Source.stream c.take_opt_primitive_if.new.self) _
    (within_constructed g.S.Source.stream g.met.S.Source.sound c.args.self.now) c.in-Err.ensures.took

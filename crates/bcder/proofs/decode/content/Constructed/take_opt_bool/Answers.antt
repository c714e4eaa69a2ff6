use Rattle.std.proofs.Common.{rules}
use Rattle.bcder.specs.x690.Identifier.{boolean_tag}
use Rattle.bcder.specs.calls.Readers.{IsTruth, MeanNothing}
use Rattle.bcder.specs.calls.Views.{of_constructed, of_primitive}
use Rattle.bcder.proofs.SameBorrow.{within_constructed}
use Rattle.bcder.proofs.Typed.{next_as, octets_form}
use Rattle.bcder.proofs.decode.content.Constructed.take_opt_bool.Goals as goal

pub returns-clause-took : goal.returns-clause-took
returns-clause-took g c = next_as (of_primitive g.S.Source.stream) _ boolean_tag IsTruth (λ m. MeanNothing (IsTruth m)) (octets_form g.S.Source.stream)
    (λ t p r q x. search rules) (of_constructed g.S.Source.stream c.args.self.now) (of_constructed g.S.Source.stream c.take_opt_primitive_if.new.self)
    c.take_opt_primitive_if.result (within_constructed g.S.Source.stream g.met.S.Source.sound c.args.self.now) c.take_opt_primitive_if.ensures.took

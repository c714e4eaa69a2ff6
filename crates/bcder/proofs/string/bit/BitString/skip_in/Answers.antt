use Rattle.std.proofs.Common.{rules}
use Rattle.bcder.specs.x690.BitString.{bit_string_tag}
use Rattle.bcder.specs.calls.Readers.{HoldBits}
use Rattle.bcder.specs.calls.Readers.{MeanNothing}
use Rattle.bcder.specs.calls.Views.{of_constructed, of_primitive}
use Rattle.bcder.proofs.SameBorrow.{within_constructed}
use Rattle.bcder.proofs.Typed.{one_as, octets_form}
use Rattle.bcder.proofs.string.bit.BitString.skip_in.Goals as goal

pub returns-clause-took : goal.returns-clause-took
returns-clause-took g c =
    one_as (of_primitive g.S.Source.stream) _ bit_string_tag (λ mode. HoldBits mode) (λ mode. MeanNothing {T = Unit {0}} (HoldBits mode))
    (octets_form g.S.Source.stream) (λ t p r q x. search rules)
    (of_constructed g.S.Source.stream c.args.cons.now) (of_constructed g.S.Source.stream c.take_primitive_if.new.self) c.take_primitive_if.result
    (within_constructed g.S.Source.stream g.met.S.Source.sound c.args.cons.now) c.take_primitive_if.ensures.took

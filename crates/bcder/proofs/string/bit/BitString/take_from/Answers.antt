use Rattle.std.proofs.Common.{rules}
use Rattle.bcder.specs.calls.Readers.{NoBits}
use Rattle.bcder.specs.x690.BitString.{bit_string_tag, IsBitString}
use Rattle.bcder.specs.calls.Views.{of_constructed, of_primitive}
use Rattle.bcder.proofs.SameBorrow.{within_constructed}
use Rattle.bcder.proofs.Typed.{one_as, octets_form}
use Rattle.bcder.proofs.string.bit.BitString.take_from.Goals as goal

pub returns-clause-took : goal.returns-clause-took
returns-clause-took g c =
    one_as (of_primitive g.S.Source.stream) _ bit_string_tag IsBitString NoBits (octets_form g.S.Source.stream) (λ t p r q x. search rules)
    (of_constructed g.S.Source.stream c.args.constructed.now) (of_constructed g.S.Source.stream c.take_primitive_if.new.self) c.take_primitive_if.result
    (within_constructed g.S.Source.stream g.met.S.Source.sound c.args.constructed.now) c.take_primitive_if.ensures.took

use Rattle.std.proofs.Common.{rules}
use Rattle.bcder.specs.x690.Identifier.{integer_tag}
use Rattle.bcder.specs.x690.Number.{IsNumber}
use Rattle.bcder.specs.calls.Readers.{MeanNothing}
use Rattle.bcder.proofs.Typed.{reader_takes_one}
use Rattle.bcder.proofs.decode.content.Constructed.take_number.Goals as goal

pub returns-clause-took : goal.returns-clause-took
returns-clause-took g c =
    let Means = IsNumber g.N.Number.value g.N.Number.in_range in
    reader_takes_one g.S.Source.stream g.met.S.Source.sound integer_tag Means (MeanNothing Means) _
    (λ p r q x. search rules) c.args.self.now c.take_primitive_if.new.self c.take_primitive_if.result c.take_primitive_if.ensures.took

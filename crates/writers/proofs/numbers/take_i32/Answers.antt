use Rattle.std.proofs.Common.{rules}
use Rattle.std.specs.Int.{w32}
use Rattle.bcder.specs.x690.Identifier.{integer_tag}
use Rattle.bcder.specs.calls.Readers.{IsSigned, MeanNothing}
use Rattle.bcder.proofs.Lemmas.{takes_what_is_read}
use Rattle.writers.proofs.numbers.take_i32.Goals as goal

pub returns-clause-took : goal.returns-clause-took
returns-clause-took g c =
    takes_what_is_read g.S.Source.stream g.met.S.Source.sound integer_tag (IsSigned w32) (MeanNothing (IsSigned w32)) _
    (λ p r q x. search rules) c.args.cons.now c.take_primitive_if.new.self c.take_primitive_if.result c.take_primitive_if.ensures.took

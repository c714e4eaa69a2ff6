use Rattle.std.proofs.Common.{rules}
use Rattle.bcder.specs.x690.Identifier.{integer_tag}
use Rattle.bcder.specs.calls.Readers.{MeanNothing, IsUnsigned}
use Rattle.bcder.proofs.Typed.{reader_takes_next}
use Rattle.bcder.proofs.decode.content.Constructed.take_opt_u64.Goals as goal

pub returns-clause-took : goal.returns-clause-took
returns-clause-took g c =
    reader_takes_next g.S.Source.stream g.met.S.Source.sound integer_tag (IsUnsigned 64) (MeanNothing (IsUnsigned 64)) _
    (λ p r q x. search rules) c.args.self.now c.take_opt_primitive_if.new.self c.take_opt_primitive_if.result c.take_opt_primitive_if.ensures.took

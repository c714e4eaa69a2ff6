use Rattle.std.proofs.Common.{refl}
use Rattle.bcder.specs.calls.Meaning.{nothing}
use Rattle.bcder.proofs.encode.values.choice.NothingEncoder.measured.Goals as goal

pub returns-clause-sized : goal.returns-clause-sized
returns-clause-sized g c = (nothing, refl, refl)

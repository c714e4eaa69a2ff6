use Rattle.std.proofs.Common.{refl}
use Rattle.bcder.specs.calls.Views.{of_constructed}
use Rattle.bcder.specs.laws.Moved.{moved_carries}
use Rattle.bcder.proofs.Moving.{moves_refused}
use Rattle.bcder.proofs.decode.content.Constructed.fail.Goals as goal

pub returns-in_default-clause-moves : goal.returns-in_default-clause-moves
unfolding of_constructed
returns-in_default-clause-moves g c = moved_carries _ _ (moves_refused _ _ refl refl refl refl refl refl c.in_default.not-Ended refl)

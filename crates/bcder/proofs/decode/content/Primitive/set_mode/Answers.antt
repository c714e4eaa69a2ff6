use Rattle.std.proofs.Common.{refl}
use Rattle.bcder.specs.calls.Views.{of_primitive}
use Rattle.bcder.specs.laws.Moved.{moved_carries}
use Rattle.bcder.proofs.Moving.{moves_changed}
use Rattle.bcder.proofs.decode.content.Primitive.set_mode.Goals as goal

pub returns-then-ne-clause-moves : goal.returns-then-ne-clause-moves
unfolding of_primitive
returns-then-ne-clause-moves g c = moved_carries _ _ (moves_changed _ _ refl refl refl refl refl refl)

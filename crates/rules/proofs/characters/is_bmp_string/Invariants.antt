use Rattle.std.specs.Prelude.{◌↔◌, length}
use Rattle.rules.specs.Characters.{AreCells}
use Rattle.rules.proofs.characters.is_bmp_string.Given as goal

abbrev pub invariant-loop-rest : goal.invariant-loop-rest
invariant-loop-rest l = AreCells l.fn.octets ↔ AreCells l.rest

abbrev pub decreases-loop-rest : goal.decreases-loop-rest
decreases-loop-rest l = length l.rest

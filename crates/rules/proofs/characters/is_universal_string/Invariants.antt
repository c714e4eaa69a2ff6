use Rattle.std.specs.Prelude.{◌↔◌, length}
use Rattle.rules.specs.Characters.{AreCodePoints}
use Rattle.rules.proofs.characters.is_universal_string.Given as goal

abbrev pub invariant-loop-rest : goal.invariant-loop-rest
invariant-loop-rest l = AreCodePoints l.fn.octets ↔ AreCodePoints l.rest

abbrev pub decreases-loop-rest : goal.decreases-loop-rest
decreases-loop-rest l = length l.rest

use Rattle.std.specs.Prelude.{take}
use Rattle.encodings.specs.Open.{open_values}
use Rattle.rules.specs.Broken.{IsInDefinite}
use Rattle.rules.proofs.walk.is_in_definite.Given as goal

abbrev pub invariant-loop-value : goal.invariant-loop-value
invariant-loop-value l = IsInDefinite (open_values (take l.value-index l.opened)) → ⊥

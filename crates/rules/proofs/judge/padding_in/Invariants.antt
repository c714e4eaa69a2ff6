use Rattle.std.specs.Prelude.{ℕ, ◌<◌}
use Rattle.rules.specs.Broken.{IsPadded}
use Rattle.rules.proofs.judge.padding_in.Given as goal

abbrev pub invariant-loop-place : goal.invariant-loop-place
invariant-loop-place l = (p : ℕ) → p < l.place → IsPadded l.contents p → ⊥

use Rattle.std.proofs.Common.{ℕ, ◌<◌, ◌≤◌}
use Rattle.bcder.specs.steps.CaptureSteps.{EndsBy}
use Rattle.bcder.proofs.decode.content.marker.len_before_marker.Given as goal

abbrev pub invariant-loop-size : goal.invariant-loop-size
invariant-loop-size l = (n : ℕ) → 3 ≤ n → n < l.size → EndsBy l.mode l.octets n → ⊥

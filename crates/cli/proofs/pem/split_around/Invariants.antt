-- No mark begins in what was passed.
use Rattle.std.specs.Prelude.{◌≡◌, ◌≤◌, ◌++◌, ℕ, List, length}
use Rattle.cli.proofs.pem.split_around.Given as goal

abbrev pub invariant-loop-at : goal.invariant-loop-at
invariant-loop-at l = (x y : List ℕ) → l.octets ≡ x ++ (l.mark ++ y) → l.at ≤ length x

-- No block begins in what was passed.
use Rattle.std.specs.Prelude.{◌≡◌, ◌<◌, ◌≤◌, ◌-◌, ◌++◌, ℕ, List, length, codes}
use Rattle.cli.specs.Pem.{IsNoBlock}
use Rattle.cli.proofs.pem.next_block.Given as goal

abbrev pub invariant-loop-passed : goal.invariant-loop-passed
invariant-loop-passed l =
    (l.at ≤ length l.octets) × ((x y : List ℕ) → l.octets ≡ x ++ (codes "-----BEGIN " ++ y) → length x < l.at → IsNoBlock x y)

abbrev pub decreases-loop-passed : goal.decreases-loop-passed
decreases-loop-passed l = length l.octets - l.at

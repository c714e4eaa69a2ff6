-- What is gone from the part was written, whatever is to come behind it.
use Rattle.std.proofs.Common.{ℕ, ◌+◌, ◌≤◌, List, ◌++◌, length}
use Rattle.bcder.specs.steps.Segmenting.{IsProgress, Advanced}
use Rattle.bcder.proofs.string.octet.write.put_part.Given as goal

abbrev pub invariant-loop-rest : goal.invariant-loop-rest
invariant-loop-rest g l = record {
  fits : length l.rest ≤ l.reached.left + l.reached.behind;
  so_far : (v : List ℕ) → IsProgress l.initial.reached (l.initial.rest ++ v)
      → Advanced l.initial.reached (l.initial.rest ++ v) l.reached (l.rest ++ v) (g.W.Write.contents l.initial.target) (g.W.Write.contents l.target);
}

abbrev pub decreases-loop-rest : goal.decreases-loop-rest
decreases-loop-rest g l = length l.rest

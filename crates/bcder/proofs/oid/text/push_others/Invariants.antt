-- What was appended spells the texts before those that are left.
use Rattle.std.proofs.Common.{◌≡◌, ℕ, List, ◌++◌, length}
use Rattle.bcder.specs.steps.Pushed.{texts_of, AreSpelled}
use Rattle.bcder.proofs.Spelling.{RefusedWith}
use Rattle.bcder.proofs.oid.text.push_others.Given as goal

abbrev pub invariant-loop-rest : goal.invariant-loop-rest
invariant-loop-rest l =
    (v : List ℕ)
    × (l.octets.items ≡ l.initial.octets.items ++ v)
    × ((w : List ℕ) → AreSpelled (texts_of l.rest) w → AreSpelled (texts_of l.initial.rest) (v ++ w))
    × RefusedWith (texts_of l.rest) (texts_of l.initial.rest)

abbrev pub decreases-loop-rest : goal.decreases-loop-rest
decreases-loop-rest l = length (texts_of l.rest)

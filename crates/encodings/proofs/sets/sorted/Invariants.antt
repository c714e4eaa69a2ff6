use Rattle.std.proofs.Common.{reverse}
use Rattle.encodings.specs.Sorting.{State, to_do}
use Rattle.encodings.proofs.sets.sorted.Given as goal

abbrev pub invariant-loop-rest : goal.invariant-loop-rest
invariant-loop-rest l = State l.mode l.octets (reverse l.opened.items) l.copied.items l.out.items l.rest

abbrev pub decreases-loop-rest : goal.decreases-loop-rest
decreases-loop-rest l = to_do (reverse l.opened.items) l.rest

-- What was listed, and what is left.
use Rattle.berdump.specs.Walk.{IsAt, left}
use Rattle.berdump.proofs.list.list.Given as goal

abbrev pub invariant-loop-count : goal.invariant-loop-count
invariant-loop-count g l = IsAt l.scope l.mode l.octets (g.W.Write.contents l.initial.target) (g.W.Write.contents l.target) l.opened.items l.rest l.at

abbrev pub decreases-loop-count : goal.decreases-loop-count
decreases-loop-count g l = left l.opened.items l.rest

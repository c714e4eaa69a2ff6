-- Where the search is, and what it found.
use Rattle.berdump.specs.Walk.{left}
use Rattle.berdump.proofs.Finding.{Searches}
use Rattle.berdump.proofs.list.find.Given as goal

abbrev pub invariant-loop-count : goal.invariant-loop-count
invariant-loop-count g l =
    Searches l.scope l.mode l.octets (g.W.Write.contents l.initial.lines) (g.W.Write.contents l.lines) l.opened.items l.rest l.at l.wanted l.begun.depth
    l.begun.behind

abbrev pub decreases-loop-count : goal.decreases-loop-count
decreases-loop-count g l = left l.opened.items l.rest

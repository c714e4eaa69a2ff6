use Rattle.std.proofs.Common.{◌≡◌, true, length}
use Rattle.bcder.proofs.Segments.{Passed, Fills}
use Rattle.bcder.proofs.string.octet.segments.table_of.Given as goal

abbrev pub invariant-loop-rest : goal.invariant-loop-rest
invariant-loop-rest l = Passed l.fn.mode l.fn.octets l.rest l.count l.full × (l.complete ≡ true → Fills l.fn.mode l.fn.octets l.rest l.table.items)

abbrev pub decreases-loop-rest : goal.decreases-loop-rest
decreases-loop-rest l = length l.rest

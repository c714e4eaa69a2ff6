use Rattle.std.proofs.Common.{◌↔◌, length}
use Rattle.bcder.specs.x690.CharSet.{IsOfSet}
use Rattle.bcder.specs.x690.AsciiSets.{one_octet_step}
use Rattle.bcder.proofs.string.restricted.ascii.check_of.Given as goal

-- what is left is a string of the set exactly where all octets are
abbrev pub invariant-loop-piece : goal.invariant-loop-piece
invariant-loop-piece g l = IsOfSet (one_octet_step g.S.AsciiSet.test) l.fn.octets.octets ↔ IsOfSet (one_octet_step g.S.AsciiSet.test) l.octets.octets

abbrev pub decreases-loop-piece : goal.decreases-loop-piece
decreases-loop-piece g l = length l.octets.octets

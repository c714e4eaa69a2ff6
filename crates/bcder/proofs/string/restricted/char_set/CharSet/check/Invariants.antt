use Rattle.std.proofs.Common.{◌↔◌, length}
use Rattle.bcder.specs.x690.CharSet.{IsOfSet}
use Rattle.bcder.proofs.string.restricted.char_set.CharSet.check.Given as goal

-- what is left is a string of the set exactly where all octets are
abbrev pub invariant-loop : goal.invariant-loop
invariant-loop g l = IsOfSet g.Self.CharSet.step l.fn.octets.octets ↔ IsOfSet g.Self.CharSet.step l.octets.octets

abbrev pub decreases-loop : goal.decreases-loop
decreases-loop g l = length l.octets.octets

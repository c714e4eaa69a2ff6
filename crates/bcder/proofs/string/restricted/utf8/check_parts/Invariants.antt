use Rattle.std.proofs.Common.{◌↔◌, ◌++◌, length}
use Rattle.std.specs.List.{concat}
use Rattle.bcder.specs.x690.CharSet.{IsOfSet}
use Rattle.bcder.specs.x690.Utf8.{utf8_step}
use Rattle.bcder.proofs.string.restricted.utf8.check_parts.Given as goal

-- what is left is UTF-8 exactly where all octets are
abbrev pub invariant-loop-rest : goal.invariant-loop-rest
invariant-loop-rest l = IsOfSet utf8_step l.fn.octets.octets ↔ IsOfSet utf8_step (l.part ++ concat l.parts)

abbrev pub decreases-loop-rest : goal.decreases-loop-rest
decreases-loop-rest l = length (l.part ++ concat l.parts)

use Rattle.std.proofs.Common.{◌≡◌, ◌+◌, length}
use Rattle.std.specs.List.{concat}
use Rattle.bcder.specs.calls.StringOctets.{octets_of}
use Rattle.bcder.proofs.string.octet.OctetString.len.Given as goal

-- what is counted and what is still to come are all
abbrev pub invariant-loop-part : goal.invariant-loop-part
invariant-loop-part l = l.len + length (concat l.part-iterator) ≡ length (octets_of l.fn.self)

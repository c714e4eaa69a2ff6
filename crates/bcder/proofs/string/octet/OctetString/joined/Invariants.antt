use Rattle.std.proofs.Common.{◌≡◌, ◌++◌}
use Rattle.std.specs.List.{concat}
use Rattle.bcder.specs.calls.StringOctets.{octets_of}
use Rattle.bcder.proofs.string.octet.OctetString.joined.Given as goal

-- what is copied and what is still to come are all
abbrev pub invariant-loop-part : goal.invariant-loop-part
invariant-loop-part l = l.octets.items ++ concat l.part-iterator ≡ octets_of l.fn.self

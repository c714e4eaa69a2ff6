use Rattle.std.proofs.Common.{◌≡◌}
use Rattle.std.specs.List.{concat}
use Rattle.bcder.proofs.string.octet.iter.OctetStringIter.is_empty.Given as goal

-- no part that has come had an octet
abbrev pub invariant-loop-part : goal.invariant-loop-part
invariant-loop-part l = concat l.part-iterator ≡ concat l.fn.self

use Rattle.std.proofs.Common.{ap, arith, length}
use Rattle.bcder.specs.calls.StringOctets.{StringOctets, octets_of}
use Rattle.bcder.proofs.Parts.{parts_shorter, counted_on}
use Rattle.bcder.proofs.string.octet.OctetString.len.Goals as goal

-- what is counted is no more than the octets that are captured
pub overflow_add-len : goal.overflow_add-len
overflow_add-len c =
    let table = rw c.in-Cut.is at c.self.invariant in
    let is_self = rw c.in-Cut.is at c.self.view_is in
    let shorter = parts_shorter _ _ _ table.segmented in
    let all = ap (λ (s : StringOctets). length (octets_of s)) is_self in
    let counted = counted_on _ _ _ _ _ c.loop-part.invariant (c.in-Some.ensures).steps in
    let captured = ap length c.as_slice-octets.ensures.value in
    omega (arith, shorter, all, counted, captured, c.as_slice-octets.type_inv.0)

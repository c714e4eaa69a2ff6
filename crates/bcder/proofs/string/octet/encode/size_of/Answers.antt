use Rattle.std.proofs.Common.{sym, subst}
use Rattle.bcder.specs.x690.Identifier.{AreOctets}
use Rattle.bcder.specs.calls.StringOctets.{StringOctets, octets_of}
use Rattle.bcder.specs.calls.Meaning.{Meaning}
use Rattle.bcder.specs.calls.Encoders.{SizeOfValues}
use Rattle.bcder.proofs.Segmenting.{by_octets, parts_octets}
use Rattle.bcder.proofs.string.octet.encode.size_of.Goals as goal

pub returns-in-Cer : goal.returns-in-Cer
returns-in-Cer c =
    let table = rw c.in-Cut.is at c.string.invariant in
    let view = rw c.in-Cut.is at c.string.view_is in
    let octets = subst (λ (s : StringOctets). AreOctets (octets_of s)) view (parts_octets _ _ _ table.segmented) in
    subst (λ (M : Meaning → Type 0). SizeOfValues M ⊥ c.string_len.result) (sym (by_octets c.args.tag c.args.string.now c.args.mode c.in-Cer.is))
    (c.string_len.ensures _ octets c.len.ensures)

use Rattle.std.proofs.Common.{◌∙◌, sym, subst}
use Rattle.bcder.specs.x690.Encoding.{IsHeader}
use Rattle.bcder.specs.calls.Content.{length_of}
use Rattle.asn1.proofs.SetTaken.{place_found, has_header}
use Rattle.asn1.proofs.set.place_of.Goals as goal

pub returns-in-Some : goal.returns-in-Some
returns-in-Some c =
    let k = c.args.value.now in
    let f = c.in-Some.front in
    let h = c.in-Some.ensures.found in
    let i = subst (λ m. IsHeader m f.tag f.constructed (length_of f.len) h.0) c.mode.ensures h.1 in
    c.place.ensures ∙ sym (place_found k c.as_slice.ensures.one f.tag f.constructed f.len h.0 f.rest.now i (sym c.as_slice.ensures.octets ∙ h.2))

pub returns-in-None : goal.returns-in-None
returns-in-None c =
    let k = c.args.value.now in
    absurd
    (has_header k c.as_slice.ensures.one
    (λ t form len w x h q. c.in-None.ensures.none t form len w x (subst (λ m. IsHeader m t form (length_of len) w) (sym c.mode.ensures) h)
    (c.as_slice.ensures.octets ∙ q)))

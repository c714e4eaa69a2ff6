-- What pieces become inside a string that is cut.
use Rattle.std.proofs.Common.{◌≡◌, ℕ, zero, suc, ◌+◌, ◌-◌, ◌<◌, Bool, true, false, List, [], refl, arith}
use Rattle.bcder.specs.declared.mode.Mode.{Mode}
use Rattle.bcder.specs.x690.Identifier.{Tag}
use Rattle.bcder.specs.x690.OctetString.{octet_string_tag}
use Rattle.encodings.specs.Pieces.{value, begins, ends, piece_read, Made, made_end, made_part, made_string_end, PieceBecomes}

pub segment_is : (mode : Mode) (n : ℕ) (t : Tag) (c : List ℕ) → 0 < n → t ≡ octet_string_tag → PieceBecomes mode n (value t c) (made_part c) n
segment_is mode zero t c l e = absurd (omega (arith, l))
segment_is mode (suc n) t c l e = (e, refl, refl)

pub nested_is : (mode : Mode) (n m : ℕ) (t : Tag) → 0 < n → m ≡ n + 1 → t ≡ octet_string_tag → PieceBecomes mode n (begins t) (made_part []) m
nested_is mode zero m t l s e = absurd (omega (arith, l))
nested_is mode (suc n) m t l s e = (e, refl, omega (arith, s))

pub no_segment : (mode : Mode) (n : ℕ) (t : Tag) (form : Bool) (c : List ℕ) → 0 < n → (t ≡ octet_string_tag → ⊥) → (q : Made) (m : ℕ)
    → PieceBecomes mode n (piece_read t form c) q m → ⊥
no_segment mode zero t form c l other q m b = omega (arith, l)
no_segment mode (suc n) t false c l other q m b = other b.0
no_segment mode (suc n) t true c l other q m b = other b.0

pub end_outside : (mode : Mode) (n m : ℕ) → n ≡ 0 → m ≡ 0 → PieceBecomes mode n ends made_end m
end_outside mode zero m e s = (refl, s)
end_outside mode (suc n) m e s = absurd (omega (arith, e))

pub end_of_string : (mode : Mode) (n m : ℕ) → n ≡ 1 → m ≡ 0 → PieceBecomes mode n ends made_string_end m
end_of_string mode zero m e s = absurd (omega (arith, e))
end_of_string mode (suc zero) m e s = (refl, s)
end_of_string mode (suc (suc n)) m e s = absurd (omega (arith, e))

pub end_inside : (mode : Mode) (n m : ℕ) → 1 < n → m ≡ n - 1 → PieceBecomes mode n ends (made_part []) m
end_inside mode zero m l s = absurd (omega (arith, l))
end_inside mode (suc zero) m l s = absurd (omega (arith, l))
end_inside mode (suc (suc n)) m l s = (refl, omega (arith, s))

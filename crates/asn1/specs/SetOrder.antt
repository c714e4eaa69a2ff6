-- The order of the fields of a SET (X.680, 8.6; X.690, 9.3).
use Rattle.std.specs.Prelude.{◌≡◌, ℕ, Bool, false, ◌||◌, nat_eq, min, if◌then◌else◌, List, [], ◌∷◌}
use Rattle.asn1.specs.declared.trace.Part.{Part}
use Rattle.asn1.specs.declared.trace.Part.TheVariants.{Expected}
use Rattle.asn1.specs.declared.set_order.Alternatives.{Alternatives}
use Rattle.asn1.specs.Sets.{place}

-- a tag with this place is among those that are expected
abbrev pub is_expected : ℕ → List Part → Bool
is_expected n [] = false
is_expected n (Expected t ∷ parts) = nat_eq n (place t) || is_expected n parts
is_expected n (part ∷ parts) = is_expected n parts

-- the least of this place and those of the tags that are expected
abbrev pub least_with : ℕ → List Part → ℕ
least_with n [] = n
least_with n (Expected t ∷ parts) = least_with (min n (place t)) parts
least_with n (part ∷ parts) = least_with n parts

-- where the tag with this place is ordered, if these are the tags of a type and it is one of them: as the smallest of them (X.690, 9.3)
abbrev pub smallest_of : List Part → ℕ → ℕ
smallest_of parts n = if is_expected n parts then least_with n parts else n

-- ---- as it is done

-- a part was looked at
pub record LooksAt (p : Alternatives) (part : Part) (q : Alternatives) : Type 0 where
  pub asked : q.asked ≡ p.asked
  pub least : q.least ≡ least_with p.least (part ∷ [])
  pub found : q.is_found ≡ (p.is_found || is_expected p.asked (part ∷ []))

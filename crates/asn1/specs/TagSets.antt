-- Sets of tags, by which the values of a type are told from those of others (X.680, 25.6, 29.3).
use Rattle.std.proofs.Common.{inl, inr}
use Rattle.std.specs.Prelude.{◌≡◌, ◌⊎◌, ℕ, Bool, true, false, not, ◌&&◌, List, [], ◌∷◌, ◌++◌, IsTrue, nat_eq, nat_lt}
use Rattle.bcder.specs.declared.mode.Mode.{Mode}
use Rattle.bcder.specs.declared.mode.Mode.TheVariants.{Ber, Cer}
use Rattle.bcder.specs.x690.Identifier.{Tag, Class, universal, application, context_specific, private}
use Rattle.bcder.specs.x690.Tree.{Trees, no_trees, ◌∷ₜ◌}
use Rattle.bcder.specs.calls.Valued.{tag_of}
use Rattle.asn1.specs.Types.{Only}
use Rattle.asn1.specs.Choices.{EitherTag}
use Rattle.asn1.specs.Sets.{place}

-- every tag, or those in a list
pub data TagSet : Type 0 where
  every_tag : TagSet
  these_tags : List Tag → TagSet

abbrev pub no_tag : TagSet
no_tag = these_tags []

abbrev pub one_tag : Tag → TagSet
one_tag t = these_tags (t ∷ [])

abbrev pub IsAmong : Tag → List Tag → Type 0
IsAmong t [] = ⊥
IsAmong t (u ∷ us) = (t ≡ u) ⊎ IsAmong t us

abbrev pub IsIn : TagSet → Tag → Type 0
IsIn every_tag t = Unit {0}
IsIn (these_tags ts) t = IsAmong t ts

-- ---- modes

-- BER
abbrev pub is_basic : Mode → Bool
is_basic Ber = true
is_basic mode = false

-- BER or DER, which leave a string in one piece, whatever its length (X.690, 9.2)
abbrev pub is_not_cer : Mode → Bool
is_not_cer Cer = false
is_not_cer mode = true

-- ---- more sets

abbrev pub both_sets : TagSet → TagSet → TagSet
both_sets every_tag s = every_tag
both_sets (these_tags ts) every_tag = every_tag
both_sets (these_tags ts) (these_tags us) = these_tags (ts ++ us)

-- the set if b holds, otherwise none
abbrev pub set_if : Bool → TagSet → TagSet
set_if true s = s
set_if false s = no_tag

-- ---- sets without a tag in common

abbrev pub is_same_class : Class → Class → Bool
is_same_class universal universal = true
is_same_class application application = true
is_same_class context_specific context_specific = true
is_same_class private private = true
is_same_class _ _ = false

abbrev pub is_same_tag : Tag → Tag → Bool
is_same_tag t u = is_same_class t.class u.class && nat_eq t.number u.number

abbrev pub is_not_among : Tag → List Tag → Bool
is_not_among t [] = true
is_not_among t (u ∷ us) = not (is_same_tag t u) && is_not_among t us

abbrev pub are_not_among : List Tag → List Tag → Bool
are_not_among [] us = true
are_not_among (t ∷ ts) us = is_not_among t us && are_not_among ts us

abbrev pub is_none : List Tag → Bool
is_none [] = true
is_none (t ∷ ts) = false

abbrev pub are_distinct : TagSet → TagSet → Bool
are_distinct every_tag every_tag = false
are_distinct every_tag (these_tags us) = is_none us
are_distinct (these_tags ts) every_tag = is_none ts
are_distinct (these_tags ts) (these_tags us) = are_not_among ts us

-- ---- sets of which one comes before the other (X.680, 8.6), by the place that each tag has in an order

abbrev pub is_before_each : (ℕ → ℕ) → Tag → List Tag → Bool
is_before_each Place t [] = true
is_before_each Place t (u ∷ us) = nat_lt (Place (place t)) (Place (place u)) && is_before_each Place t us

abbrev pub are_before_each : (ℕ → ℕ) → List Tag → List Tag → Bool
are_before_each Place [] us = true
are_before_each Place (t ∷ ts) us = is_before_each Place t us && are_before_each Place ts us

-- each tag of the first set comes before each of the second
abbrev pub are_before : (ℕ → ℕ) → TagSet → TagSet → Bool
are_before Place every_tag every_tag = false
are_before Place every_tag (these_tags us) = is_none us
are_before Place (these_tags ts) every_tag = is_none ts
are_before Place (these_tags ts) (these_tags us) = are_before_each Place ts us

-- ---- values that begin with a tag of a set

-- the first has a tag of the set; there is none only if b holds
abbrev pub BeginIn : TagSet → Bool → Trees → Type 0
BeginIn s b no_trees = IsTrue b
BeginIn s b (t ∷ₜ ts) = IsIn s (tag_of t)

-- each value has a tag of the set
abbrev pub AreIn : TagSet → Trees → Type 0
AreIn s no_trees = Unit {0}
AreIn s (t ∷ₜ ts) = IsIn s (tag_of t) × AreIn s ts

-- ---- which tags types have

pub only_in : {tag : Tag} (t : Tag) → Only tag t → IsIn (one_tag tag) t
only_in t e = inl e

among_left : (t : Tag) (ts us : List Tag) → IsAmong t ts → IsAmong t (ts ++ us)
among_left t [] us k = absurd k
among_left t (v ∷ ts) us (inl e) = inl e
among_left t (v ∷ ts) us (inr k) = inr (among_left t ts us k)

among_right : (t : Tag) (ts us : List Tag) → IsAmong t us → IsAmong t (ts ++ us)
among_right t [] us k = k
among_right t (v ∷ ts) us k = inr (among_right t ts us k)

pub in_first : (s r : TagSet) (t : Tag) → IsIn s t → IsIn (both_sets s r) t
in_first every_tag r t k = tt
in_first (these_tags ts) every_tag t k = tt
in_first (these_tags ts) (these_tags us) t k = among_left t ts us k

pub in_second : (s r : TagSet) (t : Tag) → IsIn r t → IsIn (both_sets s r) t
in_second every_tag r t k = tt
in_second (these_tags ts) every_tag t k = tt
in_second (these_tags ts) (these_tags us) t k = among_right t ts us k

pub either_in : {P Q : Tag → Type 0} (s r : TagSet) → ((t : Tag) → P t → IsIn s t) → ((t : Tag) → Q t → IsIn r t)
    → (t : Tag) → EitherTag P Q t → IsIn (both_sets s r) t
either_in s r p q t (inl h) = in_first s r t (p t h)
either_in s r p q t (inr h) = in_second s r t (q t h)

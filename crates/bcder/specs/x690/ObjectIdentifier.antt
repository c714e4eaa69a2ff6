-- The contents octets of object identifiers (ITU-T X.690, 8.19).
use Rattle.std.specs.Prelude.{◌≡◌, ◌≢◌, ℕ, ◌+◌, ◌-◌, ◌*◌, ◌%◌, ◌<◌, ◌≤◌, List, [], ◌∷◌, ◌++◌, map, slice_index, nat_lt, if◌then◌else◌}
use Rattle.bcder.specs.x690.Identifier.{Tag, universal}

-- the tag of OBJECT IDENTIFIER (X.680, 8.4)
abbrev pub identifier_tag : Tag
identifier_tag = record { class = universal; number = 6 }

-- ---- 8.19.2: subidentifiers

-- the number whose digits in base 128 are bits 7 to 1 of each octet, after digits whose number is `high`
abbrev pub number_after : ℕ → List ℕ → ℕ
number_after high [] = high
number_after high (b ∷ w) = number_after (128 * high + b % 128) w

abbrev pub subidentifier_number : List ℕ → ℕ
subidentifier_number w = number_after 0 w

-- the octets, after those of a prefix, cut after each one with bit 8 zero; what follows the last such octet is left out
abbrev pub cut_after : List ℕ → List ℕ → List (List ℕ)
cut_after front [] = []
cut_after front (b ∷ w) = if nat_lt b 0x80 then (front ++ b ∷ []) ∷ cut_after [] w else cut_after (front ++ b ∷ []) w

-- the octets of each subidentifier
abbrev pub subidentifiers : List ℕ → List (List ℕ)
subidentifiers w = cut_after [] w

-- bit 8 is one in each octet but the last, where it is zero
abbrev pub IsWhole : List ℕ → Type 0
IsWhole [] = ⊥
IsWhole (b ∷ []) = b < 0x80
IsWhole (b ∷ c ∷ w) = (0x80 ≤ b) × (b < 0x100) × IsWhole (c ∷ w)

-- the fewest octets that a subidentifier can have: the first is not 80
abbrev pub IsFewest : List ℕ → Type 0
IsFewest w = slice_index w 0 ≢ 0x80

-- w is the octets of one subidentifier, whose number is n
pub record IsSubidentifier (n : ℕ) (w : List ℕ) : Type 0 where
  pub whole : IsWhole w
  pub value : subidentifier_number w ≡ n
  pub fewest : IsFewest w

-- the octets of one subidentifier after the other
abbrev pub AreSubidentifiers : List ℕ → List ℕ → Type 0
AreSubidentifiers [] w = w ≡ []
AreSubidentifiers (n ∷ ns) w = (v : List ℕ) × (x : List ℕ) × IsSubidentifier n v × AreSubidentifiers ns x × (w ≡ v ++ x)

-- octets that end with a subidentifier
abbrev pub IsComplete : List ℕ → Type 0
IsComplete [] = ⊥
IsComplete (b ∷ []) = b < 0x80
IsComplete (b ∷ c ∷ w) = IsComplete (c ∷ w)

-- each subidentifier is in the fewest octets
abbrev pub AreFewest : List (List ℕ) → Type 0
AreFewest [] = Unit {0}
AreFewest (w ∷ ws) = IsFewest w × AreFewest ws

-- octets in which each subidentifier is in the fewest
abbrev pub IsMinimal : List ℕ → Type 0
IsMinimal w = AreFewest (subidentifiers w)

-- ---- 8.19.4: the first subidentifier holds the first two components

abbrev pub components_of : List ℕ → List ℕ
components_of [] = []
components_of (s ∷ ss) =
    if nat_lt s 40 then 0 ∷ s ∷ ss
    else if nat_lt s 80 then 1 ∷ (s - 40) ∷ ss
    else 2 ∷ (s - 80) ∷ ss

-- the components that the octets hold, whether they are complete or not
abbrev pub components : List ℕ → List ℕ
components w = components_of (map subidentifier_number (subidentifiers w))

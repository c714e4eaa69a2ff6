-- The octets of a number with the other sign, in two's complement.
use Rattle.std.specs.Prelude.{ℕ, ◌-◌, Bool, true, false, List, [], ◌∷◌, ◌==◌, if◌then◌else◌}

abbrev pub all_zero : List ℕ → Bool
all_zero [] = true
all_zero (b ∷ w) = if b == 0 then all_zero w else false

-- the octet at a place, behind which all octets are zero, or not
abbrev pub negated_octet : Bool → ℕ → ℕ
negated_octet true b = if b == 0 then 0 else 256 - b
negated_octet false b = 255 - b

abbrev pub negated : List ℕ → List ℕ
negated [] = []
negated (b ∷ w) = negated_octet (all_zero w) b ∷ negated w

-- contents octets of an integer, without a leading one that only tells the sign
abbrev pub without_lead : Bool → List ℕ → List ℕ
without_lead negative [] = []
without_lead false (b ∷ w) = if b == 0 then w else b ∷ w
without_lead true (b ∷ w) = if b == 255 then (if all_zero w then b ∷ w else w) else b ∷ w

-- the octets of the number without its sign
abbrev pub signless : Bool → List ℕ → List ℕ
signless false w = w
signless true w = negated w

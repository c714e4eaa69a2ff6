-- Subidentifiers: numbers in base 128, and where octets end.
use Rattle.std.proofs.Common.{◌≡◌, ℕ, ◌+◌, ◌*◌, ◌-◌, ◌%◌, ◌<◌, ◌≤◌, List, [], ◌∷◌, length, get_or, drop, refl, arith, add-one, drop-cons, nat_lt}
use Rattle.std.specs.Prelude.{IsTrue}
use Rattle.std.proofs.lemmas.Bool.Decides.{nat_tests}
use Rattle.bcder.specs.x690.ObjectIdentifier.{number_after, IsComplete}

-- a number is no less than what stands before its last digits
pub number_grows : (high : ℕ) (w : List ℕ) → high ≤ number_after high w
number_grows high [] = omega arith
number_grows high (b ∷ w) = let h = number_grows (128 * high + b % 128) w in omega arith

-- one digit more
pub number_step : (high : ℕ) (w : List ℕ) (i : ℕ) → i < length w
    → number_after high (drop i w) ≡ number_after (128 * high + get_or w i 0 % 128) (drop (i + 1) w)
number_step high w i h = rw (add-one, drop-cons w i 0) refl

-- a number whose first digits come to a limit is no less than it
pub number_reaches : (high : ℕ) (w : List ℕ) (i n limit : ℕ) → i < length w → number_after high (drop i w) ≡ n
    → limit ≤ 128 * high + get_or w i 0 % 128 → limit ≤ n
number_reaches high w i n limit h e m =
    let s = number_step high w i h in
    let g = number_grows (128 * high + get_or w i 0 % 128) (drop (i + 1) w) in
    omega arith

-- octets end with a subidentifier where bit 8 of the last one is zero
complete_by_last : (b : ℕ) (w : List ℕ) → (IsComplete (b ∷ w) → get_or (b ∷ w) (length w) 0 < 0x80) × (get_or (b ∷ w) (length w) 0 < 0x80 → IsComplete (b ∷ w))
complete_by_last b [] = (λ h. h, λ h. h)
complete_by_last b (c ∷ w) = complete_by_last c w

below_or_not : (n k : ℕ) → (IsTrue (nat_lt n k) → n < k) × (n < k → IsTrue (nat_lt n k))
below_or_not n k = (λ h. grind (arith, nat_tests), λ h. grind (arith, nat_tests))

pub complete_told : (w : List ℕ) → 1 ≤ length w
    → (IsTrue (nat_lt (get_or w (length w - 1) 0) 0x80) → IsComplete w) × (IsComplete w → IsTrue (nat_lt (get_or w (length w - 1) 0) 0x80))
complete_told [] h = absurd (omega arith)
complete_told (b ∷ w) h =
    let e : length (b ∷ w) - 1 ≡ length w = omega arith in
    let (from, to) = complete_by_last b w in
    let (less, tells) = below_or_not (get_or (b ∷ w) (length w) 0) 0x80 in
    rw e (λ t. to (less t), λ c. tells (from c))

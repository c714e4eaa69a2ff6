-- What is behind octets of a set.
use Rattle.std.proofs.Common.{◌≡◌, ℕ, ◌<◌, ◌≤◌, Bool, true, false, List, [], ◌∷◌, length, get_or, drop, refl, arith, rules}
use Rattle.rules.specs.declared.real.Set.TheVariants as set
use Rattle.std.specs.Prelude.{if◌then◌else◌}
use Rattle.rules.specs.declared.real.Set.{Set}
use Rattle.rules.specs.Reals.{BeginsAboveZero, past, test_of}

pub past_next : (s : Set) (w : List ℕ) → 0 < length w → test_of s (get_or w 0 0) ≡ true → past s w ≡ past s (drop 1 w)
past_next s [] l h = absurd (omega (arith, l))
past_next s (b ∷ w) l h = rw h refl

pub past_stops : (s : Set) (w : List ℕ) → 0 < length w → test_of s (get_or w 0 0) ≡ false → past s w ≡ w
past_stops s [] l h = absurd (omega (arith, l))
past_stops s (b ∷ w) l h = rw h refl

pub past_all : (s : Set) (w : List ℕ) → length w ≡ 0 → past s w ≡ w
past_all s [] l = refl
past_all s (b ∷ w) l = absurd (omega (arith, l))

either : (r : Bool) (v : List ℕ) (b : ℕ) (w : List ℕ) → length v ≤ length w → length (if r then v else b ∷ w) ≤ length (b ∷ w)
either true v b w l = omega (arith, l)
either false v b w l = omega arith

pub past_within : (s : Set) (w : List ℕ) → length (past s w) ≤ length w
past_within s [] = omega arith
past_within s (b ∷ w) = either (test_of s b) (past s w) b w (past_within s w)

pub past_less : (w : List ℕ) → BeginsAboveZero w → length (past set.Digits w) < length w
past_less [] h = absurd (omega (arith, h.0))
past_less (b ∷ w) h =
    let d : test_of set.Digits b ≡ true = search rules in
    rw d (omega (arith, past_within set.Digits w))

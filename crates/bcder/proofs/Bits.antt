-- The bits of octets, and octets whose unused bits are set to zero.
use Rattle.std.proofs.Common.{◌≡◌, ℕ, suc, zero, ◌-◌, ◌*◌, ◌/◌, ◌%◌, ◌^◌, ◌<◌, ◌≤◌, false, List, [], ◌∷◌}
use Rattle.std.proofs.Common.{◌++◌, length, get_or, refl, sym, subst, ap, ◌∙◌, arith}
use Rattle.std.proofs.lemmas.List.{get_or-take, length-take-le}
use Rattle.std.proofs.lemmas.Nat.Bits.{bit_at-zero}
use Rattle.std.specs.Prelude.{IsTrue, nat_eq}
use Rattle.std.proofs.lemmas.Bool.Decides.{nat_tests}
use Rattle.std.proofs.lemmas.Nat.{shr_split}
use Rattle.std.proofs.Math.Pow.{pow_mono}
use Rattle.std.proofs.Math.Nat.{div-eq_of_lt}
use Rattle.bcder.specs.declared.mode.Mode.{Mode}
use Rattle.bcder.specs.declared.mode.Mode.TheVariants.{Ber, Cer, Der}
use Rattle.bcder.specs.x690.Identifier.{AreOctets}
use Rattle.bcder.specs.laws.Octets.{AreOctets-nil, AreOctets-cons}
use Rattle.bcder.specs.x690.BitString.{Bits, is_one, octet_bits, bits, cleared, AreCleared, contents_octets, as_written}

pub octet_bits_length : (w : List ℕ) → length (octet_bits w) ≡ 8 * length w
octet_bits_length [] = refl
octet_bits_length (b ∷ w) = let e = octet_bits_length w in omega arith

no_one : (i : ℕ) → is_one 0 i ≡ false
no_one i = rw bit_at-zero refl

-- a bit is that of the octet that holds it, and zero behind the last
octet_bits_at : (w : List ℕ) (i : ℕ) → get_or (octet_bits w) i false ≡ is_one (get_or w (i / 8) 0) (7 - i % 8)
octet_bits_at [] i = sym (no_one (7 - i % 8))
octet_bits_at (b ∷ w) zero = refl
octet_bits_at (b ∷ w) (suc zero) = refl
octet_bits_at (b ∷ w) (suc (suc zero)) = refl
octet_bits_at (b ∷ w) (suc (suc (suc zero))) = refl
octet_bits_at (b ∷ w) (suc (suc (suc (suc zero)))) = refl
octet_bits_at (b ∷ w) (suc (suc (suc (suc (suc zero))))) = refl
octet_bits_at (b ∷ w) (suc (suc (suc (suc (suc (suc zero)))))) = refl
octet_bits_at (b ∷ w) (suc (suc (suc (suc (suc (suc (suc zero))))))) = refl
octet_bits_at (b ∷ w) (suc (suc (suc (suc (suc (suc (suc (suc i)))))))) =
    let place : suc (suc (suc (suc (suc (suc (suc (suc i))))))) / 8 ≡ suc (i / 8) = omega arith in
    let bit : suc (suc (suc (suc (suc (suc (suc (suc i))))))) % 8 ≡ i % 8 = omega arith in
    rw (place, bit) (octet_bits_at w i)

pub bits_length : (x : Bits) → length (bits x) ≡ 8 * length x.octets - x.unused
bits_length x = length-take-le (8 * length x.octets - x.unused) (octet_bits x.octets) (rw octet_bits_length (omega arith))

pub bit_is : (x : Bits) (i : ℕ) → i < length (bits x) → get_or (bits x) i false ≡ is_one (get_or x.octets (i / 8) 0) (7 - i % 8)
bit_is x i h = get_or-take (8 * length x.octets - x.unused) (octet_bits x.octets) i false (subst (λ n. i < n) (bits_length x) h) ∙ octet_bits_at x.octets i

-- ---- unused bits

-- where all bits are unused none is left
pub none_left : (unused b : ℕ) → 8 ≤ unused → b < 256 → 0 ≡ b / 2 ^ unused * 2 ^ unused
none_left unused b h l =
    let m : 2 ^ 8 ≤ 2 ^ unused = pow_mono h in
    let z : b / 2 ^ unused ≡ 0 = div-eq_of_lt (omega arith) in
    rw z (omega arith)

-- octets are cleared where the last one is
pub cleared_push : (unused : ℕ) (w : List ℕ) (b : ℕ) → cleared unused (w ++ b ∷ []) ≡ w ++ (b / 2 ^ unused * 2 ^ unused) ∷ []
cleared_push unused [] b = refl
cleared_push unused (a ∷ []) b = refl
cleared_push unused (a ∷ c ∷ w) b = ap (λ v. a ∷ v) (cleared_push unused (c ∷ w) b)

pub cleared_length : (unused : ℕ) (w : List ℕ) → length (cleared unused w) ≡ length w
cleared_length unused [] = refl
cleared_length unused (b ∷ []) = refl
cleared_length unused (b ∷ c ∷ w) = ap suc (cleared_length unused (c ∷ w))

same_tail : (b : ℕ) (v w : List ℕ) → b ∷ v ≡ b ∷ w → v ≡ w
same_tail b v w e = cc

cleared_by_last : (unused b : ℕ) (w : List ℕ)
    → (AreCleared unused (b ∷ w) → get_or (b ∷ w) (length w) 0 / 2 ^ unused * 2 ^ unused ≡ get_or (b ∷ w) (length w) 0)
    × (get_or (b ∷ w) (length w) 0 / 2 ^ unused * 2 ^ unused ≡ get_or (b ∷ w) (length w) 0 → AreCleared unused (b ∷ w))
cleared_by_last unused b [] = (λ e. cc, λ e. ap (λ n. n ∷ []) e)
cleared_by_last unused b (c ∷ w) =
    let (to, from) = cleared_by_last unused c w in
    (λ e. to (same_tail b _ _ e), λ e. ap (λ v. b ∷ v) (from e))

equal_or_not : (m n : ℕ) → (IsTrue (nat_eq m n) → m ≡ n) × (m ≡ n → IsTrue (nat_eq m n))
equal_or_not m n = (λ h. grind (arith, nat_tests), λ h. grind (arith, nat_tests))

-- octets are cleared where clearing leaves the last one
pub cleared_told : (unused n : ℕ) (w : List ℕ) → 1 ≤ length w → n ≡ get_or w (length w - 1) 0 / 2 ^ unused * 2 ^ unused
    → (IsTrue (nat_eq n (get_or w (length w - 1) 0)) → AreCleared unused w) × (AreCleared unused w → IsTrue (nat_eq n (get_or w (length w - 1) 0)))
cleared_told unused n [] h e = absurd (omega arith)
cleared_told unused n (b ∷ w) h e =
    let at : length (b ∷ w) - 1 ≡ length w = omega arith in
    let (to, from) = cleared_by_last unused b w in
    let m : n ≡ get_or (b ∷ w) (length w) 0 / 2 ^ unused * 2 ^ unused = e ∙ ap (λ i. get_or (b ∷ w) i 0 / 2 ^ unused * 2 ^ unused) at in
    let (same, tells) = equal_or_not n (get_or (b ∷ w) (length w) 0) in
    rw at (λ t. from (sym m ∙ same t), λ c. tells (m ∙ to c))

-- ---- what is written

pub as_many_octets : (mode : Mode) (x : Bits) → length (contents_octets (as_written mode x)) ≡ suc (length x.octets)
as_many_octets Ber x = refl
as_many_octets Cer x = ap suc (cleared_length x.unused x.octets)
as_many_octets Der x = ap suc (cleared_length x.unused x.octets)

AreOctets-behind : (b : ℕ) (w : List ℕ) → AreOctets (b ∷ w) → AreOctets w
AreOctets-behind b w o i = o (suc i)

cleared_octets : (unused : ℕ) (w : List ℕ) → AreOctets w → AreOctets (cleared unused w)
cleared_octets unused [] o = o
cleared_octets unused (b ∷ []) o = AreOctets-cons _ [] (let s = shr_split b unused in let h : b < 256 = o 0 in omega arith) AreOctets-nil
cleared_octets unused (b ∷ c ∷ w) o = AreOctets-cons b _ (o 0) (cleared_octets unused (c ∷ w) (AreOctets-behind b (c ∷ w) o))

pub written_octets : (mode : Mode) (x : Bits) → x.unused < 256 → AreOctets x.octets → AreOctets (contents_octets (as_written mode x))
written_octets Ber x h o = AreOctets-cons x.unused x.octets h o
written_octets Cer x h o = AreOctets-cons x.unused _ h (cleared_octets x.unused x.octets o)
written_octets Der x h o = AreOctets-cons x.unused _ h (cleared_octets x.unused x.octets o)

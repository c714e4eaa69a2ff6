-- Bits without the zero bits at their end.
use Rattle.std.proofs.Common.{◌≡◌, ◌≢◌, ◌↔◌, ℕ, suc, zero, ◌+◌, ◌-◌, ◌*◌, ◌/◌, ◌<◌, ◌≤◌, Bool, true, false, List, [], ◌∷◌, length, take, get_or}
use Rattle.std.proofs.Common.{refl, sym, ap, subst, ◌∙◌, arith}
use Rattle.std.proofs.lemmas.List.{length-take-le}
use Rattle.std.proofs.lemmas.Bool.Decides.{nat_tests}
use Rattle.std.specs.Prelude.{IsTrue, nat_eq}
use Rattle.bcder.specs.x690.BitString.{Bits, IsBits, octet_bits, bits}
use Rattle.bcder.proofs.Bits.{bits_length}
use Rattle.asn1.specs.NamedBitLists.{before_others, trimmed, named_bits, IsTrimmed, first_bits, without_zeros}

before_twice : (b : Bool) (bs : List Bool) → trimmed bs ≡ bs → trimmed (before_others b bs) ≡ before_others b bs
before_twice false [] e = refl
before_twice true [] e = refl
before_twice false (c ∷ cs) e = ap (before_others false) e
before_twice true (c ∷ cs) e = ap (before_others true) e

-- no zeros are left at the end
pub trimmed_twice : (bs : List Bool) → trimmed (trimmed bs) ≡ trimmed bs
trimmed_twice [] = refl
trimmed_twice (b ∷ bs) = before_twice b (trimmed bs) (trimmed_twice bs)

before_shorter : (b : Bool) (bs : List Bool) (n : ℕ) → length bs ≤ n → length (before_others b bs) ≤ suc n
before_shorter false [] n h = omega arith
before_shorter true [] n h = omega (arith, h)
before_shorter false (c ∷ cs) n h = omega (arith, h)
before_shorter true (c ∷ cs) n h = omega (arith, h)

pub trimmed_shorter : (bs : List Bool) → length (trimmed bs) ≤ length bs
trimmed_shorter [] = omega arith
trimmed_shorter (b ∷ bs) = before_shorter b (trimmed bs) (length bs) (trimmed_shorter bs)

-- they are the first of the bits
before_front : (b : Bool) (bs cs : List Bool) → take (length cs) bs ≡ cs → take (length (before_others b cs)) (b ∷ bs) ≡ before_others b cs
before_front false bs [] e = refl
before_front true bs [] e = ap (λ z. true ∷ z) e
before_front false bs (c ∷ cs) e = ap (λ z. false ∷ z) e
before_front true bs (c ∷ cs) e = ap (λ z. true ∷ z) e

pub trimmed_front : (bs : List Bool) → take (length (trimmed bs)) bs ≡ trimmed bs
trimmed_front [] = refl
trimmed_front (b ∷ bs) = before_front b bs (trimmed bs) (trimmed_front bs)

same_length : (b : Bool) (bs cs : List Bool) → length cs ≤ length bs → length (before_others b cs) ≡ suc (length bs) → length cs ≡ length bs
same_length false bs [] h e = (let x : 0 ≡ suc (length bs) = e in absurd (omega (arith, x)))
same_length true bs [] h e = omega (arith, e)
same_length false bs (c ∷ cs) h e = omega (arith, e)
same_length true bs (c ∷ cs) h e = omega (arith, e)

same_before : (b : Bool) (bs cs : List Bool) → cs ≡ bs → length (before_others b cs) ≡ suc (length bs) → before_others b cs ≡ b ∷ bs
same_before false bs [] q e = (let x : 0 ≡ suc (length bs) = e in absurd (omega (arith, x)))
same_before true bs [] q e = ap (λ z. true ∷ z) q
same_before false bs (c ∷ cs) q e = ap (λ z. false ∷ z) q
same_before true bs (c ∷ cs) q e = ap (λ z. true ∷ z) q

-- as many are left only if there are no zeros at the end
pub trimmed_by_length : (bs : List Bool) → length (trimmed bs) ≡ length bs → trimmed bs ≡ bs
trimmed_by_length [] e = refl
trimmed_by_length (b ∷ bs) e =
    same_before b bs (trimmed bs) (trimmed_by_length bs (same_length b bs (trimmed bs) (trimmed_shorter bs) e)) e

-- ---- a loop from the end

zero_last : (bs : List Bool) (n : ℕ) → get_or bs n false ≡ false → trimmed (take (suc n) bs) ≡ trimmed (take n bs)
zero_last [] zero h = refl
zero_last [] (suc n) h = refl
zero_last (b ∷ bs) zero h = rw h refl
zero_last (b ∷ bs) (suc n) h = ap (before_others b) (zero_last bs n h)

one_before : (b : Bool) (bs : List Bool) → bs ≢ [] → before_others b bs ≡ b ∷ bs
one_before false [] n = absurd (n refl)
one_before true [] n = refl
one_before false (c ∷ cs) n = refl
one_before true (c ∷ cs) n = refl

one_last : (bs : List Bool) (n : ℕ) → n < length bs → get_or bs n false ≡ true → trimmed (take (suc n) bs) ≡ take (suc n) bs
one_last [] n l h = absurd (omega (arith, l))
one_last (b ∷ bs) zero l h = rw h refl
one_last (b ∷ []) (suc n) l h = absurd (omega (arith, l))
one_last (b ∷ c ∷ cs) (suc n) l h =
    ap (before_others b) (one_last (c ∷ cs) n (omega (arith, l)) h) ∙ one_before b (c ∷ take n cs) (λ e. (let x : (c ∷ take n cs) ≡ [] = e in cc))

-- one bit less, as it is zero
pub one_less : (bs : List Bool) (n m : ℕ) → m ≡ n - 1 → 0 < n → get_or bs m false ≡ false → trimmed (take n bs) ≡ trimmed bs
    → trimmed (take m bs) ≡ trimmed bs
one_less bs zero m e p z h = absurd (omega (arith, p))
one_less bs (suc n) m e p z h =
    let is : m ≡ n = omega (arith, e) in
    ap (λ k. trimmed (take k bs)) is ∙ sym (zero_last bs n (subst (λ k. get_or bs k false ≡ false) is z)) ∙ h

none_left : (bs : List Bool) → trimmed (take 0 bs) ≡ []
none_left [] = refl
none_left (b ∷ bs) = refl

-- the last bit that is left is one, or none is left
pub all_left : (bs : List Bool) (n m : ℕ) → m ≡ n - 1 → n ≤ length bs → (0 < n → get_or bs m false ≡ true) → trimmed (take n bs) ≡ trimmed bs
    → n ≡ length (trimmed bs)
all_left bs zero m e l o h = ap length (sym (none_left bs) ∙ h)
all_left bs (suc n) m e l o h =
    let is : m ≡ n = omega (arith, e) in
    let last = one_last bs n (omega (arith, l)) (subst (λ k. get_or bs k false ≡ true) is (o (omega arith))) in
    sym (length-take-le (suc n) bs l) ∙ ap length (sym last ∙ h)

-- ---- the first bits of a bit string

pub take_less : {A : Type 0} (xs : List A) (n m : ℕ) → n ≤ m → take n (take m xs) ≡ take n xs
take_less [] zero zero h = refl
take_less [] zero (suc m) h = refl
take_less [] (suc n) zero h = refl
take_less [] (suc n) (suc m) h = refl
take_less (x ∷ xs) zero zero h = refl
take_less (x ∷ xs) zero (suc m) h = refl
take_less (x ∷ xs) (suc n) zero h = absurd (omega (arith, h))
take_less (x ∷ xs) (suc n) (suc m) h = ap (λ z. x ∷ z) (take_less xs n m (omega (arith, h)))

octets_taken : (w : List ℕ) (k : ℕ) → octet_bits (take k w) ≡ take (8 * k) (octet_bits w)
octets_taken [] zero = refl
octets_taken [] (suc k) =
    let e : 8 * suc k ≡ suc (suc (suc (suc (suc (suc (suc (suc (8 * k)))))))) = omega arith in
    sym (ap (λ m. take m (octet_bits [])) e)
octets_taken (b ∷ w) zero = refl
octets_taken (b ∷ w) (suc k) =
    let e : 8 * suc k ≡ suc (suc (suc (suc (suc (suc (suc (suc (8 * k)))))))) = omega arith in
    let behind = octets_taken w k in
    sym (ap (λ m. take m (octet_bits (b ∷ w))) e ∙ rw (sym behind) refl)

module _ (x : Bits) (n : ℕ) (h : n ≤ length (bits x)) where
  few_octets : (n + 7) / 8 ≤ length x.octets
  few_octets = (let l = bits_length x in omega (arith, h, l))

  octets_left : length (take ((n + 7) / 8) x.octets) ≡ (n + 7) / 8
  octets_left = length-take-le ((n + 7) / 8) x.octets few_octets

  pub bits_of_first : bits (first_bits n x) ≡ take n (bits x)
  bits_of_first =
      let k = (n + 7) / 8 in
      let l = bits_length x in
      let count : 8 * length (take k x.octets) - (8 * k - n) ≡ n = (let o = octets_left in omega (arith, o)) in
      ap (λ m. take m (octet_bits (take k x.octets))) count
      ∙ ap (take n) (octets_taken x.octets k)
      ∙ take_less (octet_bits x.octets) n (8 * k) (omega arith)
      ∙ sym (take_less (octet_bits x.octets) n (8 * length x.octets - x.unused) (omega (arith, h, l)))

  pub first_are_bits : IsBits x → IsBits (first_bits n x)
  first_are_bits is = record {
    few = omega arith;
    none = λ e. (let o = octets_left in let z = ap length e in omega (arith, o, z));
    size = (let o = octets_left in let f = few_octets in let s = is.size in omega (arith, o, f, s));
  }

-- the bits that are written
pub bits_without_zeros : (x : Bits) → bits (without_zeros x) ≡ named_bits x
bits_without_zeros x = bits_of_first x (length (named_bits x)) (trimmed_shorter (bits x)) ∙ trimmed_front (bits x)

pub are_without_zeros : (x : Bits) → IsBits x → IsBits (without_zeros x)
are_without_zeros x is = first_are_bits x (length (named_bits x)) (trimmed_shorter (bits x)) is

pub few_octets_named : (x : Bits) → (length (named_bits x) + 7) / 8 ≤ length x.octets
few_octets_named x = few_octets x (length (named_bits x)) (trimmed_shorter (bits x))

equal_or_not : (m n : ℕ) → (IsTrue (nat_eq m n) → m ≡ n) × (m ≡ n → IsTrue (nat_eq m n))
equal_or_not m n = (λ h. grind (arith, nat_tests), λ h. grind (arith, nat_tests))

-- whether there are no zeros at the end, by the numbers of bits
pub trimmed_by_count : (x : Bits) (n m : ℕ) → n ≡ length (named_bits x) → m ≡ length (bits x) → IsTrue (nat_eq n m) ↔ IsTrimmed x
trimmed_by_count x n m e f = (
  λ is. trimmed_by_length (bits x) (sym e ∙ (equal_or_not n m).0 is ∙ f),
  λ is. (equal_or_not n m).1 (e ∙ ap length is ∙ sym f),
)

-- the octets of the bits up to the last one
module _ (x : Bits) (n k : ℕ) (w : List ℕ) (e : n ≡ length (named_bits x)) (f : k ≡ (n + 7) / 8) (g : w ≡ x.octets) where
  count_is : k ≡ (length (named_bits x) + 7) / 8
  count_is = f ∙ ap (λ (m : ℕ). (m + 7) / 8) e

  pub fits_named : k ≡ length (take k w)
  fits_named =
      let few = subst (λ (v : List ℕ). (length (named_bits x) + 7) / 8 ≤ length v) (sym g) (few_octets_named x) in
      sym (length-take-le k w (subst (λ (m : ℕ). m ≤ length w) (sym count_is) few))

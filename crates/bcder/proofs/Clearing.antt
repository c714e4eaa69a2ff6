-- Setting unused bits to zero changes no bit, and brings bit strings of the same bits to the same octets.
use Rattle.std.proofs.Common.{◌≡◌, ◌==◌, ℕ, suc, zero, ◌+◌, ◌-◌, ◌*◌, ◌/◌, ◌%◌, ◌^◌, ◌<◌, ◌≤◌, true, false, List}
use Rattle.std.proofs.Common.{[], ◌∷◌, length, get_or, refl, sym, ap, ◌∙◌, arith, inl, inr}
use Rattle.std.proofs.lemmas.List.{same_lists, get_or_default}
use Rattle.std.proofs.lemmas.Nat.{shr_split, mod_below, pow_pos}
use Rattle.std.proofs.lemmas.Nat.Bits.{bit_at_cat_high, bit_at_cat_low, bit_at-zero, bit_at-lt, same_from_bits_below}
use Rattle.std.proofs.lemmas.Bool.{cases_lt}
use Rattle.std.proofs.lemmas.Grind.{same_number_lists}
use Rattle.std.specs.Int.{bit_at}
use Rattle.bcder.specs.x690.BitString.{Bits, IsBits, is_one, bits, cleared}
use Rattle.bcder.proofs.Bits.{bits_length, bit_is, cleared_length}

-- a number with its low bits set to zero has the others
bit_above : (k b i : ℕ) → k ≤ i → bit_at (b / 2 ^ k * 2 ^ k) i ≡ bit_at b i
bit_above k b i h =
    let low : b % 2 ^ k < 2 ^ k = mod_below b (2 ^ k) (pow_pos k) in
    let none : b / 2 ^ k * 2 ^ k + 0 ≡ b / 2 ^ k * 2 ^ k = omega arith in
    let one = bit_at_cat_high (b / 2 ^ k) k 0 i (pow_pos k) h in
    let other = bit_at_cat_high (b / 2 ^ k) k (b % 2 ^ k) i low h in
    ap (λ n. bit_at n i) (sym none) ∙ one ∙ sym other ∙ ap (λ n. bit_at n i) (shr_split b k)

-- and those are zero
bit_below : (k b i : ℕ) → i < k → bit_at (b / 2 ^ k * 2 ^ k) i ≡ 0
bit_below k b i h =
    let none : b / 2 ^ k * 2 ^ k + 0 ≡ b / 2 ^ k * 2 ^ k = omega arith in
    ap (λ n. bit_at n i) (sym none) ∙ bit_at_cat_low (b / 2 ^ k) k 0 i h ∙ bit_at-zero i

cleared_before : (unused : ℕ) (w : List ℕ) (j : ℕ) → suc j < length w → get_or (cleared unused w) j 0 ≡ get_or w j 0
cleared_before unused [] j h = absurd (omega arith)
cleared_before unused (b ∷ []) j h = absurd (omega arith)
cleared_before unused (b ∷ c ∷ w) zero h = refl
cleared_before unused (b ∷ c ∷ w) (suc j) h = cleared_before unused (c ∷ w) j (omega arith)

cleared_at_end : (unused : ℕ) (w : List ℕ) (j : ℕ) → suc j ≡ length w → get_or (cleared unused w) j 0 ≡ get_or w j 0 / 2 ^ unused * 2 ^ unused
cleared_at_end unused [] j h = absurd (omega arith)
cleared_at_end unused (b ∷ []) zero h = refl
cleared_at_end unused (b ∷ []) (suc j) h = absurd (omega arith)
cleared_at_end unused (b ∷ c ∷ w) zero h = absurd (omega arith)
cleared_at_end unused (b ∷ c ∷ w) (suc j) h = cleared_at_end unused (c ∷ w) j (omega arith)

same_bit : (unused : ℕ) (w : List ℕ) (i : ℕ) → i < 8 * length w - unused
    → is_one (get_or (cleared unused w) (i / 8) 0) (7 - i % 8) ≡ is_one (get_or w (i / 8) 0) (7 - i % 8)
same_bit unused w i h = elim (cases_lt (suc (i / 8)) (length w)) [
  | inl a ↦ ap (λ b. is_one b (7 - i % 8)) (cleared_before unused w (i / 8) a)
  | inr a ↦ (
      let e = cleared_at_end unused w (i / 8) (omega arith) in
      let up = bit_above unused (get_or w (i / 8) 0) (7 - i % 8) (omega arith) in
      rw (e, up) refl)
]

-- the bits stay
pub same_bits : (x : Bits) → bits (record { unused = x.unused; octets = cleared x.unused x.octets }) ≡ bits x
same_bits x =
    let y : Bits = record { unused = x.unused; octets = cleared x.unused x.octets } in
    let n : length (bits y) ≡ 8 * length x.octets - x.unused = bits_length y ∙ ap (λ k. 8 * k - x.unused) (cleared_length x.unused x.octets) in
    let m : length (bits x) ≡ 8 * length x.octets - x.unused = bits_length x in
    same_lists (bits y) (bits x) (n ∙ sym m) (λ k d h. (
    let g : k < length (bits x) = omega (arith, n, m) in
    get_or_default (bits y) k d false h ∙ bit_is y k h ∙ same_bit x.unused x.octets k (omega (arith, m)) ∙ sym (bit_is x k g)
    ∙ get_or_default (bits x) k false d g))

-- ---- bit strings of the same bits

below : (unused : ℕ) (w : List ℕ) → ((i : ℕ) → get_or w i 0 < 256) → (k : ℕ) → get_or (cleared unused w) k 0 < 256
below unused [] o k = omega arith
below unused (b ∷ []) o zero = let s = shr_split b unused in let h : b < 256 = o 0 in omega arith
below unused (b ∷ []) o (suc k) = omega arith
below unused (b ∷ c ∷ w) o zero = o 0
below unused (b ∷ c ∷ w) o (suc k) = below unused (c ∷ w) (λ i. o (suc i)) k

one_or_zero : (m n : ℕ) → m < 2 → n < 2 → (m == 1) ≡ (n == 1) → m ≡ n
one_or_zero zero zero a b e = refl
one_or_zero zero (suc zero) a b e = absurd (let z : false ≡ true = e in cc)
one_or_zero zero (suc (suc n)) a b e = absurd (omega arith)
one_or_zero (suc zero) zero a b e = absurd (let z : true ≡ false = e in cc)
one_or_zero (suc zero) (suc zero) a b e = refl
one_or_zero (suc zero) (suc (suc n)) a b e = absurd (omega arith)
one_or_zero (suc (suc m)) n a b e = absurd (omega arith)

sizes : (m n u v : ℕ) → u ≤ 7 → v ≤ 7 → (m ≡ 0 → u ≡ 0) → (n ≡ 0 → v ≡ 0) → 8 * m - u ≡ 8 * n - v → (m ≡ n) × (u ≡ v)
sizes zero zero u v a b l r e = (refl, l refl ∙ sym (r refl))
sizes zero (suc n) u v a b l r e = absurd (omega arith)
sizes (suc m) zero u v a b l r e = absurd (omega arith)
sizes (suc m) (suc n) u v a b l r e = (omega arith, omega arith)

module _ (x y : Bits) (p : IsBits x) (q : IsBits y) (same : bits x ≡ bits y) where
  same_count : 8 * length x.octets - x.unused ≡ 8 * length y.octets - y.unused
  same_count = sym (bits_length x) ∙ ap length same ∙ bits_length y

  no_unused : (z : Bits) → IsBits z → length z.octets ≡ 0 → z.unused ≡ 0
  no_unused z h e = h.none (nil z.octets e)
    where
      nil : (w : List ℕ) → length w ≡ 0 → w ≡ []
      nil [] e = refl
      nil (b ∷ w) e = absurd (omega arith)

  same_size : (length x.octets ≡ length y.octets) × (x.unused ≡ y.unused)
  same_size = sizes (length x.octets) (length y.octets) x.unused y.unused p.few q.few (no_unused x p) (no_unused y q) same_count

  bit_same : (k i : ℕ) → i < 8 → 8 * k + (7 - i) < 8 * length x.octets - x.unused
      → bit_at (get_or (cleared x.unused x.octets) k 0) i ≡ bit_at (get_or (cleared y.unused y.octets) k 0) i
  bit_same k i h g =
      let j : ℕ = 8 * k + (7 - i) in
      let c = same_count in
      let at : j / 8 ≡ k = omega arith in
      let bit : 7 - j % 8 ≡ i = omega arith in
      let one : (get_or (bits x) j false) ≡ is_one (get_or (cleared x.unused x.octets) k 0) i =
      bit_is x j (omega (arith, bits_length x)) ∙ sym (same_bit x.unused x.octets j g) ∙ rw (at, bit) refl in
      let other : (get_or (bits y) j false) ≡ is_one (get_or (cleared y.unused y.octets) k 0) i =
      bit_is y j (omega (arith, bits_length y)) ∙ sym (same_bit y.unused y.octets j (omega arith)) ∙ rw (at, bit) refl in
      one_or_zero _ _ (bit_at-lt _ i) (bit_at-lt _ i) (sym one ∙ ap (λ z. get_or z j false) same ∙ other)

  bit_unused : (k i : ℕ) → i < 8 → k < length x.octets → 8 * length x.octets - x.unused ≤ 8 * k + (7 - i)
      → bit_at (get_or (cleared x.unused x.octets) k 0) i ≡ bit_at (get_or (cleared y.unused y.octets) k 0) i
  bit_unused k i h g f =
      let (n, u) = same_size in
      let a = p.few in
      let e = cleared_at_end x.unused x.octets k (omega arith) in
      let d = cleared_at_end y.unused y.octets k (omega arith) in
      let l = bit_below x.unused (get_or x.octets k 0) i (omega arith) in
      let r = bit_below y.unused (get_or y.octets k 0) i (omega arith) in
      rw (e, d) (l ∙ sym r)

  module _ (o : (i : ℕ) → get_or x.octets i 0 < 256) (s : (i : ℕ) → get_or y.octets i 0 < 256) where
    octet_same : (k : ℕ) → k < length x.octets → get_or (cleared x.unused x.octets) k 0 ≡ get_or (cleared y.unused y.octets) k 0
    octet_same k h = same_from_bits_below 8 _ _ (below x.unused x.octets o k) (below y.unused y.octets s k)
        (λ i g. elim (cases_lt (8 * k + (7 - i)) (8 * length x.octets - x.unused)) [
          | inl a ↦ bit_same k i g a
          | inr a ↦ bit_unused k i g h a
        ])

    -- they have the same octets, once the unused bits are zero
    pub same_cleared : ◌≡◌ {A = Bits} (record { unused = x.unused; octets = cleared x.unused x.octets })
        (record { unused = y.unused; octets = cleared y.unused y.octets })
    same_cleared =
        let (n, u) = same_size in
        let octets : cleared x.unused x.octets ≡ cleared y.unused y.octets = same_number_lists _ _ (cleared_length x.unused x.octets ∙ n
        ∙ sym (cleared_length y.unused y.octets)) (λ k h. octet_same k (omega (arith, cleared_length x.unused x.octets))) in
        cc

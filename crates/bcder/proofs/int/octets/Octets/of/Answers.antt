use Rattle.std.proofs.Common.{◌≡◌, ℕ, zero, suc, ◌<◌, ◌≤◌, ◌+◌, ◌-◌, ◌*◌, ◌/◌, ◌%◌, ◌^◌, ◌++◌, ◌∷◌, [], List, length, drop}
use Rattle.std.proofs.Common.{Bool, true, false, nat_lt, refl, sym, ap, ◌∙◌, subst, arith, replicate}
use Rattle.std.specs.Prelude.{⊤}
use Rattle.std.specs.Int.{complement_if, byte_at, bytes_high_first, leading_zeros, w128}
use Rattle.std.proofs.lemmas.List.{drop-append-le}
use Rattle.std.proofs.Math.Seq.{drop-append_seam}
use Rattle.std.proofs.lemmas.Nat.{pow-add, leading_length}
use Rattle.std.proofs.Math.Nat.{div-div-eq-div-mul, pow-le-pow_right}
use Rattle.bcder.specs.x690.Integer.{AreInteger, IsTurned, octet, octets_within, integer_octets}
use Rattle.bcder.specs.laws.Integers.{positive_octets, negative_octets, octets_are, some_integer, one_integer, integer_octets_are}
use Rattle.bcder.proofs.int.octets.Octets.of.Goals as goal

more_octets : (k : ℕ) (neg : Bool) (n : ℕ) → 128 ≤ n → octets_within (suc k) neg n ≡ octets_within k neg (n / 256) ++ octet neg (n % 256) ∷ []
more_octets k neg n h = let test : nat_lt n 128 ≡ false = grind arith in rw test refl

last_octet : (k : ℕ) (neg : Bool) (n : ℕ) → n < 128 → octets_within k neg n ≡ octet neg n ∷ []
last_octet zero neg n h = let small : n % 256 ≡ n = omega arith in ap (λ d. octet neg d ∷ []) small
last_octet (suc k) neg n h = let test : nat_lt n 128 ≡ true = grind arith in rw test refl

-- ---- the octets of a number, the highest first

place : (k : ℕ) → 256 ^ suc k ≡ 256 * 256 ^ k
place k = omega arith

byte_next : (k x : ℕ) → byte_at (suc k) x ≡ byte_at k (x / 256)
byte_next zero x = refl
byte_next (suc j) x = ap (λ p. x / p % 256) (place (suc j)) ∙ ap (λ y. y % 256) (sym (div-div-eq-div-mul x 256 (256 ^ suc j)))

bytes_snoc : (k x : ℕ) → bytes_high_first (suc k) x ≡ bytes_high_first k (x / 256) ++ x % 256 ∷ []
bytes_snoc zero x = refl
bytes_snoc (suc k) x = ap (λ l. byte_at (suc k) x ∷ l) (bytes_snoc k x) ∙ ap (λ b. b ∷ (bytes_high_first k (x / 256) ++ x % 256 ∷ [])) (byte_next k x)

bytes_length : (k x : ℕ) → length (bytes_high_first k x) ≡ k
bytes_length zero x = refl
bytes_length (suc k) x = ap suc (bytes_length k x)

turned_next : (neg : Bool) (k n x : ℕ) → IsTurned neg (suc k) n x → IsTurned neg k (n / 256) (x / 256) × (x % 256 ≡ octet neg (n % 256))
turned_next false k n x h = (ap (λ y. y / 256) h, ap (λ y. y % 256) h)
turned_next true k n x h =
    let p : 256 ^ suc k ≡ 256 * 256 ^ k = place k in
    (omega (arith, h, p), omega (arith, h, p))

-- ---- how many there are behind the first

abbrev Least : ℕ → ℕ → Type 0
Least zero n = ⊤
Least (suc c) n = 128 * 256 ^ c ≤ n

record Behind (c n : ℕ) : Type 0 where
  below : n < 128 * 256 ^ c
  least : Least c n

next_least : (c n : ℕ) → 128 * 256 ^ c ≤ n → Least c (n / 256)
next_least zero n h = tt
next_least (suc c) n h = let p : 256 ^ suc c ≡ 256 * 256 ^ c = place c in omega (arith, h, p)

next_behind : (c n : ℕ) → Behind (suc c) n → Behind c (n / 256)
next_behind c n b = let p : 256 ^ suc c ≡ 256 * 256 ^ c = place c in record { below = omega (arith, b.below, p); least = next_least c n b.least }

powers : (c : ℕ) → 2 ^ (7 + 8 * c) ≡ 128 * 256 ^ c
powers zero = refl
powers (suc c) =
    let sum : 7 + 8 * suc c ≡ (7 + 8 * c) + 8 = omega arith in
    let p : 256 ^ suc c ≡ 256 * 256 ^ c = place c in
    let q : 2 ^ ((7 + 8 * c) + 8) ≡ 2 ^ (7 + 8 * c) * 256 = pow-add 2 (7 + 8 * c) 8 in
    ap (λ k. 2 ^ k) sum ∙ omega (arith, p, q, powers c)

counted_at : (n m c : ℕ) → n < 2 ^ m → 2 ^ m ≤ 2 * n + 1 → m < 8 * suc c → 8 * c ≤ m → Behind c n
counted_at n m zero below least over under =
    let most : 2 ^ m ≤ 128 = pow-le-pow_right {n = 2} (omega arith) {i = m} {j = 7} (omega (arith, over)) in
    record { below = omega (arith, below, most); least = tt }
counted_at n m (suc d) below least over under =
    let most : 2 ^ m ≤ 2 ^ (7 + 8 * suc d) = pow-le-pow_right (omega arith) (omega (arith, over)) in
    let fewest : 2 ^ (1 + (7 + 8 * d)) ≤ 2 ^ m = pow-le-pow_right (omega arith) (omega (arith, under)) in
    let twice : 2 ^ (1 + (7 + 8 * d)) ≡ 2 * 2 ^ (7 + 8 * d) = pow-add 2 1 (7 + 8 * d) in
    record { below = omega (arith, below, most, powers (suc d)); least = omega (arith, least, fewest, twice, powers d) }

counted : (n : ℕ) → n < 2 ^ 128 → Behind ((128 - leading_zeros w128 n) / 8) n × ((128 - leading_zeros w128 n) / 8 ≤ 16)
counted n h =
    let (m, sum, below, least) = leading_length 128 n h in
    let is : 128 - leading_zeros w128 n ≡ m = omega (arith, sum) in
    rw is (counted_at n m (m / 8) below least (omega arith) (omega arith), omega (arith, sum))

-- ---- they stand at the end

at_end : (k c : ℕ) (neg : Bool) (n x lead : ℕ) → c ≤ k → n < 256 ^ k → Behind c n → IsTurned neg k n x → lead ≡ octet neg 0
    → octets_within k neg n ≡ drop (k - c) (lead ∷ bytes_high_first k x)
at_end zero zero neg n x lead fits below b t is = let none : n % 256 ≡ 0 = omega (arith, below) in ap (λ d. octet neg d ∷ []) none ∙ ap (λ o. o ∷ []) (sym is)
at_end zero (suc c) neg n x lead fits below b t is = absurd (omega (arith, fits))
at_end (suc j) zero neg n x lead fits below b t is =
    let small : n < 128 = b.below in
    let same : n % 256 ≡ n = omega (arith, small) in
    let all : suc j - 0 ≡ suc j = omega arith in
    let front = bytes_high_first j (x / 256) in
    let cut : drop j (front ++ x % 256 ∷ []) ≡ x % 256 ∷ [] =
    ap (λ i. drop i (front ++ x % 256 ∷ [])) (sym (bytes_length j (x / 256))) ∙ drop-append_seam front (x % 256 ∷ []) in
    last_octet (suc j) neg n small
    ∙ ap (λ d. octet neg d ∷ []) (sym same)
    ∙ ap (λ o. o ∷ []) (sym (turned_next neg j n x t).1)
    ∙ sym cut
    ∙ ap (drop j) (sym (bytes_snoc j x))
    ∙ ap (λ i. drop i (lead ∷ bytes_high_first (suc j) x)) (sym all)
at_end (suc j) (suc d) neg n x lead fits below b t is =
    let p : 256 ^ suc j ≡ 256 * 256 ^ j = place j in
    let q : 1 ≤ 256 ^ d = pow-le-pow_right {n = 256} (omega arith) {i = 0} {j = d} (omega arith) in
    let large : 128 ≤ n = omega (arith, b.least, q) in
    let next = turned_next neg j n x t in
    let r = at_end j d neg (n / 256) (x / 256) lead (omega (arith, fits)) (omega (arith, below, p)) (next_behind d n b) next.0 is in
    let front = lead ∷ bytes_high_first j (x / 256) in
    let less : suc j - suc d ≡ j - d = omega arith in
    let within : j - d ≤ length front = omega (arith, bytes_length j (x / 256)) in
    more_octets j neg n large
    ∙ ap (λ l. l ++ octet neg (n % 256) ∷ []) r
    ∙ ap (λ o. drop (j - d) front ++ o ∷ []) (sym next.1)
    ∙ sym (drop-append-le (j - d) front (x % 256 ∷ []) within)
    ∙ ap (λ l. drop (j - d) (lead ∷ l)) (sym (bytes_snoc j x))
    ∙ ap (λ i. drop i (lead ∷ bytes_high_first (suc j) x)) (sym less)

told_by_sign : (neg : Bool) (n : ℕ) → n < 2 ^ 128 → AreInteger (complement_if neg n) (octets_within 16 neg n)
told_by_sign false n h = positive_octets 16 n (omega arith)
told_by_sign true n h = negative_octets 16 n (omega arith)

is_those : (neg : Bool) (n : ℕ) → n < 2 ^ 128 → octets_within 16 neg n ≡ integer_octets (complement_if neg n)
is_those neg n h = one_integer _ _ _ (octets_are 16 neg n) (integer_octets_are _) (told_by_sign neg n h) ((some_integer _).1)

-- what stands at the end of the buffer
ends : (neg : Bool) (n x lead : ℕ) (buffer : List ℕ) → n < 2 ^ 128 → IsTurned neg 16 n x → lead ≡ octet neg 0
    → buffer ≡ replicate 8 lead ++ bytes_high_first 16 x
    → octets_within 16 neg n ≡ drop (23 - (128 - leading_zeros w128 n) / 8) buffer
ends neg n x lead buffer h t is whole =
    let (b, fits) = counted n h in
    let c = (128 - leading_zeros w128 n) / 8 in
    let start : 23 - c ≡ suc (suc (suc (suc (suc (suc (suc (16 - c))))))) = omega (arith, fits) in
    at_end 16 c neg n x lead fits h b t is ∙ ap (drop (suc (suc (suc (suc (suc (suc (suc (16 - c))))))))) (sym whole) ∙ ap (λ i. drop i buffer) (sym start)

pub returns-clause-octets : goal.returns-clause-octets
returns-clause-octets c =
    sym (ends c.args.negative c.args.magnitude c.bits_of.result c.invert_if.result _ c.ranges.magnitude.fits c.bits_of.ensures c.invert_if.ensures
    c.behind-buffer.ensures)
    ∙ is_those c.args.negative c.args.magnitude c.ranges.magnitude.fits

pub returns-clause-integer : goal.returns-clause-integer
returns-clause-integer c =
    subst (AreInteger (complement_if c.args.negative c.args.magnitude))
    (ends c.args.negative c.args.magnitude c.bits_of.result c.invert_if.result _ c.ranges.magnitude.fits c.bits_of.ensures c.invert_if.ensures
    c.behind-buffer.ensures)
    (told_by_sign c.args.negative c.args.magnitude c.ranges.magnitude.fits)

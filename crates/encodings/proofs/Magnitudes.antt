-- The octets of an integer without its sign.
use Rattle.std.proofs.Common.{◌≡◌, ℕ, zero, suc, ◌+◌, ◌-◌, ◌*◌, ◌^◌, ◌<◌, ◌≤◌, Bool, true, false, List, [], ◌∷◌, ◌++◌, length, drop}
use Rattle.std.proofs.Common.{inl, refl, sym, ap, subst, ◌∙◌, arith}
use Rattle.std.specs.Prelude.{pos, negsuc, ◌==◌}
use Rattle.std.proofs.lemmas.Bool.Decides.{nat_tests}
use Rattle.bcder.specs.x690.Identifier.{AreOctets}
use Rattle.bcder.specs.x690.Length.{big_endian}
use Rattle.bcder.specs.x690.Integer.{IsSmallest, is_negative}
use Rattle.bcder.specs.laws.Integers.{AreOctets-cons, number_positive, number_negative}
use Rattle.bcder.specs.laws.Canonical.{big_endian-lt}
use Rattle.encodings.specs.Buffers.{Stores, stored, no_room}
use Rattle.encodings.specs.Contents.{HasSign, HasNoLeadingZero, IsMagnitude}
use Rattle.encodings.specs.Negated.{all_zero, negated_octet, negated, without_lead, signless}

-- ---- the other sign

some_test : (b : ℕ) → (suc b == 0) ≡ false
some_test b = grind (arith, nat_tests)

negated_fits : (zeros : Bool) (b : ℕ) → b < 256 → negated_octet zeros b < 256
negated_fits false b l = omega arith
negated_fits true zero l = omega arith
negated_fits true (suc b) l = rw (some_test b) (omega arith)

negated_octets : (w : List ℕ) → AreOctets w → AreOctets (negated w)
negated_octets [] o = o
negated_octets (b ∷ w) o =
    AreOctets-cons (negated_octet (all_zero w) b) (negated w) (negated_fits (all_zero w) b (o 0)) (negated_octets w (λ i. o (suc i)))

negated_size : (w : List ℕ) → length (negated w) ≡ length w
negated_size [] = refl
negated_size (b ∷ w) = ap suc (negated_size w)

zero_octets : (w : List ℕ) → all_zero w ≡ true → (big_endian w ≡ 0) × (big_endian (negated w) ≡ 0)
zero_octets [] e = (refl, refl)
zero_octets (zero ∷ w) e =
    let r = zero_octets w e in
    (omega (arith, r.0), rw e (omega (arith, r.1)))
zero_octets (suc b ∷ w) e = absurd (let f : false ≡ true = rw (some_test b) at e in cc)

negated_number : (w : List ℕ) → AreOctets w → all_zero w ≡ false → big_endian (negated w) + big_endian w ≡ 256 ^ length w
negated_number [] o e = absurd (let f : true ≡ false = e in cc)
negated_number (b ∷ w) o e = by_rest b (all_zero w) refl (o 0) e (λ z. negated_number w (λ i. o (suc i)) z)
  where
    power : 256 ^ suc (length w) ≡ 256 * 256 ^ length w
    power = omega arith

    size : 256 ^ length (negated w) ≡ 256 ^ length w
    size = ap (λ n. 256 ^ n) (negated_size w)

    by_rest : (b : ℕ) (zeros : Bool) → all_zero w ≡ zeros → b < 256 → all_zero (b ∷ w) ≡ false
        → (all_zero w ≡ false → big_endian (negated w) + big_endian w ≡ 256 ^ length w)
        → negated_octet zeros b * 256 ^ length (negated w) + big_endian (negated w) + (b * 256 ^ length w + big_endian w) ≡ 256 ^ suc (length w)
    by_rest zero true z l e more = absurd (let same : true ≡ false = sym z ∙ e in cc)
    by_rest (suc b) true z l e more =
        let r = zero_octets w z in
        let both : (256 - suc b + suc b) * 256 ^ length w ≡ 256 * 256 ^ length w =
        ap (λ n. n * 256 ^ length w) (let s : 256 - suc b + suc b ≡ 256 = omega arith in s) in
        rw (some_test b, size) (omega (arith, both, power, r.0, r.1))
    by_rest b false z l e more =
        let r = more z in
        let both : (255 - b + b) * 256 ^ length w ≡ 255 * 256 ^ length w =
        ap (λ n. n * 256 ^ length w) (let s : 255 - b + b ≡ 255 = omega arith in s) in
        rw size (omega (arith, both, power, r))

-- ---- the number without its sign

first_of_rest : (v : List ℕ) → IsSmallest (0 ∷ v) → HasNoLeadingZero v
first_of_rest [] s = tt
first_of_rest (c ∷ v) s = omega (arith, s.0 refl)

positive_told : (b : ℕ) (v : List ℕ) → AreOctets (b ∷ v) → IsSmallest (b ∷ v) → b < 128 → IsMagnitude (b ∷ v) (without_lead false (b ∷ v))
positive_told zero v o s l = record {
  number = pos (big_endian (zero ∷ v));
  integer = record { smallest = s; is = number_positive (zero ∷ v) (big_endian (zero ∷ v)) l refl };
  octets = λ i. o (suc i);
  magnitude = omega arith;
  fewest = first_of_rest v s;
}
positive_told (suc b) v o s l =
    rw (some_test b) (record {
      number = pos (big_endian (suc b ∷ v));
      integer = record { smallest = s; is = number_positive (suc b ∷ v) (big_endian (suc b ∷ v)) l refl };
      octets = o;
      magnitude = refl;
      fewest = omega arith;
    })

-- what a negative number is in two's complement
abbrev distance : (w : List ℕ) → ℕ
distance w = 256 ^ length w - (big_endian w + 1)

distance_is : (w : List ℕ) → AreOctets w → big_endian w + distance w + 1 ≡ 256 ^ length w
distance_is w o = omega (arith, big_endian-lt w o)

some_lead : (b : ℕ) (v : List ℕ) → 128 ≤ b → all_zero (b ∷ v) ≡ false
some_lead zero v l = absurd (omega (arith, l))
some_lead (suc b) v l = rw (some_test b) refl

all_told : (b : ℕ) (v : List ℕ) → AreOctets (b ∷ v) → IsSmallest (b ∷ v) → 128 ≤ b → (all_zero v ≡ false → b < 255)
    → IsMagnitude (b ∷ v) (negated (b ∷ v))
all_told b v o s l below = record {
  number = negsuc (distance (b ∷ v));
  integer = record { smallest = s; is = number_negative (b ∷ v) (distance (b ∷ v)) l (distance_is (b ∷ v) o) };
  octets = negated_octets (b ∷ v) o;
  magnitude = omega (arith, negated_number (b ∷ v) o (some_lead b v l), distance_is (b ∷ v) o);
  fewest = first (all_zero v) refl;
}
  where
    first : (zeros : Bool) → all_zero v ≡ zeros → 0 < negated_octet (all_zero v) b
    first true z = rw z (of_some b (o 0) l)
      where
        of_some : (b : ℕ) → b < 256 → 128 ≤ b → 0 < negated_octet true b
        of_some zero m l = absurd (omega (arith, l))
        of_some (suc b) m l = rw (some_test b) (omega (arith, m))
    first false z = rw z (omega (arith, below z))

rest_told : (v : List ℕ) → AreOctets (255 ∷ v) → IsSmallest (255 ∷ v) → all_zero v ≡ false → IsMagnitude (255 ∷ v) (negated v)
rest_told v o s some = record {
  number = negsuc (distance (255 ∷ v));
  integer = record { smallest = s; is = number_negative (255 ∷ v) (distance (255 ∷ v)) (omega arith) (distance_is (255 ∷ v) o) };
  octets = negated_octets v (λ i. o (suc i));
  magnitude = omega (arith, negated_number v (λ i. o (suc i)) some, distance_is (255 ∷ v) o, power);
  fewest = first v s some;
}
  where
    power : 256 ^ suc (length v) ≡ 256 * 256 ^ length v
    power = omega arith

    first : (v : List ℕ) → IsSmallest (255 ∷ v) → all_zero v ≡ false → HasNoLeadingZero (negated v)
    first [] s e = tt
    first (zero ∷ v) s e = rw e (omega arith)
    first (suc c ∷ v) s e = by_rest (all_zero v)
      where
        by_rest : (zeros : Bool) → 0 < negated_octet zeros (suc c)
        by_rest true = rw (some_test c) (omega (arith, s.1 refl))
        by_rest false = omega (arith, s.1 refl)

negative_told : (b : ℕ) (v : List ℕ) → AreOctets (b ∷ v) → IsSmallest (b ∷ v) → 128 ≤ b → IsMagnitude (b ∷ v) (negated (without_lead true (b ∷ v)))
negative_told b v o s l = by_lead (b == 255) refl
  where
    by_lead : (lead : Bool) → (b == 255) ≡ lead → IsMagnitude (b ∷ v) (negated (without_lead true (b ∷ v)))
    by_lead false e =
        let other : b ≡ 255 → ⊥ = λ is. grind (arith, nat_tests) in
        rw e (all_told b v o s l (λ z. omega (arith, other, o 0)))
    by_lead true e = by_rest (all_zero v) refl
      where
        is : b ≡ 255
        is = grind (arith, nat_tests)

        by_rest : (zeros : Bool) → all_zero v ≡ zeros → IsMagnitude (b ∷ v) (negated (without_lead true (b ∷ v)))
        by_rest true z = rw (e, z) (all_told b v o s l (λ n. absurd (let same : true ≡ false = sym z ∙ n in cc)))
        by_rest false z =
            rw (e, z) (subst (λ c. IsMagnitude (c ∷ v) (negated v)) (sym is)
            (rest_told v (subst (λ c. AreOctets (c ∷ v)) is o) (subst (λ c. IsSmallest (c ∷ v)) is s) z))

pub magnitude_told : (w : List ℕ) (negative : Bool) → AreOctets w → HasSign w negative → IsMagnitude w (signless negative (without_lead negative w))
magnitude_told [] negative o h = absurd h.integer.smallest
magnitude_told (b ∷ v) negative o h = by_sign negative h.sign
  where
    by_sign : (n : Bool) → n ≡ is_negative (b ∷ v) → IsMagnitude (b ∷ v) (signless n (without_lead n (b ∷ v)))
    by_sign false e = positive_told b v o h.integer.smallest (grind (arith, nat_tests))
    by_sign true e = negative_told b v o h.integer.smallest (grind (arith, nat_tests))

pub signless_size : (negative : Bool) (w : List ℕ) → length (signless negative w) ≡ length w
signless_size false w = refl
signless_size true w = negated_size w

-- octets with a magnitude have a sign
pub sign_told : (w m : List ℕ) → IsMagnitude w m → HasSign w (is_negative w)
sign_told w m k = record { number = k.number; integer = k.integer; sign = refl }

-- what is stored of it
module _ (w old new : List ℕ) (negative : Bool) (o : AreOctets w) (h : HasSign w negative) (digits : List ℕ) (d : digits ≡ without_lead negative w)
    (n : ℕ) (count : n ≡ length digits) where
  size : n ≡ length (signless negative digits)
  size = count ∙ sym (signless_size negative digits)

  told : IsMagnitude w (signless negative digits)
  told = subst (λ v. IsMagnitude w (signless negative v)) (sym d) (magnitude_told w negative o h)

  pub magnitude_stored : (before : ℕ) → n ≤ length old → new ≡ signless negative digits ++ drop (length digits) old
      → Stores (IsMagnitude w) 0 old new before n
  magnitude_stored before room e =
      let back : drop (length digits) old ≡ drop (length (signless negative digits)) old = ap (λ k. drop k old) (sym (signless_size negative digits)) in
      inl (signless negative digits, told, stored refl (omega (arith, size, room)) (e ∙ ap (λ v. signless negative digits ++ v) back) size)

  pub magnitude_too_long : (before : ℕ) → length old < n → new ≡ old → Stores (IsMagnitude w) 9 old new before n
  magnitude_too_long before long e = inl (signless negative digits, told, no_room refl (omega (arith, size, long)) e size)

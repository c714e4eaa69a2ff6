-- What is read is there, spelled as the grammar says.
use Rattle.std.proofs.Common.{◌≡◌, ℕ, zero, suc, ◌+◌, ◌-◌, ◌*◌, ◌/◌, ◌%◌, ◌^◌, ◌<◌, ◌≤◌, Bool, true, false, cond}
use Rattle.std.proofs.Common.{ltb, eqb, List, [], ◌∷◌, ◌++◌, length, take, drop, Option, Some, None, option_map}
use Rattle.std.proofs.Common.{option_and_then, refl, sym, ap, subst, arith, inl, inr}
use Rattle.std.proofs.lemmas.Bool.{cases_lt, ltb-false, lt-ltb, le-ltb, lt-leb, le-leb, leb-true, eqb-true, agree_below_at}
use Rattle.std.proofs.lemmas.List.{take-append-drop, length-take, length-take-le, get_or-take, get_or_past}
use Rattle.bcder.specs.declared.mode.Mode.{Mode}
use Rattle.bcder.specs.declared.mode.Mode.TheVariants.{Ber, Cer, Der}
use Rattle.bcder.specs.declared.length.Length.{Length}
use Rattle.bcder.specs.declared.length.Length.TheVariants.{Definite, Indefinite}
use Rattle.bcder.specs.x690.Identifier.{AreOctets, Tag, IsTag, class_bits, form_bit, base128, identifier}
use Rattle.bcder.specs.x690.Length.{big_endian, IsLongForm, IsLengthForm, IsShortest, IsDefiniteLength, IsEndOfContents, AreLengthOctets}
use Rattle.bcder.specs.laws.Canonical.{big_endian-lt}
use Rattle.bcder.specs.steps.Reading.{least, may_tell, read_long, read_length, read_end, if_zero, third_digit}
use Rattle.bcder.specs.steps.Reading.{second_digit, read_number, class_of, is_marked, read_identifier}

-- the first octet is its three parts
first_octet_is : (b : ℕ) → b < 256 → class_bits (class_of b) + form_bit (is_marked b) + b % 32 ≡ b
unfolding class_of is_marked
first_octet_is b h = eqb-true _ _
    (agree_below_at (λ b. eqb (class_bits (class_of b) + form_bit (is_marked b) + b % 32) b) (λ b. true) 256 b refl h)

-- the digits of a number and what follows them
record IsNumber (w : List ℕ) (n : ℕ) (x : List ℕ) : Type 0 where
  low : 31 ≤ n
  fits : n < 2 ^ 21
  is : w ≡ base128 n ++ x

pub none_is : {A : Type 0} (y : A) → ◌≡◌ {A = Option A} None (Some y) → ⊥
none_is y e = cc

pair_is : {A B : Type 0} (a a' : A) (b b' : B) → ◌≡◌ {A = Option (A × B)} (Some (a, b)) (Some (a', b')) → (a ≡ a') × (b ≡ b')
pair_is {A} {B} a a' b b' e = let p : ◌≡◌ {A = A × B} (a, b) (a', b') = cc in (ap (λ r. r.0) p, ap (λ r. r.1) p)

third_sound : (a b : ℕ) (w : List ℕ) (n : ℕ) (x : List ℕ) → AreOctets w → 128 < a → a < 256 → 128 ≤ b → b < 256
    → third_digit (128 * (a - 128) + (b - 128)) w ≡ Some (n, x) → IsNumber (a ∷ b ∷ w) n x
unfolding third_digit base128
third_sound a b [] n x o al ah bl bh e = absurd (none_is _ e)
third_sound a b (c ∷ w) n x o al ah bl bh e =
    elim (cases_lt c 128) [
      | inl lt ↦
          let p = pair_is _ _ _ _ (rw (lt-ltb c 128 lt) at e) in
          let v = p.0 in
          let d1 : 128 + n / 16384 ≡ a = omega arith in
          let d2 : 128 + n / 128 % 128 ≡ b = omega arith in
          let d3 : n % 128 ≡ c = omega arith in
          record {
            low = omega arith;
            fits = omega arith;
            is = rw (le-ltb n 128 (omega arith), le-ltb n 16384 (omega arith), d1, d2, d3, p.1) refl;
          }
      | inr le ↦ absurd (none_is _ (rw (le-ltb c 128 le) at e))
    ]

second_sound : (a : ℕ) (w : List ℕ) (n : ℕ) (x : List ℕ) → AreOctets w → 128 < a → a < 256 → second_digit (a - 128) w ≡ Some (n, x)
    → IsNumber (a ∷ w) n x
unfolding second_digit base128
second_sound a [] n x o al ah e = absurd (none_is _ e)
second_sound a (b ∷ w) n x o al ah e =
    elim (cases_lt b 128) [
      | inl lt ↦
          let p = pair_is _ _ _ _ (rw (lt-ltb b 128 lt) at e) in
          let v = p.0 in
          let d1 : 128 + n / 128 ≡ a = omega arith in
          let d2 : n % 128 ≡ b = omega arith in
          record {
            low = omega arith;
            fits = omega arith;
            is = rw (le-ltb n 128 (omega arith), lt-ltb n 16384 (omega arith), d1, d2, p.1) refl;
          }
      | inr le ↦ third_sound a b w n x (λ i. o (suc i)) al ah le (o 0) (rw (le-ltb b 128 le) at e)
    ]

number_sound : (w : List ℕ) (n : ℕ) (x : List ℕ) → AreOctets w → read_number w ≡ Some (n, x) → IsNumber w n x
unfolding read_number base128
number_sound [] n x o e = absurd (none_is _ e)
number_sound (a ∷ w) n x o e =
    elim (cases_lt a 31) [
      | inl lt ↦ absurd (none_is _ (rw (lt-ltb a 31 lt) at e))
      | inr le ↦ elim (cases_lt a 128) [
        | inl lt ↦
            let p = pair_is _ _ _ _ (rw (le-ltb a 31 le, lt-ltb a 128 lt) at e) in
            let v = p.0 in
            record { low = omega arith; fits = omega arith; is = rw (lt-ltb n 128 (omega arith), ← v, p.1) refl }
        | inr more ↦ elim (cases_lt 128 a) [
          | inl above ↦ second_sound a w n x (λ i. o (suc i)) above (o 0) (rw (le-ltb a 31 le, le-ltb a 128 more, lt-leb a 128 above) at e)
          | inr same ↦ absurd (none_is _ (rw (le-ltb a 31 le, le-ltb a 128 more, le-leb a 128 same) at e))
        ]
      ]
    ]

pub record IsIdentified (w : List ℕ) (t : Tag) (f : Bool) (x : List ℕ) : Type 0 where
  pub fits : IsTag t
  pub is : w ≡ identifier t f ++ x

pub mapped : {A B : Type 0} (f : A → B) (r : Option A) (y : B) → option_map f r ≡ Some y → (x : A) × (r ≡ Some x) × (f x ≡ y)
mapped f None y e = absurd cc
mapped f (Some x) y e = (x, refl, cc)

pub chained : {A B : Type 0} (f : A → Option B) (r : Option A) (y : B) → option_and_then f r ≡ Some y
    → (x : A) × (r ≡ Some x) × (f x ≡ Some y)
chained f None y e = absurd cc
chained f (Some x) y e = (x, refl, e)

-- a test that gave a result was passed
pub passed : {A : Type 0} (b : Bool) (r : Option A) (y : A) → cond b r None ≡ Some y → (b ≡ true) × (r ≡ Some y)
passed true r y e = (refl, e)
passed false r y e = absurd cc

pub not_refused : {A : Type 0} (b : Bool) (r : Option A) (y : A) → cond b None r ≡ Some y → (b ≡ false) × (r ≡ Some y)
not_refused true r y e = absurd cc
not_refused false r y e = (refl, e)

pub some_inj : {A : Type 0} (x y : A) → ◌≡◌ {A = Option A} (Some x) (Some y) → x ≡ y
some_inj x y e = cc

short_identifier : (b : ℕ) (w : List ℕ) → b < 256 → b % 32 < 31
    → IsIdentified (b ∷ w) (record { class = class_of b; number = b % 32 }) (is_marked b) w
unfolding identifier
short_identifier b w h lt = record { fits = omega arith; is = rw (lt-ltb (b % 32) 31 lt, first_octet_is b h) refl }

long_identifier : (b : ℕ) (w : List ℕ) (n : ℕ) (x : List ℕ) → b < 256 → 31 ≤ b % 32 → IsNumber w n x
    → IsIdentified (b ∷ w) (record { class = class_of b; number = n }) (is_marked b) x
unfolding identifier
long_identifier b w n x h le r =
    let low : b % 32 ≡ 31 = omega arith in
    let head : class_bits (class_of b) + form_bit (is_marked b) + 31 ≡ b = rw low at (first_octet_is b h) in
    record { fits = r.fits; is = rw (le-ltb n 31 r.low, head, r.is) refl }

pub identifier_sound : (w : List ℕ) (t : Tag) (f : Bool) (x : List ℕ) → AreOctets w → read_identifier w ≡ Some (t, f, x)
    → IsIdentified w t f x
unfolding read_identifier
identifier_sound [] t f x o e = absurd (none_is _ e)
identifier_sound (b ∷ w) t f x o e =
    elim (cases_lt (b % 32) 31) [
      | inl lt ↦
          let p = some_inj _ _ (rw (lt-ltb (b % 32) 31 lt) at e) in
          subst (λ (r : Tag × Bool × List ℕ). IsIdentified (b ∷ w) r.0 r.1 r.2) p (short_identifier b w (o 0) lt)
      | inr le ↦
          let m = mapped (λ n. (record { class = class_of b; number = n.0 }, is_marked b, n.1)) (read_number w) (t, f, x)
          (rw (le-ltb (b % 32) 31 le) at e) in
          subst (λ (r : Tag × Bool × List ℕ). IsIdentified (b ∷ w) r.0 r.1 r.2) m.2
          (long_identifier b w m.0.0 m.0.1 (o 0) le (number_sound w m.0.0 m.0.1 (λ i. o (suc i)) m.1))
    ]

-- ---- lengths

pub record TellsLength (mode : Mode) (w : List ℕ) (len : Length) (x : List ℕ) : Type 0 where
  pub octets : List ℕ
  pub tells : AreLengthOctets mode len octets
  pub is : w ≡ octets ++ x

pub AreOctets-take : (n : ℕ) (w : List ℕ) → AreOctets w → AreOctets (take n w)
AreOctets-take n w h i =
    elim (cases_lt i n) [
      | inl lt ↦ rw (get_or-take n w i 0 lt) (h i)
      | inr le ↦ rw (get_or_past (take n w) i 0 (omega (arith, length-take n w))) (omega arith)
    ]

-- any form of the number has an octet, and one of a large number has more
form_some : (n : ℕ) (v : List ℕ) → IsLengthForm n v → 1 ≤ length v
form_some n v (inl s) = omega (arith, ap length s.1)
form_some n v (inr l) = omega (arith, ap length l.is)

short_shortest : (n : ℕ) → IsShortest n (n ∷ [])
short_shortest n v h = form_some n v h

digits_needed : (k j n : ℕ) → 1 ≤ k → k ≤ 4 → 1 ≤ j → n < 256 ^ j → least k ≤ n → k ≤ j
digits_needed zero j n h l s f m = absurd (omega arith)
digits_needed (suc zero) j n h l s f m = s
digits_needed (suc (suc zero)) zero n h l s f m = absurd (omega arith)
digits_needed (suc (suc zero)) (suc zero) n h l s f m = absurd (omega arith)
digits_needed (suc (suc zero)) (suc (suc j)) n h l s f m = omega arith
digits_needed (suc (suc (suc zero))) zero n h l s f m = absurd (omega arith)
digits_needed (suc (suc (suc zero))) (suc zero) n h l s f m = absurd (omega arith)
digits_needed (suc (suc (suc zero))) (suc (suc zero)) n h l s f m = absurd (omega arith)
digits_needed (suc (suc (suc zero))) (suc (suc (suc j))) n h l s f m = omega arith
digits_needed (suc (suc (suc (suc k)))) zero n h l s f m = absurd (omega arith)
digits_needed (suc (suc (suc (suc zero)))) (suc zero) n h l s f m = absurd (omega arith)
digits_needed (suc (suc (suc (suc zero)))) (suc (suc zero)) n h l s f m = absurd (omega arith)
digits_needed (suc (suc (suc (suc zero)))) (suc (suc (suc zero))) n h l s f m = absurd (omega arith)
digits_needed (suc (suc (suc (suc zero)))) (suc (suc (suc (suc j)))) n h l s f m = omega arith
digits_needed (suc (suc (suc (suc (suc k))))) (suc j) n h l s f m = absurd (omega arith)

least_large : (k n : ℕ) → 1 ≤ k → k ≤ 4 → least k ≤ n → 128 ≤ n
least_large zero n h l m = absurd (omega arith)
least_large (suc zero) n h l m = m
least_large (suc (suc zero)) n h l m = omega arith
least_large (suc (suc (suc zero))) n h l m = omega arith
least_large (suc (suc (suc (suc zero)))) n h l m = omega arith
least_large (suc (suc (suc (suc (suc k))))) n h l m = absurd (omega arith)

long_shortest : (n : ℕ) (w : List ℕ) → (form : IsLongForm n w) → least (length form.digits) ≤ n → IsShortest n w
long_shortest n w form m v (inl s) = let l = least_large _ n form.some form.limit m in absurd (omega (arith, s.0))
long_shortest n w form m v (inr l) =
    let below : n < 256 ^ length l.digits = subst (λ (k : ℕ). k < 256 ^ length l.digits) l.number (big_endian-lt l.digits l.octets) in
    let j = digits_needed (length form.digits) (length l.digits) n form.some form.limit l.some below m in
    omega (arith, ap length form.is, ap length l.is)

pub short_is : (mode : Mode) (n : ℕ) → n < 128 → IsDefiniteLength mode n (n ∷ [])
short_is Ber n h = inl (h, refl)
short_is Cer n h = (inl (h, refl), short_shortest n)
short_is Der n h = (inl (h, refl), short_shortest n)

pub long_is : (mode : Mode) (n : ℕ) (w : List ℕ) → (form : IsLongForm n w) → may_tell mode (length form.digits) n ≡ true
    → IsDefiniteLength mode n w
unfolding may_tell
long_is Ber n w form e = inr form
long_is Cer n w form e = (inr form, long_shortest n w form (leb-true _ _ e))
long_is Der n w form e = (inr form, long_shortest n w form (leb-true _ _ e))

long_tells : (mode : Mode) (b k : ℕ) (w : List ℕ) → AreOctets w → b ≡ 128 + k → 1 ≤ k → k ≤ 4 → k ≤ length w
    → may_tell mode k (big_endian (take k w)) ≡ true → TellsLength mode (b ∷ w) (Definite (big_endian (take k w))) (drop k w)
long_tells mode b k w o is some limit within e =
    let len = length-take-le k w within in
    record {
      octets = b ∷ take k w;
      tells = long_is mode _ (b ∷ take k w)
          (record {
            digits = take k w;
            is = rw (len, is) refl;
            some = rw len some;
            limit = rw len limit;
            octets = AreOctets-take k w o;
            number = refl;
          })
          (rw len e);
      is = ap (λ v. b ∷ v) (sym (take-append-drop k w));
    }

abbrev SaysLength : Mode → List ℕ → Length × List ℕ → Type 0
SaysLength mode w r = TellsLength mode w r.0 r.1

pub length_sound : (mode : Mode) (w : List ℕ) (r : Length × List ℕ) → AreOctets w → read_length mode w ≡ Some r → TellsLength mode w r.0 r.1
unfolding read_length read_long
length_sound mode [] r o e = absurd (none_is _ e)
length_sound mode (b ∷ w) r o e =
    elim (cases_lt b 128) [
      | inl lt ↦ subst (SaysLength mode (b ∷ w)) (some_inj _ _ (rw (lt-ltb b 128 lt) at e))
          (record { octets = b ∷ []; tells = short_is mode b lt; is = refl })
      | inr le ↦ elim (cases_lt 128 b) [
        | inl above ↦
            let d = rw (le-ltb b 128 le, lt-leb b 128 above) at e in
            let p = not_refused (ltb 4 (b - 128)) _ _ d in
            let q = not_refused (ltb (length w) (b - 128)) _ _ p.1 in
            let s = passed (may_tell mode (b - 128) (big_endian (take (b - 128) w))) _ _ q.1 in
            subst (SaysLength mode (b ∷ w)) (some_inj _ _ s.1)
            (long_tells mode b (b - 128) w (λ i. o (suc i)) (omega arith) (omega arith) (ltb-false _ _ p.0) (ltb-false _ _ q.0) s.0)
        | inr same ↦
            let h : b ≡ 0x80 = omega arith in
            subst (SaysLength mode (b ∷ w)) (some_inj _ _ (rw (le-ltb b 128 le, le-leb b 128 same) at e))
            (record { octets = 0x80 ∷ []; tells = refl; is = ap (λ y. y ∷ w) h })
      ]
    ]

-- ---- end-of-contents octets

pub record IsEnded (mode : Mode) (w x : List ℕ) : Type 0 where
  pub marker : List ℕ
  pub is_end : IsEndOfContents mode marker
  pub is : w ≡ marker ++ x

zero_sound : (l : Length) (y x : List ℕ) → if_zero l y ≡ Some x → (l ≡ Definite 0) × (y ≡ x)
zero_sound Indefinite y x e = absurd (none_is _ e)
zero_sound (Definite zero) y x e = (refl, cc)
zero_sound (Definite (suc n)) y x e = absurd (none_is _ e)

ended : (mode : Mode) (w x : List ℕ) → TellsLength mode w (Definite 0) x → IsEnded mode (0 ∷ w) x
ended mode w x t =
    record { marker = 0 ∷ t.octets; is_end = record { zero_length = t.octets; is = refl; is_length = t.tells }; is = ap (λ v. 0 ∷ v) t.is }

pub end_sound : (mode : Mode) (w x : List ℕ) → AreOctets w → read_end mode w ≡ Some x → IsEnded mode w x
unfolding read_end
end_sound mode [] x o e = absurd (none_is _ e)
end_sound mode (suc b ∷ w) x o e = absurd (none_is _ e)
end_sound mode (zero ∷ w) x o e =
    let c = chained (λ l. if_zero l.0 l.1) (read_length mode w) x e in
    let z = zero_sound c.0.0 c.0.1 x c.2 in
    ended mode w x
    (subst (λ l. TellsLength mode w l x) z.0 (subst (TellsLength mode w c.0.0) z.1 (length_sound mode w c.0 (λ i. o (suc i)) c.1)))

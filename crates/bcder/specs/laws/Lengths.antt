-- What is read from length octets is the length that they give.
use Rattle.std.proofs.Common.{◌≡◌, ℕ, suc, ◌+◌, ◌-◌, ◌≤◌, true, List, [], ◌∷◌, ◌++◌, length, Option}
use Rattle.std.proofs.Common.{Some, refl, sym, ap, subst, ◌∙◌, arith, inl, inr}
use Rattle.std.proofs.lemmas.Bool.{cases_lt, lt-ltb, le-ltb, lt-leb, le-leb}
use Rattle.std.proofs.lemmas.List.{take_at, drop_at, length-append}
use Rattle.bcder.specs.declared.mode.Mode.{Mode}
use Rattle.bcder.specs.declared.mode.Mode.TheVariants.{Ber, Cer, Der}
use Rattle.bcder.specs.declared.length.Length.{Length}
use Rattle.bcder.specs.declared.length.Length.TheVariants.{Definite, Indefinite}
use Rattle.bcder.specs.x690.Identifier.{AreOctets}
use Rattle.bcder.specs.x690.Length.{big_endian, IsLongForm, IsLengthForm, IsShortest, IsDefiniteLength, IsEndOfContents, AreLengthOctets}
use Rattle.bcder.specs.steps.Reading.{least, may_tell, read_long, read_length, read_end}

pub IsLengthForm-from_length : (mode : Mode) (n : ℕ) (w : List ℕ) → IsDefiniteLength mode n w → IsLengthForm n w
IsLengthForm-from_length Ber n w h = h
IsLengthForm-from_length Cer n w h = h.0
IsLengthForm-from_length Der n w h = h.0

shorter : (n a : ℕ) (ds : List ℕ) → 1 ≤ length ds → length ds ≤ 3 → AreOctets ds → big_endian ds ≡ n
    → IsShortest n ((0x80 + suc (length ds)) ∷ a ∷ ds) → ⊥
shorter n a ds some limit octets number h =
    let l = h ((0x80 + length ds) ∷ ds)
    (inr (record { digits = ds; is = refl; some = some; limit = omega arith; octets = octets; number = number })) in
    omega arith

least-le : (n : ℕ) (ds : List ℕ) → 1 ≤ length ds → length ds ≤ 4 → AreOctets ds → big_endian ds ≡ n → IsShortest n ((0x80 + length ds) ∷ ds)
    → least (length ds) ≤ n
least-le n [] some limit octets number h = absurd (omega arith)
least-le n (a ∷ []) some limit octets number h =
    elim (cases_lt n 128) [ inl lt ↦ absurd (let l = h (n ∷ []) (inl (lt, refl)) in omega arith) | inr le ↦ le ]
least-le n (a ∷ b ∷ []) some limit octets number h =
    elim (cases_lt n 256)
    [ inl lt ↦ absurd (shorter n a (b ∷ []) (omega arith) (omega arith) (λ i. octets (suc i)) (omega arith) h) | inr le ↦ le ]
least-le n (a ∷ b ∷ c ∷ []) some limit octets number h =
    elim (cases_lt n 65536)
    [ inl lt ↦ absurd (shorter n a (b ∷ c ∷ []) (omega arith) (omega arith) (λ i. octets (suc i)) (omega arith) h) | inr le ↦ le ]
least-le n (a ∷ b ∷ c ∷ d ∷ []) some limit octets number h =
    elim (cases_lt n 16777216)
    [ inl lt ↦ absurd (shorter n a (b ∷ c ∷ d ∷ []) (omega arith) (omega arith) (λ i. octets (suc i)) (omega arith) h) | inr le ↦ le ]
least-le n (a ∷ b ∷ c ∷ d ∷ e ∷ ds) some limit octets number h = absurd (omega arith)

long_least : (n : ℕ) (w : List ℕ) → IsShortest n w → (form : IsLongForm n w) → least (length form.digits) ≤ n
long_least n w h form = least-le n form.digits form.some form.limit form.octets form.number (subst (IsShortest n) form.is h)

pub may_tell-shortest : (mode : Mode) (n : ℕ) (w : List ℕ) (l : IsDefiniteLength mode n w) (form : IsLongForm n w)
    → may_tell mode (length form.digits) n ≡ true
unfolding may_tell
may_tell-shortest Ber n w l form = refl
may_tell-shortest Cer n w l form = le-leb _ _ (long_least n w l.1 form)
may_tell-shortest Der n w l form = le-leb _ _ (long_least n w l.1 form)

read_long-complete : (mode : Mode) (n : ℕ) (ds x : List ℕ) → length ds ≤ 4 → big_endian ds ≡ n → may_tell mode (length ds) n ≡ true
    → read_long mode (length ds) (ds ++ x) ≡ Some (Definite n, x)
unfolding read_long
read_long-complete mode n ds x limit number allowed =
    rw (
      le-ltb 4 (length ds) limit,
      le-ltb (length (ds ++ x)) (length ds) (omega (arith, length-append ds x)),
      take_at ds x (length ds) refl,
      drop_at ds x (length ds) refl,
      number,
      allowed,
    ) refl

pub read_length-complete : (mode : Mode) (n : ℕ) (w x : List ℕ) → IsDefiniteLength mode n w
    → read_length mode (w ++ x) ≡ Some (Definite n, x)
unfolding read_length
read_length-complete mode n w x l =
    elim (IsLengthForm-from_length mode n w l) [
      | inl short ↦ rw (short.1, lt-ltb n 128 short.0) refl
      | inr long ↦
          let some = long.some in
          let k : 128 + length long.digits - 128 ≡ length long.digits = omega arith in
          rw (long.is, le-ltb (128 + length long.digits) 128 (omega arith), lt-leb (128 + length long.digits) 128 (omega arith), k)
          (read_long-complete mode n long.digits x long.limit long.number (may_tell-shortest mode n w l long))
    ]

pub read_length-indefinite : (mode : Mode) (x : List ℕ) → read_length mode (0x80 ∷ x) ≡ Some (Indefinite, x)
unfolding read_length
read_length-indefinite mode x = refl

pub read_end-complete : (mode : Mode) (e x : List ℕ) → IsEndOfContents mode e → read_end mode (e ++ x) ≡ Some x
unfolding read_end
read_end-complete mode e x h = rw (h.is, read_length-complete mode 0 h.zero_length x h.is_length) refl

pub read_length-tells : (mode : Mode) (len : Length) (w x : List ℕ) → AreLengthOctets mode len w → read_length mode (w ++ x) ≡ Some (len, x)
read_length-tells mode (Definite n) w x h = read_length-complete mode n w x h
read_length-tells mode Indefinite w x h = rw h (read_length-indefinite mode x)

length_inj : (n k : Length) (x y : List ℕ) → ◌≡◌ {A = Option (Length × List ℕ)} (Some (n, x)) (Some (k, y)) → (n ≡ k) × (x ≡ y)
length_inj n k x y e = let p : ◌≡◌ {A = Length × List ℕ} (n, x) (k, y) = cc in (ap (λ r. r.0) p, ap (λ r. r.1) p)

-- no length octets are a prefix of others
pub one_length : (mode : Mode) (n k : Length) (v w x y : List ℕ) → AreLengthOctets mode n v → AreLengthOctets mode k w
    → v ++ x ≡ w ++ y → (n ≡ k) × (x ≡ y)
one_length mode n k v w x y l m e =
    length_inj n k x y (sym (read_length-tells mode n v x l) ∙ ap (read_length mode) e ∙ read_length-tells mode k w y m)

-- no end-of-contents octets are a prefix of others
pub one_end : (mode : Mode) (v w x y : List ℕ) → IsEndOfContents mode v → IsEndOfContents mode w → v ++ x ≡ w ++ y → x ≡ y
one_end mode v w x y d e p = let q = sym (read_end-complete mode v x d) ∙ ap (read_end mode) p ∙ read_end-complete mode w y e in cc

pub length_some : (mode : Mode) (n : ℕ) (w : List ℕ) → IsDefiniteLength mode n w → 1 ≤ length w
length_some mode n w l =
    elim (IsLengthForm-from_length mode n w l) [
      | inl short ↦ rw (short.1) (omega arith)
      | inr long ↦ rw (long.is) (omega arith)
    ]

pub tells_some : (mode : Mode) (len : Length) (w : List ℕ) → AreLengthOctets mode len w → 1 ≤ length w
tells_some mode (Definite n) w h = length_some mode n w h
tells_some mode Indefinite w h = rw h (omega arith)

-- Which rule octets violate that are no header, whatever follows them.
use Rattle.std.proofs.Common.{◌≡◌, ◌≢◌, ◌⊎◌, ℕ, zero, suc, ◌+◌, ◌-◌, ◌%◌, ◌<◌, ◌≤◌, Bool, true, false, List, [], ◌∷◌, ◌++◌, length, get_or}
use Rattle.std.proofs.Common.{take, drop, Option, Some, None, refl, sym, ap, ◌∙◌, append_assoc, arith, inl, inr}
use Rattle.std.proofs.lemmas.Bool.{cases_lt, lt-ltb, le-ltb, lt-leb, le-leb}
use Rattle.std.proofs.lemmas.List.{take-append-drop, length-take-le}
use Rattle.bcder.specs.declared.mode.Mode.{Mode}
use Rattle.bcder.specs.declared.mode.Mode.TheVariants.{Ber, Cer, Der}
use Rattle.bcder.specs.declared.length.Length.{Length}
use Rattle.bcder.specs.declared.length.Length.TheVariants.{Definite, Indefinite}
use Rattle.bcder.specs.declared.decode.violation.Violation.TheVariants as v
use Rattle.bcder.specs.x690.Identifier.{AreOctets, Class, universal, application, context_specific, private, Tag}
use Rattle.bcder.specs.x690.Identifier.{IsTag, identifier, end_of_contents, is_value_tag}
use Rattle.bcder.specs.x690.Length.{big_endian, IsLongForm, IsShortest, IsEndOfContents}
use Rattle.bcder.specs.x690.Encoding.{may_have}
use Rattle.bcder.specs.x690.Broken.{EndsInTag, HasTag, HasLength, IsDefinite, EndsInLength, EndsInHeader, LengthNotFewest}
use Rattle.bcder.specs.calls.Violations.{ViolatesFront, tag_not_fewest, tag_too_large, reserved_tag, reserved_length, length_too_large}
use Rattle.bcder.specs.calls.Violations.{length_not_fewest, primitive_indefinite, indefinite_in_der, definite_in_cer}
use Rattle.bcder.specs.steps.Reading.{may_tell, read_long, read_length, third_digit, second_digit, read_number, read_identifier, read_header, read_end}
use Rattle.bcder.specs.steps.Peek.{HasHeaderOctets}
use Rattle.bcder.specs.laws.Sound.{none_is, AreOctets-take}
use Rattle.bcder.specs.laws.Lengths.{read_end-complete, may_tell-shortest}
use Rattle.bcder.proofs.Beginnings.{HasIdentifier, some_is_none, second_decides, fourth_decides, count_decides, first_decides}
use Rattle.bcder.proofs.Beginnings as begins

-- ---- identifier octets

-- the number of the tag isn't in the leading octet
leads : (b : ℕ) (w : List ℕ) → read_identifier (b ∷ w) ≡ None → b % 32 ≡ 31
unfolding read_identifier
leads b w e =
    elim (cases_lt (b % 32) 31) [
      | inl lt ↦ absurd (some_is_none _ (rw (lt-ltb (b % 32) 31 lt) at e))
      | inr le ↦ omega arith
    ]

-- it isn't in the octets behind
number_unread : (b : ℕ) (w : List ℕ) → read_identifier (b ∷ w) ≡ None → read_number w ≡ None
unfolding read_identifier
number_unread b w e = go (read_number w) refl
  where
    go : (r : Option (ℕ × List ℕ)) → read_number w ≡ r → read_number w ≡ None
    go None q = q
    go (Some n) q = absurd (none_is _ (sym (let l : 31 ≤ b % 32 = omega (arith, leads b w e) in rw (le-ltb (b % 32) 31 l, q) at e)))

few_digits : (a : ℕ) (w : List ℕ) → a ≤ 128 → read_number (a ∷ w) ≡ None → (a < 31) ⊎ (a ≡ 128)
unfolding read_number
few_digits a w l e =
    elim (cases_lt a 31) [
      | inl lt ↦ inl lt
      | inr le ↦ elim (cases_lt a 128) [
        | inl lt ↦ absurd (some_is_none _ (rw (le-ltb a 31 le, lt-ltb a 128 lt) at e))
        | inr more ↦ inr (omega arith)
      ]
    ]

-- where the first of the octets has bit 8 set and another, so has the second, and the third
second_more : (a b : ℕ) (w : List ℕ) → 128 < a → read_number (a ∷ b ∷ w) ≡ None → 128 ≤ b
unfolding read_number second_digit
second_more a b w l e =
    elim (cases_lt b 128) [
      | inl lt ↦ absurd (some_is_none _ (rw (le-ltb a 31 (omega arith), le-ltb a 128 (omega arith), lt-leb a 128 l, lt-ltb b 128 lt) at e))
      | inr le ↦ le
    ]

third_more : (a b c : ℕ) (w : List ℕ) → 128 < a → read_number (a ∷ b ∷ c ∷ w) ≡ None → 128 ≤ c
unfolding read_number second_digit third_digit
third_more a b c w l e =
    let m : 128 ≤ b = second_more a b (c ∷ w) l e in
    elim (cases_lt c 128) [
      | inl lt ↦ absurd (some_is_none _ (rw (le-ltb a 31 (omega arith), le-ltb a 128 (omega arith), lt-leb a 128 l, le-ltb b 128 m, lt-ltb c 128 lt) at e))
      | inr le ↦ le
    ]

pub fewest_violated : (mode : Mode) (w x : List ℕ) → 2 ≤ length w → get_or w 1 0 ≤ 128 → read_identifier w ≡ None → ViolatesFront mode (w ++ x) v.TagNotFewest
fewest_violated mode [] x l h e = absurd (omega arith)
fewest_violated mode (b ∷ []) x l h e = absurd (omega arith)
fewest_violated mode (b ∷ a ∷ w) x l h e = tag_not_fewest refl (record {
  first = a;
  others = w ++ x;
  leads = record { leading = b; ones = leads b (a ∷ w) e; is = refl };
  few = few_digits a w h (number_unread b (a ∷ w) e);
})

pub large_violated : (mode : Mode) (w x : List ℕ) → 4 ≤ length w → 128 < get_or w 1 0 → read_identifier w ≡ None → ViolatesFront mode (w ++ x) v.TagTooLarge
large_violated mode [] x l h e = absurd (omega arith)
large_violated mode (b ∷ []) x l h e = absurd (omega arith)
large_violated mode (b ∷ a ∷ []) x l h e = absurd (omega arith)
large_violated mode (b ∷ a ∷ c ∷ []) x l h e = absurd (omega arith)
large_violated mode (b ∷ a ∷ c ∷ d ∷ w) x l h e =
    let n = number_unread b (a ∷ c ∷ d ∷ w) e in
    tag_too_large refl (record {
      first = a;
      second = c;
      third = d;
      others = w ++ x;
      leads = record { leading = b; ones = leads b (a ∷ c ∷ d ∷ w) e; is = refl };
      more = (h, second_more a c (d ∷ w) h n, third_more a c d w h n);
    })

pub tag_ends : (w : List ℕ) → 1 ≤ length w → length w < 4 → (2 ≤ length w → 128 < get_or w 1 0) → read_identifier w ≡ None → EndsInTag w
tag_ends [] s l h e = absurd (omega arith)
tag_ends (b ∷ w) s l h e = record { digits = w; leads = record { leading = b; ones = leads b w e; is = refl }; more = go w l h (number_unread b w e) }
  where
    go : (w : List ℕ) → suc (length w) < 4 → (2 ≤ suc (length w) → 128 < get_or w 0 0) → read_number w ≡ None → (i : ℕ) → i < length w → 128 ≤ get_or w i 0
    go [] l h n i k = absurd (omega arith)
    go (a ∷ []) l h n zero k = omega (arith, h (omega arith))
    go (a ∷ []) l h n (suc i) k = absurd (omega arith)
    go (a ∷ c ∷ []) l h n zero k = omega (arith, h (omega arith))
    go (a ∷ c ∷ []) l h n (suc zero) k = second_more a c [] (h (omega arith)) n
    go (a ∷ c ∷ []) l h n (suc (suc i)) k = absurd (omega arith)
    go (a ∷ c ∷ d ∷ w) l h n i k = absurd (omega arith)

pub ruleset identifier_violated = (second_decides, fourth_decides, fewest_violated, large_violated, tag_ends)

-- ---- length octets

pub length_ends : (y : List ℕ) → (1 ≤ length y → length y + 127 < get_or y 0 0) → EndsInLength y
length_ends [] h = inl refl
length_ends (b ∷ ds) h =
    let l : suc (length ds) + 127 < b = h (omega arith) in
    let k : b ≡ 0x80 + (b - 0x80) = omega arith in
    inr (b - 0x80, ds, ap (λ z. z ∷ ds) k, omega arith)

told_few : (mode : Mode) (k : ℕ) (ds : List ℕ) → k ≤ 4 → k ≤ length ds → read_long mode k ds ≡ None → may_tell mode k (big_endian (take k ds)) ≡ false
unfolding read_long
told_few mode k ds l m e = go (may_tell mode k (big_endian (take k ds))) refl
  where
    go : (r : Bool) → may_tell mode k (big_endian (take k ds)) ≡ r → may_tell mode k (big_endian (take k ds)) ≡ false
    go false q = q
    go true q = absurd (none_is _ (sym (rw (le-ltb 4 k l, le-ltb (length ds) k m, q) at e)))

long_unread : (mode : Mode) (b : ℕ) (ds : List ℕ) → read_length mode (b ∷ ds) ≡ None → (128 < b) × (read_long mode (b - 0x80) ds ≡ None)
unfolding read_length
long_unread mode b ds e =
    elim (cases_lt b 128) [
      | inl lt ↦ absurd (some_is_none _ (rw (lt-ltb b 128 lt) at e))
      | inr le ↦ elim (cases_lt 128 b) [
        | inl above ↦ (above, rw (le-ltb b 128 le, lt-leb b 128 above) at e)
        | inr same ↦ absurd (some_is_none _ (rw (le-ltb b 128 le, le-leb b 128 same) at e))
      ]
    ]

not_of_ber : (mode : Mode) (k n : ℕ) → may_tell mode k n ≡ false → mode ≢ Ber
unfolding may_tell
not_of_ber Ber k n e q = let z : true ≡ false = e in cc
not_of_ber Cer k n e q = cc
not_of_ber Der k n e q = cc

not_shortest : (mode : Mode) (n : ℕ) (w : List ℕ) (form : IsLongForm n w) → may_tell mode (length form.digits) n ≡ false → IsShortest n w → ⊥
unfolding may_tell
not_shortest Ber n w form e s = let z : true ≡ false = e in cc
not_shortest Cer n w form e s = let z = sym (may_tell-shortest Cer n w (inr form, s) form) ∙ e in cc
not_shortest Der n w form e s = let z = sym (may_tell-shortest Der n w (inr form, s) form) ∙ e in cc

pub length_long : (mode : Mode) (y x : List ℕ) → 1 ≤ length y → get_or y 0 0 ≤ 0x84 → get_or y 0 0 ≤ length y + 127 → AreOctets y → read_length mode y ≡ None
    → LengthNotFewest mode (y ++ x)
length_long mode [] x s l m o e = absurd (omega arith)
length_long mode (b ∷ ds) x s l m o e =
    let p = long_unread mode b ds e in
    let k : ℕ = b - 0x80 in
    let few : k ≤ length ds = omega (arith, p.0) in
    let size : length (take k ds) ≡ k = length-take-le k ds few in
    let t = told_few mode k ds (omega (arith, p.0)) few p.1 in
    let head : b ≡ 0x80 + length (take k ds) = omega (arith, size, p.0) in
    let form : IsLongForm (big_endian (take k ds)) (b ∷ take k ds) = record {
      digits = take k ds;
      is = ap (λ z. z ∷ take k ds) head;
      some = omega (arith, size, p.0);
      limit = omega (arith, size, p.0);
      octets = AreOctets-take k ds (λ i. o (suc i));
      number = refl;
    } in
    record {
      number = big_endian (take k ds);
      octets = b ∷ take k ds;
      others = drop k ds ++ x;
      strict = not_of_ber mode k _ t;
      form = inr form;
      longer = not_shortest mode _ _ form (rw size t);
      is = ap (λ z. b ∷ (z ++ x)) (sym (take-append-drop k ds)) ∙ ap (λ z. b ∷ z) (append_assoc (take k ds) (drop k ds) x);
    }

-- behind identifier octets
module _ (mode : Mode) (t : Tag) (f : Bool) (w y x : List ℕ) (i : IsTag t) (s : w ≡ identifier t f ++ (y ++ x)) where
  behind_tag : (P : Tag → Bool → List ℕ → Type 0) → P t f (y ++ x) → HasTag P w
  behind_tag P p = record { tag = t; form = f; behind = y ++ x; is_tag = i; is = s; holds = p }

  pub reserved_violated : 1 ≤ length y → get_or y 0 0 ≡ 0xFF → ViolatesFront mode w v.ReservedLength
  reserved_violated l e = reserved_length refl (behind_tag _ (first y l e))
    where
      first : (y : List ℕ) → 1 ≤ length y → get_or y 0 0 ≡ 0xFF → (others : List ℕ) × (y ++ x ≡ 0xFF ∷ others)
      first [] l e = absurd (omega arith)
      first (b ∷ z) l e = (z ++ x, ap (λ a. a ∷ (z ++ x)) e)

  pub count_violated : 1 ≤ length y → 0x84 < get_or y 0 0 → ViolatesFront mode w v.LengthTooLarge
  count_violated l e = length_too_large refl (behind_tag _ (first y l e))
    where
      first : (y : List ℕ) → 1 ≤ length y → 0x84 < get_or y 0 0 → (k : ℕ) × (others : List ℕ) × (y ++ x ≡ (0x80 + k) ∷ others) × (4 < k)
      first [] l e = absurd (omega arith)
      first (b ∷ z) l e = let n : b ≡ 0x80 + (b - 0x80) = omega arith in (b - 0x80, z ++ x, ap (λ a. a ∷ (z ++ x)) n, omega arith)

  pub long_violated : 1 ≤ length y → get_or y 0 0 ≤ 0x84 → get_or y 0 0 ≤ length y + 127 → AreOctets y → read_length mode y ≡ None
      → ViolatesFront mode w v.LengthNotFewest
  long_violated l m n o e = length_not_fewest refl (behind_tag _ (length_long mode y x l m n o e))

pub ruleset length_violated = (count_decides, first_decides, length_ends, reserved_violated, count_violated, long_violated)

-- ---- forms

end_tag : (t : Tag) → is_value_tag t ≡ false → t ≡ end_of_contents
end_tag t e = parts t.class t.number e
  where
    parts : (c : Class) (n : ℕ) → is_value_tag (record { class = c; number = n }) ≡ false → ◌≡◌ {A = Tag} (record { class = c; number = n }) end_of_contents
    parts universal zero e = refl
    parts universal (suc n) e = absurd (let z : true ≡ false = e in cc)
    parts application n e = absurd (let z : true ≡ false = e in cc)
    parts context_specific n e = absurd (let z : true ≡ false = e in cc)
    parts private n e = absurd (let z : true ≡ false = e in cc)

cer_alone : (mode : Mode) (f : Bool) (n : ℕ) → may_have mode f (Definite n) ≡ false → (mode ≡ Cer) × (f ≡ true)
cer_alone mode false n e = absurd (let z : true ≡ false = e in cc)
cer_alone Ber true n e = absurd (let z : true ≡ false = e in cc)
cer_alone Cer true n e = (refl, refl)
cer_alone Der true n e = absurd (let z : true ≡ false = e in cc)

der_alone : (mode : Mode) → may_have mode true Indefinite ≡ false → mode ≡ Der
der_alone Ber e = absurd (let z : true ≡ false = e in cc)
der_alone Cer e = absurd (let z : true ≡ false = e in cc)
der_alone Der e = refl

module _ (mode : Mode) (t : Tag) (f : Bool) (len : Length) (w : List ℕ) (h : HasHeaderOctets mode t f len w) where
  of_form : (P : Tag → Bool → List ℕ → Type 0) → P t f (h.octets ++ h.others) → HasTag P w
  of_form P p = record { tag = t; form = f; behind = h.octets ++ h.others; is_tag = h.is_tag; is = h.is; holds = p }

  of_length : (P : Length → Type 0) → P len → HasLength mode P (h.octets ++ h.others)
  of_length P p = record { len = len; octets = h.octets; others = h.others; tells = h.tells; is = refl; holds = p }

  pub tag_violated : is_value_tag t ≡ false → ((end after : List ℕ) → IsEndOfContents mode end → w ≡ end ++ after → ⊥) → ViolatesFront mode w v.ReservedTag
  tag_violated e n = reserved_tag refl (of_form _ (end_tag t e)) n

  pub primitive_violated : f ≡ false → len ≡ Indefinite → ViolatesFront mode w v.PrimitiveIndefinite
  primitive_violated a b = primitive_indefinite refl (of_form (λ t f y. (f ≡ false) × HasLength mode (λ n. n ≡ Indefinite) y) (a, of_length _ b))

  pub der_violated : f ≡ true → len ≡ Indefinite → may_have mode f len ≡ false → ViolatesFront mode w v.IndefiniteInDer
  der_violated a b e = indefinite_in_der refl (der_alone mode (rw (a, b) at e)) (of_form (λ t f y. HasLength mode (λ n. n ≡ Indefinite) y) (of_length _ b))

  pub cer_violated : (n : ℕ) → len ≡ Definite n → may_have mode f len ≡ false → ViolatesFront mode w v.DefiniteInCer
  cer_violated n b e =
      let p = cer_alone mode f n (rw b at e) in
      definite_in_cer refl p.0 (of_form (λ t f y. (f ≡ true) × HasLength mode IsDefinite y) (p.1, of_length _ (n, b)))

-- ---- headers

-- identifier octets and length octets that are no header have a form that isn't allowed, or a tag that no value has
pub form_refused : (mode : Mode) (w : List ℕ) (t : Tag) (f : Bool) (y : List ℕ) (l : Length × List ℕ) → read_identifier w ≡ Some (t, f, y)
    → read_length mode y ≡ Some l → read_header mode w ≡ None → is_value_tag t ≡ true → may_have mode f l.0 ≡ false
unfolding read_header
form_refused mode w t f y l i e h a = go (may_have mode f l.0) refl
  where
    go : (r : Bool) → may_have mode f l.0 ≡ r → may_have mode f l.0 ≡ false
    go false q = q
    go true q = absurd (none_is _ (sym (rw (i, a, e, q) at h)))

pub header_octets : (mode : Mode) (w : List ℕ) (t : Tag) (f : Bool) (y : List ℕ) (len : Length) (z x : List ℕ) → HasIdentifier w t f y
    → begins.HasLength mode y len z → HasHeaderOctets mode t f len (w ++ x)
header_octets mode w t f y len z x i l = record {
  is_tag = i.fits;
  octets = l.octets;
  others = z ++ x;
  tells = l.tells;
  is = ap (λ a. a ++ x) i.is ∙ append_assoc (identifier t f) y x ∙ ap (λ a. identifier t f ++ (a ++ x)) l.is
      ∙ ap (λ a. identifier t f ++ a) (append_assoc l.octets z x);
}

pub no_end : (mode : Mode) (w : List ℕ) → read_end mode w ≡ None → (end after : List ℕ) → IsEndOfContents mode end → w ≡ end ++ after → ⊥
no_end mode w e end after m s = none_is _ (sym e ∙ ap (read_end mode) s ∙ read_end-complete mode end after m)

-- behind identifier octets, octets that end inside length octets end inside the header
pub length_ended : (w : List ℕ) (t : Tag) (f : Bool) (y : List ℕ) → HasIdentifier w t f y → EndsInLength y → EndsInHeader w
length_ended w t f y i e = inr (record { tag = t; form = f; behind = y; is_tag = i.fits; is = i.is; holds = e })

pub behind_identifier : (w : List ℕ) (t : Tag) (f : Bool) (y x : List ℕ) → HasIdentifier w t f y → w ++ x ≡ identifier t f ++ (y ++ x)
behind_identifier w t f y x i = ap (λ a. a ++ x) i.is ∙ append_assoc (identifier t f) y x

-- What is read at the front of octets, and at the front of the same octets with others behind them.
use Rattle.std.proofs.Common.{◌≡◌, ℕ, zero, suc, ◌+◌, ◌-◌, ◌%◌, ◌<◌, ◌≤◌, Bool, true, false, cond, List, [], ◌∷◌, ◌++◌, length, get_or, take, drop, Option}
use Rattle.std.proofs.Common.{Some, None, option_map, option_and_then, refl, sym, ap, ap₂, ◌∙◌, append_assoc, arith, inl, inr, subst}
use Rattle.std.proofs.lemmas.Bool.{cases_lt, lt-ltb, le-ltb, lt-leb, le-leb}
use Rattle.std.proofs.lemmas.List.{length-append, take-append-le, drop_at}
use Rattle.bcder.specs.declared.mode.Mode.{Mode}
use Rattle.bcder.specs.declared.length.Length.{Length}
use Rattle.bcder.specs.declared.length.Length.TheVariants.{Definite, Indefinite}
use Rattle.bcder.specs.x690.Identifier.{AreOctets, Tag, IsTag, base128, identifier, is_value_tag}
use Rattle.bcder.specs.x690.Length.{big_endian, AreLengthOctets}
use Rattle.bcder.specs.x690.Encoding.{Header, may_have}
use Rattle.bcder.specs.steps.Reading.{may_tell, read_long, read_length, third_digit, second_digit, read_number, class_of}
use Rattle.bcder.specs.steps.Reading.{is_marked, read_identifier, read_front, read_header, read_end, if_zero}
use Rattle.bcder.specs.calls.Violations.{BeginsNoIdentifier}
use Rattle.bcder.specs.laws.Identifiers.{read_identifier-identifier, identifier_some}
use Rattle.bcder.specs.laws.Lengths.{read_length-tells, read_end-complete}
use Rattle.bcder.specs.laws.Sound.{none_is, some_inj, identifier_sound, length_sound, end_sound}
use Rattle.bcder.specs.laws.Stands.{AreOctets-after, header_sound}
use Rattle.bcder.specs.laws.Complete.{header_complete}

pub some_is_none : {A : Type 0} (x : A) → ◌≡◌ {A = Option A} (Some x) None → ⊥
some_is_none x e = cc

unmapped : {A B : Type 0} (f : A → B) (r : Option A) → option_map f r ≡ None → r ≡ None
unmapped f None e = refl
unmapped f (Some x) e = absurd cc

-- ---- octets that begin no identifier octets, whatever follows them

third_none : (high c : ℕ) (w x : List ℕ) → third_digit high (c ∷ w) ≡ None → third_digit high (c ∷ (w ++ x)) ≡ None
unfolding third_digit
third_none high c w x e =
    elim (cases_lt c 128) [
      | inl lt ↦ absurd (some_is_none _ (rw (lt-ltb c 128 lt) at e))
      | inr le ↦ rw (le-ltb c 128 le) refl
    ]

second_none : (high b c : ℕ) (w x : List ℕ) → second_digit high (b ∷ c ∷ w) ≡ None → second_digit high (b ∷ c ∷ (w ++ x)) ≡ None
unfolding second_digit
second_none high b c w x e =
    elim (cases_lt b 128) [
      | inl lt ↦ absurd (some_is_none _ (rw (lt-ltb b 128 lt) at e))
      | inr le ↦ rw (le-ltb b 128 le) (third_none _ c w x (rw (le-ltb b 128 le) at e))
    ]

number_none : (a : ℕ) (w x : List ℕ) → (128 < a → 2 ≤ length w) → read_number (a ∷ w) ≡ None → read_number (a ∷ (w ++ x)) ≡ None
unfolding read_number
number_none a w x h e =
    elim (cases_lt a 31) [
      | inl lt ↦ rw (lt-ltb a 31 lt) refl
      | inr le ↦ elim (cases_lt a 128) [
        | inl lt ↦ absurd (some_is_none _ (rw (le-ltb a 31 le, lt-ltb a 128 lt) at e))
        | inr more ↦ elim (cases_lt 128 a) [
          | inl above ↦ rw (le-ltb a 31 le, le-ltb a 128 more, lt-leb a 128 above)
              (digits w (h above) (rw (le-ltb a 31 le, le-ltb a 128 more, lt-leb a 128 above) at e))
          | inr same ↦ rw (le-ltb a 31 le, le-ltb a 128 more, le-leb a 128 same) refl
        ]
      ]
    ]
  where
    digits : (w : List ℕ) → 2 ≤ length w → second_digit (a - 128) w ≡ None → second_digit (a - 128) (w ++ x) ≡ None
    digits [] l e = absurd (omega arith)
    digits (b ∷ []) l e = absurd (omega arith)
    digits (b ∷ c ∷ w) l e = second_none (a - 128) b c w x e

pub identifier_none : (b a : ℕ) (w x : List ℕ) → (128 < a → 2 ≤ length w) → read_identifier (b ∷ a ∷ w) ≡ None → read_identifier (b ∷ a ∷ (w ++ x)) ≡ None
unfolding read_identifier
identifier_none b a w x h e =
    elim (cases_lt (b % 32) 31) [
      | inl lt ↦ absurd (some_is_none _ (rw (lt-ltb (b % 32) 31 lt) at e))
      | inr le ↦ rw (le-ltb (b % 32) 31 le, number_none a w x h (unmapped _ _ (rw (le-ltb (b % 32) 31 le) at e))) refl
    ]

-- the second octet ends the number, or is refused
pub second_decides : (w x : List ℕ) → 2 ≤ length w → get_or w 1 0 ≤ 128 → read_identifier w ≡ None → read_identifier (w ++ x) ≡ None
second_decides [] x l h e = absurd (omega arith)
second_decides (b ∷ []) x l h e = absurd (omega arith)
second_decides (b ∷ a ∷ w) x l h e = identifier_none b a w x (λ above. absurd (omega arith)) e

-- the fourth octet is the last that there may be
pub fourth_decides : (w x : List ℕ) → 4 ≤ length w → read_identifier w ≡ None → read_identifier (w ++ x) ≡ None
fourth_decides [] x l e = absurd (omega arith)
fourth_decides (b ∷ []) x l e = absurd (omega arith)
fourth_decides (b ∷ a ∷ w) x l e = identifier_none b a w x (λ above. omega arith) e

-- ---- octets that begin no length octets

untold : {A : Type 0} (b : Bool) (y z : A) → cond b (Some y) None ≡ None → cond b (Some z) None ≡ None
untold true y z e = absurd (some_is_none _ e)
untold false y z e = refl

long_none : (mode : Mode) (k : ℕ) (w x : List ℕ) → (k ≤ 4 → k ≤ length w) → read_long mode k w ≡ None → read_long mode k (w ++ x) ≡ None
unfolding read_long
long_none mode k w x h e =
    elim (cases_lt 4 k) [
      | inl lt ↦ rw (lt-ltb 4 k lt) refl
      | inr le ↦
          let enough = h le in
          let t : take k (w ++ x) ≡ take k w = take-append-le k w x enough in
          rw (le-ltb 4 k le, le-ltb (length (w ++ x)) k (omega (arith, length-append w x)), t)
          (untold (may_tell mode k (big_endian (take k w))) _ _ (rw (le-ltb 4 k le, le-ltb (length w) k enough) at e))
    ]

pub length_none : (mode : Mode) (b : ℕ) (w x : List ℕ) → (b ≤ 0x84 → b ≤ length w + 0x80) → read_length mode (b ∷ w) ≡ None
    → read_length mode (b ∷ (w ++ x)) ≡ None
unfolding read_length
length_none mode b w x h e =
    elim (cases_lt b 128) [
      | inl lt ↦ absurd (some_is_none _ (rw (lt-ltb b 128 lt) at e))
      | inr le ↦ elim (cases_lt 128 b) [
        | inl above ↦ rw (le-ltb b 128 le, lt-leb b 128 above)
            (long_none mode (b - 128) w x (λ k. let l : b ≤ 132 = omega arith in let m = h l in omega arith) (rw (le-ltb b 128 le, lt-leb b 128 above) at e))
        | inr same ↦ absurd (some_is_none _ (rw (le-ltb b 128 le, le-leb b 128 same) at e))
      ]
    ]

-- all octets are there that the first one tells of
pub count_decides : (mode : Mode) (w x : List ℕ) → 1 ≤ length w → get_or w 0 0 ≤ length w + 127 → read_length mode w ≡ None → read_length mode (w ++ x) ≡ None
count_decides mode [] x l h e = absurd (omega arith)
count_decides mode (b ∷ w) x l h e = length_none mode b w x (λ k. omega arith) e

-- the first one tells of too many
pub first_decides : (mode : Mode) (w x : List ℕ) → 0x84 < get_or w 0 0 → read_length mode w ≡ None → read_length mode (w ++ x) ≡ None
first_decides mode [] x h e = absurd (omega arith)
first_decides mode (b ∷ w) x h e = length_none mode b w x (λ k. absurd (omega arith)) e

-- ---- what is read at the front

base128_size : (n : ℕ) → length (base128 n) ≤ 3
unfolding base128
base128_size n =
    elim (cases_lt n 128) [
      | inl lt ↦ rw (lt-ltb n 128 lt) (omega arith)
      | inr le ↦ elim (cases_lt n 16384) [
        | inl lt ↦ rw (le-ltb n 128 le, lt-ltb n 16384 lt) (omega arith)
        | inr more ↦ rw (le-ltb n 128 le, le-ltb n 16384 more) (omega arith)
      ]
    ]

pub identifier_size : (t : Tag) (f : Bool) → length (identifier t f) ≤ 4
unfolding identifier
identifier_size t f =
    elim (cases_lt t.number 31) [
      | inl lt ↦ rw (lt-ltb t.number 31 lt) (omega arith)
      | inr le ↦ rw (le-ltb t.number 31 le) (omega (arith, base128_size t.number))
    ]

-- identifier octets in front, whatever follows
pub record HasIdentifier (w : List ℕ) (t : Tag) (f : Bool) (y : List ℕ) : Type 0 where
  pub fits : IsTag t
  pub is : w ≡ identifier t f ++ y
  pub size : length w ≤ length y + 4
  pub some : 1 ≤ length w
  pub no_more : length y ≤ length w
  pub read : (x : List ℕ) → read_identifier (w ++ x) ≡ Some (t, f, y ++ x)

pub has_identifier : (w : List ℕ) (t : Tag) (f : Bool) (y : List ℕ) → AreOctets w → read_identifier w ≡ Some (t, f, y) → HasIdentifier w t f y
has_identifier w t f y o e =
    let i = identifier_sound w t f y o e in
    record {
      fits = i.fits;
      is = i.is;
      size = omega (arith, ap length i.is, length-append (identifier t f) y, identifier_size t f);
      no_more = omega (arith, ap length i.is, length-append (identifier t f) y);
      some = omega (arith, ap length i.is, length-append (identifier t f) y, identifier_some t f);
      read = λ x. ap (λ v. read_identifier (v ++ x)) i.is ∙ ap read_identifier (append_assoc (identifier t f) y x)
          ∙ read_identifier-identifier t f (y ++ x) i.fits;
    }

-- length octets in front, whatever follows
pub record HasLength (mode : Mode) (w : List ℕ) (len : Length) (z : List ℕ) : Type 0 where
  pub no_more : length z ≤ length w
  pub octets : List ℕ
  pub tells : AreLengthOctets mode len octets
  pub is : w ≡ octets ++ z
  pub read : (x : List ℕ) → read_length mode (w ++ x) ≡ Some (len, z ++ x)

pub has_length : (mode : Mode) (w : List ℕ) (len : Length) (z : List ℕ) → AreOctets w → read_length mode w ≡ Some (len, z) → HasLength mode w len z
has_length mode w len z o e =
    let l = length_sound mode w (len, z) o e in
    record {
      no_more = omega (arith, ap length l.is, length-append l.octets z);
      octets = l.octets;
      tells = l.tells;
      is = l.is;
      read = λ x. ap (λ v. read_length mode (v ++ x)) l.is ∙ ap (read_length mode) (append_assoc l.octets z x)
          ∙ read_length-tells mode len l.octets (z ++ x) l.tells;
    }

-- ---- both

-- what is behind a list, counted from the lengths
behind : (w v y x : List ℕ) → w ≡ v ++ y → drop (length w - length y) (w ++ x) ≡ y ++ x
behind w v y x e =
    let n : length w - length y ≡ length v = omega (arith, ap length e, length-append v y) in
    ap₂ drop n (ap (λ r. r ++ x) e ∙ append_assoc v y x) ∙ drop_at v (y ++ x) (length v) refl

-- the header of a value in front, whatever follows
pub record HasFront (mode : Mode) (w : List ℕ) (h : Header) (z : List ℕ) : Type 0 where
  pub size : length z ≤ length w
  pub read : (x : List ℕ) → read_header mode (w ++ x) ≡ Some (h, drop (length w - length z) (w ++ x))

pub has_front : (mode : Mode) (w : List ℕ) (h : Header) (z : List ℕ) → AreOctets w → read_header mode w ≡ Some (h, z) → HasFront mode w h z
has_front mode w h z o e =
    let d = header_sound mode w (h, z) o e in
    record {
      size = omega (arith, ap length d.is, length-append d.octets z);
      read = λ x. ap (λ v. read_header mode (v ++ x)) d.is ∙ ap (read_header mode) (append_assoc d.octets z x)
          ∙ header_complete mode h.tag h.form h.len d.octets (z ++ x) d.is_header ∙ ap (λ v. Some (h, v)) (sym (behind w d.octets z x d.is));
    }

-- end-of-contents octets in front, whatever follows
pub record HasEnd (mode : Mode) (w z : List ℕ) : Type 0 where
  pub size : length z ≤ length w
  pub read : (x : List ℕ) → read_end mode (w ++ x) ≡ Some (drop (length w - length z) (w ++ x))

pub has_end : (mode : Mode) (w z : List ℕ) → AreOctets w → read_end mode w ≡ Some z → HasEnd mode w z
has_end mode w z o e =
    let m = end_sound mode w z o e in
    record {
      size = omega (arith, ap length m.is, length-append m.marker z);
      read = λ x. ap (λ v. read_end mode (v ++ x)) m.is ∙ ap (read_end mode) (append_assoc m.marker z x) ∙ read_end-complete mode m.marker (z ++ x) m.is_end
          ∙ ap Some (sym (behind w m.marker z x m.is));
    }

-- ---- neither

unread : (mode : Mode) (w : List ℕ) → read_identifier w ≡ None → read_header mode w ≡ None
unfolding read_header
unread mode w e = rw e refl

unended : (mode : Mode) (w : List ℕ) → read_identifier w ≡ None → read_end mode w ≡ None
unfolding read_end read_identifier
unended mode [] e = refl
unended mode (zero ∷ w) e = absurd (some_is_none _ e)
unended mode (suc b ∷ w) e = refl

pub no_identifier : (mode : Mode) (w : List ℕ) → read_identifier w ≡ None → (read_header mode w ≡ None) × (read_end mode w ≡ None)
no_identifier mode w e = (unread mode w e, unended mode w e)

-- what is behind identifier octets, if the length l is read there
abbrev header_behind : Mode → Tag → Bool → Option (Length × List ℕ) → Option (Header × List ℕ)
header_behind mode t f r =
    cond (is_value_tag t) (option_and_then (λ l. cond (may_have mode f l.0) (Some (record { tag = t; form = f; len = l.0 }, l.1)) None) r) None

is_behind : (mode : Mode) (w : List ℕ) (t : Tag) (f : Bool) (y : List ℕ) → read_identifier w ≡ Some (t, f, y)
    → read_header mode w ≡ header_behind mode t f (read_length mode y)
unfolding read_header
is_behind mode w t f y e = rw e refl

-- and others follow
abbrev followed : List ℕ → Option (Length × List ℕ) → Option (Length × List ℕ)
followed x r = option_map (λ l. (l.0, l.1 ++ x)) r

stays : (mode : Mode) (y x : List ℕ) → AreOctets y → (read_length mode y ≡ None → read_length mode (y ++ x) ≡ None)
    → read_length mode (y ++ x) ≡ followed x (read_length mode y)
stays mode y x o h = go (read_length mode y) refl
  where
    go : (r : Option (Length × List ℕ)) → read_length mode y ≡ r → read_length mode (y ++ x) ≡ followed x r
    go None e = h e
    go (Some l) e = (has_length mode y l.0 l.1 o e).read x

refused_both : {A : Type 0} (v m : Bool) (a b : A) → cond v (cond m (Some a) None) None ≡ None → cond v (cond m (Some b) None) None ≡ None
refused_both true true a b e = absurd (some_is_none _ e)
refused_both true false a b e = refl
refused_both false m a b e = refl

header_refused : (mode : Mode) (t : Tag) (f : Bool) (x : List ℕ) (r : Option (Length × List ℕ)) → header_behind mode t f r ≡ None
    → header_behind mode t f (followed x r) ≡ None
header_refused mode t f x None e = e
header_refused mode t f x (Some l) e = refused_both (is_value_tag t) (may_have mode f l.0) _ _ e

end_refused : (x : List ℕ) (r : Option (Length × List ℕ)) → option_and_then (λ l. if_zero l.0 l.1) r ≡ None
    → option_and_then (λ l. if_zero l.0 l.1) (followed x r) ≡ None
end_refused x None e = e
end_refused x (Some (Indefinite, z)) e = refl
end_refused x (Some (Definite zero, z)) e = absurd (some_is_none _ e)
end_refused x (Some (Definite (suc n), z)) e = refl

-- length octets that are there are no others whatever follows
pub length_stays : (mode : Mode) (y x : List ℕ) (l : Length × List ℕ) → read_length mode y ≡ Some l → read_length mode y ≡ None
    → read_length mode (y ++ x) ≡ None
length_stays mode y x l e n = absurd (some_is_none _ (sym e ∙ n))

-- octets that are no header of a value are none whatever follows, once their length octets are all there or are none
module _ (mode : Mode) (t : Tag) (f : Bool) (x : List ℕ) where
  pub stays_unread : (w y : List ℕ) → AreOctets w → read_identifier w ≡ Some (t, f, y) → (read_length mode y ≡ None → read_length mode (y ++ x) ≡ None)
      → read_header mode w ≡ None → read_header mode (w ++ x) ≡ None
  stays_unread w y o e h n =
      let i = has_identifier w t f y o e in
      is_behind mode (w ++ x) t f (y ++ x) (i.read x)
      ∙ ap (header_behind mode t f) (stays mode y x (AreOctets-after (identifier t f) w y i.is o) h)
      ∙ header_refused mode t f x (read_length mode y) (sym (is_behind mode w t f y e) ∙ n)

  pub stays_unended : (w y : List ℕ) → AreOctets w → read_identifier w ≡ Some (t, f, y) → (read_length mode y ≡ None → read_length mode (y ++ x) ≡ None)
      → read_end mode w ≡ None → read_end mode (w ++ x) ≡ None
  unfolding read_end read_identifier
  stays_unended [] y o e h n = absurd (none_is _ e)
  stays_unended (suc b ∷ w) y o e h n = refl
  stays_unended (zero ∷ w) y o e h n =
      let s : w ≡ y = ap (λ r. r.2) (some_inj _ _ e) in
      let l = stays mode w x (λ i. o (suc i)) (subst (λ z. read_length mode z ≡ None → read_length mode (z ++ x) ≡ None) (sym s) h) in
      ap (λ r. option_and_then (λ l. if_zero l.0 l.1) r) l ∙ end_refused x (read_length mode w) n

-- two octets are both where the first tells the tag alone and the second a length below 128
pub short_stands : (mode : Mode) (w x : List ℕ) (t : Tag) (f : Bool) (n : ℕ) → 2 ≤ length w → get_or w 0 0 % 32 < 31 → get_or w 1 0 < 128
    → t ≡ record { class = class_of (get_or w 0 0); number = get_or w 0 0 % 32 } → f ≡ is_marked (get_or w 0 0) → n ≡ get_or w 1 0
    → read_front mode (w ++ x) ≡ Some (record { tag = t; form = f; len = Definite n }, drop 2 (w ++ x))
unfolding read_front read_identifier read_length
short_stands mode [] x t f n two low short tag mark len = absurd (omega arith)
short_stands mode (b ∷ []) x t f n two low short tag mark len = absurd (omega arith)
short_stands mode (b ∷ l ∷ w) x t f n two low short tag mark len = rw (lt-ltb (b % 32) 31 low, lt-ltb l 128 short, tag, mark, len) refl

-- or is 128
pub indefinite_stands : (mode : Mode) (w x : List ℕ) (t : Tag) (f : Bool) → 2 ≤ length w → get_or w 0 0 % 32 < 31 → get_or w 1 0 ≡ 128
    → t ≡ record { class = class_of (get_or w 0 0); number = get_or w 0 0 % 32 } → f ≡ is_marked (get_or w 0 0)
    → read_front mode (w ++ x) ≡ Some (record { tag = t; form = f; len = Indefinite }, drop 2 (w ++ x))
unfolding read_front read_identifier read_length
indefinite_stands mode [] x t f two low same tag mark = absurd (omega arith)
indefinite_stands mode (b ∷ []) x t f two low same tag mark = absurd (omega arith)
indefinite_stands mode (b ∷ l ∷ w) x t f two low same tag mark = rw (same, lt-ltb (b % 32) 31 low, tag, mark) refl

-- two zero octets are end-of-contents octets
pub end_stands : (mode : Mode) (w x : List ℕ) → 2 ≤ length w → get_or w 0 0 ≡ 0 → get_or w 1 0 ≡ 0 → read_end mode (w ++ x) ≡ Some (drop 2 (w ++ x))
unfolding read_end read_length
end_stands mode [] x two low len = absurd (omega arith)
end_stands mode (b ∷ []) x two low len = absurd (omega arith)
end_stands mode (b ∷ l ∷ w) x two low len = rw (low, len) refl

-- ---- in the words of the standard

pub identifier_stands : (w : List ℕ) (t : Tag) (f : Bool) (y : List ℕ) → HasIdentifier w t f y → (x : List ℕ)
    → w ++ x ≡ identifier t f ++ drop (length w - length y) (w ++ x)
identifier_stands w t f y i x =
    ap (λ v. v ++ x) i.is ∙ append_assoc (identifier t f) y x ∙ ap (λ v. identifier t f ++ v) (sym (behind w (identifier t f) y x i.is))

pub begins_no_identifier : (w : List ℕ) → read_identifier w ≡ None → BeginsNoIdentifier w
begins_no_identifier w e t f x fits is = some_is_none _ (sym (read_identifier-identifier t f x fits) ∙ ap read_identifier (sym is) ∙ e)

pub end_begins_no_identifier : (w : List ℕ) → w ≡ [] → BeginsNoIdentifier w
unfolding read_identifier
end_begins_no_identifier w e = begins_no_identifier w (rw e refl)

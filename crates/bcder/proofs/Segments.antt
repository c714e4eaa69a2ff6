-- Values whose headers are passed one by one: what is left of them, and of the segments that they are.
use Rattle.std.proofs.Common.{◌≡◌, ℕ, suc, ◌+◌, ◌-◌, ◌*◌, ◌<◌, ◌≤◌, Bool, true, false, List, [], ◌∷◌, ◌++◌, length, get_or, take, drop, Option, Some}
use Rattle.std.proofs.Common.{None, refl, sym, ap, subst, ◌∙◌, append_assoc, append-nil, arith, inl, inr, ap₂, take-append-drop}
use Rattle.std.specs.Prelude.{nat_eq, slice_range}
use Rattle.std.specs.List.{concat}
use Rattle.std.proofs.lemmas.List.Folds.{concat-append}
use Rattle.std.proofs.lemmas.Bool.{lt-ltb, le-ltb}
use Rattle.std.proofs.lemmas.Bool.Decides.{nat_tests}
use Rattle.std.proofs.lemmas.List.{length-append, length-drop, length-map, length-take, map-append, take_at, drop_at}
use Rattle.bcder.specs.declared.mode.Mode.{Mode}
use Rattle.bcder.specs.declared.mode.Mode.TheVariants.{Ber, Cer, Der}
use Rattle.bcder.specs.declared.length.Length.{Length}
use Rattle.bcder.specs.declared.length.Length.TheVariants.{Definite, Indefinite}
use Rattle.bcder.specs.x690.Identifier.{Class, universal, application, context_specific, private, Tag}
use Rattle.bcder.specs.x690.Length.{IsEndOfContents}
use Rattle.bcder.specs.x690.Tree.{Tree, primitive, constructed, Trees, no_trees, ◌∷ₜ◌}
use Rattle.bcder.specs.x690.Encoding.{IsHeader, IsDefinite, IsFramed, IsEncoding, AreEncodings}
use Rattle.bcder.specs.steps.Reading.{class_of, is_marked, read_identifier, read_header, read_length}
use Rattle.bcder.specs.calls.Captured.{AreWhole}
use Rattle.bcder.specs.x690.OctetString.{octet_string_tag, segments, segments_of, IsSegment, AreSegments, IsPiece}
use Rattle.bcder.specs.x690.OctetString.{IsFull, IsLast, FollowFull, AreSegmentsIn, AreCut}
use Rattle.bcder.specs.steps.SegmentTable.{segment_at, segments_at, AreWithin, IsMark, AreMarks, IsNext, AreInOrder, IsTable}
use Rattle.bcder.specs.declared.string.octet.Segment.{Segment}
use Rattle.bcder.specs.steps.Segments.{is_octet_string, behind_header, read_segment}
use Rattle.bcder.specs.laws.Complete.{header_complete, header_size, two_octets, one_list}
use Rattle.bcder.specs.laws.Lengths.{read_end-complete}
use Rattle.bcder.specs.laws.Sound.{some_inj, none_is}
use Rattle.bcder.proofs.Markers.{end_size}
use Rattle.bcder.proofs.PlainReader.{two_read}

-- ---- items: values, and the ends of values that were gone into

pub data Items : Type 0 where
  no_items : Items
  value : Tree → Items → Items
  closing : Items → Items

-- w is the items, one after the other
abbrev pub AreItems : Mode → Items → List ℕ → Type 0
AreItems mode no_items w = w ≡ []
AreItems mode (value t is) w = (first others : List ℕ) × IsEncoding mode t first × AreItems mode is others × (w ≡ first ++ others)
AreItems mode (closing is) w = (first others : List ℕ) × IsEndOfContents mode first × AreItems mode is others × (w ≡ first ++ others)

-- values before items
abbrev pub before : Trees → Items → Items
before no_trees is = is
before (t ∷ₜ ts) is = value t (before ts is)

-- their values are segments
abbrev pub HoldSegments : Items → Type 0
HoldSegments no_items = Unit {0}
HoldSegments (value t is) = IsSegment t × HoldSegments is
HoldSegments (closing is) = HoldSegments is

-- the contents octets of these
abbrev pub parts_of : Items → List (List ℕ)
parts_of no_items = []
parts_of (value t is) = segments t ++ parts_of is
parts_of (closing is) = parts_of is

before_items : (mode : Mode) (ts : Trees) (is : Items) (v w : List ℕ) → AreEncodings mode ts v → AreItems mode is w → AreItems mode (before ts is) (v ++ w)
before_items mode no_trees is v w h k = rw h k
before_items mode (t ∷ₜ ts) is v w h k = (h.0, h.1 ++ w, h.2, before_items mode ts is h.1 w h.3 k, rw h.4 (append_assoc h.0 h.1 w))

before_parts : (ts : Trees) (is : Items) → parts_of (before ts is) ≡ segments_of ts ++ parts_of is
before_parts no_trees is = refl
before_parts (t ∷ₜ ts) is = ap (λ x. segments t ++ x) (before_parts ts is) ∙ sym (append_assoc (segments t) (segments_of ts) (parts_of is))

before_hold : (ts : Trees) (is : Items) → AreSegments ts → HoldSegments is → HoldSegments (before ts is)
before_hold no_trees is h k = k
before_hold (t ∷ₜ ts) is h k = (h.0, before_hold ts is h.1 k)

before_held : (ts : Trees) (is : Items) → HoldSegments (before ts is) → AreSegments ts × HoldSegments is
before_held no_trees is h = (tt, h)
before_held (t ∷ₜ ts) is h = (let k = before_held ts is h.1 in ((h.0, k.0), k.1))

-- all values, and nothing else
pub all_items : (mode : Mode) (ts : Trees) (w : List ℕ) → AreEncodings mode ts w → AreItems mode (before ts no_items) w
all_items mode ts w h = subst (AreItems mode (before ts no_items)) (append-nil w) (before_items mode ts no_items w [] h refl)

pub all_parts : (ts : Trees) → parts_of (before ts no_items) ≡ segments_of ts
all_parts ts = before_parts ts no_items ∙ append-nil (segments_of ts)

pub all_hold : (ts : Trees) → AreSegments ts → HoldSegments (before ts no_items)
all_hold ts h = before_hold ts no_items h tt

pub all_held : (ts : Trees) → HoldSegments (before ts no_items) → AreSegments ts
all_held ts h = (before_held ts no_items h).0

-- where no octets are left, no items are
pub none_left : (mode : Mode) (is : Items) (w : List ℕ) → AreItems mode is w → length w ≡ 0 → is ≡ no_items
none_left mode no_items w h e = refl
none_left mode (value t is) w h e = absurd (let two = two_octets mode t h.0 h.2 in omega (arith, ap length h.4, length-append h.0 h.1))
none_left mode (closing is) w h e = absurd (let two = (end_size mode h.0 h.2).0 in omega (arith, ap length h.4, length-append h.0 h.1))

-- ---- tags

four : (n : ℕ) → nat_eq n 4 ≡ true → n ≡ 4
four n e = grind (arith, nat_tests)

pub is_tag : (t : Tag) → is_octet_string t ≡ true → t ≡ octet_string_tag
is_tag t e = by_parts t.class t.number e
  where
    by_parts : (c : Class) (n : ℕ) → is_octet_string (record { class = c; number = n }) ≡ true
        → ◌≡◌ {A = Tag} (record { class = c; number = n }) octet_string_tag
    by_parts universal n e = ap (λ x. record { class = universal; number = x }) (four n e)
    by_parts application n e = cc
    by_parts context_specific n e = cc
    by_parts private n e = cc

pub is_other : (t : Tag) → is_octet_string t ≡ false → t ≡ octet_string_tag → ⊥
is_other t e is = (let x : false ≡ true = sym e ∙ ap is_octet_string is in cc)

-- ---- what reading finds

segment_at_header : (mode : Mode) (t : Tag) (f : Bool) (len : Length) (h x : List ℕ) → IsHeader mode t f len h → is_octet_string t ≡ true
    → read_segment mode (h ++ x) ≡ behind_header f len x
unfolding read_segment
segment_at_header mode t f len h x d e = rw (header_complete mode t f len h x d, e) refl

other_at_header : (mode : Mode) (t : Tag) (f : Bool) (len : Length) (h x : List ℕ) → IsHeader mode t f len h → is_octet_string t ≡ false
    → read_segment mode (h ++ x) ≡ None
unfolding read_segment
other_at_header mode t f len h x d e = rw (header_complete mode t f len h x d, e) refl

no_header_at_end : (mode : Mode) (e x : List ℕ) → IsEndOfContents mode e → read_header mode (e ++ x) ≡ None
unfolding read_header read_identifier class_of is_marked
no_header_at_end mode e x d = rw (d.is) refl

segment_at_end : (mode : Mode) (e x : List ℕ) → IsEndOfContents mode e → read_segment mode (e ++ x) ≡ Some (None, x)
unfolding read_segment
segment_at_end mode e x d = rw (no_header_at_end mode e x d, read_end-complete mode e x d) refl

contents_there : (contents x : List ℕ) → behind_header false (Definite (length contents)) (contents ++ x) ≡ Some (Some (length contents), x)
contents_there contents x =
    rw (le-ltb (length (contents ++ x)) (length contents) (omega (arith, length-append contents x)), drop_at contents x (length contents) refl) refl

-- at a value: a primitive segment; a constructed one, whose values stand behind the header; or no segment
pub data Front (mode : Mode) (t : Tree) (w others : List ℕ) : Type 0 where
  piece : (contents header : List ℕ) → t ≡ primitive octet_string_tag contents → w ≡ header ++ (contents ++ others)
      → IsHeader mode octet_string_tag false (Definite (length contents)) header → read_segment mode w ≡ Some (Some (length contents), others)
      → Front mode t w others
  definite : (ts : Trees) (header contents : List ℕ) → t ≡ constructed octet_string_tag ts → AreEncodings mode ts contents → w ≡ header ++ (contents ++ others)
      → IsMark mode header → read_segment mode w ≡ Some (None, contents ++ others) → Front mode t w others
  indefinite : (ts : Trees) (header contents end : List ℕ) → t ≡ constructed octet_string_tag ts → AreEncodings mode ts contents → IsEndOfContents mode end
      → w ≡ header ++ (contents ++ (end ++ others)) → IsMark mode header → read_segment mode w ≡ Some (None, contents ++ (end ++ others))
      → Front mode t w others
  other : read_segment mode w ≡ None → (IsSegment t → ⊥) → Front mode t w others

header_before : (h c x w : List ℕ) → w ≡ h ++ c → w ++ x ≡ h ++ (c ++ x)
header_before h c x w e = ap (λ z. z ++ x) e ∙ append_assoc h c x

end_before : (h c e x w : List ℕ) → w ≡ h ++ (c ++ e) → w ++ x ≡ h ++ (c ++ (e ++ x))
end_before h c e x w is = header_before h (c ++ e) x w is ∙ ap (λ z. h ++ z) (append_assoc c e x)

front_primitive : (mode : Mode) (t : Tag) (contents w x : List ℕ) → IsDefinite mode t false contents w → Front mode (primitive t contents) (w ++ x) x
front_primitive mode t contents w x d = by_tag (is_octet_string t) refl
  where
    there : w ++ x ≡ d.header ++ (contents ++ x)
    there = header_before d.header contents x w d.is

    by_tag : (b : Bool) → is_octet_string t ≡ b → Front mode (primitive t contents) (w ++ x) x
    by_tag true e = piece contents d.header (ap (λ z. primitive z contents) (is_tag t e)) there
        (subst (λ z. IsHeader mode z false (Definite (length contents)) d.header) (is_tag t e) d.is_header)
        (ap (read_segment mode) there ∙ segment_at_header mode t false _ d.header (contents ++ x) d.is_header e ∙ contents_there contents x)
    by_tag false e = other (ap (read_segment mode) there ∙ other_at_header mode t false _ d.header (contents ++ x) d.is_header e) (is_other t e)

front_constructed : (mode : Mode) (t : Tag) (ts : Trees) (contents w x : List ℕ) → AreEncodings mode ts contents → IsFramed mode t contents w
    → Front mode (constructed t ts) (w ++ x) x
front_constructed mode t ts contents w x h (inl d) = by_tag (is_octet_string t) refl
  where
    there : w ++ x ≡ d.header ++ (contents ++ x)
    there = header_before d.header contents x w d.is

    by_tag : (b : Bool) → is_octet_string t ≡ b → Front mode (constructed t ts) (w ++ x) x
    by_tag true e = definite ts d.header contents (ap (λ z. constructed z ts) (is_tag t e)) h there
        (inl (Definite (length contents), subst (λ z. IsHeader mode z true (Definite (length contents)) d.header) (is_tag t e) d.is_header))
        (ap (read_segment mode) there ∙ segment_at_header mode t true _ d.header (contents ++ x) d.is_header e)
    by_tag false e = other (ap (read_segment mode) there ∙ other_at_header mode t true _ d.header (contents ++ x) d.is_header e) (λ s. is_other t e s.0)
front_constructed mode t ts contents w x h (inr d) = by_tag (is_octet_string t) refl
  where
    there : w ++ x ≡ d.header ++ (contents ++ (d.end ++ x))
    there = end_before d.header contents d.end x w d.is

    by_tag : (b : Bool) → is_octet_string t ≡ b → Front mode (constructed t ts) (w ++ x) x
    by_tag true e = indefinite ts d.header contents d.end (ap (λ z. constructed z ts) (is_tag t e)) h d.is_end there
        (inl (Indefinite, subst (λ z. IsHeader mode z true Indefinite d.header) (is_tag t e) d.is_header))
        (ap (read_segment mode) there ∙ segment_at_header mode t true _ d.header (contents ++ (d.end ++ x)) d.is_header e)
    by_tag false e = other (ap (read_segment mode) there ∙ other_at_header mode t true _ d.header (contents ++ (d.end ++ x)) d.is_header e)
        (λ s. is_other t e s.0)

pub front : (mode : Mode) (t : Tree) (w x : List ℕ) → IsEncoding mode t w → Front mode t (w ++ x) x
front mode (primitive t contents) w x h = front_primitive mode t contents w x h.1
front mode (constructed t ts) w x h = front_constructed mode t ts h.0 w x h.1 h.2

-- at items: a primitive segment is passed; or a header or an end is, behind which the same segments are held; or they hold others than segments
pub data Turn (mode : Mode) (is : Items) (w : List ℕ) : Type 0 where
  passes : (contents header others : List ℕ) (more : Items) → is ≡ value (primitive octet_string_tag contents) more → w ≡ header ++ (contents ++ others)
      → IsHeader mode octet_string_tag false (Definite (length contents)) header → AreItems mode more others
      → read_segment mode w ≡ Some (Some (length contents), others) → Turn mode is w
  goes : (header others : List ℕ) (more : Items) → parts_of is ≡ parts_of more → (HoldSegments is → HoldSegments more) → (HoldSegments more → HoldSegments is)
      → w ≡ header ++ others → IsMark mode header → AreItems mode more others → read_segment mode w ≡ Some (None, others) → Turn mode is w
  stops : read_segment mode w ≡ None → (HoldSegments is → ⊥) → Turn mode is w

turn_at : (mode : Mode) (t : Tree) (more : Items) (w x : List ℕ) → AreItems mode more x → Front mode t w x → Turn mode (value t more) w
turn_at mode t more w x h (piece contents header e is two r) = passes contents header x more (ap (λ z. value z more) e) is two h r
turn_at mode t more w x h (definite ts header contents e k is two r) = goes header (contents ++ x) (before ts more)
    (ap (λ z. parts_of (value z more)) e ∙ sym (before_parts ts more))
    (λ s. let p : IsSegment (constructed octet_string_tag ts) = subst IsSegment e s.0 in before_hold ts more p.1 s.1)
    (λ s. let p = before_held ts more s in (subst IsSegment (sym e) (refl, p.0), p.1))
    is two (before_items mode ts more contents x k h) r
turn_at mode t more w x h (indefinite ts header contents end e k d is two r) = goes header (contents ++ (end ++ x)) (before ts (closing more))
    (ap (λ z. parts_of (value z more)) e ∙ sym (before_parts ts (closing more)))
    (λ s. let p : IsSegment (constructed octet_string_tag ts) = subst IsSegment e s.0 in before_hold ts (closing more) p.1 s.1)
    (λ s. let p = before_held ts (closing more) s in (subst IsSegment (sym e) (refl, p.0), p.1))
    is two (before_items mode ts (closing more) contents (end ++ x) k (end, x, d, h, refl)) r
turn_at mode t more w x h (other r n) = stops r (λ s. n s.0)

pub turn : (mode : Mode) (is : Items) (w : List ℕ) → AreItems mode is w → 1 ≤ length w → Turn mode is w
turn mode no_items w h some = absurd (let e = ap length h in omega arith)
turn mode (value t is) w h some = turn_at mode t is w h.1 h.3 (subst (λ z. Front mode t z h.1) (sym h.4) (front mode t h.0 h.1 h.2))
turn mode (closing is) w h some = goes h.0 h.1 is refl (λ s. s) (λ s. s) h.4 (inr h.2) h.3 (ap (read_segment mode) h.4 ∙ segment_at_end mode h.0 h.1 h.2)

-- ---- a primitive segment with a header of two octets

short_read : (mode : Mode) (n : ℕ) (x : List ℕ) → n < 128 → n ≤ length x → read_segment mode (4 ∷ (n ∷ x)) ≡ Some (Some n, drop n x)
unfolding read_segment read_header read_identifier is_marked class_of read_length
short_read mode n x l k = rw (lt-ltb n 128 l, le-ltb (length x) n k) refl

pub short_segment : (mode : Mode) (w y : List ℕ) (n m : ℕ) → 2 ≤ length w → get_or w 0 0 ≡ 4 → n ≡ get_or w 1 0 → n < 128 → m ≡ 2 + n → m ≤ length w
    → y ≡ drop m w → read_segment mode w ≡ Some (Some n, y)
short_segment mode [] y n m two f e l a k is = absurd (omega arith)
short_segment mode (b ∷ []) y n m two f e l a k is = absurd (omega arith)
short_segment mode (b ∷ (c ∷ x)) y n m two f e l a k is =
    let d : m ≡ suc (suc n) = omega arith in
    let z : y ≡ drop n x = is ∙ rw d refl in
    let q : n ≤ length x = omega (arith, k, d) in
    let r : read_segment mode (b ∷ (c ∷ x)) ≡ Some (Some n, drop n x) = rw (f, sym e) (short_read mode n x l q) in
    r ∙ ap (λ v. Some (Some n, v)) (sym z)

-- ---- one with a header of four octets

long_read : (mode : Mode) (h l n : ℕ) (x : List ℕ) → h * 256 + l ≡ n → 256 ≤ n → n ≤ length x
    → read_segment mode (4 ∷ (130 ∷ (h ∷ (l ∷ x)))) ≡ Some (Some n, drop n x)
unfolding read_segment read_header read_identifier is_marked class_of read_length
long_read mode h l n x e k s = rw (two_read mode h l n x e k, le-ltb (length x) n s) refl

pub long_segment : (mode : Mode) (w y : List ℕ) (n m : ℕ) → 4 ≤ length w → get_or w 0 0 ≡ 4 → get_or w 1 0 ≡ 130 → n ≡ get_or w 2 0 * 256 + get_or w 3 0
    → 256 ≤ n → m ≡ 4 + n → m ≤ length w → y ≡ drop m w → read_segment mode w ≡ Some (Some n, y)
long_segment mode [] y n m four f c e l a k is = absurd (omega arith)
long_segment mode (b ∷ []) y n m four f c e l a k is = absurd (omega arith)
long_segment mode (b ∷ (b2 ∷ [])) y n m four f c e l a k is = absurd (omega arith)
long_segment mode (b ∷ (b2 ∷ (b3 ∷ []))) y n m four f c e l a k is = absurd (omega arith)
long_segment mode (b ∷ (b2 ∷ (h ∷ (o ∷ x)))) y n m four f c e l a k is =
    let d : m ≡ suc (suc (suc (suc n))) = omega arith in
    let z : y ≡ drop n x = is ∙ rw d refl in
    let q : n ≤ length x = omega (arith, k, d) in
    let r : read_segment mode (b ∷ (b2 ∷ (h ∷ (o ∷ x)))) ≡ Some (Some n, drop n x) = rw (f, c) (long_read mode h o n x (sym e) l q) in
    r ∙ ap (λ v. Some (Some n, v)) (sym z)

-- ---- a loop over the headers

some_pair : (a b : Option ℕ) (x y : List ℕ) → ◌≡◌ {A = Option (Option ℕ × List ℕ)} (Some (a, x)) (Some (b, y)) → (a ≡ b) × (x ≡ y)
some_pair a b x y e = (let p : ◌≡◌ {A = Option ℕ × List ℕ} (a, x) (b, y) = some_inj (a, x) (b, y) e in (ap (λ z. z.0) p, ap (λ z. z.1) p))

none_pair : (a : Option ℕ) (x : List ℕ) → ◌≡◌ {A = Option (Option ℕ × List ℕ)} None (Some (a, x)) → ⊥
none_pair a x e = none_is (a, x) e

not_none : (n : ℕ) → ◌≡◌ {A = Option ℕ} (Some n) None → ⊥
not_none n e = cc

number_is : (n m : ℕ) → ◌≡◌ {A = Option ℕ} (Some n) (Some m) → n ≡ m
number_is n m e = cc

mark_size : (mode : Mode) (w : List ℕ) → IsMark mode w → 2 ≤ length w
mark_size mode w (inl h) = header_size mode octet_string_tag true h.0 w h.1
mark_size mode w (inr e) = (end_size mode w e).0

shorter : (header w x : List ℕ) → w ≡ header ++ x → 2 ≤ length header → length x + 2 ≤ length w
shorter header w x e two = omega (arith, ap length e, length-append header x)

shorter_by : (header contents w x : List ℕ) → w ≡ header ++ (contents ++ x) → 2 ≤ length header → length x + 2 ≤ length w
shorter_by header contents w x e two = (let s = shorter header w (contents ++ x) e two in omega (arith, s, length-append contents x))

-- what is read is passed: fewer octets are left
pub passed_shorter : (mode : Mode) (is : Items) (w after : List ℕ) (found : Option ℕ) → AreItems mode is w → 1 ≤ length w
    → read_segment mode w ≡ Some (found, after) → length after + 2 ≤ length w
passed_shorter mode is w after found h some r = of_turn (turn mode is w h some)
  where
    of_turn : Turn mode is w → length after + 2 ≤ length w
    of_turn (passes contents header others more e split two k q) =
        subst (λ z. length z + 2 ≤ length w) (some_pair _ _ _ _ (sym q ∙ r)).1 (shorter_by header contents w others split (header_size _ _ _ _ _ two))
    of_turn (goes header others more e f g split two k q) =
        subst (λ z. length z + 2 ≤ length w) (some_pair _ _ _ _ (sym q ∙ r)).1 (shorter header w others split (mark_size mode header two))
    of_turn (stops q n) = absurd (none_pair found after (sym q ∙ r))

-- of values in BER, what is left behind those that were passed: all are segments where these are
pub record Counts (w rest : List ℕ) (count : ℕ) : Type 0 where
  pub values : Trees
  pub encode : AreEncodings Ber values w
  pub left : Items
  pub items : AreItems Ber left rest
  pub remain : AreSegments values → HoldSegments left
  pub were : HoldSegments left → AreSegments values
  pub bound : count + length rest ≤ length w

pub counts_all : (w : List ℕ) → AreWhole Ber w → Counts w w 0
counts_all w h = record {
  values = h.values;
  encode = h.encode;
  left = before h.values no_items;
  items = all_items Ber h.values w h.encode;
  remain = all_hold h.values;
  were = all_held h.values;
  bound = omega arith;
}

pub counts_piece : (w rest after : List ℕ) (count n : ℕ) → Counts w rest count → 1 ≤ length rest → read_segment Ber rest ≡ Some (Some n, after)
    → Counts w after (count + 1)
counts_piece w rest after count n c some r = of_turn (turn Ber c.left rest c.items some)
  where
    of_turn : Turn Ber c.left rest → Counts w after (count + 1)
    of_turn (passes contents header others more e split two k q) =
        let p = some_pair _ _ _ _ (sym q ∙ r) in
        let s = shorter_by header contents rest others split (header_size _ _ _ _ _ two) in
        let b = c.bound in
        record {
          values = c.values;
          encode = c.encode;
          left = more;
          items = subst (AreItems Ber more) p.1 k;
          remain = λ h. (let x : IsSegment (primitive octet_string_tag contents) × HoldSegments more = subst HoldSegments e (c.remain h) in x.1);
          were = λ h. c.were (subst HoldSegments (sym e) (refl, h));
          bound = omega (arith, s, b, ap length p.1);
        }
    of_turn (goes header others more e f g split two k q) = absurd (let p = some_pair _ _ _ _ (sym r ∙ q) in not_none n p.0)
    of_turn (stops q x) = absurd (none_pair _ _ (sym q ∙ r))

pub counts_goes : (w rest after : List ℕ) (count : ℕ) → Counts w rest count → 1 ≤ length rest → read_segment Ber rest ≡ Some (None, after)
    → Counts w after count
counts_goes w rest after count c some r = of_turn (turn Ber c.left rest c.items some)
  where
    of_turn : Turn Ber c.left rest → Counts w after count
    of_turn (passes contents header others more e split two k q) = absurd (let p = some_pair _ _ _ _ (sym q ∙ r) in not_none _ p.0)
    of_turn (goes header others more e f g split two k q) =
        let p = some_pair _ _ _ _ (sym q ∙ r) in
        let s = shorter header rest others split (mark_size Ber header two) in
        let b = c.bound in
        record {
          values = c.values;
          encode = c.encode;
          left = more;
          items = subst (AreItems Ber more) p.1 k;
          remain = λ h. f (c.remain h);
          were = λ h. c.were (g h);
          bound = omega (arith, s, b, ap length p.1);
        }
    of_turn (stops q x) = absurd (none_pair _ _ (sym q ∙ r))

-- where none is read, not all are segments
pub counts_none : (w rest : List ℕ) (count : ℕ) → Counts w rest count → 1 ≤ length rest → read_segment Ber rest ≡ None → AreCut Ber w → ⊥
counts_none w rest count c some r cut = of_turn (turn Ber c.left rest c.items some)
  where
    same : cut.1.values ≡ c.values
    same = one_list Ber cut.1.values c.values w cut.1.encode c.encode

    of_turn : Turn Ber c.left rest → ⊥
    of_turn (passes contents header others more e split two k q) = none_pair _ _ (sym r ∙ q)
    of_turn (goes header others more e f g split two k q) = none_pair _ _ (sym r ∙ q)
    of_turn (stops q x) = x (c.remain (subst AreSegments same cut.1.shape))

-- at the end all are
pub counts_cut : (w rest : List ℕ) (count : ℕ) → Counts w rest count → length rest ≡ 0 → AreCut Ber w
counts_cut w rest count c e =
    let z = none_left Ber c.left rest c.items e in
    (segments_of c.values, record { values = c.values; encode = c.encode; shape = c.were (subst HoldSegments (sym z) tt); hold = refl })

-- ---- the segments of a string in CER

abbrev pub size_of : Tree → ℕ
size_of (primitive t contents) = length contents
size_of (constructed t ts) = 0

abbrev pub count_of : Trees → ℕ
count_of no_trees = 0
count_of (t ∷ₜ ts) = suc (count_of ts)

-- behind a segment that is full or not: each has 1 to 1000 octets, and behind one that has fewer than 1000 there is none
abbrev pub ArePieces : Bool → Trees → Type 0
ArePieces true no_trees = Unit {0}
ArePieces false no_trees = Unit {0}
ArePieces true (t ∷ₜ ts) = IsPiece IsLast t × ArePieces (nat_eq (size_of t) 1000) ts
ArePieces false (t ∷ₜ ts) = ⊥

no_pieces : (full : Bool) → ArePieces full no_trees
no_pieces true = tt
no_pieces false = tt

is_full : (n : ℕ) → n ≡ 1000 → nat_eq n 1000 ≡ true
is_full n e = grind (arith, nat_tests)

of_full : (n : ℕ) → nat_eq n 1000 ≡ true → n ≡ 1000
of_full n e = grind (arith, nat_tests)

full_piece : (t : Tree) → IsPiece IsFull t → IsPiece IsLast t × (nat_eq (size_of t) 1000 ≡ true)
full_piece (primitive t contents) h = ((h.0, (let e = h.1 in (omega arith, omega arith))), is_full (length contents) h.1)
full_piece (constructed t ts) h = absurd h

last_piece : (t : Tree) → IsPiece IsLast t → nat_eq (size_of t) 1000 ≡ true → IsPiece IsFull t
last_piece (primitive t contents) h e = (h.0, of_full (length contents) e)
last_piece (constructed t ts) h e = absurd h

follow_pieces : (ts : Trees) → FollowFull ts → ArePieces true ts × (1 ≤ count_of ts)
follow_pieces no_trees h = absurd h
follow_pieces (t ∷ₜ no_trees) h = ((h, no_pieces _), omega arith)
follow_pieces (t ∷ₜ (u ∷ₜ us)) h =
    let p = full_piece t h.0 in
    let q = follow_pieces (u ∷ₜ us) h.1 in
    ((p.0, subst (λ b. ArePieces b (u ∷ₜ us)) (sym p.1) q.0), omega arith)

by_size : (t u : Tree) (us : Trees) → IsPiece IsLast t → (b : Bool) → nat_eq (size_of t) 1000 ≡ b → ArePieces b (u ∷ₜ us)
    → (ArePieces true (u ∷ₜ us) → FollowFull (u ∷ₜ us)) → FollowFull (t ∷ₜ (u ∷ₜ us))
by_size t u us h true e p f = (last_piece t h e, f p)
by_size t u us h false e p f = absurd p

pieces_follow : (ts : Trees) → ArePieces true ts → 1 ≤ count_of ts → FollowFull ts
pieces_follow no_trees h some = absurd (omega arith)
pieces_follow (t ∷ₜ no_trees) h some = h.0
pieces_follow (t ∷ₜ (u ∷ₜ us)) h some = by_size t u us h.0 (nat_eq (size_of t) 1000) refl h.1 (λ p. pieces_follow (u ∷ₜ us) p (omega arith))

pub in_cer : (ts : Trees) → AreSegmentsIn Cer ts → ArePieces true ts × (2 ≤ count_of ts)
in_cer no_trees h = absurd h
in_cer (t ∷ₜ ts) h =
    let p = full_piece t h.0 in
    let q = follow_pieces ts h.1 in
    ((p.0, subst (λ b. ArePieces b ts) (sym p.1) q.0), (let n = q.1 in omega arith))

to_cer : (ts : Trees) → ArePieces true ts → 2 ≤ count_of ts → AreSegmentsIn Cer ts
to_cer no_trees h two = absurd (omega arith)
to_cer (t ∷ₜ no_trees) h two = absurd (omega arith)
to_cer (t ∷ₜ (u ∷ₜ us)) h two = pieces_follow (t ∷ₜ (u ∷ₜ us)) h (omega arith)

-- where such a segment stands in front, it is read
piece_read : (t : Tree) (w x : List ℕ) → IsPiece IsLast t → IsEncoding Cer t w → IsLast (size_of t) × (read_segment Cer (w ++ x) ≡ Some (Some (size_of t), x))
piece_read (primitive t contents) w x h k = (h.1, of_front (front Cer (primitive t contents) w x k))
  where
    of_front : Front Cer (primitive t contents) (w ++ x) x → read_segment Cer (w ++ x) ≡ Some (Some (length contents), x)
    of_front (piece c header e split two r) = r ∙ ap (λ z. Some (Some (size_of z), x)) (sym e)
    of_front (definite ts header c e q split two r) = (let z : ◌≡◌ {A = Tree} (primitive t contents) (constructed octet_string_tag ts) = e in cc)
    of_front (indefinite ts header c end e q d split two r) = (let z : ◌≡◌ {A = Tree} (primitive t contents) (constructed octet_string_tag ts) = e in cc)
    of_front (other r n) = absurd (n h.0)
piece_read (constructed t ts) w x h k = absurd h

-- what was passed of a string in CER: so many segments, the last of which was full or not
pub record Pieces (w rest : List ℕ) (count : ℕ) (full : Bool) : Type 0 where
  pub values : Trees
  pub encode : AreEncodings Cer values w
  pub left : Trees
  pub others : AreEncodings Cer left rest
  pub remain : ArePieces true values → ArePieces full left
  pub were : ArePieces full left → ArePieces true values
  pub number : count_of values ≡ count + count_of left
  pub bound : count + length rest ≤ length w

-- where no segment that may stand there is read, the string isn't cut so
pub pieces_none : (w rest : List ℕ) (count : ℕ) (full : Bool) → Pieces w rest count full → 1 ≤ length rest
    → ((n : ℕ) (x : List ℕ) → full ≡ true → IsLast n → read_segment Cer rest ≡ Some (Some n, x) → ⊥) → AreCut Cer w → ⊥
pieces_none w rest count full c some none cut = of_left c.left full refl c.others (c.remain (in_cer c.values (subst (AreSegmentsIn Cer) same cut.1.shape)).0)
  where
    same : cut.1.values ≡ c.values
    same = one_list Cer cut.1.values c.values w cut.1.encode c.encode

    of_left : (ts : Trees) (b : Bool) → full ≡ b → AreEncodings Cer ts rest → ArePieces b ts → ⊥
    of_left no_trees b e h p = (let z = ap length h in omega arith)
    of_left (t ∷ₜ ts) false e h p = p
    of_left (t ∷ₜ ts) true e h p = (let q = piece_read t h.0 h.1 p.0 h.2 in none (size_of t) h.1 e q.0 (ap (read_segment Cer) h.4 ∙ q.1))

pub pieces_more : (w rest after : List ℕ) (count n : ℕ) (full : Bool) → Pieces w rest count full → 1 ≤ length rest → full ≡ true → 1 ≤ n → n ≤ 1000
    → read_segment Cer rest ≡ Some (Some n, after) → Pieces w after (count + 1) (nat_eq n 1000)
pieces_more w rest after count n full c some f one most r =
    of_left c.left c.others (λ p. subst (λ b. ArePieces b c.left) f (c.remain p)) (λ p. c.were (subst (λ b. ArePieces b c.left) (sym f) p)) c.number
  where
    shorter_here : length after + 2 ≤ length rest
    shorter_here = passed_shorter Cer (before c.left no_items) rest after (Some n) (all_items Cer c.left rest c.others) some r

    of_left : (ts : Trees) → AreEncodings Cer ts rest → (ArePieces true c.values → ArePieces true ts) → (ArePieces true ts → ArePieces true c.values)
        → count_of c.values ≡ count + count_of ts → Pieces w after (count + 1) (nat_eq n 1000)
    of_left no_trees h remain were number = absurd (let z = ap length h in omega arith)
    of_left (t ∷ₜ ts) h remain were number = of_front (front Cer t h.0 h.1 h.2)
      where
        there : read_segment Cer (h.0 ++ h.1) ≡ Some (Some n, after)
        there = ap (read_segment Cer) (sym h.4) ∙ r

        of_front : Front Cer t (h.0 ++ h.1) h.1 → Pieces w after (count + 1) (nat_eq n 1000)
        of_front (piece contents header e split two q) =
            let p = some_pair _ _ _ _ (sym q ∙ there) in
            let s : size_of t ≡ n = ap size_of e ∙ number_is _ _ p.0 in
            let l : IsPiece IsLast t = subst (IsPiece IsLast) (sym e) (refl, subst IsLast (sym (number_is _ _ p.0)) (one, most)) in
            let b = c.bound in
            record {
              values = c.values;
              encode = c.encode;
              left = ts;
              others = subst (AreEncodings Cer ts) p.1 h.3;
              remain = λ k. subst (λ z. ArePieces (nat_eq z 1000) ts) s (remain k).1;
              were = λ k. were (l, subst (λ z. ArePieces (nat_eq z 1000) ts) (sym s) k);
              number = omega (arith, number);
              bound = omega (arith, shorter_here, b);
            }
        of_front (definite us header contents e k split two q) = absurd (let p = some_pair _ _ _ _ (sym there ∙ q) in not_none n p.0)
        of_front (indefinite us header contents end e k d split two q) = absurd (let p = some_pair _ _ _ _ (sym there ∙ q) in not_none n p.0)
        of_front (other q x) = absurd (none_pair _ _ (sym q ∙ there))

none_encoded : (ts : Trees) (w : List ℕ) → AreEncodings Cer ts w → length w ≡ 0 → ts ≡ no_trees
none_encoded no_trees w h e = refl
none_encoded (t ∷ₜ ts) w h e = absurd (let two = two_octets Cer t h.0 h.2 in omega (arith, ap length h.4, length-append h.0 h.1))

pub pieces_cut : (w rest : List ℕ) (count : ℕ) (full : Bool) → Pieces w rest count full → length rest ≡ 0 → 2 ≤ count → AreCut Cer w
pieces_cut w rest count full c e two =
    let z = none_encoded c.left rest c.others e in
    let p : ArePieces true c.values = c.were (subst (ArePieces full) (sym z) (no_pieces full)) in
    let n : 2 ≤ count_of c.values = (let q = c.number in omega (arith, q, two)) in
    (segments_of c.values, record { values = c.values; encode = c.encode; shape = to_cer c.values p n; hold = refl })

pub pieces_few : (w rest : List ℕ) (count : ℕ) (full : Bool) → Pieces w rest count full → length rest ≡ 0 → count < 2 → AreCut Cer w → ⊥
pieces_few w rest count full c e few cut =
    let z = none_encoded c.left rest c.others e in
    let same : cut.1.values ≡ c.values = one_list Cer cut.1.values c.values w cut.1.encode c.encode in
    let two : 2 ≤ count_of c.values = (in_cer c.values (subst (AreSegmentsIn Cer) same cut.1.shape)).1 in
    let n : count_of c.values ≡ count + 0 = c.number ∙ ap (λ ts. count + count_of ts) z in
    omega (arith, two, n, few)

-- as where one may not stand there
pub pieces_other : (w rest after : List ℕ) (count n : ℕ) (full : Bool) → Pieces w rest count full → 1 ≤ length rest
    → read_segment Cer rest ≡ Some (Some n, after) → (full ≡ true → IsLast n → ⊥) → AreCut Cer w → ⊥
pieces_other w rest after count n full c some r bad cut =
    pieces_none w rest count full c some (λ m x f l q. (let p = some_pair _ _ _ _ (sym q ∙ r) in bad f (subst IsLast (number_is m n p.0) l))) cut

pub pieces_nested : (w rest after : List ℕ) (count : ℕ) (full : Bool) → Pieces w rest count full → 1 ≤ length rest
    → read_segment Cer rest ≡ Some (None, after) → AreCut Cer w → ⊥
pieces_nested w rest after count full c some r cut =
    pieces_none w rest count full c some (λ m x f l q. (let p = some_pair _ _ _ _ (sym q ∙ r) in not_none m p.0)) cut

pub pieces_unread : (w rest : List ℕ) (count : ℕ) (full : Bool) → Pieces w rest count full → 1 ≤ length rest → read_segment Cer rest ≡ None → AreCut Cer w → ⊥
pieces_unread w rest count full c some r cut = pieces_none w rest count full c some (λ m x f l q. none_pair _ _ (sym r ∙ q)) cut

-- ---- what was passed of a string in a mode

abbrev pub Passed : Mode → List ℕ → List ℕ → ℕ → Bool → Type 0
Passed Ber w rest count full = Counts w rest count
Passed Cer w rest count full = Pieces w rest count full
Passed Der w rest count full = ⊥

-- a segment of n octets may come, behind one that was full or not
abbrev pub MayCome : Mode → Bool → ℕ → Type 0
MayCome mode full n = mode ≡ Cer → (full ≡ true) × (1 ≤ n) × (n ≤ 1000)

pub passed_all : (mode : Mode) (w : List ℕ) → (mode ≡ Der → ⊥) → AreWhole mode w → Passed mode w w 0 true
passed_all Ber w d h = counts_all w h
passed_all Cer w d h = record {
  values = h.values;
  encode = h.encode;
  left = h.values;
  others = h.encode;
  remain = λ p. p;
  were = λ p. p;
  number = omega arith;
  bound = omega arith;
}
passed_all Der w d h = d refl

-- the items that are left
items_left : (mode : Mode) (w rest : List ℕ) (count : ℕ) (full : Bool) → Passed mode w rest count full
    → (is : Items) × AreItems mode is rest × (length rest ≤ length w)
items_left Ber w rest count full c = (c.left, c.items, (let b = c.bound in omega (arith, b)))
items_left Cer w rest count full c = (before c.left no_items, all_items Cer c.left rest c.others, (let b = c.bound in omega (arith, b)))
items_left Der w rest count full c = absurd c

pub left_shorter : (mode : Mode) (w rest after : List ℕ) (count : ℕ) (full : Bool) (found : Option ℕ) → Passed mode w rest count full → 1 ≤ length rest
    → read_segment mode rest ≡ Some (found, after) → length after + 2 ≤ length rest
left_shorter mode w rest after count full found c some r = (let i = items_left mode w rest count full c in passed_shorter mode i.0 rest after found i.1 some r)

-- the segment that is read has room in the octets
pub left_room : (mode : Mode) (w rest after : List ℕ) (count n : ℕ) (full : Bool) → Passed mode w rest count full → 1 ≤ length rest
    → read_segment mode rest ≡ Some (Some n, after) → n + length after ≤ length w
left_room mode w rest after count n full c some r = of_turn (turn mode i.0 rest i.1 some)
  where
    i : (is : Items) × AreItems mode is rest × (length rest ≤ length w)
    i = items_left mode w rest count full c

    of_turn : Turn mode i.0 rest → n + length after ≤ length w
    of_turn (passes contents header others more e split two k q) =
        let p = some_pair _ _ _ _ (sym q ∙ r) in
        let l : length contents ≡ n = number_is _ _ p.0 in
        let b : length rest ≡ length header + (length contents + length others) =
        ap length split ∙ length-append header (contents ++ others) ∙ ap (λ z. length header + z) (length-append contents others) in
        omega (arith, i.2, b, l, ap length p.1)
    of_turn (goes header others more e f g split two k q) = absurd (let p = some_pair _ _ _ _ (sym r ∙ q) in not_none _ p.0)
    of_turn (stops q x) = absurd (none_pair _ _ (sym q ∙ r))

pub passed_piece : (mode : Mode) (w rest after : List ℕ) (count n : ℕ) (full : Bool) → Passed mode w rest count full → 1 ≤ length rest → MayCome mode full n
    → read_segment mode rest ≡ Some (Some n, after) → Passed mode w after (count + 1) (nat_eq n 1000)
passed_piece Ber w rest after count n full c some may r = counts_piece w rest after count n c some r
passed_piece Cer w rest after count n full c some may r = (let m = may refl in pieces_more w rest after count n full c some m.0 m.1 m.2 r)
passed_piece Der w rest after count n full c some may r = c

pub passed_mark : (mode : Mode) (w rest after : List ℕ) (count : ℕ) (full : Bool) → Passed mode w rest count full → 1 ≤ length rest → (mode ≡ Cer → ⊥)
    → read_segment mode rest ≡ Some (None, after) → Passed mode w after count full
passed_mark Ber w rest after count full c some not_cer r = counts_goes w rest after count c some r
passed_mark Cer w rest after count full c some not_cer r = absurd (not_cer refl)
passed_mark Der w rest after count full c some not_cer r = c

-- where none is read, or none that may come, the octets are no segments
pub passed_none : (mode : Mode) (w rest : List ℕ) (count : ℕ) (full : Bool) → Passed mode w rest count full → 1 ≤ length rest
    → read_segment mode rest ≡ None → AreCut mode w → ⊥
passed_none Ber w rest count full c some r cut = counts_none w rest count c some r cut
passed_none Cer w rest count full c some r cut = pieces_unread w rest count full c some r cut
passed_none Der w rest count full c some r cut = c

pub passed_other : (mode : Mode) (w rest after : List ℕ) (count n : ℕ) (full : Bool) → Passed mode w rest count full → 1 ≤ length rest
    → read_segment mode rest ≡ Some (Some n, after) → (MayCome mode full n → ⊥) → AreCut mode w → ⊥
passed_other Ber w rest after count n full c some r bad cut = bad (λ e. absurd (let x : ◌≡◌ {A = Mode} Ber Cer = e in cc))
passed_other Cer w rest after count n full c some r bad cut = pieces_other w rest after count n full c some r (λ f l. bad (λ _. (f, l.0, l.1))) cut
passed_other Der w rest after count n full c some r bad cut = c

pub passed_nested : (mode : Mode) (w rest after : List ℕ) (count : ℕ) (full : Bool) → Passed mode w rest count full → 1 ≤ length rest → mode ≡ Cer
    → read_segment mode rest ≡ Some (None, after) → AreCut mode w → ⊥
passed_nested Ber w rest after count full c some e r cut = (let x : ◌≡◌ {A = Mode} Ber Cer = e in cc)
passed_nested Cer w rest after count full c some e r cut = pieces_nested w rest after count full c some r cut
passed_nested Der w rest after count full c some e r cut = c

pub passed_few : (mode : Mode) (w rest : List ℕ) (count : ℕ) (full : Bool) → Passed mode w rest count full → length rest ≡ 0 → mode ≡ Cer → count < 2
    → AreCut mode w → ⊥
passed_few Ber w rest count full c z e few cut = (let x : ◌≡◌ {A = Mode} Ber Cer = e in cc)
passed_few Cer w rest count full c z e few cut = pieces_few w rest count full c z few cut
passed_few Der w rest count full c z e few cut = c

pub passed_cut : (mode : Mode) (w rest : List ℕ) (count : ℕ) (full : Bool) → Passed mode w rest count full → length rest ≡ 0 → (mode ≡ Cer → 2 ≤ count)
    → AreCut mode w
passed_cut Ber w rest count full c z two = counts_cut w rest count c z
passed_cut Cer w rest count full c z two = pieces_cut w rest count full c z (two refl)
passed_cut Der w rest count full c z two = absurd c

-- ---- the table of segments

within_more : (w : List ℕ) (ss : List Segment) (s : Segment) → AreWithin w ss → s.start + s.len ≤ length w → AreWithin w (ss ++ s ∷ [])
within_more w [] s h k = (k, tt)
within_more w (r ∷ ss) s h k = (h.0, within_more w ss s h.1 k)

-- where contents octets stand
contents_at : (w passed header contents after : List ℕ) (s : Segment) → w ≡ passed ++ (header ++ (contents ++ after)) → s.len ≡ length contents
    → s.start ≡ length w - length after - s.len → (segment_at w s ≡ contents) × (s.start + s.len ≤ length w) × (s.start ≡ length passed + length header)
contents_at w passed header contents after s e l b =
    let is : w ≡ (passed ++ header) ++ (contents ++ after) = e ∙ sym (append_assoc passed header (contents ++ after)) in
    let size : length w ≡ length (passed ++ header) + (length contents + length after) =
    ap length is ∙ length-append (passed ++ header) (contents ++ after) ∙ ap (λ z. length (passed ++ header) + z) (length-append contents after) in
    let at : length (passed ++ header) ≡ s.start = omega (arith, size, l, b) in
    let n : length contents ≡ s.start + s.len - s.start = omega (arith, l) in
    let d : drop s.start w ≡ contents ++ after = ap (drop s.start) is ∙ drop_at (passed ++ header) (contents ++ after) s.start at in (
      ap (take (s.start + s.len - s.start)) d
          ∙ take_at contents after (s.start + s.len - s.start) n,
      omega (arith, size, l, at),
      omega (arith, at, length-append passed header),
    )

-- and what stands in front of them
range_at : (w front middle behind : List ℕ) (n start : ℕ) → w ≡ front ++ (middle ++ behind) → length front ≡ n → start ≡ n + length middle
    → slice_range w n start ≡ middle
range_at w front middle behind n start e at size =
    let d : drop n w ≡ middle ++ behind = ap (drop n) e ∙ drop_at front (middle ++ behind) n at in
    ap (take (start - n)) d ∙ take_at middle behind (start - n) (omega (arith, size))

marks_more : (mode : Mode) (ms : List (List ℕ)) (m : List ℕ) → AreMarks mode ms → IsMark mode m → AreMarks mode (ms ++ m ∷ [])
marks_more mode [] m h k = (k, tt)
marks_more mode (l ∷ ms) m h k = (h.0, marks_more mode ms m h.1 k)

joined_more : (ms : List (List ℕ)) (m : List ℕ) → concat (ms ++ m ∷ []) ≡ concat ms ++ m
joined_more ms m = concat-append ms (m ∷ []) ∙ ap (λ z. concat ms ++ z) (append-nil m)

-- where the last of the segments ends, or else n
abbrev pub end_of : ℕ → List Segment → ℕ
end_of n [] = n
end_of n (s ∷ ss) = end_of (s.start + s.len) ss

end_at_last : (n : ℕ) (ss : List Segment) (s : Segment) → end_of n (ss ++ s ∷ []) ≡ s.start + s.len
end_at_last n [] s = refl
end_at_last n (r ∷ ss) s = end_at_last (r.start + r.len) ss s

ordered_more : (mode : Mode) (w : List ℕ) (n : ℕ) (ss : List Segment) (s : Segment) → AreInOrder mode w n ss → IsNext mode w (end_of n ss) s
    → AreInOrder mode w n (ss ++ s ∷ [])
ordered_more mode w n [] s h k = (k, tt)
ordered_more mode w n (r ∷ ss) s h k = (h.0, ordered_more mode w (r.start + r.len) ss s h.1 k)

-- the table of the segments that were passed, and what is left behind them
pub record Fills (mode : Mode) (w rest : List ℕ) (table : List Segment) : Type 0 where
  pub values : Trees
  pub encode : AreEncodings mode values w
  pub left : Items
  pub items : AreItems mode left rest
  pub front : List ℕ
  pub between : List (List ℕ)
  pub marks : AreMarks mode between
  pub split : w ≡ front ++ (concat between ++ rest)
  pub parts : segments_of values ≡ segments_at w table ++ parts_of left
  pub within : AreWithin w table
  pub ordered : AreInOrder mode w 0 table
  pub reached : length front ≡ end_of 0 table

pub fills_all : (mode : Mode) (w : List ℕ) → AreWhole mode w → Fills mode w w []
fills_all mode w h = record {
  values = h.values;
  encode = h.encode;
  left = before h.values no_items;
  items = all_items mode h.values w h.encode;
  front = [];
  between = [];
  marks = tt;
  split = refl;
  parts = sym (all_parts h.values);
  within = tt;
  ordered = tt;
  reached = refl;
}

pub fills_goes : (mode : Mode) (w rest after : List ℕ) (table : List Segment) → Fills mode w rest table → 1 ≤ length rest
    → read_segment mode rest ≡ Some (None, after) → Fills mode w after table
fills_goes mode w rest after table c some r = of_turn (turn mode c.left rest c.items some)
  where
    of_turn : Turn mode c.left rest → Fills mode w after table
    of_turn (passes contents header others more e split two k q) = absurd (let p = some_pair _ _ _ _ (sym q ∙ r) in not_none _ p.0)
    of_turn (goes header others more e f g split mark k q) =
        let p = some_pair _ _ _ _ (sym q ∙ r) in
        let is : rest ≡ header ++ after = split ∙ ap (λ z. header ++ z) p.1 in
        let joined : concat c.between ++ (header ++ after) ≡ concat (c.between ++ header ∷ []) ++ after =
        sym (append_assoc (concat c.between) header after) ∙ ap (λ z. z ++ after) (sym (joined_more c.between header)) in
        record {
          values = c.values;
          encode = c.encode;
          left = more;
          items = subst (AreItems mode more) p.1 k;
          front = c.front;
          between = c.between ++ header ∷ [];
          marks = marks_more mode c.between header c.marks mark;
          split = c.split ∙ ap (λ z. c.front ++ (concat c.between ++ z)) is ∙ ap (λ z. c.front ++ z) joined;
          parts = c.parts ∙ ap (λ z. segments_at w table ++ z) e;
          within = c.within;
          ordered = c.ordered;
          reached = c.reached;
        }
    of_turn (stops q x) = absurd (none_pair _ _ (sym q ∙ r))

pub fills_piece : (mode : Mode) (w rest after : List ℕ) (table : List Segment) (s : Segment) → Fills mode w rest table → 1 ≤ length rest
    → read_segment mode rest ≡ Some (Some s.len, after) → s.start ≡ length w - length after - s.len → Fills mode w after (table ++ s ∷ [])
fills_piece mode w rest after table s c some r b = of_turn (turn mode c.left rest c.items some)
  where
    of_turn : Turn mode c.left rest → Fills mode w after (table ++ s ∷ [])
    of_turn (passes contents header others more e split h k q) =
        let p = some_pair _ _ _ _ (sym q ∙ r) in
        let n : length contents ≡ s.len = number_is _ _ p.0 in
        let is : rest ≡ header ++ (contents ++ after) = split ∙ ap (λ z. header ++ (contents ++ z)) p.1 in
        let passed : List ℕ = c.front ++ concat c.between in
        let there : w ≡ passed ++ (header ++ (contents ++ after)) =
        c.split ∙ ap (λ z. c.front ++ (concat c.between ++ z)) is ∙ sym (append_assoc c.front (concat c.between) (header ++ (contents ++ after))) in
        let behind : w ≡ c.front ++ ((concat c.between ++ header) ++ (contents ++ after)) =
        c.split ∙ ap (λ z. c.front ++ (concat c.between ++ z)) is
        ∙ ap (λ z. c.front ++ z) (sym (append_assoc (concat c.between) header (contents ++ after))) in
        let at = contents_at w passed header contents after s there (sym n) b in
        let from : s.start ≡ end_of 0 table + length (concat c.between ++ header) =
        omega (arith, at.2, c.reached, length-append c.front (concat c.between), length-append (concat c.between) header) in
        let own : IsHeader mode octet_string_tag false (Definite s.len) header = subst (λ z. IsHeader mode octet_string_tag false (Definite z) header) n h in
        let t : segments_at w (table ++ s ∷ []) ≡ segments_at w table ++ contents ∷ [] =
        map-append (segment_at w) table (s ∷ []) ∙ ap (λ z. segments_at w table ++ z ∷ []) at.0 in
        record {
          values = c.values;
          encode = c.encode;
          left = more;
          items = subst (AreItems mode more) p.1 k;
          front = passed ++ (header ++ contents);
          between = [];
          marks = tt;
          split = there ∙ ap (λ z. passed ++ z) (sym (append_assoc header contents after)) ∙ sym (append_assoc passed (header ++ contents) after);
          parts = c.parts ∙ ap (λ z. segments_at w table ++ parts_of z) e ∙ sym (append_assoc (segments_at w table) (contents ∷ []) (parts_of more))
              ∙ ap (λ z. z ++ parts_of more) (sym t);
          within = within_more w table s c.within at.1;
          ordered = ordered_more mode w 0 table s c.ordered (record {
            marks = c.between;
            header = header;
            are_marks = c.marks;
            is_header = own;
            is = range_at w c.front (concat c.between ++ header) (contents ++ after) (end_of 0 table) s.start behind c.reached from;
          });
          reached = omega (arith, end_at_last 0 table s, at.2, n, length-append passed (header ++ contents), length-append header contents);
        }
    of_turn (goes header others more e f g split two k q) = absurd (let p = some_pair _ _ _ _ (sym r ∙ q) in not_none _ p.0)
    of_turn (stops q x) = absurd (none_pair _ _ (sym q ∙ r))

pub fills_table : (mode : Mode) (w rest : List ℕ) (table : List Segment) → Fills mode w rest table → length rest ≡ 0 → AreCut mode w → IsTable mode w table
fills_table mode w rest table c e cut =
    let z = none_left mode c.left rest c.items e in
    let same : cut.1.values ≡ c.values = one_list mode cut.1.values c.values w cut.1.encode c.encode in
    record {
      within = c.within;
      ordered = c.ordered;
      segmented =
          record {
            values = c.values;
            encode = c.encode;
            shape = subst (AreSegmentsIn mode) same cut.1.shape;
            hold =
                c.parts ∙ ap (λ x. segments_at w table ++ parts_of x) z ∙ append-nil (segments_at w table);
          };
    }

-- ---- octets have one table

mark_read : (mode : Mode) (m x : List ℕ) → IsMark mode m → read_segment mode (m ++ x) ≡ Some (None, x)
mark_read mode m x (inl h) = segment_at_header mode octet_string_tag true h.0 m x h.1 refl
mark_read mode m x (inr e) = segment_at_end mode m x e

piece_in_front : (mode : Mode) (h y : List ℕ) (n : ℕ) → IsHeader mode octet_string_tag false (Definite n) h → n ≤ length y
    → read_segment mode (h ++ y) ≡ Some (Some n, drop n y)
piece_in_front mode h y n d l = segment_at_header mode octet_string_tag false (Definite n) h y d refl ∙ rw (le-ltb (length y) n l) refl

-- marks and a header are passed in one way
one_way : (mode : Mode) (ms ls : List (List ℕ)) (h k y z : List ℕ) (a b : ℕ) → AreMarks mode ms → AreMarks mode ls
    → IsHeader mode octet_string_tag false (Definite a) h → IsHeader mode octet_string_tag false (Definite b) k
    → a ≤ length y → b ≤ length z → concat ms ++ (h ++ y) ≡ concat ls ++ (k ++ z) → (a ≡ b) × (length y ≡ length z)
one_way mode [] [] h k y z a b p q d f l m e =
    let s = some_pair _ _ _ _ (sym (piece_in_front mode h y a d l) ∙ ap (read_segment mode) e ∙ piece_in_front mode k z b f m) in
    let same : a ≡ b = number_is a b s.0 in
    (same, omega (arith, same, l, m, ap length s.1, length-drop a y, length-drop b z))
one_way mode [] (r ∷ ls) h k y z a b p q d f l m e = absurd (
    let s = some_pair _ _ _ _
    (sym (piece_in_front mode h y a d l) ∙ ap (read_segment mode) (e ∙ append_assoc r (concat ls) (k ++ z))
    ∙ mark_read mode r (concat ls ++ (k ++ z)) q.0) in
    not_none a s.0)
one_way mode (t ∷ ms) [] h k y z a b p q d f l m e = absurd (
    let s = some_pair _ _ _ _
    (sym (piece_in_front mode k z b f m) ∙ ap (read_segment mode) (sym e ∙ append_assoc t (concat ms) (h ++ y))
    ∙ mark_read mode t (concat ms ++ (h ++ y)) p.0) in
    not_none b s.0)
one_way mode (t ∷ ms) (r ∷ ls) h k y z a b p q d f l m e =
    let same = sym (append_assoc t (concat ms) (h ++ y)) ∙ e ∙ append_assoc r (concat ls) (k ++ z) in
    let s = some_pair _ _ _ _
    (sym (mark_read mode t (concat ms ++ (h ++ y)) p.0) ∙ ap (read_segment mode) same ∙ mark_read mode r (concat ls ++ (k ++ z)) q.0) in
    one_way mode ms ls h k y z a b p.1 q.1 d f l m s.1

module _ (mode : Mode) (w : List ℕ) (n : ℕ) where
  -- what stands behind the header of the next segment
  behind_next : Segment → List ℕ
  behind_next s = drop (s.start - n) (drop n w)

  next_there : (s : Segment) (c : IsNext mode w n s) → drop n w ≡ concat c.marks ++ (c.header ++ behind_next s)
  unfolding behind_next
  next_there s c = sym (take-append-drop (s.start - n) (drop n w)) ∙ ap (λ z. z ++ drop (s.start - n) (drop n w)) c.is
      ∙ append_assoc (concat c.marks) c.header (drop (s.start - n) (drop n w))

  next_starts : (s : Segment) → IsNext mode w n s → n ≤ s.start
  next_starts s c =
      let two = header_size mode octet_string_tag false (Definite s.len) c.header c.is_header in
      omega (arith, two, ap length c.is, length-append (concat c.marks) c.header, length-take (s.start - n) (drop n w))

  next_behind : (s : Segment) → IsNext mode w n s → length (behind_next s) ≡ length w - s.start
  unfolding behind_next
  next_behind s c = (let l = next_starts s c in omega (arith, l, length-drop (s.start - n) (drop n w), length-drop n w))

  one_next : (s r : Segment) → IsNext mode w n s → IsNext mode w n r → s.start + s.len ≤ length w → r.start + r.len ≤ length w
      → (s.start ≡ r.start) × (s.len ≡ r.len)
  one_next s r c d l m =
      let b = next_behind s c in
      let e = next_behind r d in
      let same = one_way mode c.marks d.marks c.header d.header (behind_next s) (behind_next r) s.len r.len c.are_marks d.are_marks c.is_header d.is_header
      (omega (arith, b, l)) (omega (arith, e, m)) (sym (next_there s c) ∙ next_there r d) in
      (omega (arith, same.1, b, e, l, m), same.0)

same_segment : (s r : Segment) → s.start ≡ r.start → s.len ≡ r.len → s ≡ r
same_segment s r a b = rw (a, b) refl

one_order : (mode : Mode) (w : List ℕ) (n : ℕ) (ss rs : List Segment) → AreInOrder mode w n ss → AreInOrder mode w n rs → AreWithin w ss → AreWithin w rs
    → length ss ≡ length rs → ss ≡ rs
one_order mode w n [] [] p q h k e = refl
one_order mode w n [] (r ∷ rs) p q h k e = absurd (omega (arith, e))
one_order mode w n (s ∷ ss) [] p q h k e = absurd (omega (arith, e))
one_order mode w n (s ∷ ss) (r ∷ rs) p q h k e =
    let is = one_next mode w n s r p.0 q.0 h.0 k.0 in
    let same : s ≡ r = same_segment s r is.0 is.1 in
    let others : AreInOrder mode w (s.start + s.len) rs = subst (λ z. AreInOrder mode w (z.start + z.len) rs) (sym same) q.1 in
    ap₂ (λ x y. x ∷ y) same (one_order mode w (s.start + s.len) ss rs p.1 others h.1 k.1 (omega (arith, e)))

-- so a table that is one tells exactly where the segments stand
pub one_table : (mode : Mode) (w : List ℕ) (ss rs : List Segment) → IsTable mode w ss → IsTable mode w rs → ss ≡ rs
one_table mode w ss rs t u =
    let values = one_list mode t.segmented.values u.segmented.values w t.segmented.encode u.segmented.encode in
    let held = sym t.segmented.hold ∙ ap segments_of values ∙ u.segmented.hold in
    one_order mode w 0 ss rs t.ordered u.ordered t.within u.within (sym (length-map ss (segment_at w)) ∙ ap length held ∙ length-map rs (segment_at w))

-- The value that is read comes next in the octets.
use Rattle.std.proofs.Common.{◌≡◌, ◌≢◌, ℕ, zero, suc, ◌+◌, ◌<◌, ◌≤◌, Bool, true, false, cond, ltb, List, [], ◌∷◌, ◌++◌}
use Rattle.std.proofs.Common.{length, get_or, take, drop, Option, Some, None, option_map, option_and_then, refl, sym, ap}
use Rattle.std.proofs.Common.{subst, ◌∙◌, append_assoc, append-nil, arith, inl, inr}
use Rattle.std.proofs.lemmas.Bool.{ltb-false}
use Rattle.std.proofs.lemmas.List.{take-append-drop, length-take-le, get_or-append-add}
use Rattle.bcder.specs.declared.mode.Mode.{Mode}
use Rattle.bcder.specs.declared.length.Length.{Length}
use Rattle.bcder.specs.declared.length.Length.TheVariants.{Definite, Indefinite}
use Rattle.bcder.specs.x690.Identifier.{AreOctets, Class, universal, application, context_specific, private, Tag, IsTag}
use Rattle.bcder.specs.x690.Identifier.{IsValueTag, end_of_contents, identifier, is_value_tag}
use Rattle.bcder.specs.x690.Length.{IsEndOfContents}
use Rattle.bcder.specs.x690.Tree.{Tree, primitive, constructed, Trees, ◌∷ₜ◌}
use Rattle.bcder.specs.x690.Encoding.{may_have, IsHeader, IsEncoding, AreEncodings, Header}
use Rattle.bcder.specs.steps.Reading.{Inside, read_length, read_identifier, read_header, read_contents, read_value}
use Rattle.bcder.specs.steps.Reading.{at_end, if_not_at_end, read_trees, read_list, read_tree}
use Rattle.bcder.specs.laws.Complete.{reads_all, trees_complete}
use Rattle.bcder.specs.laws.Sound.{mapped, chained, passed, not_refused, some_inj, none_is, AreOctets-take, IsIdentified}
use Rattle.bcder.specs.laws.Sound.{identifier_sound, TellsLength, length_sound, IsEnded, end_sound}

pub record Stands (mode : Mode) (t : Tree) (w x : List ℕ) : Type 0 where
  pub front : List ℕ
  pub is_encoding : IsEncoding mode t front
  pub is : w ≡ front ++ x

-- a list of values, followed by the end marker
pub record StandMarked (mode : Mode) (ts : Trees) (w x : List ℕ) : Type 0 where
  pub front : List ℕ
  pub marker : List ℕ
  pub are_encodings : AreEncodings mode ts front
  pub is_end : IsEndOfContents mode marker
  pub is : w ≡ front ++ (marker ++ x)

-- what is known of the reader of what is inside a value
pub record InsideSound (mode : Mode) (inside : Inside) : Type 0 where
  pub whole : (w : List ℕ) (ts : Trees) (x : List ℕ) → AreOctets w → inside false w ≡ Some (ts, x) → AreEncodings mode ts w
  pub marked : (w : List ℕ) (ts : Trees) (x : List ℕ) → AreOctets w → inside true w ≡ Some (ts, x) → StandMarked mode ts w x

pub AreOctets-after : (u w v : List ℕ) → w ≡ u ++ v → AreOctets w → AreOctets v
AreOctets-after u w v e o i =
    subst (λ (k : ℕ). k < 256) (ap (λ y. get_or y (length u + i) 0) e ∙ get_or-append-add u v i 0) (o (length u + i))

by_parts : (c : Class) (n : ℕ) → is_value_tag (record { class = c; number = n }) ≡ true
    → (record { class = c; number = n } ≢ end_of_contents)
by_parts universal zero e h = absurd cc
by_parts universal (suc n) e h = let p : suc n ≡ 0 = ap (λ (t : Tag). t.number) h in omega arith
by_parts application n e h = let p : application ≡ universal = ap (λ (t : Tag). t.class) h in cc
by_parts context_specific n e h = let p : context_specific ≡ universal = ap (λ (t : Tag). t.class) h in cc
by_parts private n e h = let p : private ≡ universal = ap (λ (t : Tag). t.class) h in cc

is_value : (t : Tag) → IsTag t → is_value_tag t ≡ true → IsValueTag t
is_value t fits e = record { fits = fits; no_end = by_parts t.class t.number e }

-- ---- headers

pub record Headed (mode : Mode) (h : Header) (w x : List ℕ) : Type 0 where
  pub octets : List ℕ
  pub is_header : IsHeader mode h.tag h.form h.len octets
  pub is : w ≡ octets ++ x

abbrev SaysHeader : Mode → List ℕ → Header × List ℕ → Type 0
SaysHeader mode w r = Headed mode r.0 w r.1

headed : (mode : Mode) (t : Tag) (f : Bool) (len : Length) (w y z : List ℕ) → IsIdentified w t f y → is_value_tag t ≡ true
    → may_have mode f len ≡ true → TellsLength mode y len z → Headed mode (record { tag = t; form = f; len = len }) w z
headed mode t f len w y z i v allowed l =
    record {
      octets = identifier t f ++ l.octets;
      is_header = record { is_value_tag = is_value t i.fits v; allowed = allowed; length_octets = l.octets; tells = l.tells; is = refl };
      is = i.is ∙ ap (λ x. identifier t f ++ x) l.is ∙ sym (append_assoc (identifier t f) l.octets z);
    }

pub header_sound : (mode : Mode) (w : List ℕ) (r : Header × List ℕ) → AreOctets w → read_header mode w ≡ Some r → Headed mode r.0 w r.1
unfolding read_header
header_sound mode w r o e =
    let a = chained (λ i. cond (is_value_tag i.0) (option_and_then (λ l. cond (may_have mode i.1 l.0)
    (Some (record { tag = i.0; form = i.1; len = l.0 }, l.1)) None) (read_length mode i.2)) None) (read_identifier w) r e in
    let p = passed (is_value_tag a.0.0) _ _ a.2 in
    let b = chained (λ l. cond (may_have mode a.0.1 l.0) (Some (record { tag = a.0.0; form = a.0.1; len = l.0 }, l.1)) None)
    (read_length mode a.0.2) r p.1 in
    let q = passed (may_have mode a.0.1 b.0.0) _ _ b.2 in
    let i = identifier_sound w a.0.0 a.0.1 a.0.2 o a.1 in
    let l = length_sound mode a.0.2 b.0 (AreOctets-after (identifier a.0.0 a.0.1) w a.0.2 i.is o) b.1 in
    subst (SaysHeader mode w) (some_inj _ _ q.1) (headed mode a.0.0 a.0.1 b.0.0 w a.0.2 b.0.1 i p.0 q.0 l)

-- ---- values

-- a header and as many contents octets as it announces
pub primitive_encodes : (mode : Mode) (t : Tag) (h z : List ℕ) (n : ℕ) → AreOctets z → IsHeader mode t false (Definite n) h → n ≤ length z
    → IsEncoding mode (primitive t (take n z)) (h ++ take n z)
primitive_encodes mode t h z n o is_header within =
    (AreOctets-take n z o, record { header = h; is_header = rw (length-take-le n z within) is_header; is = refl })

primitive_stands : (mode : Mode) (t : Tag) (h z : List ℕ) (n : ℕ) → AreOctets z → IsHeader mode t false (Definite n) h → n ≤ length z
    → Stands mode (primitive t (take n z)) (h ++ z) (drop n z)
primitive_stands mode t h z n o is_header within =
    record {
      front = h ++ take n z;
      is_encoding = primitive_encodes mode t h z n o is_header within;
      is = ap (λ y. h ++ y) (sym (take-append-drop n z)) ∙ sym (append_assoc h (take n z) (drop n z));
    }

definite_stands : (mode : Mode) (t : Tag) (ts : Trees) (h z : List ℕ) (n : ℕ) → IsHeader mode t true (Definite n) h → n ≤ length z
    → AreEncodings mode ts (take n z) → Stands mode (constructed t ts) (h ++ z) (drop n z)
definite_stands mode t ts h z n is_header within inner =
    record {
      front = h ++ take n z;
      is_encoding = (take n z, inner, inl (record { header = h; is_header = rw (length-take-le n z within) is_header; is = refl }));
      is = ap (λ y. h ++ y) (sym (take-append-drop n z)) ∙ sym (append_assoc h (take n z) (drop n z));
    }

indefinite_stands : (mode : Mode) (t : Tag) (ts : Trees) (h z x : List ℕ) → IsHeader mode t true Indefinite h → StandMarked mode ts z x
    → Stands mode (constructed t ts) (h ++ z) x
indefinite_stands mode t ts h z x is_header m =
    record {
      front = h ++ (m.front ++ m.marker);
      is_encoding =
          (m.front, m.are_encodings, inr (record { header = h; is_header = is_header; end = m.marker; is_end = m.is_end; is = refl }));
      is = ap (λ y. h ++ y) (m.is ∙ sym (append_assoc m.front m.marker x)) ∙ sym (append_assoc h (m.front ++ m.marker) x);
    }

-- the result of a reader, and what it says
abbrev Says : Mode → List ℕ → Tree × List ℕ → Type 0
Says mode w r = Stands mode r.0 w r.1

contents_sound : (mode : Mode) (inside : Inside) → InsideSound mode inside → (t : Tag) (f : Bool) (len : Length) (h z : List ℕ)
    (r : Tree × List ℕ) → AreOctets z → IsHeader mode t f len h → read_contents inside t f len z ≡ Some r → Says mode (h ++ z) r
contents_sound mode inside s t false Indefinite h z r o d e = absurd (none_is _ e)
contents_sound mode inside s t false (Definite n) h z r o d e =
    let p = not_refused (ltb (length z) n) _ _ e in
    subst (Says mode (h ++ z)) (some_inj _ _ p.1) (primitive_stands mode t h z n o d (ltb-false _ _ p.0))
contents_sound mode inside s t true Indefinite h z r o d e =
    let m = mapped (λ (ts : Trees × List ℕ). (constructed t ts.0, ts.1)) (inside true z) r e in
    subst (Says mode (h ++ z)) m.2 (indefinite_stands mode t m.0.0 h z m.0.1 d (s.marked z m.0.0 m.0.1 o m.1))
contents_sound mode inside s t true (Definite n) h z r o d e =
    let q = not_refused (ltb (length z) n) _ _ e in
    let m = mapped (λ (ts : Trees × List ℕ). (constructed t ts.0, drop n z)) (inside false (take n z)) r q.1 in
    subst (Says mode (h ++ z)) m.2
    (definite_stands mode t m.0.0 h z n d (ltb-false _ _ q.0) (s.whole (take n z) m.0.0 m.0.1 (AreOctets-take n z o) m.1))

pub value_sound : (mode : Mode) (inside : Inside) → InsideSound mode inside → (w : List ℕ) (r : Tree × List ℕ) → AreOctets w
    → read_value mode inside w ≡ Some r → Stands mode r.0 w r.1
unfolding read_value
value_sound mode inside s w r o e =
    let a = chained (λ h. read_contents inside h.0.tag h.0.form h.0.len h.1) (read_header mode w) r e in
    let h = header_sound mode w a.0 o a.1 in
    subst (λ v. Says mode v r) (sym h.is) (contents_sound mode inside s a.0.0.tag a.0.0.form a.0.0.len h.octets a.0.1 r
    (AreOctets-after h.octets w a.0.1 h.is o) h.is_header a.2)

-- a list of values, and what follows their end
pub record StandBefore (mode : Mode) (marked : Bool) (ts : Trees) (w x : List ℕ) : Type 0 where
  pub front : List ℕ
  pub tail : List ℕ
  pub are_encodings : AreEncodings mode ts front
  pub is_end : at_end mode marked tail ≡ Some x
  pub is : w ≡ front ++ tail

abbrev pub SaysAll : Mode → Bool → List ℕ → Trees × List ℕ → Type 0
SaysAll mode marked w r = StandBefore mode marked r.0 w r.1

all_end : (mode : Mode) (tail x : List ℕ) → at_end mode false tail ≡ Some x → tail ≡ []
unfolding at_end
all_end mode [] x e = refl
all_end mode (b ∷ tail) x e = absurd (none_is _ e)

marker_end : (mode : Mode) (tail x : List ℕ) → AreOctets tail → at_end mode true tail ≡ Some x → IsEnded mode tail x
unfolding at_end
marker_end mode tail x o e = end_sound mode tail x o e

from_before : (mode : Mode) (inside : Inside)
    → ((marked : Bool) (w : List ℕ) (r : Trees × List ℕ) → AreOctets w → inside marked w ≡ Some r → SaysAll mode marked w r)
    → InsideSound mode inside
from_before mode inside h = record {
  whole = λ w ts x o e.
      let b = h false w (ts, x) o e in
      subst (AreEncodings mode ts)
      (sym (b.is ∙ ap (λ y. b.front ++ y) (all_end mode b.tail x b.is_end) ∙ append-nil b.front)) b.are_encodings;
  marked = λ w ts x o e.
      let b = h true w (ts, x) o e in
      let m = marker_end mode b.tail x (AreOctets-after b.front w b.tail b.is o) b.is_end in
      record {
        front = b.front;
        marker = m.marker;
        are_encodings = b.are_encodings;
        is_end = m.is_end;
        is = b.is ∙ ap (λ y. b.front ++ y) m.is;
      };
}

one_before : (mode : Mode) (marked : Bool) (t : Tree) (ts : Trees) (w y x : List ℕ) → Stands mode t w y → StandBefore mode marked ts y x
    → StandBefore mode marked (t ∷ₜ ts) w x
one_before mode marked t ts w y x s b =
    record {
      front = s.front ++ b.front;
      tail = b.tail;
      are_encodings = (s.front, b.front, s.is_encoding, b.are_encodings, refl);
      is_end = b.is_end;
      is = s.is ∙ ap (λ v. s.front ++ v) b.is ∙ sym (append_assoc s.front b.front b.tail);
    }

step : (mode : Mode) (inside : Inside) (marked : Bool) (w : List ℕ) (r : Trees × List ℕ) (o : Option (List ℕ)) → at_end mode marked w ≡ o
    → AreOctets w → InsideSound mode inside
    → ((w : List ℕ) (r : Trees × List ℕ) → AreOctets w → inside marked w ≡ Some r → SaysAll mode marked w r)
    → if_not_at_end o (option_and_then (λ t. option_map (λ ts. (t.0 ∷ₜ ts.0, ts.1)) (inside marked t.1)) (read_value mode inside w))
    ≡ Some r → SaysAll mode marked w r
step mode inside marked w r (Some x) at o s more e =
    subst (SaysAll mode marked w) (some_inj _ _ e) (record { front = []; tail = w; are_encodings = refl; is_end = at; is = refl })
step mode inside marked w r None at o s more e =
    let a = chained (λ t. option_map (λ ts. (t.0 ∷ₜ ts.0, ts.1)) (inside marked t.1)) (read_value mode inside w) r e in
    let m = mapped (λ (ts : Trees × List ℕ). (a.0.0 ∷ₜ ts.0, ts.1)) (inside marked a.0.1) r a.2 in
    let t = value_sound mode inside s w a.0 o a.1 in
    subst (SaysAll mode marked w) m.2
    (one_before mode marked a.0.0 m.0.0 w a.0.1 m.0.1 t (more a.0.1 m.0 (AreOctets-after t.front w a.0.1 t.is o) m.1))

pub before : (n : ℕ) (mode : Mode) (marked : Bool) (w : List ℕ) (r : Trees × List ℕ) → AreOctets w → read_trees n mode marked w ≡ Some r
    → SaysAll mode marked w r
unfolding read_trees
before zero mode marked w r o e = absurd (none_is _ e)
before (suc n) mode marked w r o e =
    step mode (read_trees n mode) marked w r _ refl o (from_before mode _ (before n mode)) (before n mode marked) e

pub trees_sound : (n : ℕ) (mode : Mode) → InsideSound mode (read_trees n mode)
trees_sound n mode = from_before mode _ (before n mode)

pub tree_sound : (mode : Mode) (w : List ℕ) (r : Tree × List ℕ) → AreOctets w → read_tree mode w ≡ Some r → Stands mode r.0 w r.1
unfolding read_tree
tree_sound mode w r o e = value_sound mode _ (trees_sound (length w) mode) w r o e

-- ---- what the grammar says is what reading finds

pub list_sound : (mode : Mode) (w : List ℕ) (ts : Trees) (x : List ℕ) → AreOctets w → read_list mode false w ≡ Some (ts, x)
    → AreEncodings mode ts w
unfolding read_list
list_sound mode w ts x o e = (trees_sound (suc (length w)) mode).whole w ts x o e

pub list_complete : (mode : Mode) (w : List ℕ) (ts : Trees) → AreEncodings mode ts w → read_list mode false w ≡ Some (ts, [])
unfolding read_list
list_complete mode w ts h = reads_all _ mode ts w (trees_complete (suc (length w)) mode ts w h (omega arith))

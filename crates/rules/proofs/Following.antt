-- How the values around the octets to come are followed.
use Rattle.std.proofs.Common.{◌≡◌, ◌≢◌, ◌⊎◌, ℕ, ◌+◌, ◌<◌, Bool, true, false, List, [], ◌∷◌, ◌++◌, length, Option, Some, None}
use Rattle.std.proofs.Common.{zero, suc, inl, inr, refl, sym, ap, subst, ◌∙◌, append_assoc, append-nil, arith}
use Rattle.std.specs.Prelude.{All, is_some, option_map}
use Rattle.std.proofs.lemmas.List.{length-append}
use Rattle.std.proofs.lemmas.List.Elements.{All-append}
use denote.Ref.{Bor}
use Rattle.bcder.specs.declared.mode.Mode.{Mode}
use Rattle.bcder.specs.declared.mode.Mode.TheVariants.{Ber}
use Rattle.bcder.specs.x690.Encoding.{IsHeader, IsEncoding, AreEncodings}
use Rattle.bcder.specs.x690.Identifier.{AreOctets, Tag}
use Rattle.bcder.specs.x690.Tree.{◌+++◌, Tree, primitive, constructed, Trees, no_trees, ◌∷ₜ◌}
use Rattle.bcder.specs.calls.Content.{length_of}
use Rattle.bcder.specs.calls.Valued.{tag_of}
use Rattle.bcder.specs.laws.Canonical.{one_spelling}
use Rattle.bcder.specs.laws.Lists.{AreEncodings-join, AreEncodings-one}
use Rattle.bcder.specs.laws.Sound.{some_inj}
use Rattle.encodings.specs.Open.{Open, Closes, Step}
use Rattle.encodings.specs.Open as opens
use Rattle.encodings.specs.Pieces.{Piece, begins}
use Rattle.encodings.specs.Sets.{place, is_set, IsNotAfter, MayPrecede}
use Rattle.encodings.specs.Sorting.{behind_of, open_length}
use Rattle.encodings.proofs.Walking.{must_be}
use Rattle.rules.specs.Around.{Adds, AddsBefore, AreAround, BreaksFit, Fits, Follows, Inside, IsLast, KeepsOrder, Leaves, TellsEnd, TellsFit}
use Rattle.rules.specs.Around.{fits, misfits, whole, in_vain, element_outline, ended_outline, last_unused, met_meant, with_last}
use Rattle.rules.specs.Around as around
use Rattle.rules.specs.Begun.{BeginsValue, of_definite, of_indefinite}
use Rattle.rules.specs.Broken.{Breaks, BreaksCharacters, BreaksPlace, Holds, characters, time_form}
use Rattle.rules.specs.Characters.{HasCharacters}
use Rattle.rules.specs.declared.kind.Kind.{Kind}
use Rattle.rules.specs.declared.kind.Kind.TheVariants as k
use Rattle.bcder.specs.x690.OctetString.{flat, segments, segments_of}
use Rattle.std.specs.List.{concat}
use Rattle.std.proofs.lemmas.List.Folds.{concat-append}
use Rattle.std.proofs.lemmas.List.{take_at, drop_at}
use Rattle.std.specs.Prelude.{take, drop, ◌||◌}
use Rattle.rules.specs.Placed.{MayEndBehind, HasText}
use Rattle.rules.specs.Around.{TellsText, spells, misspells, chosen, gathers_in, begun_value}
use Rattle.rules.specs.Broken as broken
use Rattle.rules.specs.Comes.{Comes}
use Rattle.rules.specs.Passes.{IsMet, of_value, of_beginning, of_end}
use Rattle.rules.specs.Kinds.{is_string_kind, kind_of}
use Rattle.rules.specs.Placed.{Frame, Outline, added, step, are_several, last_of, outline, unused_of_last, InOrder, MayCome, MayComeIn, MayEnd, IsPlaced}
use Rattle.rules.specs.Placed.{HasSegmentTag, IsBehindWhole, IsCut}
use Rattle.rules.specs.declared.around.Element.{Element}
use Rattle.rules.specs.declared.around.Enclosing.{Enclosing}
use Rattle.rules.specs.declared.around.Met.{Met}
use Rattle.rules.specs.declared.around.Met.TheVariants as m
use Rattle.rules.specs.declared.rule.Breach.{Breach}
use Rattle.rules.specs.declared.rule.Rule.{Rule}
use Rattle.rules.specs.declared.rule.Rule.TheVariants as r
use Rattle.rules.proofs.Placing.{last_added, several_added, unused_of_none, unused_of_some}

first_same : (o p : Open) (os ps : List Open) → o ∷ os ≡ p ∷ ps → o ≡ p
first_same o p os ps e = cc

others_same : (o p : Open) (os ps : List Open) → o ∷ os ≡ p ∷ ps → os ≡ ps
others_same o p os ps e = cc

All-one : {X : Type 0} (P : X → Type 0) (x : X) → P x → All P (x ∷ [])
All-one P x p zero d l = p
All-one P x p (suc k) d l = absurd (omega arith)

-- ---- what fits in memory

-- the place in the order of tags of what has the outline of a value
place_same : (e : Element) (u : Tree) → element_outline e ≡ outline u → e.place ≡ place (tag_of u)
place_same e u p = ap (λ (o : Outline). o.place) p

module _ (mode : Mode) where
  some_last : (last : Option Element) (ts : Trees) → IsLast mode last ts → is_some last ≡ is_some (last_of ts)
  some_last None ts i = sym (ap is_some i)
  some_last (Some e) ts i = sym (ap is_some i.1)

  last_outline : (last : Option Element) (ts : Trees) → IsLast mode last ts → option_map element_outline last ≡ option_map outline (last_of ts)
  last_outline None ts i = sym (ap (option_map outline) i)
  last_outline (Some e) ts i = ap (λ (o : Outline). Some o) i.2 ∙ sym (ap (option_map outline) i.1)

  unused_same : (last : Option Element) (ts : Trees) → IsLast mode last ts → last_unused last ≡ unused_of_last ts
  unused_same None ts i = sym (unused_of_none ts i)
  unused_same (Some e) ts i = ap (λ (o : Outline). o.unused) i.2 ∙ sym (unused_of_some ts i.0 i.1)

module _ (mode : Mode) (u : Tree) (e : Element) (p : element_outline e ≡ outline u) (d : IsEncoding mode u e.octets.now) where
  -- of two values, by their octets
  precedes : (w : Tree) (k : Element) → element_outline k ≡ outline w → IsEncoding mode w k.octets.now → mode ≢ Ber
      → (k.place < e.place) ⊎ ((k.place ≡ e.place) × IsNotAfter k.octets.now e.octets.now) → MayPrecede mode w u
  precedes w k q c n h = elim h [
    | inl l ↦ inl (omega (arith, place_same e u p, place_same k w q, l))
    | inr o ↦ inr (
      sym (place_same k w q) ∙ o.0 ∙ place_same e u p,
      λ a b x y.
          subst (λ z. IsNotAfter z b) (one_spelling mode n w k.octets.now a c x)
          (subst (λ z. IsNotAfter k.octets.now z) (one_spelling mode n u e.octets.now b d y) o.1),
    )
  ]

  preceded : (w : Tree) (k : Element) → element_outline k ≡ outline w → IsEncoding mode w k.octets.now → MayPrecede mode w u
      → (k.place < e.place) ⊎ ((k.place ≡ e.place) × IsNotAfter k.octets.now e.octets.now)
  preceded w k q c h = elim h [
    | inl l ↦ inl (omega (arith, place_same e u p, place_same k w q, l))
    | inr o ↦ inr (place_same k w q ∙ o.0 ∙ sym (place_same e u p), o.1 k.octets.now e.octets.now c d)
  ]

  module _ (t : Tag) (sorts : Bool) (s : sorts ≡ is_set t) where
    in_order : (last : Option Element) (ts : Trees) → IsLast mode last ts → KeepsOrder mode sorts last e → InOrder mode t (last_of ts) u
    in_order None ts i h = subst (λ z. InOrder mode t z u) (sym i) tt
    in_order (Some k) ts i h =
        subst (λ z. InOrder mode t z u) (sym i.1) (λ n b. precedes i.0 k i.2 i.3 n (h n (s ∙ b)))

    keeps_order : (last : Option Element) (ts : Trees) → IsLast mode last ts → InOrder mode t (last_of ts) u → KeepsOrder mode sorts last e
    keeps_order None ts i h = tt
    keeps_order (Some k) ts i h = λ n b. preceded i.0 k i.2 i.3 (subst (λ z. InOrder mode t z u) i.1 h n (sym s ∙ b))

  module _ (t : Tag) (v : Enclosing) (s : v.sorts ≡ is_set t) (k : v.kind ≡ kind_of t) (ts : Trees) (i : IsLast mode v.last ts) where
    tag_same : HasSegmentTag v.kind (element_outline e) ≡ HasSegmentTag (kind_of t) (outline u)
    tag_same = ap (λ z. HasSegmentTag z (element_outline e)) k ∙ ap (HasSegmentTag (kind_of t)) p

    behind_same : IsBehindWhole v.kind (option_map element_outline v.last) ≡ IsBehindWhole (kind_of t) (option_map outline (last_of ts))
    behind_same =
        ap (λ z. IsBehindWhole z (option_map element_outline v.last)) k ∙ ap (IsBehindWhole (kind_of t)) (last_outline mode v.last ts i)

    cut_same : IsCut mode v.kind (option_map element_outline v.last) (element_outline e)
        ≡ IsCut mode (kind_of t) (option_map outline (last_of ts)) (outline u)
    cut_same =
        ap (λ z. IsCut mode z (option_map element_outline v.last) (element_outline e)) k
        ∙ ap (λ z. IsCut mode (kind_of t) z (element_outline e)) (last_outline mode v.last ts i)
        ∙ ap (IsCut mode (kind_of t) (option_map outline (last_of ts))) p

    may_come : Fits mode v e → MayCome mode t (last_of ts) u
    may_come f = record {
      order = in_order t v.sorts s v.last ts i f.order;
      tag = subst (λ z. z) tag_same f.tag;
      unused = subst (λ z. z) behind_same f.unused;
      cut = subst (λ z. z) cut_same f.cut;
    }

    breaks_place : (rule : Rule) → BreaksFit mode v e rule → BreaksPlace mode t (last_of ts) u rule
    breaks_place rule (around.out_of_order g n) = broken.out_of_order g (λ h. n (keeps_order t v.sorts s v.last ts i h))
    breaks_place rule (around.other_tag g n) = broken.other_tag (g ∙ ap r.SegmentTag k) (λ h. n (subst (λ z. z) (sym tag_same) h))
    breaks_place rule (around.behind_unused g n) = broken.behind_unused g (λ h. n (subst (λ z. z) (sym behind_same) h))
    breaks_place rule (around.other_size g n) = broken.other_size g (λ h. n (subst (λ z. z) (sym cut_same) h))

not_come : (mode : Mode) (t : Tag) (last : Option Tree) (u : Tree) (rule : Rule) → BreaksPlace mode t last u rule → MayCome mode t last u → ⊥
not_come mode t last u rule (broken.out_of_order g n) m = n m.order
not_come mode t last u rule (broken.other_tag g n) m = n m.tag
not_come mode t last u rule (broken.behind_unused g n) m = n m.unused
not_come mode t last u rule (broken.other_size g n) m = n m.cut

-- ---- what is gathered

or_true : (a b : Bool) → b ≡ true → (a || b) ≡ true
or_true true b e = refl
or_true false b e = e

either_more : (r : Bool) (before gathered more text : List ℕ) → text ≡ before ++ gathered
    → (chosen r (text ++ more) (text)) ≡ before ++ (chosen r (gathered ++ more) (gathered))
either_more true before gathered more text e = ap (λ z. z ++ more) e ∙ append_assoc before gathered more
either_more false before gathered more text e = e

joined_more : (ts : Trees) (u : Tree) → concat (segments_of (ts +++ (u ∷ₜ no_trees))) ≡ concat (segments_of ts) ++ flat u
joined_more no_trees u = ap concat (append-nil (segments u))
joined_more (t ∷ₜ ts) u =
    concat-append (segments t) (segments_of (ts +++ (u ∷ₜ no_trees))) ∙ ap (λ z. concat (segments t) ++ z) (joined_more ts u)
    ∙ sym (append_assoc (concat (segments t)) (concat (segments_of ts)) (flat u)) ∙ ap (λ z. z ++ flat u) (sym (concat-append (segments t) (segments_of ts)))

gathered_more : (r : Bool) (gathered more : List ℕ) (ts : Trees) (u : Tree) → r ≡ true → gathered ≡ concat (segments_of ts) → more ≡ flat u
    → (chosen r (gathered ++ more) (gathered)) ≡ concat (segments_of (ts +++ (u ∷ₜ no_trees)))
gathered_more true gathered more ts u q e m = ap (λ z. z ++ more) e ∙ ap (λ z. concat (segments_of ts) ++ z) m ∙ sym (joined_more ts u)
gathered_more false gathered more ts u q e m = let z : ◌≡◌ {A = Bool} false true = q in absurd cc

left_text : (outer own : Bool) (text before gathered more : List ℕ) (from : ℕ) → text ≡ before ++ gathered → from ≡ length before
    → (outer ≡ true → own ≡ true) → (own ≡ true → gathered ≡ more)
    → (chosen outer (text) (take from text)) ≡ (chosen outer (before ++ more) (before))
left_text true own text before gathered more from e l i g = e ∙ ap (λ z. before ++ z) (g (i refl))
left_text false own text before gathered more from e l i g = rw (l, e) (take_at before gathered (length before) refl)

string_or_not : (kind : Kind) → (is_string_kind kind ≡ true) ⊎ ((mode : Mode) (z : List ℕ) → HasCharacters mode kind z)
string_or_not k.Boolean = inr (λ _ _. tt)
string_or_not k.Integer = inr (λ _ _. tt)
string_or_not k.Real = inr (λ _ _. tt)
string_or_not k.BitString = inl refl
string_or_not k.OctetString = inl refl
string_or_not k.Utf8String = inl refl
string_or_not k.NumericString = inl refl
string_or_not k.PrintableString = inl refl
string_or_not k.Ia5String = inl refl
string_or_not k.VisibleString = inl refl
string_or_not k.UniversalString = inl refl
string_or_not k.BmpString = inl refl
string_or_not k.UtcTime = inl refl
string_or_not k.GeneralizedTime = inl refl
string_or_not k.Null = inr (λ _ _. tt)
string_or_not k.Identifier = inr (λ _ _. tt)
string_or_not k.Structure = inr (λ _ _. tt)
string_or_not k.Other = inr (λ _ _. tt)

not_spelled : (mode : Mode) (kind : Kind) (c : List ℕ) (rule : Rule) → BreaksCharacters mode kind c rule → HasCharacters mode kind c → ⊥
not_spelled mode kind c rule (characters e n) h = n h
not_spelled mode kind c rule (time_form e i m n) h = n h

-- ---- one more value

-- what was told of the place of a value, if it has one
pub data TellsPlace (mode : Mode) (contents : Bool) (octets : List ℕ) (P : Type 0) (old new : List Breach) : Type 0 where
  in_place : new ≡ old → (contents ≡ true → P) → TellsPlace mode contents octets P old new
  misplaced : (bs : List Breach) → new ≡ old ++ bs → 0 < length bs → All (Holds mode octets) bs → contents ≡ true → (P → ⊥)
      → TellsPlace mode contents octets P old new

pub record Followed (mode : Mode) (contents : Bool) (octets : List ℕ) (es : List Enclosing) (text : List ℕ) (fs : List Frame) (os : List Open) (y : List ℕ)
    (then : ℕ) (P : Type 0) (old new : List Breach) : Type 0 where
  pub around : AreAround mode octets es text fs os y then
  pub tells : TellsPlace mode contents octets P old new

module _ (mode : Mode) (contents : Bool) (octets : List ℕ) where
  begun : (x : List ℕ) (t : Tag) (h c : List ℕ) (o : Open) → IsHeader mode t true (length_of (open_length o (length c))) h
      → x ≡ h ++ (c ++ behind_of o) → BeginsValue mode x t true (length h) c o
  begun x t h c (Some b) d is = of_definite h b d refl is refl
  begun x t h c None d is = of_indefinite h d refl (is ∙ ap (λ z. h ++ z) (append-nil c)) refl

  module _ (es : List Enclosing) (text : List ℕ) (f : Frame) (fs : List Frame) (os : List Open) (x a y : List ℕ) (at then : ℕ) (u : Tree) (e : Element)
      (i : AreAround mode octets es text (f ∷ fs) os x at) (is : x ≡ a ++ y) (d : IsEncoding mode u a) (pe : element_outline e ≡ outline u)
      (oe : e.octets.now ≡ a) (n : then ≡ at + length a) where
    same : i.old ++ x ≡ (i.old ++ a) ++ y
    same = ap (λ z. i.old ++ z) is ∙ sym (append_assoc i.old a y)

    de : IsEncoding mode u e.octets.now
    de = subst (IsEncoding mode u) (sym oe) d

    inside : (gs : List Enclosing) (text' : List ℕ) → gs ≡ with_last e i.value ∷ i.values
        → text' ≡ (chosen (gathers_in es) (text ++ flat u) (text)) → AreAround mode octets gs text' (added u (f ∷ fs)) os y then
    inside gs text' g w = record {
      value = with_last e i.value;
      values = i.values;
      are = g;
      ends_by = i.ends_by;
      opens = i.opens;
      opened = i.opened;
      place_is = i.place_is;
      sorts = i.sorts;
      kind_is = i.kind_is;
      several = some_last mode i.value.last f.trees i.last ∙ sym (several_added f.trees u);
      last = (u, last_added f.trees u, pe, de);
      old = i.old ++ a;
      encode = AreEncodings-join mode f.trees (u ∷ₜ no_trees) i.old a i.encode (AreEncodings-one mode u a d);
      header = i.header;
      is_header = subst (λ z. IsHeader mode f.tag true (length_of (open_length i.ends_by (length z))) i.header) same i.is_header;
      start = i.start ∙ ap (λ z. i.header ++ (z ++ behind_of i.ends_by)) same;
      from = i.from;
      comes = i.comes;
      place_at = omega (arith, n, i.place_at, length-append i.old a);
      before = i.before;
      gathered = chosen (i.value.gathers) (i.gathered ++ flat u) (i.gathered);
      text_is = w ∙ ap (λ z. chosen (gathers_in z) (text ++ flat u) (text)) i.are ∙ either_more i.value.gathers i.before i.gathered (flat u) text i.text_is;
      text_from = i.text_from;
      gathers = i.gathers;
      inherits = i.inherits;
      gathered_is = λ q. gathered_more i.value.gathers i.gathered (flat u) f.trees u q (i.gathered_is q) refl;
      around = i.around;
    }

    tells : (old new : List Breach) → TellsFit mode contents i.value e then old new → TellsPlace mode contents octets (MayComeIn mode (f ∷ fs) u) old new
    tells old new (fits q k) = in_place q (λ c. may_come mode u e pe de f.tag i.value i.sorts i.kind_is f.trees i.last (k c))
    tells old new (misfits rule q c k) =
        let no : BreaksPlace mode f.tag (last_of f.trees) u rule =
        breaks_place mode u e pe de f.tag i.value i.sorts i.kind_is f.trees i.last rule k in
        let c_is : i.old ++ x ≡ i.old ++ (a ++ y) = ap (λ z. i.old ++ z) is in
        let b : Breaks mode i.opens i.value.start.now rule (length i.header + length i.old) =
        broken.out_of_place f.tag (length i.header) (i.old ++ x) i.ends_by f.trees u i.old a y
        (begun i.value.start.now f.tag i.header (i.old ++ x) i.ends_by i.is_header i.start) i.encode d c_is no refl in
        misplaced _ q (omega arith) (All-one (Holds mode octets) _ (record {
          opened = i.opens;
          rest = i.value.start.now;
          from = i.from;
          place = length i.header + length i.old;
          comes = i.comes;
          breaks = b;
          at = omega (arith, n, i.place_at, ap length oe);
        })) c (not_come mode f.tag (last_of f.trees) u rule no)

  -- a value was passed in the innermost open one
  pub one_more : (es : List Enclosing) (text text' : List ℕ) (fs : List Frame) (os : List Open) (x a y : List ℕ) (at then : ℕ) (u : Tree) (gs : List Enclosing)
      (old new : List Breach) → AreAround mode octets es text fs os x at
      → text' ≡ (chosen (gathers_in es) (text ++ flat u) (text)) → x ≡ a ++ y → IsEncoding mode u a → then ≡ at + length a
      → AddsBefore mode contents es (outline u) x y then old gs new
      → Followed mode contents octets gs text' (added u fs) os y then (MayComeIn mode fs u) old new
  one_more es text text' [] os x a y at then u gs old new i w is d n h =
      let e : Adds mode contents [] h.element then old gs new = subst (λ z. Adds mode contents z h.element then old gs new) i.0 h.adds in
      record { around = (e.0, i.1); tells = in_place e.1 (λ c. tt) }
  one_more es text text' (f ∷ fs) os x a y at then u gs old new i w is d n h =
      let e : Adds mode contents (i.value ∷ i.values) h.element then old gs new =
      subst (λ z. Adds mode contents z h.element then old gs new) i.are h.adds in
      record {
        around = inside es text f fs os x a y at then u h.element i is d h.outline_is (h.octets_are a is) n gs text' e.0 w;
        tells = tells es text f fs os x a y at then u h.element i is d h.outline_is (h.octets_are a is) n old new e.1;
      }

  -- ---- steps

  primitive_passed : (x y : List ℕ) (t : Tag) (size : ℕ) (c : List ℕ) → AreOctets c → BeginsValue mode x t false size c (Some y)
      → (a : List ℕ) × (x ≡ a ++ y) × IsEncoding mode (primitive t c) a × (length a ≡ size + length c)
  primitive_passed x y t size c o (of_definite h b d e is s) =
      let by : b ≡ y = some_inj _ _ (sym e) in
      let all : x ≡ (h ++ c) ++ y = is ∙ ap (λ w. h ++ (c ++ w)) by ∙ sym (append_assoc h c y) in
      (h ++ c, all, (o, record { header = h; is_header = d; is = refl }), omega (arith, length-append h c, s))
  primitive_passed x y t size c o (of_indefinite h d e is s) =
      let no : ◌≡◌ {A = Bool} false true = must_be mode t false None refl d in
      absurd cc

  abbrev opened_value : Tag → Bor (List ℕ) → ℕ → Bool → Enclosing
  opened_value t start from gathers = begun_value (place t) (is_set t) (kind_of t) start from gathers

  beginning_passed : (es : List Enclosing) (text : List ℕ) (fs : List Frame) (os : List Open) (x y : List ℕ) (t : Tag) (size : ℕ) (o : Open) (at then : ℕ)
      (start : Bor (List ℕ)) (gs : List Enclosing) → AreAround mode octets es text fs os x at → Comes octets os x at → BeginsValue mode x t true size y o
      → then ≡ at + size → start.now ≡ x → gs ≡ opened_value t start (length text) (gathers_in es) ∷ es
      → AreAround mode octets gs text (record { tag = t; trees = no_trees } ∷ fs) (o ∷ os) y then
  beginning_passed es text fs os x y t size o at then start gs i k (of_definite h b d e is s) n w g =
      record {
        value = opened_value t start (length text) (gathers_in es);
        values = es;
        are = g;
        ends_by = o;
        opens = os;
        opened = refl;
        place_is = refl;
        sorts = refl;
        kind_is = refl;
        several = refl;
        last = refl;
        old = [];
        encode = refl;
        header = h;
        is_header = rw e d;
        start = w ∙ rw e is;
        from = at;
        comes = subst (λ z. Comes octets os z at) (sym w) k;
        place_at = omega (arith, n, s);
        before = text;
        gathered = [];
        text_is = sym (append-nil text);
        text_from = refl;
        gathers = λ q. rw q refl;
        inherits = λ q. or_true (is_string_kind (kind_of t)) (gathers_in es) q;
        gathered_is = λ _. refl;
        around = subst (λ z. AreAround mode octets es text fs os z at) (sym w) i;
      }
  beginning_passed es text fs os x y t size o at then start gs i k (of_indefinite h d e is s) n w g =
      record {
        value = opened_value t start (length text) (gathers_in es);
        values = es;
        are = g;
        ends_by = o;
        opens = os;
        opened = refl;
        place_is = refl;
        sorts = refl;
        kind_is = refl;
        several = refl;
        last = refl;
        old = [];
        encode = refl;
        header = h;
        is_header = rw e d;
        start = w ∙ is ∙ ap (λ z. h ++ z) (sym (append-nil y)) ∙ rw e refl;
        from = at;
        comes = subst (λ z. Comes octets os z at) (sym w) k;
        place_at = omega (arith, n, s);
        before = text;
        gathered = [];
        text_is = sym (append-nil text);
        text_from = refl;
        gathers = λ q. rw q refl;
        inherits = λ q. or_true (is_string_kind (kind_of t)) (gathers_in es) q;
        gathered_is = λ _. refl;
        around = subst (λ z. AreAround mode octets es text fs os z at) (sym w) i;
      }

  -- the octets of a value that ended
  record Ended (t : Tag) (ts : Trees) (start y : List ℕ) (header old : List ℕ) (n : ℕ) : Type 0 where
    octets_are : List ℕ
    is : start ≡ octets_are ++ y
    encode : IsEncoding mode (constructed t ts) octets_are
    size : length octets_are ≡ length header + length old + n

  ended : (t : Tag) (ts : Trees) (old header start : List ℕ) (o : Open) (ps : List Open) (x y p : List ℕ) → AreEncodings mode ts old
      → IsHeader mode t true (length_of (open_length o (length (old ++ x)))) header → start ≡ header ++ ((old ++ x) ++ behind_of o)
      → Step mode (o ∷ ps) x ps y p [] → Ended t ts start y header old (length p)
  ended t ts old header start o ps x y p h d is (opens.of_primitive t' h' c' d' is' e' f' g') = absurd (omega (arith, ap length g'))
  ended t ts old header start o ps x y p h d is (opens.into_definite t' h' b' d' is' e' f' g') = absurd (omega (arith, ap length g'))
  ended t ts old header start o ps x y p h d is (opens.into_indefinite t' h' d' is' e' f' g') = absurd (omega (arith, ap length g'))
  ended t ts old header start o ps x y p h d is (opens.out_of_definite e none f g) =
      let q : o ≡ Some y = first_same _ _ _ _ e in
      let w : old ++ x ≡ old = ap (λ z. old ++ z) none ∙ append-nil old in
      record {
        octets_are = header ++ old;
        is = is ∙ rw (w, q) (sym (append_assoc header old y));
        encode = (old, h, inl (record { header = header; is_header = rw (w, q) at d; is = refl }));
        size = omega (arith, length-append header old, ap length f);
      }
  ended t ts old header start o ps x y p h d is (opens.out_of_indefinite e end cut g) =
      let q : o ≡ None = first_same _ _ _ _ e in
      record {
        octets_are = header ++ (old ++ p);
        is = is ∙ rw (q, cut) (all old p y header);
        encode = (old, h, inr (record { header = header; is_header = rw q at d; end = p; is_end = end; is = refl }));
        size = omega (arith, length-append header (old ++ p), length-append old p);
      }
    where
      all : (a b c h : List ℕ) → h ++ ((a ++ (b ++ c)) ++ []) ≡ (h ++ (a ++ b)) ++ c
      all a b c h = ap (λ z. h ++ z) (append-nil (a ++ (b ++ c)) ∙ sym (append_assoc a b c)) ∙ sym (append_assoc h (a ++ b) c)

  outline_same : (f : Frame) (v : Enclosing) → v.place ≡ place f.tag → IsLast mode v.last f.trees
      → ended_outline v ≡ outline (constructed f.tag f.trees)
  outline_same f v p i =
      let q : last_unused v.last ≡ unused_of_last f.trees = unused_same mode v.last f.trees i in
      rw (p, q) refl

  end_told : (f : Frame) (v : Enclosing) (opens : List Open) (a y : List ℕ) (from then : ℕ) (old mid : List Breach) → v.kind ≡ kind_of f.tag
      → v.several ≡ are_several f.trees → Comes octets opens v.start.now from → IsEncoding mode (constructed f.tag f.trees) a → v.start.now ≡ a ++ y
      → then ≡ from + length a → TellsEnd mode contents v y then old mid
      → TellsPlace mode contents octets (MayEnd mode (kind_of f.tag) (are_several f.trees)) old mid
  end_told f v opens a y from then old mid k s c d is n (whole q m) =
      in_place q (λ t. subst (λ z. MayEnd mode (kind_of f.tag) z) s (subst (λ z. MayEnd mode z v.several) k (m t)))
  end_told f v opens a y from then old mid k s c d is n (in_vain place q t m w) =
      let no : MayEnd mode (kind_of f.tag) (are_several f.trees) → ⊥ =
      λ h. m (subst (λ z. MayEnd mode z v.several) (sym k) (subst (λ z. MayEnd mode (kind_of f.tag) z) (sym s) h)) in
      misplaced _ q (omega arith) (All-one (Holds mode octets) _ (record {
        opened = opens;
        rest = v.start.now;
        from = from;
        place = 0;
        comes = c;
        breaks = broken.cut_in_vain f.tag f.trees a y refl d is no refl;
        at = omega (arith, w a is, n);
      })) t no

  text_told : (f : Frame) (v : Enclosing) (opens : List Open) (text before gathered a y : List ℕ) (from then : ℕ) (old mid : List Breach)
      → v.kind ≡ kind_of f.tag → text ≡ before ++ gathered → v.from ≡ length before
      → (is_string_kind (kind_of f.tag) ≡ true → v.gathers ≡ true) → (v.gathers ≡ true → gathered ≡ concat (segments_of f.trees))
      → Comes octets opens v.start.now from → IsEncoding mode (constructed f.tag f.trees) a → v.start.now ≡ a ++ y → then ≡ from + length a
      → TellsText mode contents v text y then old mid → TellsPlace mode contents octets (HasText mode f.tag f.trees) old mid
  text_told f v opens text before gathered a y from then old mid k w l g h c d is n t = go (string_or_not (kind_of f.tag)) t
    where
      part : drop v.from text ≡ gathered
      part = rw (l, w) (drop_at before gathered (length before) refl)

      joined : is_string_kind (kind_of f.tag) ≡ true → drop v.from text ≡ concat (segments_of f.trees)
      joined q = part ∙ h (g q)

      go : (is_string_kind (kind_of f.tag) ≡ true) ⊎ ((m : Mode) (z : List ℕ) → HasCharacters m (kind_of f.tag) z)
          → TellsText mode contents v text y then old mid → TellsPlace mode contents octets (HasText mode f.tag f.trees) old mid
      go (inr all) (spells q m) = in_place q (λ _. all mode _)
      go (inr all) (misspells rule place q m b u) =
          absurd (not_spelled mode v.kind (drop v.from text) rule b (subst (λ z. HasCharacters mode z (drop v.from text)) (sym k) (all mode _)))
      go (inl s) (spells q m) =
          in_place q (λ t. subst (HasCharacters mode (kind_of f.tag)) (joined s) (subst (λ z. HasCharacters mode z (drop v.from text)) k (m t)))
      go (inl s) (misspells rule place q m b u) =
          let e : BreaksCharacters mode (kind_of f.tag) (concat (segments_of f.trees)) rule =
          subst (λ z. BreaksCharacters mode (kind_of f.tag) z rule) (joined s) (subst (λ z. BreaksCharacters mode z (drop v.from text) rule) k b) in
          misplaced _ q (omega arith) (All-one (Holds mode octets) _ (record {
            opened = opens;
            rest = v.start.now;
            from = from;
            place = 0;
            comes = c;
            breaks = broken.in_text f.tag f.trees a y e d is refl;
            at = omega (arith, u a is, n);
          })) m (not_spelled mode (kind_of f.tag) (concat (segments_of f.trees)) rule e)

  both_told : (P Q : Type 0) (old mid new : List Breach) → TellsPlace mode contents octets P old mid → TellsPlace mode contents octets Q mid new
      → TellsPlace mode contents octets (P × Q) old new
  both_told P Q old mid new (in_place a f) (in_place b g) = in_place (b ∙ a) (λ c. (f c, g c))
  both_told P Q old mid new (in_place a f) (misplaced bs q l h c n) = misplaced bs (q ∙ ap (λ z. z ++ bs) a) l h c (λ w. n w.1)
  both_told P Q old mid new (misplaced cs q l h c n) (in_place b g) = misplaced cs (b ∙ q) l h c (λ w. n w.0)
  both_told P Q old mid new (misplaced cs q l h c n) (misplaced bs o k j d m) =
      misplaced (cs ++ bs) (o ∙ ap (λ z. z ++ bs) q ∙ append_assoc old cs bs) (omega (arith, l, length-append cs bs))
      (All-append (Holds mode octets) cs bs h j) c (λ w. n w.0)

  end_passed : (es : List Enclosing) (text text' : List ℕ) (f : Frame) (fs : List Frame) (os : List Open) (x : List ℕ) (at : ℕ) (ps : List Open) (y : List ℕ)
      (then : ℕ) (o : Open) (n : ℕ) (start : Bor (List ℕ)) (s0 : List ℕ) (gs : List Enclosing) (old new : List Breach)
      → AreAround mode octets es text (f ∷ fs) os x at
      → os ≡ o ∷ ps → Closes mode o x y n → then ≡ at + n → Follows mode contents es text start s0 m.End y then old gs text' new
      → Followed mode contents octets gs text' (added (constructed f.tag f.trees) fs) ps y then
      (MayEndBehind mode f.tag f.trees × MayComeIn mode fs (constructed f.tag f.trees)) old new
  end_passed es text text' f fs os x at ps y then o n start s0 gs old new i q c k h =
      let first : i.ends_by ≡ o = first_same _ _ _ _ (sym i.opened ∙ q) in
      let others : i.opens ≡ ps = others_same _ _ _ _ (sym i.opened ∙ q) in
      let d = subst (λ z. IsHeader mode f.tag true (length_of (open_length z (length (i.old ++ x)))) i.header) first i.is_header in
      let s = subst (λ z. i.value.start.now ≡ i.header ++ ((i.old ++ x) ++ behind_of z)) first i.start in
      let e = ended f.tag f.trees i.old i.header i.value.start.now o ps x y c.passed i.encode d s (c.step ps) in
      let l : Leaves mode contents i.value i.values text y then old gs text' new =
      subst (λ z. Follows mode contents z text start s0 m.End y then old gs text' new) i.are h in
      let u : Tree = constructed f.tag f.trees in
      let same : ended_outline i.value ≡ outline u = outline_same f i.value i.place_is i.last in
      let b : AddsBefore mode contents i.values (outline u) i.value.start.now y then l.mid gs new =
      subst (λ z. AddsBefore mode contents i.values z i.value.start.now y then l.mid gs new) same l.adds in
      let size : then ≡ i.from + length e.octets_are = omega (arith, k, i.place_at, e.size, c.size) in
      let w : text' ≡ (chosen (gathers_in i.values) (i.before ++ flat u) (i.before)) =
      l.text_is ∙ left_text (gathers_in i.values) i.value.gathers text i.before i.gathered
      (flat u) i.value.from i.text_is i.text_from i.inherits i.gathered_is in
      let all = one_more i.values i.before text' fs i.opens i.value.start.now e.octets_are y i.from then u gs l.mid new i.around w e.is e.encode size b in
      let told : TellsPlace mode contents octets (MayEnd mode (kind_of f.tag) (are_several f.trees)) old l.first =
      end_told f i.value i.opens e.octets_are y i.from then old l.first i.kind_is i.several i.comes e.encode e.is size l.tells in
      let spelled : TellsPlace mode contents octets (HasText mode f.tag f.trees) l.first l.mid =
      text_told f i.value i.opens text i.before i.gathered e.octets_are y i.from then l.first l.mid i.kind_is i.text_is i.text_from i.gathers i.gathered_is
      i.comes e.encode e.is size l.spells in
      record {
        around = subst (λ z. AreAround mode octets gs text' (added u fs) z y then) others all.around;
        tells = both_told _ _ old l.mid new (both_told _ _ old l.first l.mid told spelled) all.tells;
      }

  -- what was met is followed
  pub met_followed : (es : List Enclosing) (text text' : List ℕ) (fs : List Frame) (os : List Open) (x : List ℕ) (at : ℕ) (ps : List Open) (y : List ℕ)
      (then : ℕ)
      (p : Piece) (met : Met) (s : List ℕ) (start : Bor (List ℕ)) (gs : List Enclosing) (old new : List Breach) → AreAround mode octets es text fs os x at
      → Comes octets os x at → IsMet mode os x at ps y then p met s → start.now ≡ x → Follows mode contents es text start s met y then old gs text' new
      → Followed mode contents octets gs text' (step fs p) ps y then (IsPlaced mode fs p) old new
  met_followed es text text' fs os x at ps y then p met s start gs old new i k (of_value t size c pe me b o se q n) w h =
      let a = primitive_passed x y t size c o b in
      let f = subst (λ z. Follows mode contents es text start s z y then old gs text' new) me h in
      let g : AddsBefore mode contents es (outline (primitive t c)) x y then old gs new =
      subst (λ z. AddsBefore mode contents es (outline (primitive t c)) z y then old gs new) w f.0 in
      let v : text' ≡ (chosen (gathers_in es) (text ++ flat (primitive t c)) (text)) =
      f.1 ∙ ap (λ z. chosen (gathers_in es) (text ++ z) (text)) (se ∙ sym (append-nil c)) in
      let all = one_more es text text' fs os x a.0 y at then (primitive t c) gs old new i v a.1 a.2 (omega (arith, n, a.3)) g in
      subst (λ z. Followed mode contents octets gs text' (step fs z) ps y then (IsPlaced mode fs z) old new) (sym pe)
      (subst (λ z. Followed mode contents octets gs text' (added (primitive t c) fs) z y then (MayComeIn mode fs (primitive t c)) old new) (sym q) all)
  met_followed es text text' fs os x at ps y then p met s start gs old new i k (of_beginning t size c pe me b q n) w h =
      let f = subst (λ z. Follows mode contents es text start s z y then old gs text' new) me h in
      let all : Followed mode contents octets gs text' (step fs (begins t)) (c ∷ os) y then (IsPlaced mode fs (begins t)) old new = record {
        around = subst (λ z. AreAround mode octets gs z (step fs (begins t)) (c ∷ os) y then) (sym f.1)
            (beginning_passed es text fs os x y t size c at then start gs i k b n w f.0);
        tells = in_place f.2 (λ _. tt);
      } in
      subst (λ z. Followed mode contents octets gs text' (step fs z) ps y then (IsPlaced mode fs z) old new) (sym pe)
      (subst (λ z. Followed mode contents octets gs text' (step fs (begins t)) z y then (IsPlaced mode fs (begins t)) old new) (sym q) all)
  met_followed es text text' [] os x at ps y then p met s start gs old new i k (of_end c n pe me b q j) w h =
      absurd (omega (arith, ap length (sym i.1 ∙ q)))
  met_followed es text text' (f ∷ fs) os x at ps y then p met s start gs old new i k (of_end c n pe me b q j) w h =
      subst (λ z. Followed mode contents octets gs text' (step (f ∷ fs) z) ps y then (IsPlaced mode (f ∷ fs) z) old new) (sym pe)
      (end_passed es text text' f fs os x at ps y then c n start s gs old new i q b j
      (subst (λ z. Follows mode contents es text start s z y then old gs text' new) me h))

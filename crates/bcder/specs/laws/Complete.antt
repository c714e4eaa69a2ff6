-- What is encoded is read again, whatever follows it. So no encoding is a prefix of another.
use Rattle.std.proofs.Common.{◌≡◌, ◌≢◌, ℕ, zero, suc, ◌+◌, ◌<◌, ◌≤◌, Bool, true, false, ltb, List, [], ◌++◌, length, Option}
use Rattle.std.proofs.Common.{Some, None, refl, sym, ap, ◌∙◌, append_assoc, append-nil, arith, inl, inr}
use Rattle.std.proofs.lemmas.Bool.{le-ltb}
use Rattle.std.proofs.lemmas.List.{take_at, drop_at, length-append, append_cancel_right}
use Rattle.bcder.specs.declared.mode.Mode.{Mode}
use Rattle.bcder.specs.declared.length.Length.{Length}
use Rattle.bcder.specs.declared.length.Length.TheVariants.{Definite, Indefinite}
use Rattle.bcder.specs.x690.Identifier.{Class, universal, application, context_specific, private, Tag}
use Rattle.bcder.specs.x690.Identifier.{IsValueTag, end_of_contents, identifier, is_value_tag}
use Rattle.bcder.specs.x690.Length.{IsEndOfContents}
use Rattle.bcder.specs.x690.Tree.{Tree, primitive, constructed, Trees, no_trees, ◌∷ₜ◌}
use Rattle.bcder.specs.x690.Encoding.{IsHeader, IsDefinite, IsFramed, IsEncoding, AreEncodings, Header}
use Rattle.bcder.specs.steps.Reading.{Inside, read_end, read_header, read_contents, read_value, at_end, read_trees, read_tree}
use Rattle.bcder.specs.laws.Identifiers.{read_identifier-identifier, BeginsValue, BeginsValue-identifier, identifier_some}
use Rattle.bcder.specs.laws.Lengths.{read_length-tells, tells_some, read_end-complete}

pub is_value : (t : Tag) → IsValueTag t → is_value_tag t ≡ true
is_value t v = by_parts t.class t.number v.no_end
  where
    by_parts : (c : Class) (n : ℕ) → (record { class = c; number = n } ≢ end_of_contents)
        → is_value_tag (record { class = c; number = n }) ≡ true
    by_parts universal zero h = absurd (h refl)
    by_parts universal (suc n) h = refl
    by_parts application n h = refl
    by_parts context_specific n h = refl
    by_parts private n h = refl

-- ---- headers

pub header_complete : (mode : Mode) (t : Tag) (f : Bool) (len : Length) (h x : List ℕ) → IsHeader mode t f len h
    → read_header mode (h ++ x) ≡ Some (record { tag = t; form = f; len = len }, x)
unfolding read_header
header_complete mode t f len h x d =
    rw (
      d.is,
      append_assoc (identifier t f) d.length_octets x,
      read_identifier-identifier t f (d.length_octets ++ x) d.is_value_tag.fits,
      is_value t d.is_value_tag,
      read_length-tells mode len d.length_octets x d.tells,
      d.allowed,
    ) refl

value_from : (mode : Mode) (inside : Inside) (t : Tag) (f : Bool) (len : Length) (h x : List ℕ) → IsHeader mode t f len h
    → read_value mode inside (h ++ x) ≡ read_contents inside t f len x
unfolding read_value
value_from mode inside t f len h x d = rw (header_complete mode t f len h x d) refl

BeginsValue-header : (mode : Mode) (t : Tag) (f : Bool) (len : Length) (h x : List ℕ) → IsHeader mode t f len h → BeginsValue (h ++ x)
BeginsValue-header mode t f len h x d = rw (d.is, append_assoc) (BeginsValue-identifier t f _ d.is_value_tag)

pub header_size : (mode : Mode) (t : Tag) (f : Bool) (len : Length) (h : List ℕ) → IsHeader mode t f len h → 2 ≤ length h
header_size mode t f len h d =
    rw (d.is) (omega (arith, length-append (identifier t f) d.length_octets, identifier_some t f, tells_some mode len _ d.tells))

-- ---- values: none begins with 00, and each has two octets or more

pub BeginsValue-encoding : (mode : Mode) (t : Tree) (w x : List ℕ) → IsEncoding mode t w → BeginsValue (w ++ x)
BeginsValue-encoding mode (primitive t contents) w x h = rw (h.1.is, append_assoc) (BeginsValue-header mode t false _ _ _ h.1.is_header)
BeginsValue-encoding mode (constructed t ts) w x h = framed h.2
  where
    framed : IsFramed mode t h.0 w → BeginsValue (w ++ x)
    framed (inl d) = rw (d.is, append_assoc) (BeginsValue-header mode t true _ _ _ d.is_header)
    framed (inr d) = rw (d.is, append_assoc) (BeginsValue-header mode t true _ _ _ d.is_header)

not_at_end : (mode : Mode) (marked : Bool) (w : List ℕ) → BeginsValue w → at_end mode marked w ≡ None
unfolding at_end read_end
not_at_end mode true w h = rw h.is refl
not_at_end mode false w h = rw h.is refl

pub definite_size : (mode : Mode) (t : Tag) (f : Bool) (contents w : List ℕ) → IsDefinite mode t f contents w
    → length contents + 2 ≤ length w
definite_size mode t f contents w d = rw (d.is) (omega (arith, length-append d.header contents, header_size mode t f _ _ d.is_header))

pub framed_size : (mode : Mode) (t : Tag) (contents w : List ℕ) → IsFramed mode t contents w → length contents + 2 ≤ length w
framed_size mode t contents w (inl d) = definite_size _ _ _ _ _ d
framed_size mode t contents w (inr d) = rw (d.is)
    (omega (arith, length-append d.header (contents ++ d.end), length-append contents d.end, header_size mode t true _ _ d.is_header))

pub two_octets : (mode : Mode) (t : Tree) (w : List ℕ) → IsEncoding mode t w → 2 ≤ length w
two_octets mode (primitive t contents) w h = let s = definite_size _ _ _ _ _ h.1 in omega arith
two_octets mode (constructed t ts) w h = let s = framed_size _ _ _ _ h.2 in omega arith

-- ---- reading what is encoded

long_enough : (contents x : List ℕ) → ltb (length (contents ++ x)) (length contents) ≡ false
long_enough contents x = le-ltb _ _ (omega (arith, length-append contents x))

definite_read : (mode : Mode) (inside : Inside) (t : Tag) (f : Bool) (contents w x : List ℕ) → IsDefinite mode t f contents w
    → read_value mode inside (w ++ x) ≡ read_contents inside t f (Definite (length contents)) (contents ++ x)
definite_read mode inside t f contents w x d =
    rw (d.is, append_assoc d.header contents x) (value_from mode inside t f _ d.header (contents ++ x) d.is_header)

primitive_read : (mode : Mode) (inside : Inside) (t : Tag) (contents w x : List ℕ) → IsDefinite mode t false contents w
    → read_value mode inside (w ++ x) ≡ Some (primitive t contents, x)
primitive_read mode inside t contents w x d =
    definite_read mode inside t false contents w x d
    ∙ rw (long_enough contents x, take_at contents x (length contents) refl, drop_at contents x (length contents) refl) refl

-- the result of reading the contents octets
pub record Reads (n : ℕ) (mode : Mode) (ts : Trees) (w : List ℕ) : Type 0 where
  pub reads : (marked : Bool) (tail rest : List ℕ) → at_end mode marked tail ≡ Some rest
      → read_trees n mode marked (w ++ tail) ≡ Some (ts, rest)

pub reads_all : (n : ℕ) (mode : Mode) (ts : Trees) (w : List ℕ) → Reads n mode ts w → read_trees n mode false w ≡ Some (ts, [])
unfolding at_end
reads_all n mode ts w r = rw append-nil at (r.reads false [] [] refl)

pub reads_marked : (n : ℕ) (mode : Mode) (ts : Trees) (w e x : List ℕ) → IsEndOfContents mode e → Reads n mode ts w
    → read_trees n mode true (w ++ (e ++ x)) ≡ Some (ts, x)
unfolding at_end
reads_marked n mode ts w e x h r = r.reads true (e ++ x) x (read_end-complete mode e x h)

framed_complete : (n : ℕ) (mode : Mode) (t : Tag) (ts : Trees) (contents w x : List ℕ) → IsFramed mode t contents w
    → Reads n mode ts contents → read_value mode (read_trees n mode) (w ++ x) ≡ Some (constructed t ts, x)
framed_complete n mode t ts contents w x (inl d) r =
    definite_read mode (read_trees n mode) t true contents w x d ∙ rw (
      long_enough contents x,
      take_at contents x (length contents) refl,
      drop_at contents x (length contents) refl,
      reads_all n mode ts contents r,
    ) refl
framed_complete n mode t ts contents w x (inr d) r =
    rw (d.is, append_assoc d.header (contents ++ d.end) x, append_assoc contents d.end x)
    (value_from mode (read_trees n mode) t true Indefinite d.header (contents ++ (d.end ++ x)) d.is_header
    ∙ rw (reads_marked n mode ts contents d.end x d.is_end r) refl)

none_more : (n : ℕ) (mode : Mode) (marked : Bool) (tail rest : List ℕ) → at_end mode marked tail ≡ Some rest
    → read_trees (suc n) mode marked tail ≡ Some (no_trees, rest)
unfolding read_trees
none_more n mode marked tail rest e = rw e refl

one_more : (n : ℕ) (mode : Mode) (marked : Bool) (t : Tree) (ts : Trees) (w rest more : List ℕ) → at_end mode marked w ≡ None
    → read_value mode (read_trees n mode) w ≡ Some (t, more) → read_trees n mode marked more ≡ Some (ts, rest)
    → read_trees (suc n) mode marked w ≡ Some (t ∷ₜ ts, rest)
unfolding read_trees
one_more n mode marked t ts w rest more e f g = rw (e, f, g) refl

mutual
  pub value_complete : (n : ℕ) (mode : Mode) (t : Tree) (w x : List ℕ) → IsEncoding mode t w → length w ≤ n
      → read_value mode (read_trees n mode) (w ++ x) ≡ Some (t, x)
  value_complete n mode (primitive t contents) w x h fuel = primitive_read mode _ t contents w x h.1
  value_complete n mode (constructed t ts) w x h fuel =
      framed_complete n mode t ts h.0 w x h.2 (trees_complete n mode ts h.0 h.1 (let s = framed_size _ _ _ _ h.2 in omega arith))

  pub trees_complete : (n : ℕ) (mode : Mode) (ts : Trees) (w : List ℕ) → AreEncodings mode ts w → length w < n → Reads n mode ts w
  trees_complete zero mode no_trees w h fuel = absurd (omega arith)
  trees_complete zero mode (t ∷ₜ ts) w h fuel = absurd (omega arith)
  trees_complete (suc n) mode no_trees w h fuel = record { reads = λ marked tail rest e. rw h (none_more n mode marked tail rest e) }
  trees_complete (suc n) mode (t ∷ₜ ts) w h fuel =
      let first = h.0 in
      let others = h.1 in
      let s = two_octets mode t first h.2 in
      let size : length w ≡ length first + length others = ap length h.4 ∙ length-append first others in
      let more = trees_complete n mode ts others h.3 (omega arith) in
      record {
        reads = λ marked tail rest e.
            rw (h.4, append_assoc first others tail)
            (one_more n mode marked t ts _ rest (others ++ tail) (not_at_end mode marked _ (BeginsValue-encoding mode t first _ h.2))
            (value_complete n mode t first (others ++ tail) h.2 (omega arith)) (more.reads marked tail rest e));
      }

pub tree_complete : (mode : Mode) (t : Tree) (w x : List ℕ) → IsEncoding mode t w → read_tree mode (w ++ x) ≡ Some (t, x)
unfolding read_tree
tree_complete mode t w x h = value_complete (length (w ++ x)) mode t w x h (omega (arith, length-append w x))

-- ---- a list of octets is at most one value, and no encoding is a prefix of another

pub record Same (t u : Tree) (w v x y : List ℕ) : Type 0 where
  pub tree : t ≡ u
  pub front : w ≡ v
  pub rest : x ≡ y

some_pair : {A : Type 0} (t u : A) (x y : List ℕ) → ◌≡◌ {A = Option (A × List ℕ)} (Some (t, x)) (Some (u, y)) → (t ≡ u) × (x ≡ y)
some_pair {A} t u x y e = let p : ◌≡◌ {A = A × List ℕ} (t, x) (u, y) = cc in (ap (λ r. r.0) p, ap (λ r. r.1) p)

pub one_encoding : (mode : Mode) (t u : Tree) (w v x y : List ℕ) → IsEncoding mode t w → IsEncoding mode u v
    → w ++ x ≡ v ++ y → Same t u w v x y
one_encoding mode t u w v x y h k e =
    let p = some_pair t u x y (sym (tree_complete mode t w x h) ∙ ap (read_tree mode) e ∙ tree_complete mode u v y k) in
    record { tree = p.0; rest = p.1; front = append_cancel_right w v y (ap (λ r. w ++ r) (sym p.1) ∙ e) }

-- the octets begin with no other value
pub only_at_front : (mode : Mode) (t : Tree) (w x : List ℕ) → IsEncoding mode t w → (u : Tree) (v y : List ℕ) → IsEncoding mode u v
    → w ++ x ≡ v ++ y → (u ≡ t) × (v ≡ w)
only_at_front mode t w x h u v y k e = let s = one_encoding mode t u w v x y h k e in (sym s.tree, sym s.front)

-- a list of octets is at most one list of values
pub one_list : (mode : Mode) (ts us : Trees) (w : List ℕ) → AreEncodings mode ts w → AreEncodings mode us w → ts ≡ us
one_list mode ts us w h k =
    let n = suc (length w) in
    (some_pair ts us [] [] (sym (reads_all n mode ts w (trees_complete n mode ts w h (omega arith)))
    ∙ reads_all n mode us w (trees_complete n mode us w k (omega arith)))).0

-- the contents octets of an indefinite encoding end in one place
pub one_end_of_list : (mode : Mode) (ts us : Trees) (w v d e x y : List ℕ) → AreEncodings mode ts w → AreEncodings mode us v
    → IsEndOfContents mode d → IsEndOfContents mode e → w ++ (d ++ x) ≡ v ++ (e ++ y) → (ts ≡ us) × (x ≡ y)
one_end_of_list mode ts us w v d e x y h k is_d is_e p =
    let n = suc (length w + length v) in
    let l = reads_marked n mode ts w d x is_d (trees_complete n mode ts w h (omega arith)) in
    let r = reads_marked n mode us v e y is_e (trees_complete n mode us v k (omega arith)) in
    some_pair ts us x y (sym l ∙ ap (read_trees n mode true) p ∙ r)

-- no header is a prefix of another
pub one_header : (mode : Mode) (t u : Tag) (f g : Bool) (l m : Length) (w v x y : List ℕ) → IsHeader mode t f l w → IsHeader mode u g m v
    → w ++ x ≡ v ++ y → ◌≡◌ {A = Header} (record { tag = t; form = f; len = l }) (record { tag = u; form = g; len = m }) × (x ≡ y)
one_header mode t u f g l m w v x y h k e =
    some_pair _ _ x y (sym (header_complete mode t f l w x h) ∙ ap (read_header mode) e ∙ header_complete mode u g m v y k)

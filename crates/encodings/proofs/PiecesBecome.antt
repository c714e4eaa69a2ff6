-- What pieces become is what the values become that they are of.
use Rattle.std.proofs.Common.{◌≡◌, ℕ, zero, suc, List, [], ◌∷◌, ◌++◌, refl, sym, ap, subst, ◌∙◌, append_assoc, append-nil}
use Rattle.std.specs.List.{concat}
use Rattle.bcder.specs.declared.mode.Mode.{Mode}
use Rattle.bcder.specs.x690.Identifier.{Tag}
use Rattle.bcder.specs.x690.OctetString.{segments_of, IsSegment, AreSegments}
use Rattle.bcder.specs.x690.Tree.{Tree, primitive, constructed, Trees, no_trees, ◌∷ₜ◌}
use Rattle.encodings.specs.declared.convert.Kind.{Kind}
use Rattle.encodings.specs.declared.convert.Kind.TheVariants.{Boolean, Bits, Text, Other}
use Rattle.encodings.specs.Conversion.{kind_of, Becomes, Become}
use Rattle.encodings.specs.Pieces.{Piece, value, begins, ends, pieces, pieces_of, BeginningBecomes, PieceBecomes, PiecesBecome}
use Rattle.encodings.specs.Pieces.{Made, made_value, made_beginning, made_end, made_string, made_part, made_string_end, parts, parts_of, makes, all_make}

pub both_become : (mode : Mode) (n k m : ℕ) (a : List Piece) (c : List Made) (b : List Piece) (d : List Made) → PiecesBecome mode n a c k
    → PiecesBecome mode k b d m → PiecesBecome mode n (a ++ b) (c ++ d) m
both_become mode n k m [] [] b d h j = subst (λ i. PiecesBecome mode i b d m) h j
both_become mode n k m [] (q ∷ c) b d h j = absurd h
both_become mode n k m (p ∷ a) [] b d h j = absurd h
both_become mode n k m (p ∷ a) (q ∷ c) b d h j = (h.0, h.1, both_become mode h.0 k m a c b d h.2 j)

-- ---- how many values of a string are open behind a piece is determined

beginning_once : (k : Kind) (t : Tag) (q r : Made) (m l : ℕ) → BeginningBecomes k t q m → BeginningBecomes k t r l → m ≡ l
beginning_once Boolean t q r m l h j = absurd h
beginning_once Bits t q r m l h j = absurd h
beginning_once Text t q r m l h j = h.1 ∙ sym j.1
beginning_once Other t q r m l h j = h.1 ∙ sym j.1

next_once : (mode : Mode) (n : ℕ) (p : Piece) (q r : Made) (m l : ℕ) → PieceBecomes mode n p q m → PieceBecomes mode n p r l → m ≡ l
next_once mode zero (value t c) q r m l h j = h.3 ∙ sym j.3
next_once mode zero (begins t) q r m l h j = beginning_once (kind_of t) t q r m l h j
next_once mode zero ends q r m l h j = h.1 ∙ sym j.1
next_once mode (suc n) (value t c) q r m l h j = h.2 ∙ sym j.2
next_once mode (suc n) (begins t) q r m l h j = h.2 ∙ sym j.2
next_once mode (suc zero) ends q r m l h j = h.1 ∙ sym j.1
next_once mode (suc (suc n)) ends q r m l h j = h.1 ∙ sym j.1

-- ---- from values to pieces

mutual
  segment_becomes : (mode : Mode) (n : ℕ) (t : Tree) → IsSegment t → PiecesBecome mode (suc n) (pieces t) (parts t) (suc n)
  segment_becomes mode n (primitive t c) s = (suc n, (s, refl, refl), refl)
  segment_becomes mode n (constructed t ts) s = (
    suc (suc n),
    (s.0, refl, refl),
    both_become mode (suc (suc n)) (suc (suc n)) (suc n) (pieces_of ts) (parts_of ts) (ends ∷ []) (made_part [] ∷ [])
        (segments_become mode (suc n) ts s.1) (suc n, (refl, refl), refl),
  )

  segments_become : (mode : Mode) (n : ℕ) (ts : Trees) → AreSegments ts → PiecesBecome mode (suc n) (pieces_of ts) (parts_of ts) (suc n)
  segments_become mode n no_trees s = refl
  segments_become mode n (t ∷ₜ ts) s =
      both_become mode (suc n) (suc n) (suc n) (pieces t) (parts t) (pieces_of ts) (parts_of ts) (segment_becomes mode n t s.0) (segments_become mode n ts s.1)

string_begins : (k : Kind) (t u : Tag) → k ≡ Text → u ≡ t → BeginningBecomes k t (made_string u) 1
string_begins k t u e same = rw e (ap (λ v. made_string v) same, refl)

other_begins : (k : Kind) (t u : Tag) → k ≡ Other → u ≡ t → BeginningBecomes k t (made_beginning u) 0
other_begins k t u e same = rw e (ap (λ v. made_beginning v) same, refl)

mutual
  one_becomes : (mode : Mode) (t u : Tree) → Becomes mode t u → PiecesBecome mode 0 (pieces t) (makes t u) 0
  one_becomes mode (primitive t c) (primitive u d) h = (0, (d, h.1, ap (λ v. made_value v d) h.0, refl), refl)
  one_becomes mode (primitive t c) (constructed u us) h = absurd h
  one_becomes mode (constructed t ts) (primitive u d) h = (
    1,
    string_begins (kind_of t) t u h.1.text h.0,
    both_become mode 1 1 0 (pieces_of ts) (parts_of ts) (ends ∷ []) (made_string_end ∷ []) (segments_become mode 0 ts h.1.segments) (0, (refl, refl), refl),
  )
  one_becomes mode (constructed t ts) (constructed u us) h = (
    0,
    other_begins (kind_of t) t u h.1 h.0,
    both_become mode 0 0 0 (pieces_of ts) (all_make ts us) (ends ∷ []) (made_end ∷ []) (all_become mode ts us h.2) (0, (refl, refl), refl),
  )

  pub all_become : (mode : Mode) (ts us : Trees) → Become mode ts us → PiecesBecome mode 0 (pieces_of ts) (all_make ts us) 0
  all_become mode no_trees no_trees h = refl
  all_become mode no_trees (u ∷ₜ us) h = absurd h
  all_become mode (t ∷ₜ ts) no_trees h = absurd h
  all_become mode (t ∷ₜ ts) (u ∷ₜ us) h =
      both_become mode 0 0 0 (pieces t) (makes t u) (pieces_of ts) (all_make ts us) (one_becomes mode t u h.0) (all_become mode ts us h.1)

-- ---- and back

-- the piece in front of others
record FirstBack (mode : Mode) (n : ℕ) (p : Piece) (r : List Piece) (qs : List Made) (m : ℕ) : Type 0 where
  made : Made
  rest : List Made
  behind : ℕ
  becomes : PieceBecomes mode n p made behind
  is : qs ≡ made ∷ rest
  more : PiecesBecome mode behind r rest m

first_back : (mode : Mode) (n : ℕ) (p : Piece) (r : List Piece) (qs : List Made) (m : ℕ) → PiecesBecome mode n (p ∷ r) qs m → FirstBack mode n p r qs m
first_back mode n p r [] m h = absurd h
first_back mode n p r (q ∷ qs) m h = record { made = q; rest = qs; behind = h.0; becomes = h.1; is = refl; more = h.2 }

-- segments, whose parts these are, before what r becomes
record SegmentBack (mode : Mode) (n : ℕ) (t : Tree) (r : List Piece) (qs : List Made) (m : ℕ) : Type 0 where
  rest : List Made
  segment : IsSegment t
  is : qs ≡ parts t ++ rest
  more : PiecesBecome mode (suc n) r rest m

record SegmentsBack (mode : Mode) (n : ℕ) (ts : Trees) (r : List Piece) (qs : List Made) (m : ℕ) : Type 0 where
  rest : List Made
  segments : AreSegments ts
  is : qs ≡ parts_of ts ++ rest
  more : PiecesBecome mode (suc n) r rest m

mutual
  segment_back : (mode : Mode) (n : ℕ) (t : Tree) (r : List Piece) (qs : List Made) (m : ℕ) → PiecesBecome mode (suc n) (pieces t ++ r) qs m
      → SegmentBack mode n t r qs m
  segment_back mode n (primitive t c) r qs m h =
      let f = first_back mode (suc n) (value t c) r qs m h in
      record {
        rest = f.rest;
        segment = f.becomes.0;
        is = f.is ∙ ap (λ q. q ∷ f.rest) f.becomes.1;
        more = subst (λ i. PiecesBecome mode i r f.rest m) f.becomes.2 f.more;
      }
  segment_back mode n (constructed t ts) r qs m h =
      let f = first_back mode (suc n) (begins t) ((pieces_of ts ++ ends ∷ []) ++ r) qs m h in
      let inner : PiecesBecome mode (suc (suc n)) (pieces_of ts ++ (ends ∷ r)) f.rest m =
      subst (λ i. PiecesBecome mode i (pieces_of ts ++ (ends ∷ r)) f.rest m) f.becomes.2
      (subst (λ l. PiecesBecome mode f.behind l f.rest m) (append_assoc (pieces_of ts) (ends ∷ []) r) f.more) in
      let b = segments_back mode (suc n) ts (ends ∷ r) f.rest m inner in
      let e = first_back mode (suc (suc n)) ends r b.rest m b.more in
      record {
        rest = e.rest;
        segment = (f.becomes.0, b.segments);
        is = f.is ∙ ap (λ q. q ∷ f.rest) f.becomes.1
            ∙ ap (λ l. made_part [] ∷ l) (b.is ∙ ap (λ l. parts_of ts ++ l) (e.is ∙ ap (λ q. q ∷ e.rest) e.becomes.0)
            ∙ sym (append_assoc (parts_of ts) (made_part [] ∷ []) e.rest));
        more = subst (λ i. PiecesBecome mode i r e.rest m) e.becomes.1 e.more;
      }

  segments_back : (mode : Mode) (n : ℕ) (ts : Trees) (r : List Piece) (qs : List Made) (m : ℕ) → PiecesBecome mode (suc n) (pieces_of ts ++ r) qs m
      → SegmentsBack mode n ts r qs m
  segments_back mode n no_trees r qs m h = record { rest = qs; segments = tt; is = refl; more = h }
  segments_back mode n (t ∷ₜ ts) r qs m h =
      let a = segment_back mode n t (pieces_of ts ++ r) qs m
      (subst (λ l. PiecesBecome mode (suc n) l qs m) (append_assoc (pieces t) (pieces_of ts) r) h) in
      let b = segments_back mode n ts r a.rest m a.more in
      record {
        rest = b.rest;
        segments = (a.segment, b.segments);
        is = a.is ∙ ap (λ l. parts t ++ l) b.is ∙ sym (append_assoc (parts t) (parts_of ts) b.rest);
        more = b.more;
      }

-- this is written of a value that t becomes, before what r becomes
record TreeBack (mode : Mode) (t : Tree) (r : List Piece) (qs : List Made) (m : ℕ) : Type 0 where
  tree : Tree
  rest : List Made
  becomes : Becomes mode t tree
  is : qs ≡ makes t tree ++ rest
  more : PiecesBecome mode 0 r rest m

record TreesBack (mode : Mode) (ts : Trees) (r : List Piece) (qs : List Made) (m : ℕ) : Type 0 where
  trees : Trees
  rest : List Made
  become : Become mode ts trees
  is : qs ≡ all_make ts trees ++ rest
  more : PiecesBecome mode 0 r rest m

constructed_back : (mode : Mode) (t : Tag) (ts : Trees) (r : List Piece) (q : Made) (qs : List Made) (n m : ℕ) (k : Kind) → kind_of t ≡ k
    → BeginningBecomes k t q n → PiecesBecome mode n (pieces_of ts ++ (ends ∷ r)) qs m
    → ((v : List Made) → PiecesBecome mode 0 (pieces_of ts ++ (ends ∷ r)) v m → TreesBack mode ts (ends ∷ r) v m)
    → TreeBack mode (constructed t ts) r (q ∷ qs) m
constructed_back mode t ts r q qs n m Boolean kind b h inner = absurd b
constructed_back mode t ts r q qs n m Bits kind b h inner = absurd b
constructed_back mode t ts r q qs n m Text kind b h inner =
    let s = segments_back mode 0 ts (ends ∷ r) qs m (subst (λ i. PiecesBecome mode i (pieces_of ts ++ (ends ∷ r)) qs m) b.1 h) in
    let e = first_back mode 1 ends r s.rest m s.more in
    record {
      tree = primitive t (concat (segments_of ts));
      rest = e.rest;
      becomes = (refl, record { text = kind; segments = s.segments; is = refl });
      is = ap (λ p. p ∷ qs) b.0
          ∙ ap (λ l. made_string t ∷ l) (s.is ∙ ap (λ l. parts_of ts ++ l) (e.is ∙ ap (λ p. p ∷ e.rest) e.becomes.0)
          ∙ sym (append_assoc (parts_of ts) (made_string_end ∷ []) e.rest));
      more = subst (λ i. PiecesBecome mode i r e.rest m) e.becomes.1 e.more;
    }
constructed_back mode t ts r q qs n m Other kind b h inner =
    let s = inner qs (subst (λ i. PiecesBecome mode i (pieces_of ts ++ (ends ∷ r)) qs m) b.1 h) in
    let e = first_back mode 0 ends r s.rest m s.more in
    record {
      tree = constructed t s.trees;
      rest = e.rest;
      becomes = (refl, kind, s.become);
      is = ap (λ p. p ∷ qs) b.0
          ∙ ap (λ l. made_beginning t ∷ l) (s.is ∙ ap (λ l. all_make ts s.trees ++ l) (e.is ∙ ap (λ p. p ∷ e.rest) e.becomes.0)
          ∙ sym (append_assoc (all_make ts s.trees) (made_end ∷ []) e.rest));
      more = subst (λ i. PiecesBecome mode i r e.rest m) e.becomes.1 e.more;
    }

mutual
  tree_back : (mode : Mode) (t : Tree) (r : List Piece) (qs : List Made) (m : ℕ) → PiecesBecome mode 0 (pieces t ++ r) qs m → TreeBack mode t r qs m
  tree_back mode (primitive t c) r qs m h =
      let f = first_back mode 0 (value t c) r qs m h in
      record {
        tree = primitive t f.becomes.0;
        rest = f.rest;
        becomes = (refl, f.becomes.1);
        is = f.is ∙ ap (λ q. q ∷ f.rest) f.becomes.2;
        more = subst (λ i. PiecesBecome mode i r f.rest m) f.becomes.3 f.more;
      }
  tree_back mode (constructed t ts) r [] m h = absurd h
  tree_back mode (constructed t ts) r (q ∷ qs) m h =
      constructed_back mode t ts r q qs h.0 m (kind_of t) refl h.1
      (subst (λ l. PiecesBecome mode h.0 l qs m) (append_assoc (pieces_of ts) (ends ∷ []) r) h.2) (λ v k. trees_back mode ts (ends ∷ r) v m k)

  trees_back : (mode : Mode) (ts : Trees) (r : List Piece) (qs : List Made) (m : ℕ) → PiecesBecome mode 0 (pieces_of ts ++ r) qs m → TreesBack mode ts r qs m
  trees_back mode no_trees r qs m h = record { trees = no_trees; rest = qs; become = tt; is = refl; more = h }
  trees_back mode (t ∷ₜ ts) r qs m h =
      let a = tree_back mode t (pieces_of ts ++ r) qs m (subst (λ l. PiecesBecome mode 0 l qs m) (append_assoc (pieces t) (pieces_of ts) r) h) in
      let b = trees_back mode ts r a.rest m a.more in
      record {
        trees = a.tree ∷ₜ b.trees;
        rest = b.rest;
        become = (a.becomes, b.become);
        is = a.is ∙ ap (λ l. makes t a.tree ++ l) b.is ∙ sym (append_assoc (makes t a.tree) (all_make ts b.trees) b.rest);
        more = b.more;
      }

none_left : (mode : Mode) (qs : List Made) (m : ℕ) → PiecesBecome mode 0 [] qs m → qs ≡ []
none_left mode [] m h = refl
none_left mode (q ∷ qs) m h = absurd h

-- what the pieces of values become is written of values
pub record AllBack (mode : Mode) (ts : Trees) (qs : List Made) : Type 0 where
  pub trees : Trees
  pub become : Become mode ts trees
  pub are : qs ≡ all_make ts trees

pub all_back : (mode : Mode) (ts : Trees) (qs : List Made) (m : ℕ) → PiecesBecome mode 0 (pieces_of ts) qs m → AllBack mode ts qs
all_back mode ts qs m h =
    let b = trees_back mode ts [] qs m (subst (λ l. PiecesBecome mode 0 l qs m) (sym (append-nil (pieces_of ts))) h) in
    record {
      trees = b.trees;
      become = b.become;
      are = b.is ∙ ap (λ l. all_make ts b.trees ++ l) (none_left mode b.rest m b.more) ∙ append-nil (all_make ts b.trees);
    }

-- each of the pieces becomes something, where those before it became others
pub one_met : (mode : Mode) (n m : ℕ) (ps : List Piece) (p : Piece) (r : List Piece) (qs : List Made) → PiecesBecome mode n (ps ++ p ∷ r) qs m
    → (made : List Made) (k : ℕ) → PiecesBecome mode n ps made k → (q : Made) × (l : ℕ) × PieceBecomes mode k p q l
one_met mode n m [] p r [] h made k b = absurd h
one_met mode n m [] p r (q ∷ qs) h [] k b = (q, h.0, subst (λ i. PieceBecomes mode i p q h.0) (sym b) h.1)
one_met mode n m [] p r (q ∷ qs) h (c ∷ made) k b = absurd b
one_met mode n m (a ∷ ps) p r [] h made k b = absurd h
one_met mode n m (a ∷ ps) p r (q ∷ qs) h [] k b = absurd b
one_met mode n m (a ∷ ps) p r (q ∷ qs) h (c ∷ made) k b =
    one_met mode h.0 m ps p r qs h.2 made k (subst (λ i. PiecesBecome mode i ps made k) (next_once mode n a c q b.0 h.0 b.1 h.1) b.2)

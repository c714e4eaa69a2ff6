-- Values that are passed and copied, step by step.
use Rattle.std.proofs.Common.{◌≡◌, ◌≢◌, ℕ, ◌+◌, ◌-◌, true, List, [], ◌∷◌, ◌++◌, length, take, drop, reverse, refl, ap, sym, ◌∙◌}
use Rattle.std.proofs.Common.{subst, inl, inr, append_assoc, arith}
use Rattle.std.specs.Prelude.{sum_by}
use Rattle.std.proofs.lemmas.List.{length-append, append-nil}
use Rattle.std.proofs.Math.Seq.{drop-append_seam, take-append_seam}
use Rattle.std.proofs.lemmas.List.Sums.{sum_by-cons}
use Rattle.bcder.specs.declared.mode.Mode.{Mode}
use Rattle.bcder.specs.declared.mode.Mode.TheVariants.{Ber}
use Rattle.bcder.specs.x690.Encoding.{IsHeader, IsEncoding, AreEncodings}
use Rattle.bcder.specs.x690.Identifier.{Tag}
use Rattle.bcder.specs.x690.Tree.{Tree, constructed, Trees, no_trees, ◌∷ₜ◌, ◌+++◌}
use Rattle.bcder.specs.laws.Lists.{AreEncodings-join, AreEncodings-one}
use Rattle.bcder.specs.calls.Content.{length_of}
use Rattle.bcder.specs.calls.Valued.{tag_of}
use Rattle.encodings.specs.declared.sets.Copied.{Copied}
use Rattle.encodings.specs.declared.sets.Enclosing.{Enclosing}
use Rattle.encodings.specs.Open.{Open}
use Rattle.encodings.specs.Sets.{place, is_set, IsSorted, AreSorted, AreArranged, IsSorting}
use Rattle.encodings.specs.Sorting.{Pair, octets_of, trees_of, AreEncoded, AreMarks, Layer, Holds, State, behind_open, behind_of}
use Rattle.encodings.specs.Sorting.{open_length, EndsBy, definite, indefinite, Arranged, IsEnclosing, Leaves}
use Rattle.encodings.proofs.Arranging.{trees_arranged}

-- ---- one value more

octets_more : (ps : List Pair) (p : Pair) → octets_of (ps ++ p ∷ []) ≡ octets_of ps ++ p.octets
octets_more [] p = append-nil p.octets
octets_more (q ∷ ps) p = ap (λ w. q.octets ++ w) (octets_more ps p) ∙ sym (append_assoc q.octets (octets_of ps) p.octets)

marks_more : (cs : List Copied) (ps : List Pair) (c : Copied) (p : Pair) → AreMarks cs ps → c.place ≡ place (tag_of p.tree) → c.size ≡ length p.octets
    → AreMarks (cs ++ c ∷ []) (ps ++ p ∷ [])
marks_more [] [] c p h a b = (a, b, tt)
marks_more [] (q ∷ ps) c p h a b = absurd h
marks_more (d ∷ cs) [] c p h a b = absurd h
marks_more (d ∷ cs) (q ∷ ps) c p h a b = (h.0, h.1, marks_more cs ps c p h.2 a b)

module _ (mode : Mode) where
  sorted_more : (ts : Trees) (ps : List Pair) (t : Tree) (p : Pair) → AreSorted mode ts (trees_of ps) → IsSorted mode t p.tree
      → AreSorted mode (ts +++ (t ∷ₜ no_trees)) (trees_of (ps ++ p ∷ []))
  sorted_more no_trees [] t p h s = (s, tt)
  sorted_more no_trees (q ∷ ps) t p h s = absurd h
  sorted_more (u ∷ₜ ts) [] t p h s = absurd h
  sorted_more (u ∷ₜ ts) (q ∷ ps) t p h s = (h.0, sorted_more ts ps t p h.1 s)

  encoded_more : (ps : List Pair) (p : Pair) → AreEncoded mode ps → IsEncoding mode p.tree p.octets → AreEncoded mode (ps ++ p ∷ [])
  encoded_more [] p h e = (e, tt)
  encoded_more (q ∷ ps) p h e = (h.0, encoded_more ps p h.1 e)

  encode : (ps : List Pair) → AreEncoded mode ps → AreEncodings mode (trees_of ps) (octets_of ps)
  encode [] h = refl
  encode (p ∷ ps) h = (p.octets, octets_of ps, h.0, encode ps h.1, refl)

  -- a value of the octets a, which was copied as p
  abbrev added : Layer → Tree → List ℕ → Pair → Layer
  added l t a p = record { read = l.read +++ (t ∷ₜ no_trees); old = l.old ++ a; pairs = l.pairs ++ p ∷ [] }

  one_more : (l : Layer) (t : Tree) (a : List ℕ) (p : Pair) → Holds mode l → IsEncoding mode t a → IsSorted mode t p.tree → IsEncoding mode p.tree p.octets
      → length p.octets ≡ length a → Holds mode (added l t a p)
  one_more l t a p h e s k n = record {
    encode = AreEncodings-join mode l.read (t ∷ₜ no_trees) l.old a h.encode (AreEncodings-one mode t a e);
    sorted = sorted_more l.read l.pairs t p h.sorted s;
    encoded = encoded_more l.pairs p h.encoded k;
    size =
        ap length (octets_more l.pairs p) ∙ length-append (octets_of l.pairs) p.octets ∙ ap (λ m. m + length p.octets) h.size
        ∙ ap (λ m. length l.old + m) n ∙ sym (length-append l.old a);
  }

  -- the octets of a value are passed in the innermost open value
  pub passed_value : (w : List ℕ) (fs : List Enclosing) (cs : List Copied) (v a y : List ℕ) (t : Tree) (p : Pair) (c : Copied)
      → State mode w fs cs v (a ++ y) → IsEncoding mode t a → IsSorted mode t p.tree → IsEncoding mode p.tree p.octets
      → length p.octets ≡ length a → c.place ≡ place (tag_of p.tree) → c.size ≡ length p.octets
      → State mode w fs (cs ++ c ∷ []) (v ++ p.octets) y
  passed_value w [] cs v a y t p c st e s k n i j = record {
    layer = added st.layer t a p;
    holds = one_more st.layer t a p st.holds e s k n;
    marks = marks_more cs st.layer.pairs c p st.marks i j;
    out_is = ap (λ z. z ++ p.octets) st.out_is ∙ sym (octets_more st.layer.pairs p);
    is = st.is ∙ sym (append_assoc st.layer.old a y);
  }
  passed_value w (f ∷ fs) cs v a y t p c st e s k n i j =
      let q : st.layer.old ++ (a ++ y) ≡ (st.layer.old ++ a) ++ y = sym (append_assoc st.layer.old a y) in
      record {
        layer = added st.layer t a p;
        holds = one_more st.layer t a p st.holds e s k n;
        tag = st.tag;
        place_is = st.place_is;
        sorts = st.sorts;
        header = st.header;
        is_header = subst (λ z. IsHeader mode st.tag true (length_of (open_length (behind_open f) (length z))) st.header) q st.is_header;
        before = st.before;
        mine = st.mine ++ c ∷ [];
        front = st.front;
        copied_is = ap (λ z. z ++ c ∷ []) st.copied_is ∙ append_assoc st.before st.mine (c ∷ []);
        marks = marks_more st.mine st.layer.pairs c p st.marks i j;
        out_is =
            ap (λ z. z ++ p.octets) st.out_is ∙ append_assoc (st.front ++ st.header) (octets_of st.layer.pairs) p.octets
            ∙ ap (λ z. (st.front ++ st.header) ++ z) (sym (octets_more st.layer.pairs p));
        start = st.start;
        inner = st.inner;
        first = st.first;
        around = subst (λ z. State mode w fs st.before st.front (st.header ++ (z ++ behind_of (behind_open f)))) q st.around;
      }

  nothing_held : Holds mode (record { read = no_trees; old = []; pairs = [] })
  nothing_held = record { encode = refl; sorted = tt; encoded = tt; size = refl }

  -- a header is passed
  pub passed_header : (w : List ℕ) (fs : List Enclosing) (cs : List Copied) (v x h y : List ℕ) (f : Enclosing) (t : Tag) → State mode w fs cs v x
      → f.place ≡ place t → f.sorts ≡ is_set t → IsHeader mode t true (length_of (open_length (behind_open f) (length y))) h
      → x ≡ h ++ (y ++ behind_of (behind_open f))
      → f.start ≡ length v → f.inner ≡ length (v ++ h) → f.first ≡ length cs → State mode w (f ∷ fs) cs (v ++ h) y
  passed_header w fs cs v x h y f t st i j d is a b c = record {
    layer = record { read = no_trees; old = []; pairs = [] };
    holds = nothing_held;
    tag = t;
    place_is = i;
    sorts = j;
    header = h;
    is_header = d;
    before = cs;
    mine = [];
    front = v;
    copied_is = sym (append-nil cs);
    marks = tt;
    out_is = sym (append-nil (v ++ h));
    start = a;
    inner = b;
    first = c;
    around = subst (State mode w fs cs v) is st;
  }

  -- nothing is left
  pub all_passed : (w : List ℕ) (cs : List Copied) (v : List ℕ) → State mode w [] cs v [] → IsSorting mode w v × (length v ≡ length w)
  all_passed w cs v st =
      let e : w ≡ st.layer.old = st.is ∙ append-nil st.layer.old in (
        record {
          read = st.layer.read;
          encode = subst (AreEncodings mode st.layer.read) (sym e) st.holds.encode;
          sorted = trees_of st.layer.pairs;
          same = st.holds.sorted;
          is = subst (AreEncodings mode (trees_of st.layer.pairs)) (sym st.out_is) (encode st.layer.pairs st.holds.encoded);
        },
        ap length st.out_is ∙ st.holds.size ∙ ap length (sym e),
      )

  -- ---- the innermost open value ends

  closed_value : (t : Tag) (ts : Trees) (o : Open) (h c x e y : List ℕ) → AreEncodings mode ts c
      → IsHeader mode t true (length_of (open_length o (length c))) h → EndsBy mode o x e y → IsEncoding mode (constructed t ts) (h ++ (c ++ e))
  closed_value t ts o h c x e y k d (definite is left none) = (
    c,
    k,
    inl (record {
      header = h;
      is_header = subst (λ z. IsHeader mode t true (length_of (open_length z (length c))) h) is d;
      is = ap (λ z. h ++ (c ++ z)) none ∙ ap (λ z. h ++ z) (append-nil c);
    }),
  )
  closed_value t ts o h c x e y k d (indefinite is end_is left) = (
    c,
    k,
    inr (record {
      header = h;
      is_header = subst (λ z. IsHeader mode t true (length_of (open_length z (length c))) h) is d;
      end = e;
      is_end = end_is;
      is = refl;
    }),
  )

  rest_is : (o : Open) (h c x e y : List ℕ) → EndsBy mode o x e y → h ++ ((c ++ x) ++ behind_of o) ≡ (h ++ (c ++ e)) ++ y
  rest_is o h c x e y (definite is left none) =
      ap (λ z. h ++ ((c ++ z) ++ behind_of o)) (left ∙ sym none) ∙ ap (λ z. h ++ ((c ++ e) ++ behind_of z)) is ∙ sym (append_assoc h (c ++ e) y)
  rest_is o h c x e y (indefinite is end_is left) =
      ap (λ z. h ++ ((c ++ x) ++ behind_of z)) is ∙ ap (λ z. h ++ z) (append-nil (c ++ x)) ∙ ap (λ z. h ++ (c ++ z)) left
      ∙ ap (λ z. h ++ z) (sym (append_assoc c e y)) ∙ sym (append_assoc h (c ++ e) y)

  -- its contents octets were all passed
  told_length : (t : Tag) (o : Open) (h c x e y : List ℕ) → EndsBy mode o x e y → IsHeader mode t true (length_of (open_length o (length (c ++ x)))) h
      → IsHeader mode t true (length_of (open_length o (length c))) h
  told_length t o h c x e y (definite is left none) d =
      subst (λ z. IsHeader mode t true (length_of (open_length o (length z))) h) (ap (λ z. c ++ z) left ∙ append-nil c) d
  told_length t o h c x e y (indefinite is end_is left) d =
      subst (λ z. IsHeader mode t true (length_of (open_length z (length c))) h) (sym is)
      (subst (λ z. IsHeader mode t true (length_of (open_length z (length (c ++ x)))) h) is d)

  marks_size : (cs : List Copied) (ps : List Pair) → AreMarks cs ps → sum_by (λ (c : Copied). c.size) cs ≡ length (octets_of ps)
  marks_size [] [] h = refl
  marks_size [] (p ∷ ps) h = absurd h
  marks_size (c ∷ cs) [] h = absurd h
  marks_size (c ∷ cs) (p ∷ ps) h =
      sum_by-cons (λ (d : Copied). d.size) c cs ∙ ap (λ n. n + sum_by (λ (d : Copied). d.size) cs) h.1
      ∙ ap (λ n. length p.octets + n) (marks_size cs ps h.2) ∙ sym (length-append p.octets (octets_of ps))

  module _ (w : List ℕ) (f : Enclosing) (fs : List Enclosing) (cs : List Copied) (v x : List ℕ) (st : State mode w (f ∷ fs) cs v x) where
    mine_are : drop f.first cs ≡ st.mine
    mine_are = ap (λ n. drop n cs) st.first ∙ ap (λ z. drop (length st.before) z) st.copied_is ∙ drop-append_seam st.before st.mine

    before_are : take f.first cs ≡ st.before
    before_are = ap (λ n. take n cs) st.first ∙ ap (λ z. take (length st.before) z) st.copied_is ∙ take-append_seam st.before st.mine

    inside_is : drop f.inner v ≡ octets_of st.layer.pairs
    inside_is =
        ap (λ n. drop n v) st.inner ∙ ap (λ z. drop (length (st.front ++ st.header)) z) st.out_is
        ∙ drop-append_seam (st.front ++ st.header) (octets_of st.layer.pairs)

    front_is : take f.inner v ≡ st.front ++ st.header
    front_is =
        ap (λ n. take n v) st.inner ∙ ap (λ z. take (length (st.front ++ st.header)) z) st.out_is
        ∙ take-append_seam (st.front ++ st.header) (octets_of st.layer.pairs)

    pub enclosing : IsEnclosing f cs v
    enclosing =
        let a = length-append st.front st.header in
        let b = ap length st.out_is ∙ length-append (st.front ++ st.header) (octets_of st.layer.pairs) in
        let c = ap length st.copied_is ∙ length-append st.before st.mine in
        record {
          before = omega (arith, st.start, st.inner, a);
          within = omega (arith, st.inner, b);
          first = omega (arith, st.first, c);
          sizes = ap (sum_by (λ (d : Copied). d.size)) mine_are ∙ marks_size st.mine st.layer.pairs st.marks ∙ ap length (sym inside_is);
        }

    module _ (canonical : mode ≢ Ber) (e y : List ℕ) (ends : EndsBy mode (behind_open f) x e y) (ds : List Copied) (u : List ℕ) (l : Leaves f e cs v ds u) where
      arranged : (z : List ℕ) × Arranged f.sorts st.layer.pairs (take f.inner v) z × (u ≡ z ++ e)
      arranged = l.inside st.layer.pairs (subst (λ z. AreMarks z st.layer.pairs) (sym mine_are) st.marks) inside_is

      pub passed_end : State mode w fs ds u y
      passed_end =
          let a = arranged in
          let qs = a.1.pairs in
          let t = trees_arranged mode canonical f.sorts st.layer.pairs qs a.1.arranged st.holds.encoded in
          let sorted = subst (λ s. AreArranged mode s (trees_of st.layer.pairs) (trees_of qs)) st.sorts t.trees in
          let told = told_length st.tag (behind_open f) st.header st.layer.old x e y ends st.is_header in
          let n : length (octets_of qs) ≡ length st.layer.old = t.size ∙ st.holds.size in
          let old = closed_value st.tag st.layer.read (behind_open f) st.header st.layer.old x e y st.holds.encode told ends in
          let new = closed_value st.tag (trees_of qs) (behind_open f) st.header (octets_of qs) x e y (encode qs t.encoded)
          (subst (λ m. IsHeader mode st.tag true (length_of (open_length (behind_open f) m)) st.header) (sym n) told) ends in
          let p : Pair = record { tree = constructed st.tag (trees_of qs); octets = st.header ++ (octets_of qs ++ e) } in
          let written : u ≡ st.front ++ p.octets =
          a.2 ∙ ap (λ z. z ++ e) a.1.is ∙ ap (λ z. (z ++ octets_of qs) ++ e) front_is ∙ append_assoc (st.front ++ st.header) (octets_of qs) e
          ∙ append_assoc st.front st.header (octets_of qs ++ e) in
          let size : length p.octets ≡ length (st.header ++ (st.layer.old ++ e)) =
          length-append st.header (octets_of qs ++ e) ∙ ap (λ m. length st.header + m) (length-append (octets_of qs) e ∙ ap (λ m. m + length e) n
          ∙ sym (length-append st.layer.old e)) ∙ sym (length-append st.header (st.layer.old ++ e)) in
          let k : l.copied.size ≡ length p.octets = omega (arith, l.size, st.start, ap length written, length-append st.front p.octets) in
          let next = passed_value w fs st.before st.front (st.header ++ (st.layer.old ++ e)) y (constructed st.tag st.layer.read) p l.copied
          (subst (State mode w fs st.before st.front) (rest_is (behind_open f) st.header st.layer.old x e y ends) st.around)
          old (refl, (trees_of st.layer.pairs, st.holds.sorted, sorted)) new size (l.place_is ∙ st.place_is) k in
          subst (λ z. State mode w fs z u y) (sym (l.is ∙ ap (λ z. z ++ l.copied ∷ []) before_are))
          (subst (λ z. State mode w fs (st.before ++ l.copied ∷ []) z y) (sym written) next)

  -- ---- the first step, and the last

  pub none_passed : (w : List ℕ) → State mode w [] [] [] w
  none_passed w = record { layer = record { read = no_trees; old = []; pairs = [] }; holds = nothing_held; marks = tt; out_is = refl; is = refl }

  pub finished : (w : List ℕ) (os : List Enclosing) (cs : List Copied) (v x : List ℕ) → State mode w (reverse os) cs v x → length os ≡ 0 → length x ≡ 0
      → IsSorting mode w v × (length v ≡ length w)
  finished w [] cs v [] st a b = all_passed w cs v st
  finished w [] cs v (b ∷ x) st a k = absurd (omega arith)
  finished w (o ∷ os) cs v x st a b = absurd (omega arith)

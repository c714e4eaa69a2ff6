-- What is written of values whose strings are cut again is the encodings of the cut values.
use Rattle.std.proofs.Common.{◌≡◌, ℕ, zero, suc, ◌+◌, ◌^◌, ◌<◌, ◌≤◌, Bool, true, false, List, [], ◌∷◌, ◌++◌, length, take, drop}
use Rattle.std.proofs.Common.{refl, sym, ap, ap₂, subst, ◌∙◌, append_assoc, append-nil, arith, ltb-true}
use Rattle.std.specs.Prelude.{nat_lt, if◌then◌else◌}
use Rattle.std.specs.List.{concat}
use Rattle.std.proofs.lemmas.Bool.{lt-ltb, le-ltb}
use Rattle.std.proofs.lemmas.List.{length-append, length-take}
use Rattle.std.proofs.lemmas.List.Folds.{concat-append}
use Rattle.bcder.specs.declared.mode.Mode.{Mode}
use Rattle.bcder.specs.declared.mode.Mode.TheVariants.{Cer}
use Rattle.bcder.specs.x690.Identifier.{AreOctets, Tag, IsValueTag}
use Rattle.bcder.specs.x690.Encoding.{IsEncoding, AreEncodings}
use Rattle.bcder.specs.x690.OctetString.{octet_string_tag, segments, segments_of}
use Rattle.bcder.specs.x690.Octets.{definite}
use Rattle.bcder.specs.x690.Tree.{Tree, primitive, constructed, Trees, no_trees, ◌∷ₜ◌}
use Rattle.bcder.specs.laws.Limits.{AreOctets-drop}
use Rattle.bcder.specs.laws.Sound.{AreOctets-take}
use Rattle.bcder.specs.laws.StringMeanings.{octet_string_value}
use Rattle.bcder.specs.laws.Written.{primitive_written}
use Rattle.encodings.specs.declared.convert.Kind.{Kind}
use Rattle.encodings.specs.declared.convert.Kind.TheVariants.{Boolean, Bits, Text, Other}
use Rattle.encodings.specs.Conversion.{kind_of, ContentsBecome, Becomes, Become, IsCutTo, AreCutTo, AreRewritten}
use Rattle.encodings.specs.Cutting.{cut_from, cut, body_left, total_of, cut_value, value_written, cut_written, inside_cut, CutFit}
use Rattle.encodings.specs.Pieces.{Made, made_end, made_string, made_part, made_string_end, parts, parts_of, makes, all_make}
use Rattle.encodings.specs.Pieces.{Frames, in_front, headed, ended, string_headed, string_ended, AreThere, all_octets, spelled, all_spelled, ReadsAs}
use Rattle.encodings.proofs.Cutting.{cut_shape, cut_holds}
use Rattle.encodings.proofs.PiecesWritten.{around, around_string, in_front_both, segments_octets, contents_octets, framed_tag, length_below, encloses}

-- ---- the cut values

abbrev cut_string : Kind → Tag → List ℕ → Tree
cut_string Text t c = if nat_lt 1000 (length c) then constructed t (cut c) else primitive t c
cut_string Boolean t c = primitive t c
cut_string Bits t c = primitive t c
cut_string Other t c = primitive t c

abbrev mutual
  cut_tree : Tree → Tree
  cut_tree (primitive t c) = cut_string (kind_of t) t c
  cut_tree (constructed t ts) = constructed t (cut_trees ts)

  pub cut_trees : Trees → Trees
  cut_trees no_trees = no_trees
  cut_trees (t ∷ₜ ts) = cut_tree t ∷ₜ cut_trees ts

few : (n : ℕ) → nat_lt 1000 n ≡ false → n ≤ 1000
few n e = at_most (nat_lt 1000 n) refl e
  where
    at_most : (b : Bool) → nat_lt 1000 n ≡ b → b ≡ false → n ≤ 1000
    at_most b s f = grind (arith, Rattle.std.proofs.lemmas.Bool.Decides.nat_tests)

string_cut_to : (t : Tag) (c : List ℕ) (k : Kind) → kind_of t ≡ k → IsCutTo (primitive t c) (cut_string k t c)
string_cut_to t c Boolean e = (refl, refl, rw e tt)
string_cut_to t c Bits e = (refl, refl, rw e tt)
string_cut_to t c Other e = (refl, refl, rw e tt)
string_cut_to t c Text e = go (nat_lt 1000 (length c)) refl
  where
    go : (b : Bool) → nat_lt 1000 (length c) ≡ b → IsCutTo (primitive t c) (if b then constructed t (cut c) else primitive t c)
    go true l = (refl, e, cut_shape c (ltb-true 1000 (length c) l), cut_holds (length c) c (omega arith))
    go false l = (refl, refl, rw e (few (length c) l))

mutual
  tree_cut_to : (t : Tree) → IsCutTo t (cut_tree t)
  tree_cut_to (primitive t c) = string_cut_to t c (kind_of t) refl
  tree_cut_to (constructed t ts) = (refl, trees_cut_to ts)

  pub trees_cut_to : (ts : Trees) → AreCutTo ts (cut_trees ts)
  trees_cut_to no_trees = tt
  trees_cut_to (t ∷ₜ ts) = (tree_cut_to t, trees_cut_to ts)

-- ---- what is written of them

eta : (f : Frames) → f ≡ in_front [] f
eta f = refl

value_spelled : (k : Kind) (t : Tag) (c : List ℕ) (f : Frames) → value_written k t c f ≡ in_front (spelled Cer (cut_string k t c)) f
unfolding body_left
value_spelled Boolean t c f = refl
value_spelled Bits t c f = refl
value_spelled Other t c f = refl
value_spelled Text t c f = go (nat_lt 1000 (length c))
  where
    go : (b : Bool) → (if b then cut_value t c f else in_front (definite t false c) f)
        ≡ in_front (spelled Cer (if b then constructed t (cut c) else primitive t c)) f
    go true = around Cer t (all_spelled Cer (cut c)) f
    go false = refl

mutual
  unfolding cut_written

  segment_written : (t : Tree) (is : List Made) → cut_written (parts t ++ is) ≡ in_front (concat (segments t)) (cut_written is)
  segment_written (primitive t c) is = ap (λ w. in_front w (cut_written is)) (sym (append-nil c))
  segment_written (constructed t ts) is =
      sym (eta (cut_written ((parts_of ts ++ made_part [] ∷ []) ++ is)))
      ∙ ap cut_written (append_assoc (parts_of ts) (made_part [] ∷ []) is) ∙ segments_written ts (made_part [] ∷ is)
      ∙ ap (in_front (concat (segments_of ts))) (sym (eta (cut_written is)))

  segments_written : (ts : Trees) (is : List Made) → cut_written (parts_of ts ++ is) ≡ in_front (concat (segments_of ts)) (cut_written is)
  segments_written no_trees is = eta (cut_written is)
  segments_written (t ∷ₜ ts) is =
      ap cut_written (append_assoc (parts t) (parts_of ts) is) ∙ segment_written t (parts_of ts ++ is)
      ∙ ap (in_front (concat (segments t))) (segments_written ts is)
      ∙ in_front_both (concat (segments t)) (concat (segments_of ts)) (cut_written is)
      ∙ ap (λ w. in_front w (cut_written is)) (sym (concat-append (segments t) (segments_of ts)))

mutual
  segment_total : (t : Tree) (is : List Made) → total_of (parts t ++ is) ≡ length (concat (segments t)) + total_of is
  segment_total (primitive t c) is = ap (λ n. n + total_of is) (ap length (sym (append-nil c)))
  segment_total (constructed t ts) is =
      let e = ap total_of (append_assoc (parts_of ts) (made_part [] ∷ []) is) in
      let r = segments_total ts (made_part [] ∷ is) in
      omega (arith, e, r)

  segments_total : (ts : Trees) (is : List Made) → total_of (parts_of ts ++ is) ≡ length (concat (segments_of ts)) + total_of is
  segments_total no_trees is = omega arith
  segments_total (t ∷ₜ ts) is =
      let e = ap total_of (append_assoc (parts t) (parts_of ts) is) in
      let a = segment_total t (parts_of ts ++ is) in
      let b = segments_total ts is in
      let c = ap length (concat-append (segments t) (segments_of ts)) in
      omega (arith, e, a, b, c, length-append (concat (segments t)) (concat (segments_of ts)))

mutual
  unfolding cut_written

  segment_inside : (t : Tree) (is : List Made) (s : List ℕ) → inside_cut 0 (parts t ++ is) s ≡ inside_cut 0 is (s ++ concat (segments t))
  segment_inside (primitive t c) is s = ap (λ w. inside_cut 0 is (s ++ w)) (sym (append-nil c))
  segment_inside (constructed t ts) is s =
      ap (λ l. inside_cut 0 l (s ++ [])) (append_assoc (parts_of ts) (made_part [] ∷ []) is)
      ∙ segments_inside ts (made_part [] ∷ is) (s ++ [])
      ∙ ap (λ w. inside_cut 0 is w) (append-nil ((s ++ []) ++ concat (segments_of ts)) ∙ ap (λ v. v ++ concat (segments_of ts)) (append-nil s))

  segments_inside : (ts : Trees) (is : List Made) (s : List ℕ) → inside_cut 0 (parts_of ts ++ is) s ≡ inside_cut 0 is (s ++ concat (segments_of ts))
  segments_inside no_trees is s = ap (λ w. inside_cut 0 is w) (sym (append-nil s))
  segments_inside (t ∷ₜ ts) is s =
      ap (λ l. inside_cut 0 l s) (append_assoc (parts t) (parts_of ts) is) ∙ segment_inside t (parts_of ts ++ is) s
      ∙ segments_inside ts is (s ++ concat (segments t))
      ∙ ap (λ w. inside_cut 0 is w) (append_assoc s (concat (segments t)) (concat (segments_of ts))
      ∙ ap (λ v. s ++ v) (sym (concat-append (segments t) (segments_of ts))))

-- the parts of a string, and its end
string_parts : Trees → List Made → List Made
string_parts ts is = (parts_of ts ++ made_string_end ∷ []) ++ is

joined_written : (u : Tag) (ts : Trees) (is : List Made)
    → cut_written (made_string u ∷ string_parts ts is) ≡ in_front (spelled Cer (cut_string Text u (concat (segments_of ts)))) (cut_written is)
unfolding cut_written body_left string_parts
joined_written u ts is = go (nat_lt 1000 (length s)) refl
  where
    s : List ℕ
    s = concat (segments_of ts)

    f : Frames
    f = cut_written is

    total : total_of (string_parts ts is) ≡ length s
    total =
        let e = ap total_of (append_assoc (parts_of ts) (made_string_end ∷ []) is) in
        let r = segments_total ts (made_string_end ∷ is) in
        omega (arith, e, r)

    inside : inside_cut 0 (string_parts ts is) [] ≡ body_left 0 s (ended Cer f)
    inside = ap (λ l. inside_cut 0 l []) (append_assoc (parts_of ts) (made_string_end ∷ []) is) ∙ segments_inside ts (made_string_end ∷ is) []

    outside : cut_written (string_parts ts is) ≡ in_front s (string_ended f)
    outside = ap cut_written (append_assoc (parts_of ts) (made_string_end ∷ []) is) ∙ segments_written ts (made_string_end ∷ is)

    go : (b : Bool) → nat_lt 1000 (length s) ≡ b
        → cut_written (made_string u ∷ string_parts ts is) ≡ in_front (spelled Cer (cut_string Text u s)) f
    go true e = rw (ap (nat_lt 1000) total, e) (ap (headed Cer u) inside ∙ around Cer u (all_spelled Cer (cut s)) f)
    go false e = rw (ap (nat_lt 1000) total, e) (ap (string_headed u) outside ∙ around_string u s f)

mutual
  unfolding cut_written string_parts

  pub one_cut : (mode : Mode) (t v : Tree) (is : List Made) → Becomes mode t v
      → cut_written (makes t v ++ is) ≡ in_front (spelled Cer (cut_tree v)) (cut_written is)
  one_cut mode (primitive t c) (primitive u d) is b = value_spelled (kind_of u) u d (cut_written is)
  one_cut mode (primitive t c) (constructed u us) is b = absurd b
  one_cut mode (constructed t ts) (primitive u d) is b =
      joined_written u ts is
      ∙ ap₂ (λ k s. in_front (spelled Cer (cut_string k u s)) (cut_written is)) (sym (ap kind_of b.0 ∙ b.1.text)) (sym b.1.is)
  one_cut mode (constructed t ts) (constructed u us) is b =
      ap (λ l. headed Cer u (cut_written l)) (append_assoc (all_make ts us) (made_end ∷ []) is)
      ∙ ap (headed Cer u) (all_cut mode ts us (made_end ∷ is) b.2) ∙ around Cer u (all_spelled Cer (cut_trees us)) (cut_written is)

  pub all_cut : (mode : Mode) (ts vs : Trees) (is : List Made) → Become mode ts vs
      → cut_written (all_make ts vs ++ is) ≡ in_front (all_spelled Cer (cut_trees vs)) (cut_written is)
  all_cut mode no_trees no_trees is b = eta (cut_written is)
  all_cut mode no_trees (v ∷ₜ vs) is b = absurd b
  all_cut mode (t ∷ₜ ts) no_trees is b = absurd b
  all_cut mode (t ∷ₜ ts) (v ∷ₜ vs) is b =
      ap cut_written (append_assoc (makes t v) (all_make ts vs) is) ∙ one_cut mode t v (all_make ts vs ++ is) b.0
      ∙ ap (in_front (spelled Cer (cut_tree v))) (all_cut mode ts vs is b.1)
      ∙ in_front_both (spelled Cer (cut_tree v)) (all_spelled Cer (cut_trees vs)) (cut_written is)

-- ---- lengths that have room

becomes_below : (mode : Mode) (k : Kind) (c d : List ℕ) → ContentsBecome mode k c d → length c < 2 ^ 32 → length d < 2 ^ 32
becomes_below mode Boolean c d b l = rw b.2 (omega arith)
becomes_below mode Bits c d b l = rw b.1 l
becomes_below mode Text c d b l = rw b l
becomes_below mode Other c d b l = rw b l

mutual
  unfolding CutFit

  segment_fits : (t : Tree) (is : List Made) → CutFit is → CutFit (parts t ++ is)
  segment_fits (primitive t c) is h = h
  segment_fits (constructed t ts) is h =
      subst CutFit (sym (append_assoc (parts_of ts) (made_part [] ∷ []) is)) (segments_fit ts (made_part [] ∷ is) h)

  segments_fit : (ts : Trees) (is : List Made) → CutFit is → CutFit (parts_of ts ++ is)
  segments_fit no_trees is h = h
  segments_fit (t ∷ₜ ts) is h =
      subst CutFit (sym (append_assoc (parts t) (parts_of ts) is)) (segment_fits t (parts_of ts ++ is) (segments_fit ts is h))

joined_fits : (u : Tag) (ts : Trees) (is : List Made) → CutFit is → CutFit (made_string u ∷ string_parts ts is)
unfolding cut_written CutFit string_parts
joined_fits u ts is h = (
  λ e. (
    subst (λ f. length f.inner < 2 ^ 32) (sym outside) (omega (arith, ap length (append-nil s), few (length s) (sym (ap (nat_lt 1000) total) ∙ e))),
    subst (λ f. AreThere f.outer) (sym outside) tt,
  ),
  subst CutFit (sym (append_assoc (parts_of ts) (made_string_end ∷ []) is)) (segments_fit ts (made_string_end ∷ is) h),
)
  where
    s : List ℕ
    s = concat (segments_of ts)

    total : total_of (string_parts ts is) ≡ length s
    total =
        let e = ap total_of (append_assoc (parts_of ts) (made_string_end ∷ []) is) in
        let r = segments_total ts (made_string_end ∷ is) in
        omega (arith, e, r)

    outside : cut_written (string_parts ts is) ≡ in_front s (string_ended (cut_written is))
    outside = ap cut_written (append_assoc (parts_of ts) (made_string_end ∷ []) is) ∙ segments_written ts (made_string_end ∷ is)

mutual
  unfolding cut_written CutFit string_parts

  one_cut_fits : (from mode : Mode) (t v : Tree) (w : List ℕ) (is : List Made) → IsEncoding from t w → Becomes mode t v → CutFit is
      → CutFit (makes t v ++ is)
  one_cut_fits from mode (primitive t c) (primitive u d) w is e b h =
      (becomes_below mode (kind_of t) c d b.1 (length_below from t false (length c) e.1.header e.1.is_header), h)
  one_cut_fits from mode (primitive t c) (constructed u us) w is e b h = absurd b
  one_cut_fits from mode (constructed t ts) (primitive u d) w is e b h = joined_fits u ts is h
  one_cut_fits from mode (constructed t ts) (constructed u us) w is e b h =
      subst (λ l. AreThere (cut_written l).outer × CutFit l) (sym (append_assoc (all_make ts us) (made_end ∷ []) is))
      (subst (λ f. AreThere f.outer) (sym (all_cut mode ts us (made_end ∷ is) b.2)) tt, all_cut_fit from mode ts us e.0 (made_end ∷ is) e.1 b.2 h)

  pub all_cut_fit : (from mode : Mode) (ts vs : Trees) (w : List ℕ) (is : List Made) → AreEncodings from ts w → Become mode ts vs → CutFit is
      → CutFit (all_make ts vs ++ is)
  all_cut_fit from mode no_trees no_trees w is e b h = h
  all_cut_fit from mode no_trees (v ∷ₜ vs) w is e b h = absurd b
  all_cut_fit from mode (t ∷ₜ ts) no_trees w is e b h = absurd b
  all_cut_fit from mode (t ∷ₜ ts) (v ∷ₜ vs) w is e b h =
      subst CutFit (sym (append_assoc (makes t v) (all_make ts vs) is))
      (one_cut_fits from mode t v e.0 (all_make ts vs ++ is) e.2 b.0 (all_cut_fit from mode ts vs e.1 is e.3 b.1 h))

-- ---- they are encodings

segments_encode : (n : ℕ) (s : List ℕ) → AreOctets s → AreEncodings Cer (cut_from n s) (all_spelled Cer (cut_from n s))
unfolding cut_from
segments_encode zero s o = refl
segments_encode (suc n) [] o = refl
segments_encode (suc n) (b ∷ s) o = (
  definite octet_string_tag false (take 1000 (b ∷ s)),
  all_spelled Cer (cut_from n (drop 1000 (b ∷ s))),
  primitive_written Cer octet_string_tag (take 1000 (b ∷ s)) octet_string_value (AreOctets-take 1000 (b ∷ s) o)
      (omega (arith, length-take 1000 (b ∷ s))),
  segments_encode n (drop 1000 (b ∷ s)) (AreOctets-drop 1000 (b ∷ s) o),
  refl,
)

string_encodes : (k : Kind) (u : Tag) (d : List ℕ) → IsValueTag u → AreOctets d → ((k ≡ Text → ⊥) → length d < 2 ^ 32)
    → IsEncoding Cer (cut_string k u d) (spelled Cer (cut_string k u d))
string_encodes Boolean u d v o l = primitive_written Cer u d v o (l (λ e. (let x : Boolean ≡ Text = e in cc)))
string_encodes Bits u d v o l = primitive_written Cer u d v o (l (λ e. (let x : Bits ≡ Text = e in cc)))
string_encodes Other u d v o l = primitive_written Cer u d v o (l (λ e. (let x : Other ≡ Text = e in cc)))
string_encodes Text u d v o l = go (nat_lt 1000 (length d)) refl
  where
    go : (b : Bool) → nat_lt 1000 (length d) ≡ b
        → IsEncoding Cer (if b then constructed u (cut d) else primitive u d) (spelled Cer (if b then constructed u (cut d) else primitive u d))
    go true e = encloses Cer u (cut d) (all_spelled Cer (cut d)) v tt (segments_encode (length d) d o)
    go false e = primitive_written Cer u d v o (omega (arith, few (length d) e))

mutual
  one_cut_encodes : (from mode : Mode) (t v : Tree) (w : List ℕ) → IsEncoding from t w → Becomes mode t v
      → IsEncoding Cer (cut_tree v) (spelled Cer (cut_tree v))
  one_cut_encodes from mode (primitive t c) (primitive u d) w e b =
      string_encodes (kind_of u) u d (rw b.0 e.1.is_header.is_value_tag) (contents_octets mode (kind_of t) c d e.0 b.1)
      (λ n. becomes_below mode (kind_of t) c d b.1 (length_below from t false (length c) e.1.header e.1.is_header))
  one_cut_encodes from mode (primitive t c) (constructed u us) w e b = absurd b
  one_cut_encodes from mode (constructed t ts) (primitive u d) w e b =
      string_encodes (kind_of u) u d (rw b.0 (framed_tag from t e.0 w e.2)) (subst AreOctets (sym b.1.is) (segments_octets from ts e.0 e.1))
      (λ n. absurd (n (ap kind_of b.0 ∙ b.1.text)))
  one_cut_encodes from mode (constructed t ts) (constructed u us) w e b =
      encloses Cer u (cut_trees us) (all_spelled Cer (cut_trees us)) (rw b.0 (framed_tag from t e.0 w e.2)) tt
      (all_cut_encode from mode ts us e.0 e.1 b.2)

  pub all_cut_encode : (from mode : Mode) (ts vs : Trees) (w : List ℕ) → AreEncodings from ts w → Become mode ts vs
      → AreEncodings Cer (cut_trees vs) (all_spelled Cer (cut_trees vs))
  all_cut_encode from mode no_trees no_trees w e b = refl
  all_cut_encode from mode no_trees (v ∷ₜ vs) w e b = absurd b
  all_cut_encode from mode (t ∷ₜ ts) no_trees w e b = absurd b
  all_cut_encode from mode (t ∷ₜ ts) (v ∷ₜ vs) w e b =
      (spelled Cer (cut_tree v), all_spelled Cer (cut_trees vs), one_cut_encodes from mode t v e.0 e.2 b.0, all_cut_encode from mode ts vs e.1 e.3 b.1, refl)

-- ---- all of it

pub made_cut : (from : Mode) (octets : List ℕ) (qs : List Made) → ReadsAs from Cer octets qs → AreRewritten from Cer octets (all_octets (cut_written qs))
unfolding cut_written
made_cut from octets qs r =
    let ends : cut_written qs ≡ record { inner = all_spelled Cer (cut_trees r.trees) ++ []; outer = [] } =
    ap cut_written (r.are ∙ sym (append-nil (all_make r.read r.trees))) ∙ all_cut Cer r.read r.trees [] r.become in
    let is : all_octets (cut_written qs) ≡ all_spelled Cer (cut_trees r.trees) =
    ap all_octets ends ∙ append-nil (all_spelled Cer (cut_trees r.trees) ++ []) ∙ append-nil (all_spelled Cer (cut_trees r.trees)) in
    record {
      read = r.read;
      encode = r.encode;
      joined = r.trees;
      become = r.become;
      written = cut_trees r.trees;
      form = trees_cut_to r.trees;
      is = subst (AreEncodings Cer (cut_trees r.trees)) (sym is) (all_cut_encode from Cer r.read r.trees octets r.encode r.become);
    }

pub read_fits : (from : Mode) (octets : List ℕ) (qs : List Made) → ReadsAs from Cer octets qs → CutFit qs
unfolding CutFit
read_fits from octets qs r =
    subst CutFit (append-nil (all_make r.read r.trees) ∙ sym r.are) (all_cut_fit from Cer r.read r.trees octets [] r.encode r.become tt)

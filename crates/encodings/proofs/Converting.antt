-- Values that are read into pieces, and written from these.
use Rattle.std.proofs.Common.{◌≡◌, ◌≢◌, ℕ, ◌-◌, ◌<◌, ◌≤◌, true, false, List, [], ◌∷◌, ◌++◌, length, reverse}
use Rattle.std.proofs.Common.{Some, refl, sym, ap, ap₂, subst, ◌∙◌, append_assoc, append-nil, take, drop, inl, inr, arith}
use Rattle.std.specs.List.{concat}
use Rattle.std.proofs.lemmas.List.{length-append, length-take-le, reverse-append, map-append, take_all}
use Rattle.bcder.specs.declared.mode.Mode.{Mode}
use Rattle.bcder.specs.declared.mode.Mode.TheVariants.{Ber, Cer, Der}
use Rattle.bcder.specs.x690.Identifier.{AreOctets, Tag}
use Rattle.bcder.specs.x690.Octets.{constructed_length, header}
use Rattle.bcder.specs.calls.Content.{length_of}
use Rattle.bcder.specs.x690.Tree.{Tree, primitive, constructed, Trees, no_trees, ◌∷ₜ◌}
use Rattle.bcder.specs.x690.Encoding.{AreEncodings}
use Rattle.bcder.specs.calls.Captured.{AreWhole}
use Rattle.bcder.specs.laws.Complete.{one_list}
use Rattle.bcder.specs.laws.Sound.{none_is, mapped}
use Rattle.encodings.specs.declared.convert.Item.{Item}
use Rattle.encodings.specs.declared.convert.Sort.TheVariants.{Begin, Whole, Part}
use Rattle.encodings.specs.declared.convert.Kind.{Kind}
use Rattle.encodings.specs.declared.convert.Kind.TheVariants.{Boolean, Bits, Text, Other}
use Rattle.encodings.specs.Conversion.{kind_of, all_or_none, ContentsBecome, Becomes, Become, AreRewritten, IsConversion}
use Rattle.encodings.specs.Conversion.{Converts, converted, become_nothing, lacking}
use Rattle.encodings.specs.Buffers.{IsStored, Stores, stored, no_room}
use Rattle.encodings.specs.Cutting.{Adds, cut_written, CutFit, StoresWritten, stores, fits_not, lacks, StoresCut, stores_cut, lacks_cut}
use Rattle.encodings.proofs.CutTrees.{made_cut, read_fits}
use Rattle.encodings.specs.Contents.{HoldsString}
use Rattle.encodings.specs.Open.{Open}
use Rattle.encodings.specs.Pieces.{Piece, pieces_of, pieces_left, before_all, PiecesBecome}
use Rattle.encodings.specs.Pieces.{Made, made_beginning, made_string, made_part, made_of, all_made, all_make}
use Rattle.encodings.specs.Pieces.{PassesOne, PassesNone, no_rest, one_is_nothing, ReadsAs, ReadsAsNothing, Frames, with_made, written, all_octets}
use Rattle.encodings.specs.Pieces.{AreThere, FitsBefore, Fit, IsAtBack, AreMarks, HoldsFrames, headed, string_headed, all_spelled, TreesFit}
use Rattle.encodings.proofs.PiecesRead.{before_none, before_both, nothing_left, left_sound, left_complete}
use Rattle.encodings.proofs.PiecesBecome.{both_become, all_become, all_back, one_met}
use Rattle.encodings.proofs.PiecesWritten.{all_written, all_fit_back, all_fit, all_encode, all_are_spelled}

-- ---- reading

-- the pieces that were passed, and what they became
pub record InRead (from to : Mode) (octets : List ℕ) (n : ℕ) (os : List Open) (x : List ℕ) (qs : List Made) : Type 0 where
  pub passed : List Piece
  pub same : pieces_left from [] octets ≡ before_all passed (pieces_left from os x)
  pub become : PiecesBecome to 0 passed qs n

pub read_starts : (from to : Mode) (octets : List ℕ) (os : List Open) (qs : List Made) → os ≡ [] → qs ≡ [] → InRead from to octets 0 os octets qs
read_starts from to octets os qs e f =
    rw (e, f) (record { passed = []; same = sym (before_none (pieces_left from [] octets)); become = refl })

module _ (from to : Mode) (octets : List ℕ) (n : ℕ) (os : List Open) (x : List ℕ) (qs : List Made) (i : InRead from to octets n os x qs) where
  pub read_on : (m : ℕ) (ps : List Open) (y : List ℕ) (q : Made) → PassesOne from to n os x m ps y q → InRead from to octets m ps y (qs ++ q ∷ [])
  read_on m ps y q p = record {
    passed = i.passed ++ p.piece ∷ [];
    same = i.same ∙ ap (before_all i.passed) p.same ∙ before_both i.passed (p.piece ∷ []) (pieces_left from ps y);
    become = both_become to 0 n m i.passed qs (p.piece ∷ []) (q ∷ []) i.become (m, p.becomes, refl);
  }

  pub read_ends : AreOctets octets → os ≡ [] → x ≡ [] → ReadsAs from to octets qs
  read_ends o none nothing =
      let same : pieces_left from [] octets ≡ before_all i.passed (pieces_left from [] []) = rw (none, nothing) at i.same in
      let all : pieces_left from [] octets ≡ Some (i.passed ++ []) = same ∙ ap (before_all i.passed) (nothing_left from) in
      let v = left_sound from octets (i.passed ++ []) o all in
      let e : i.passed ≡ pieces_of v.trees = sym (append-nil i.passed) ∙ v.are in
      let b = all_back to v.trees qs n (subst (λ l. PiecesBecome to 0 l qs n) e i.become) in
      record { read = v.trees; encode = v.encode; trees = b.trees; become = b.become; are = b.are }

  pub read_stops : PassesNone from to n os x → ReadsAsNothing from to octets
  read_stops (no_rest e) ts us h b =
      none_is _ (sym (i.same ∙ ap (before_all i.passed) e) ∙ left_complete from octets ts h)
  read_stops (one_is_nothing p r e nothing) ts us h b =
      let all : before_all (i.passed ++ p ∷ []) r ≡ Some (pieces_of ts) =
      sym (i.same ∙ ap (before_all i.passed) e ∙ before_both i.passed (p ∷ []) r) ∙ left_complete from octets ts h in
      let m = mapped (λ (l : List Piece). (i.passed ++ p ∷ []) ++ l) r (pieces_of ts) all in
      let is : i.passed ++ p ∷ m.0 ≡ pieces_of ts = sym (append_assoc i.passed (p ∷ []) m.0) ∙ m.2 in
      let q = one_met to 0 0 i.passed p m.0 (all_make ts us)
      (subst (λ l. PiecesBecome to 0 l (all_make ts us) 0) (sym is) (all_become to ts us b)) qs n i.become in
      nothing q.0 q.1 q.2

-- ---- writing

in_rest : (mode : Mode) (a b : List Made) → Fit mode (a ++ b) → Fit mode b
in_rest mode [] b h = h
in_rest mode (q ∷ a) b h = in_rest mode a b h.1

-- what was written of the items behind the rest
pub record InWrite (mode : Mode) (items rest : List Item) (first now : List ℕ) (at : ℕ) (marks : List ℕ) : Type 0 where
  pub done : List Made
  pub split : all_made items ≡ all_made rest ++ done
  pub fit : Fit mode done
  pub holds : HoldsFrames (written mode done) first now at marks

pub write_starts : (mode : Mode) (items : List Item) (first : List ℕ) (marks : List ℕ) → marks ≡ [] → InWrite mode items items first first 0 marks
write_starts mode items first marks e = rw e (record {
  done = [];
  split = sym (append-nil (all_made items));
  fit = tt;
  holds = record { stored = record { count = refl; room = refl; back = λ l. whole first }; are_marks = tt };
})
  where
    whole : (w : List ℕ) → w ≡ take (length w - 0) w ++ []
    whole w = sym (append-nil (take (length w - 0) w) ∙ take_all (length w - 0) w (omega arith))

module _ (mode : Mode) (items rest : List Item) (first now : List ℕ) (at : ℕ) (marks : List ℕ) (i : InWrite mode items rest first now at marks) where
  pub write_on : (before : List Item) (item : Item) (new : List ℕ) (to : ℕ) (more : List ℕ) → rest ≡ before ++ item ∷ []
      → ((f : Frames) (v : List ℕ) → HoldsFrames f v now at marks → HoldsFrames (with_made mode (made_of item) f) v new to more)
      → ((f : Frames) (v : List ℕ) → HoldsFrames f v now at marks → FitsBefore mode (made_of item) f)
      → InWrite mode items before first new to more
  write_on before item new to more is put fits = record {
    done = made_of item ∷ i.done;
    split = i.split ∙ ap (λ l. all_made l ++ i.done) is ∙ ap (λ l. l ++ i.done) (map-append made_of before (item ∷ []))
        ∙ append_assoc (all_made before) (made_of item ∷ []) i.done;
    fit = (fits (written mode i.done) first i.holds, i.fit);
    holds = put (written mode i.done) first i.holds;
  }

  pub write_stops : (before : List Item) (item : Item) → rest ≡ before ++ item ∷ []
      → ((f : Frames) (v : List ℕ) → HoldsFrames f v now at marks → FitsBefore mode (made_of item) f → ⊥) → Fit mode (all_made items) → ⊥
  write_stops before item is never f =
      let split : all_made items ≡ all_made before ++ made_of item ∷ i.done =
      i.split ∙ ap (λ l. all_made l ++ i.done) is ∙ ap (λ l. l ++ i.done) (map-append made_of before (item ∷ []))
      ∙ append_assoc (all_made before) (made_of item ∷ []) i.done in
      never (written mode i.done) first i.holds (in_rest mode (all_made before) (made_of item ∷ i.done) (subst (Fit mode) split f)).0

  pub write_ends : rest ≡ [] → Fit mode (all_made items) × IsAtBack (all_octets (written mode (all_made items))) first now at
  write_ends e =
      let same : i.done ≡ all_made items = sym (i.split ∙ ap (λ l. all_made l ++ i.done) e) in
      (subst (Fit mode) same i.fit, subst (λ ps. IsAtBack (all_octets (written mode ps)) first now at) same i.holds.stored)

-- ---- what is written is what the values become

pub made : (from : Mode) (octets : List ℕ) (qs : List Made) → ReadsAs from Der octets qs → Fit Der qs
    → AreRewritten from Der octets (all_octets (written Der qs))
made from octets qs r f =
    let ends : written Der qs ≡ record { inner = all_spelled Der r.trees ++ []; outer = [] } =
    ap (written Der) (r.are ∙ sym (append-nil (all_make r.read r.trees))) ∙ all_written Der r.read r.trees [] r.become in
    let is : all_octets (written Der qs) ≡ all_spelled Der r.trees =
    ap all_octets ends ∙ append-nil (all_spelled Der r.trees ++ []) ∙ append-nil (all_spelled Der r.trees) in
    let fit = all_fit Der r.read r.trees [] r.become (subst (Fit Der) (r.are ∙ sym (append-nil (all_make r.read r.trees))) f) in
    record {
      read = r.read;
      encode = r.encode;
      joined = r.trees;
      become = r.become;
      written = r.trees;
      form = refl;
      is = subst (AreEncodings Der r.trees) (sym is) (all_encode from Der r.read r.trees octets r.encode r.become fit.0);
    }

no_other : (k : Kind) → k ≡ Text → k ≡ Other → ⊥
no_other k t o = (let e : Text ≡ Other = sym t ∙ o in absurd cc)

contents_once : (mode : Mode) (k : Kind) (c d e : List ℕ) → ContentsBecome mode k c d → ContentsBecome mode k c e → d ≡ e
contents_once mode Boolean c d e a b =
    let same : a.0 ≡ b.0 = first_is (sym a.1 ∙ b.1) in
    a.2 ∙ ap (λ n. all_or_none n ∷ []) same ∙ sym b.2
  where
    first_is : {m n : ℕ} → ◌≡◌ {A = List ℕ} (m ∷ []) (n ∷ []) → m ≡ n
    first_is e = cc
contents_once mode Bits c d e a b = a.1 ∙ sym b.1
contents_once mode Text c d e a b = a ∙ sym b
contents_once mode Other c d e a b = a ∙ sym b

mutual
  one_once : (mode : Mode) (t u v : Tree) → Becomes mode t u → Becomes mode t v → u ≡ v
  one_once mode (primitive t c) (primitive u d) (primitive v e) a b = ap₂ (λ x y. primitive x y) (a.0 ∙ sym b.0) (contents_once mode (kind_of t) c d e a.1 b.1)
  one_once mode (primitive t c) (primitive u d) (constructed v vs) a b = absurd b
  one_once mode (primitive t c) (constructed u us) v a b = absurd a
  one_once mode (constructed t ts) (primitive u d) (primitive v e) a b = ap₂ (λ x y. primitive x y) (a.0 ∙ sym b.0) (a.1.is ∙ sym b.1.is)
  one_once mode (constructed t ts) (primitive u d) (constructed v vs) a b = absurd (no_other (kind_of t) a.1.text b.1)
  one_once mode (constructed t ts) (constructed u us) (primitive v e) a b = absurd (no_other (kind_of t) b.1.text a.1)
  one_once mode (constructed t ts) (constructed u us) (constructed v vs) a b =
      ap₂ (λ x y. constructed x y) (a.0 ∙ sym b.0) (all_once mode ts us vs a.2 b.2)

  all_once : (mode : Mode) (ts us vs : Trees) → Become mode ts us → Become mode ts vs → us ≡ vs
  all_once mode no_trees no_trees no_trees a b = refl
  all_once mode no_trees no_trees (v ∷ₜ vs) a b = absurd b
  all_once mode no_trees (u ∷ₜ us) vs a b = absurd a
  all_once mode (t ∷ₜ ts) no_trees vs a b = absurd a
  all_once mode (t ∷ₜ ts) (u ∷ₜ us) no_trees a b = absurd b
  all_once mode (t ∷ₜ ts) (u ∷ₜ us) (v ∷ₜ vs) a b = ap₂ (λ x y. x ∷ₜ y) (one_once mode t u v a.0 b.0) (all_once mode ts us vs a.1 b.1)

not_ber : Der ≢ Ber
not_ber e = cc

pub not_made : (from : Mode) (octets : List ℕ) (qs : List Made) → ReadsAs from Der octets qs → (Fit Der qs → ⊥) → (w : List ℕ)
    → AreRewritten from Der octets w → ⊥
not_made from octets qs r never w a =
    let same : a.read ≡ r.read = one_list from a.read r.read octets a.encode r.encode in
    let joined : a.joined ≡ r.trees = all_once Der r.read a.joined r.trees (subst (λ ts. Become Der ts a.joined) same a.become) r.become in
    let trees : a.written ≡ r.trees = a.form ∙ joined in
    let fit : TreesFit Der r.trees = subst (TreesFit Der) trees (all_are_spelled Der not_ber a.written w a.is).0 in
    never (subst (Fit Der) (append-nil (all_make r.read r.trees) ∙ sym r.are) (all_fit_back Der r.read r.trees [] r.become fit tt))

pub nothing_made : (from to : Mode) (octets : List ℕ) → to ≢ Ber → ReadsAsNothing from to octets → (w : List ℕ) → IsConversion from to octets w → ⊥
nothing_made from Ber octets ne none w a = ne refl
nothing_made from Cer octets ne none w a = none a.read a.joined a.encode a.become
nothing_made from Der octets ne none w a = none a.read a.joined a.encode a.become

-- ---- one piece in front of frames

none_marked : (fs : List (List ℕ)) → AreMarks [] fs → AreThere fs → ⊥
none_marked [] m t = t
none_marked (f ∷ fs) m t = m

module _ (f : Frames) (first now : List ℕ) (at : ℕ) (marks : List ℕ) (h : HoldsFrames f first now at marks) where
  pub value_held : (w new : List ℕ) (to : ℕ) → (IsAtBack (all_octets f) first now at → IsAtBack (w ++ all_octets f) first new to)
      → HoldsFrames (record { inner = w ++ f.inner; outer = f.outer }) first new to marks
  value_held w new to put = record {
    stored = subst (λ v. IsAtBack v first new to) (sym (append_assoc w f.inner (concat f.outer))) (put h.stored);
    are_marks = h.are_marks;
  }

  pub end_held : (w new : List ℕ) (to : ℕ) (more : List ℕ) → (IsAtBack (all_octets f) first now at → IsAtBack (w ++ all_octets f) first new to)
      → more ≡ marks ++ to ∷ [] → HoldsFrames (record { inner = []; outer = (w ++ f.inner) ∷ f.outer }) first new to more
  end_held w new to more put e =
      let b = subst (λ v. IsAtBack v first new to) (sym (append_assoc w f.inner (concat f.outer))) (put h.stored) in
      record {
        stored = b;
        are_marks = subst (λ ms. AreMarks ms ((w ++ f.inner) ∷ f.outer)) (sym (ap reverse e ∙ reverse-append marks (to ∷ []))) (b.count, h.are_marks);
      }

  pub none_open : marks ≡ [] → AreThere f.outer → ⊥
  none_open e t = none_marked f.outer (subst (λ ms. AreMarks (reverse ms) f.outer) e h.are_marks) t

  module _ (left : List ℕ) (mark : ℕ) (e : marks ≡ left ++ mark ∷ []) where
    marked : AreMarks (mark ∷ reverse left) f.outer
    marked = subst (λ ms. AreMarks ms f.outer) (ap reverse e ∙ reverse-append left (mark ∷ [])) h.are_marks

    pub there : AreThere f.outer
    there = go f.outer marked
      where
        go : (fs : List (List ℕ)) → AreMarks (mark ∷ reverse left) fs → AreThere fs
        go [] m = m
        go (g ∷ fs) m = tt

    pub inner_size : at - mark ≡ length f.inner
    inner_size = go f.outer marked h.stored.count
      where
        go : (fs : List (List ℕ)) → AreMarks (mark ∷ reverse left) fs → at ≡ length (f.inner ++ concat fs) → at - mark ≡ length f.inner
        go [] m n = absurd m
        go (g ∷ fs) m n = omega (arith, m.0, n, length-append f.inner (concat (g ∷ fs)))

    pub beginning_held : (mode : Mode) (t : Tag) (new : List ℕ) (to : ℕ)
        → (IsAtBack (all_octets f) first now at → IsAtBack (header t true (constructed_length mode (at - mark)) ++ all_octets f) first new to)
        → HoldsFrames (headed mode t f) first new to left
    beginning_held mode t new to put = go f.outer refl marked
      where
        go : (fs : List (List ℕ)) → f.outer ≡ fs → AreMarks (mark ∷ reverse left) fs → HoldsFrames (headed mode t f) first new to left
        go [] o m = absurd m
        go (g ∷ fs) o m =
            let d = header t true (constructed_length mode (length f.inner)) in
            let b : IsAtBack (d ++ (f.inner ++ concat f.outer)) first new to =
            subst (λ n. IsAtBack (header t true (constructed_length mode n) ++ all_octets f) first new to) inner_size (put h.stored) in
            let same : d ++ (f.inner ++ concat f.outer) ≡ (d ++ (f.inner ++ g)) ++ concat fs =
            rw o (ap (λ v. d ++ v) (sym (append_assoc f.inner g (concat fs))) ∙ sym (append_assoc d (f.inner ++ g) (concat fs))) in
            rw o (record { stored = subst (λ v. IsAtBack v first new to) same b; are_marks = m.1 })

    pub string_held : (t : Tag) (new : List ℕ) (to : ℕ)
        → (IsAtBack (all_octets f) first now at → IsAtBack (header t false (length_of (Some (at - mark))) ++ all_octets f) first new to)
        → HoldsFrames (string_headed t f) first new to left
    string_held t new to put = go f.outer refl marked
      where
        go : (fs : List (List ℕ)) → f.outer ≡ fs → AreMarks (mark ∷ reverse left) fs → HoldsFrames (string_headed t f) first new to left
        go [] o m = absurd m
        go (g ∷ fs) o m =
            let d = header t false (length_of (Some (length f.inner))) in
            let b : IsAtBack (d ++ (f.inner ++ concat f.outer)) first new to =
            subst (λ n. IsAtBack (header t false (length_of (Some n)) ++ all_octets f) first new to) inner_size (put h.stored) in
            let same : d ++ (f.inner ++ concat f.outer) ≡ (d ++ (f.inner ++ g)) ++ concat fs =
            rw o (ap (λ v. d ++ v) (sym (append_assoc f.inner g (concat fs))) ∙ sym (append_assoc d (f.inner ++ g) (concat fs))) in
            rw o (record { stored = subst (λ v. IsAtBack v first new to) same b; are_marks = m.1 })

-- ---- items

pub made_begun : (i : Item) → i.sort ≡ Begin → made_of i ≡ made_beginning i.tag
made_begun i e = rw e refl

pub made_begun_string : (i : Item) → i.sort ≡ Whole → made_of i ≡ made_string i.tag
made_begun_string i e = rw e refl

pub made_part_of : (i : Item) → i.sort ≡ Part → made_of i ≡ made_part i.contents.now
made_part_of i e = rw e refl

pub made_pushed : (items more : List Item) (item : Item) → more ≡ items ++ item ∷ [] → all_made more ≡ all_made items ++ made_of item ∷ []
made_pushed items more item e = ap all_made e ∙ map-append made_of items (item ∷ [])

pub nothing_left_of : (w : List ℕ) → length w ≡ 0 → w ≡ []
nothing_left_of [] l = refl
nothing_left_of (b ∷ w) l = absurd (omega (arith, l))

-- ---- storing

pub stored_all : (mode : Mode) (qs : List Made) (old new s : List ℕ) (len n before : ℕ) → Fit mode qs → len ≡ length (all_octets (written mode qs))
    → IsAtBack (all_octets (written mode qs)) (take len old) s n → len ≤ length old → new ≡ s ++ drop len old
    → StoresWritten mode qs 0 old new before len
stored_all mode qs old new s len n before f count b l is =
    let w = all_octets (written mode qs) in
    let room : length (take len old) ≡ len = length-take-le len old l in
    let none : length (take len old) - length w ≡ 0 = omega (arith, room, count) in
    let same : s ≡ w = b.back (omega (arith, room, count)) ∙ ap (λ k. take k (take len old) ++ w) none in
    stores f (stored refl (omega (arith, l, count)) (is ∙ ap (λ v. v ++ drop len old) same ∙ ap (λ k. w ++ drop k old) count) count)

pub too_small_for_all : (mode : Mode) (qs : List Made) (old : List ℕ) (len before : ℕ) → Fit mode qs → len ≡ length (all_octets (written mode qs))
    → length old < len → StoresWritten mode qs 9 old old before len
too_small_for_all mode qs old len before f count l = stores f (no_room refl (omega (arith, l, count)) refl count)

pub only_der : (mode : Mode) → mode ≢ Ber → mode ≢ Cer → mode ≡ Der
only_der Ber b c = absurd (b refl)
only_der Cer b c = absurd (c refl)
only_der Der b c = refl

in_der : (from : Mode) (octets : List ℕ) (qs : List Made) (status : ℕ) (old new : List ℕ) (before n : ℕ) → AreWhole from octets
    → ReadsAs from Der octets qs → StoresWritten Der qs status old new before n → Converts from Der octets status old new before n
in_der from octets qs status old new before n whole r (stores f s) = converted (all_octets (written Der qs)) (made from octets qs r f) s
in_der from octets qs status old new before n whole r (fits_not e never o b) = become_nothing e whole (not_made from octets qs r never) o b
in_der from octets qs status old new before n whole r (lacks e b) = lacking e b

pub stored_in_der : (from to : Mode) (octets : List ℕ) (qs : List Made) (status : ℕ) (old new : List ℕ) (before n : ℕ) → to ≡ Der → AreWhole from octets
    → ReadsAs from to octets qs → StoresWritten to qs status old new before n → Converts from to octets status old new before n
stored_in_der from Ber octets qs status old new before n e whole r s = (let x : Ber ≡ Der = e in absurd cc)
stored_in_der from Cer octets qs status old new before n e whole r s = (let x : Cer ≡ Der = e in absurd cc)
stored_in_der from Der octets qs status old new before n e whole r s = in_der from octets qs status old new before n whole r s

all_added : (qs out : List Made) → Adds [] out (cut_written []) (cut_written qs) → (written Cer out ≡ cut_written qs) × Fit Cer out
unfolding cut_written
all_added qs out a =
    let e : out ≡ a.added ++ [] = a.is ∙ sym (append-nil a.added) in
    (ap (written Cer) e ∙ a.same [] refl, subst (Fit Cer) (sym e) (a.fit [] refl tt))

pub cut_stored : (qs out : List Made) (status : ℕ) (old new : List ℕ) (before n : ℕ) → Adds [] out (cut_written []) (cut_written qs)
    → StoresWritten Cer out status old new before n → StoresCut qs status old new before n
cut_stored qs out status old new before n a (stores f s) =
    stores_cut (subst (λ g. IsStored (all_octets g) status old new n) (all_added qs out a).0 s)
cut_stored qs out status old new before n a (fits_not e never o b) = absurd (never (all_added qs out a).1)
cut_stored qs out status old new before n a (lacks e b) = lacks_cut e b

in_cer : (from : Mode) (octets : List ℕ) (qs : List Made) (status : ℕ) (old new : List ℕ) (before n : ℕ) → ReadsAs from Cer octets qs
    → StoresCut qs status old new before n → Converts from Cer octets status old new before n
in_cer from octets qs status old new before n r (stores_cut s) = converted (all_octets (cut_written qs)) (made_cut from octets qs r) s
in_cer from octets qs status old new before n r (lacks_cut e b) = lacking e b

pub stored_in_cer : (from to : Mode) (octets : List ℕ) (qs : List Made) (status : ℕ) (old new : List ℕ) (before n : ℕ) → to ≡ Cer
    → ReadsAs from to octets qs → StoresCut qs status old new before n → Converts from to octets status old new before n
stored_in_cer from Ber octets qs status old new before n e r s = (let x : Ber ≡ Cer = e in absurd cc)
stored_in_cer from Cer octets qs status old new before n e r s = in_cer from octets qs status old new before n r s
stored_in_cer from Der octets qs status old new before n e r s = (let x : Der ≡ Cer = e in absurd cc)

pub read_fits_in : (from to : Mode) (octets : List ℕ) (qs : List Made) → to ≡ Cer → ReadsAs from to octets qs → CutFit qs
read_fits_in from Ber octets qs e r = (let x : Ber ≡ Cer = e in absurd cc)
read_fits_in from Cer octets qs e r = read_fits from octets qs r
read_fits_in from Der octets qs e r = (let x : Der ≡ Cer = e in absurd cc)

pub not_read : (from to : Mode) (octets : List ℕ) (old : List ℕ) (before : ℕ) → to ≢ Ber → AreWhole from octets → ReadsAsNothing from to octets
    → Converts from to octets 10 old old before before
not_read from to octets old before ne whole none = become_nothing refl whole (nothing_made from to octets ne none) refl refl

-- values stay as they are in BER
pub kept : (from : Mode) (octets : List ℕ) (status : ℕ) (old new : List ℕ) (before n : ℕ) → AreWhole from octets
    → Stores (HoldsString Ber false octets) status old new before n → Converts from Ber octets status old new before n
kept from octets status old new before n whole (inl s) = converted s.0 (whole, s.1.1) s.2
kept from octets status old new before n whole (inr s) = absurd (s.1 octets (tt, refl))

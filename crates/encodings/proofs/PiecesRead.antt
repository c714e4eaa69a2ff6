-- What remains of octets, as pieces.
use Rattle.std.proofs.Common.{◌≡◌, ℕ, ◌<◌, ◌≤◌, Bool, true, false, List, [], ◌∷◌, ◌++◌, length, take, drop, Option, Some, None, option_map}
use Rattle.std.proofs.Common.{option_and_then, refl, sym, ap, ap₂, subst, ◌∙◌, append_assoc, arith}
use Rattle.std.proofs.lemmas.Bool.{le-ltb}
use Rattle.std.proofs.lemmas.List.{length-append, length-take-le, take-append-drop, take_at, drop_at}
use Rattle.bcder.specs.declared.mode.Mode.{Mode}
use Rattle.bcder.specs.x690.Identifier.{AreOctets, Tag}
use Rattle.bcder.specs.x690.Tree.{Tree, constructed, Trees, ◌∷ₜ◌}
use Rattle.bcder.specs.x690.Encoding.{IsHeader, AreEncodings}
use Rattle.bcder.specs.calls.Content.{length_of}
use Rattle.bcder.specs.steps.Reading.{read_end, at_end, read_list, read_tree}
use Rattle.bcder.specs.laws.Sound.{some_inj, mapped}
use Rattle.bcder.specs.laws.Stands.{list_sound, list_complete}
use Rattle.bcder.proofs.ReadingSteps.{read_list_step}
use Rattle.encodings.specs.Next.{IsDue}
use Rattle.encodings.specs.Open.{Open, Step, of_primitive, into_definite, into_indefinite, out_of_definite, out_of_indefinite, Closes}
use Rattle.encodings.specs.Pieces.{Piece, value, begins, ends, pieces, pieces_of, pieces_left, before_all, BeginsPiece, of_definite, of_indefinite}
use Rattle.encodings.proofs.Reading.{behind, end_read, no_end_read}
use Rattle.encodings.proofs.Walking.{must_be}

pub before_none : (r : Option (List Piece)) → before_all [] r ≡ r
before_none None = refl
before_none (Some o) = refl

pub before_both : (a b : List Piece) (r : Option (List Piece)) → before_all a (before_all b r) ≡ before_all (a ++ b) r
before_both a b None = refl
before_both a b (Some o) = ap (λ l. Some l) (sym (append_assoc a b o))

-- ---- ends

ends_definite : (mode : Mode) (os : List Open) (b : List ℕ) → pieces_left mode (Some b ∷ os) [] ≡ before_all (ends ∷ []) (pieces_left mode os b)
unfolding pieces_left at_end
ends_definite mode os b = rw (read_list_step mode false [] (λ i. omega arith)) refl

ends_indefinite : (mode : Mode) (os : List Open) (x y : List ℕ) → AreOctets x → read_end mode x ≡ Some y
    → pieces_left mode (None ∷ os) x ≡ before_all (ends ∷ []) (pieces_left mode os y)
unfolding pieces_left at_end
ends_indefinite mode os x y o e = rw (read_list_step mode true x o, e) refl

pub an_end_next : (mode : Mode) (o : Open) (os : List Open) (x y : List ℕ) (n : ℕ) → AreOctets x → Closes mode o x y n
    → pieces_left mode (o ∷ os) x ≡ before_all (ends ∷ []) (pieces_left mode os y)
an_end_next mode o os x y n octets c = by_step c.passed (c.step os)
  where
    by_step : (p : List ℕ) → Step mode (o ∷ os) x os y p [] → pieces_left mode (o ∷ os) x ≡ before_all (ends ∷ []) (pieces_left mode os y)
    by_step p (of_primitive t h c d is same passed met) = absurd (omega (arith, ap length met))
    by_step p (into_definite t h b d is same passed met) = absurd (omega (arith, ap length met))
    by_step p (into_indefinite t h d is same passed met) = absurd (omega (arith, ap length met))
    by_step p (out_of_definite same none passed met) = rw (same, none) (ends_definite mode os y)
    by_step p (out_of_indefinite same end is met) = rw same (ends_indefinite mode os x y octets (end_read mode p x y end is))

-- ---- a value that is due

-- the pieces still to come, if a value comes next
abbrev tree_left : Mode → List Open → List ℕ → Option (List Piece)
tree_left mode os x = option_and_then (λ t. before_all (pieces t.0) (pieces_left mode os t.1)) (read_tree mode x)

split : (a b : List Piece) (q : Option (List Piece)) → option_map (λ ps. (a ++ b) ++ ends ∷ ps) q ≡ before_all a (option_map (λ ps. b ++ ends ∷ ps) q)
split a b None = refl
split a b (Some ps) = ap (λ l. Some l) (append_assoc a b (ends ∷ ps))

due_indefinite : (mode : Mode) (os : List Open) (x : List ℕ) → AreOctets x → read_end mode x ≡ None
    → pieces_left mode (None ∷ os) x ≡ tree_left mode (None ∷ os) x
unfolding pieces_left at_end
due_indefinite mode os x o e = rw (read_list_step mode true x o, e) (go (read_tree mode x))
  where
    inner : (t : Tree) (r : Option (Trees × List ℕ))
        → option_and_then (λ ts. option_map (λ ps. pieces_of ts.0 ++ ends ∷ ps) (pieces_left mode os ts.1))
        (option_map {U = Trees × List ℕ} (λ ts. (t ∷ₜ ts.0, ts.1)) r)
        ≡ before_all (pieces t) (option_and_then (λ ts. option_map (λ ps. pieces_of ts.0 ++ ends ∷ ps) (pieces_left mode os ts.1)) r)
    inner t None = refl
    inner t (Some ts) = split (pieces t) (pieces_of ts.0) (pieces_left mode os ts.1)

    go : (r : Option (Tree × List ℕ))
        → option_and_then (λ ts. option_map (λ ps. pieces_of ts.0 ++ ends ∷ ps) (pieces_left mode os ts.1))
        (option_and_then {U = Trees × List ℕ} (λ t. option_map (λ ts. (t.0 ∷ₜ ts.0, ts.1)) (read_list mode true t.1)) r)
        ≡ option_and_then (λ t. before_all (pieces t.0) (pieces_left mode (None ∷ os) t.1)) r
    go None = refl
    go (Some t) = inner t.0 (read_list mode true t.1)

due_definite : (mode : Mode) (os : List Open) (b x : List ℕ) → AreOctets x → 0 < length x
    → pieces_left mode (Some b ∷ os) x ≡ tree_left mode (Some b ∷ os) x
unfolding pieces_left at_end
due_definite mode os b [] o l = absurd (omega arith)
due_definite mode os b (c ∷ x) o l = rw (read_list_step mode false (c ∷ x) o) (go (read_tree mode (c ∷ x)))
  where
    inner : (t : Tree) (r : Option (Trees × List ℕ))
        → option_and_then (λ ts. option_map (λ ps. pieces_of ts.0 ++ ends ∷ ps) (pieces_left mode os b))
        (option_map {U = Trees × List ℕ} (λ ts. (t ∷ₜ ts.0, ts.1)) r)
        ≡ before_all (pieces t) (option_and_then (λ ts. option_map (λ ps. pieces_of ts.0 ++ ends ∷ ps) (pieces_left mode os b)) r)
    inner t None = refl
    inner t (Some ts) = split (pieces t) (pieces_of ts.0) (pieces_left mode os b)

    go : (r : Option (Tree × List ℕ))
        → option_and_then (λ ts. option_map (λ ps. pieces_of ts.0 ++ ends ∷ ps) (pieces_left mode os b))
        (option_and_then {U = Trees × List ℕ} (λ t. option_map (λ ts. (t.0 ∷ₜ ts.0, ts.1)) (read_list mode false t.1)) r)
        ≡ option_and_then (λ t. before_all (pieces t.0) (pieces_left mode (Some b ∷ os) t.1)) r
    go None = refl
    go (Some t) = inner t.0 (read_list mode false t.1)

due_outermost : (mode : Mode) (x : List ℕ) → AreOctets x → 0 < length x → pieces_left mode [] x ≡ tree_left mode [] x
unfolding pieces_left at_end
due_outermost mode [] o l = absurd (omega arith)
due_outermost mode (c ∷ x) o l = rw (read_list_step mode false (c ∷ x) o) (go (read_tree mode (c ∷ x)))
  where
    inner : (t : Tree) (r : Option (Trees × List ℕ))
        → option_map (λ ts. pieces_of ts.0) (option_map {U = Trees × List ℕ} (λ ts. (t ∷ₜ ts.0, ts.1)) r)
        ≡ before_all (pieces t) (option_map (λ ts. pieces_of ts.0) r)
    inner t None = refl
    inner t (Some ts) = refl

    go : (r : Option (Tree × List ℕ))
        → option_map (λ ts. pieces_of ts.0)
        (option_and_then {U = Trees × List ℕ} (λ t. option_map (λ ts. (t.0 ∷ₜ ts.0, ts.1)) (read_list mode false t.1)) r)
        ≡ option_and_then (λ t. before_all (pieces t.0) (pieces_left mode [] t.1)) r
    go None = refl
    go (Some t) = inner t.0 (read_list mode false t.1)

due_next : (mode : Mode) (os : List Open) (x : List ℕ) → AreOctets x → IsDue mode os x → pieces_left mode os x ≡ tree_left mode os x
due_next mode [] x o due = due_outermost mode x o due
due_next mode (Some b ∷ os) x o due = due_definite mode os b x o due
due_next mode (None ∷ os) x o due = due_indefinite mode os x o (no_end_read mode x o due)

pub none_next : (mode : Mode) (os : List Open) (x : List ℕ) → AreOctets x → IsDue mode os x → read_tree mode x ≡ None → pieces_left mode os x ≡ None
none_next mode os x o due e = due_next mode os x o due ∙ rw e refl

-- ---- what a header says

around : (t : Tag) (a : List Piece) (q : Option (List Piece))
    → before_all (begins t ∷ (a ++ ends ∷ [])) q ≡ before_all (begins t ∷ []) (option_map (λ ps. a ++ ends ∷ ps) q)
around t a None = refl
around t a (Some ps) = ap (λ l. Some (begins t ∷ l)) (append_assoc a (ends ∷ []) ps)

module _ (mode : Mode) (os : List Open) (x : List ℕ) (t : Tag) (h z : List ℕ) (o : AreOctets x) where
  of_value : (k : ℕ) → IsHeader mode t false (length_of (Some k)) h → x ≡ h ++ z → k ≤ length z
      → tree_left mode os x ≡ before_all (value t (take k z) ∷ []) (pieces_left mode os (drop k z))
  of_value k d is l = rw (behind mode x t false (Some k) h z o d is, le-ltb _ _ l) refl

  of_beginning : (k : ℕ) → IsHeader mode t true (length_of (Some k)) h → x ≡ h ++ z → k ≤ length z
      → tree_left mode os x ≡ before_all (begins t ∷ []) (pieces_left mode (Some (drop k z) ∷ os) (take k z))
  unfolding pieces_left
  of_beginning k d is l = rw (behind mode x t true (Some k) h z o d is, le-ltb _ _ l) (go (read_list mode false (take k z)))
    where
      go : (r : Option (Trees × List ℕ))
          → option_and_then {U = List Piece} (λ t. before_all (pieces t.0) (pieces_left mode os t.1))
          (option_map {U = Tree × List ℕ} (λ ts. (constructed t ts.0, drop k z)) r)
          ≡ before_all (begins t ∷ []) (option_and_then (λ ts. option_map (λ ps. pieces_of ts.0 ++ ends ∷ ps) (pieces_left mode os (drop k z))) r)
      go None = refl
      go (Some ts) = around t (pieces_of ts.0) (pieces_left mode os (drop k z))

  of_marked : IsHeader mode t true (length_of None) h → x ≡ h ++ z
      → tree_left mode os x ≡ before_all (begins t ∷ []) (pieces_left mode (None ∷ os) z)
  unfolding pieces_left
  of_marked d is = rw (behind mode x t true None h z o d is) (go (read_list mode true z))
    where
      go : (r : Option (Trees × List ℕ))
          → option_and_then {U = List Piece} (λ t. before_all (pieces t.0) (pieces_left mode os t.1))
          (option_map {U = Tree × List ℕ} (λ ts. (constructed t ts.0, ts.1)) r)
          ≡ before_all (begins t ∷ []) (option_and_then (λ ts. option_map (λ ps. pieces_of ts.0 ++ ends ∷ ps) (pieces_left mode os ts.1)) r)
      go None = refl
      go (Some ts) = around t (pieces_of ts.0) (pieces_left mode os ts.1)

pub value_next : (mode : Mode) (os : List Open) (x : List ℕ) (t : Tag) (form : Bool) (c : List ℕ) (last : Open) (b : List ℕ) → AreOctets x
    → IsDue mode os x → BeginsPiece mode x t form c last → form ≡ false → last ≡ Some b
    → pieces_left mode os x ≡ before_all (value t c ∷ []) (pieces_left mode os b)
value_next mode os x t form c last b o due (of_definite h a d same is) e l =
    let k : length c ≤ length (c ++ a) = omega (arith, length-append c a) in
    let a_b : a ≡ b = some_inj _ _ (sym same ∙ l) in
    due_next mode os x o due ∙ of_value mode os x t h (c ++ a) o (length c) (rw e at d) is k
    ∙ rw (take_at c a (length c) refl, drop_at c a (length c) refl, a_b) refl
value_next mode os x t form c last b o due (of_indefinite h d same is) e l =
    let no : ◌≡◌ {A = Bool} false true = sym e ∙ must_be mode t form None refl d in
    absurd cc

pub beginning_next : (mode : Mode) (os : List Open) (x : List ℕ) (t : Tag) (form : Bool) (c : List ℕ) (last : Open) → AreOctets x
    → IsDue mode os x → BeginsPiece mode x t form c last → form ≡ true
    → pieces_left mode os x ≡ before_all (begins t ∷ []) (pieces_left mode (last ∷ os) c)
beginning_next mode os x t form c last o due (of_definite h a d same is) e =
    let k : length c ≤ length (c ++ a) = omega (arith, length-append c a) in
    due_next mode os x o due ∙ of_beginning mode os x t h (c ++ a) o (length c) (rw e at d) is k
    ∙ rw (take_at c a (length c) refl, drop_at c a (length c) refl, same) refl
beginning_next mode os x t form c last o due (of_indefinite h d same is) e =
    due_next mode os x o due ∙ of_marked mode os x t h c o (rw e at d) is ∙ rw same refl

-- ---- all of it

pub nothing_left : (mode : Mode) → pieces_left mode [] [] ≡ Some []
unfolding pieces_left at_end
nothing_left mode = rw (read_list_step mode false [] (λ i. omega arith)) refl

-- the pieces of octets are those of the values that they are
pub record OfValues (mode : Mode) (w : List ℕ) (ps : List Piece) : Type 0 where
  pub trees : Trees
  pub encode : AreEncodings mode trees w
  pub are : ps ≡ pieces_of trees

pub left_sound : (mode : Mode) (w : List ℕ) (ps : List Piece) → AreOctets w → pieces_left mode [] w ≡ Some ps → OfValues mode w ps
unfolding pieces_left
left_sound mode w ps o e =
    let m = mapped (λ (ts : Trees × List ℕ). pieces_of ts.0) (read_list mode false w) ps e in
    record { trees = m.0.0; encode = list_sound mode w m.0.0 m.0.1 o m.1; are = sym m.2 }

pub left_complete : (mode : Mode) (w : List ℕ) (ts : Trees) → AreEncodings mode ts w → pieces_left mode [] w ≡ Some (pieces_of ts)
unfolding pieces_left
left_complete mode w ts h = rw (list_complete mode w ts h) refl

-- ---- what is at the front of octets

module _ (mode : Mode) (x : List ℕ) (t : Tag) (f : Bool) (n : Option ℕ) (h z : List ℕ) (d : IsHeader mode t f (length_of n) h) (is : x ≡ h ++ z) where
  pub begun_definite : (k : ℕ) (c b : List ℕ) → n ≡ Some k → k ≤ length z → c ≡ take k z → b ≡ drop k z → BeginsPiece mode x t f c (Some b)
  begun_definite k c b e l front back =
      let count : length c ≡ k = ap length front ∙ length-take-le k z l in
      let told : IsHeader mode t f (length_of (Some (length c))) h = subst (λ j. IsHeader mode t f (length_of (Some j)) h) (sym count) (rw e at d) in
      let whole : x ≡ h ++ (c ++ b) = is ∙ ap (λ w. h ++ w) (sym (take-append-drop k z) ∙ ap₂ (λ v w. v ++ w) (sym front) (sym back)) in
      of_definite h b told refl whole

  pub begun_marked : n ≡ None → BeginsPiece mode x t f z None
  begun_marked e = of_indefinite h (rw e at d) refl is

-- The whole walk.
use Rattle.std.proofs.Common.{◌≡◌, ℕ, ◌≤◌, Bool, true, false, List, [], ◌∷◌, ◌++◌, length, Option, Some, None, refl, sym, ap, subst, ◌∙◌}
use Rattle.std.proofs.Common.{zero, suc, append-nil, append_assoc, arith}
use Rattle.std.specs.Prelude.{All, ◌↔◌}
use denote.Ref.{Bor}
use Rattle.std.proofs.lemmas.List.{length-append}
use Rattle.std.proofs.lemmas.List.Elements.{All-append, All-nil}
use Rattle.bcder.specs.declared.mode.Mode.{Mode}
use Rattle.bcder.specs.x690.Identifier.{AreOctets}
use Rattle.bcder.specs.x690.Tree.{Tree, primitive, constructed, Trees, no_trees, ◌∷ₜ◌}
use Rattle.bcder.specs.laws.Sound.{none_is, mapped}
use Rattle.encodings.specs.Open.{Open}
use Rattle.encodings.specs.Pieces.{Piece, value, begins, ends, pieces, pieces_of, pieces_left, before_all}
use Rattle.encodings.proofs.PiecesRead.{before_none, before_both, nothing_left, left_sound, left_complete}
use Rattle.rules.specs.Broken.{Holds}
use Rattle.rules.specs.Comes.{Comes, at_first}
use Rattle.rules.specs.Means.{IsMeant, AreMeant, IsPieceMeant, AreRight}
use Rattle.rules.specs.Around.{AreAround, Follows, met_meant}
use Rattle.rules.specs.Passes.{IsJudged, IsKept, kept, broken, IsMet, of_value, of_beginning, of_end, Judges, passes, loses, Passes}
use Rattle.rules.specs.Passes.{InWalk, IsFollowed, so_far, no_values, IsVerdict, right, wrong}
use Rattle.rules.specs.Placed.{ArePlaced, IsPlaced, open_behind}
use Rattle.rules.specs.declared.around.Enclosing.{Enclosing}
use Rattle.rules.specs.declared.around.Met.{Met}
use Rattle.rules.specs.declared.around.Met.TheVariants.{End, Lost}
use Rattle.rules.proofs.Following.{TellsPlace, in_place, misplaced, met_followed}
use Rattle.rules.proofs.Placing.{behind_more, front_placed, one_more_placed, outside_placed, placed_outside}
use Rattle.rules.specs.declared.rule.Breach.{Breach}

-- ---- pieces

All-front : {X : Type 0} (P : X → Type 0) (a b : List X) → All P (a ++ b) → All P a
All-front P [] b h k d l = absurd (omega arith)
All-front P (x ∷ a) b h zero d l = h zero d (omega arith)
All-front P (x ∷ a) b h (suc k) d l = All-front P a b (λ i e m. h (suc i) e (omega (arith, m))) k d (omega (arith, l))

All-back : {X : Type 0} (P : X → Type 0) (a b : List X) → All P (a ++ b) → All P b
All-back P [] b h = h
All-back P (x ∷ a) b h = All-back P a b (λ i e m. h (suc i) e (omega (arith, m)))

All-one : {X : Type 0} (P : X → Type 0) (x : X) → P x → All P (x ∷ [])
All-one P x p zero d l = p
All-one P x p (suc k) d l = absurd (omega arith)

All-first : {X : Type 0} (P : X → Type 0) (x : X) (xs : List X) → All P (x ∷ xs) → P x
All-first P x xs h = h zero x (omega arith)

mutual
  meant_pieces : (mode : Mode) (t : Tree) → IsMeant mode t → All (IsPieceMeant mode) (pieces t)
  meant_pieces mode (primitive t c) m = All-one (IsPieceMeant mode) (value t c) m
  meant_pieces mode (constructed t ts) m =
      All-append (IsPieceMeant mode) (begins t ∷ []) (pieces_of ts ++ ends ∷ []) (All-one (IsPieceMeant mode) (begins t) m.0)
      (All-append (IsPieceMeant mode) (pieces_of ts) (ends ∷ []) (all_meant_pieces mode ts m.1) (All-one (IsPieceMeant mode) ends tt))

  all_meant_pieces : (mode : Mode) (ts : Trees) → AreMeant mode ts → All (IsPieceMeant mode) (pieces_of ts)
  all_meant_pieces mode no_trees m = All-nil (IsPieceMeant mode)
  all_meant_pieces mode (t ∷ₜ ts) m = All-append (IsPieceMeant mode) (pieces t) (pieces_of ts) (meant_pieces mode t m.0) (all_meant_pieces mode ts m.1)

mutual
  pieces_meant : (mode : Mode) (t : Tree) → All (IsPieceMeant mode) (pieces t) → IsMeant mode t
  pieces_meant mode (primitive t c) h = All-first (IsPieceMeant mode) (value t c) [] h
  pieces_meant mode (constructed t ts) h = (
    All-first (IsPieceMeant mode) (begins t) (pieces_of ts ++ ends ∷ []) h,
    all_pieces_meant mode ts (All-front (IsPieceMeant mode) (pieces_of ts) (ends ∷ [])
        (All-back (IsPieceMeant mode) (begins t ∷ []) (pieces_of ts ++ ends ∷ []) h)),
  )

  all_pieces_meant : (mode : Mode) (ts : Trees) → All (IsPieceMeant mode) (pieces_of ts) → AreMeant mode ts
  all_pieces_meant mode no_trees h = tt
  all_pieces_meant mode (t ∷ₜ ts) h = (
    pieces_meant mode t (All-front (IsPieceMeant mode) (pieces t) (pieces_of ts) h),
    all_pieces_meant mode ts (All-back (IsPieceMeant mode) (pieces t) (pieces_of ts) h),
  )

-- ---- the walk

pub walk_starts : (mode : Mode) (contents : Bool) (octets : List ℕ) (os : List Open) (es : List Enclosing) (text : List ℕ) (whole : Bool) (at : ℕ)
    (found : List Breach)
    → os ≡ [] → es ≡ [] → whole ≡ true → at ≡ 0 → found ≡ [] → InWalk mode contents octets os es text whole octets at found
walk_starts mode contents octets os es text whole at found e a w n f =
    rw (e, n, f) (record {
      comes = at_first;
      hold = All-nil (Holds mode octets);
      count = omega arith;
      followed = so_far w [] (sym (before_none (pieces_left mode [] octets))) (a, refl) (right refl (All-nil (IsKept mode contents)) (λ _. tt));
    })

module _ (mode : Mode) (contents : Bool) (octets : List ℕ) where
  module _ (passed : List Piece) (p : Piece) (r : Option (List Piece)) (e : pieces_left mode [] octets ≡ before_all (passed ++ p ∷ []) r)
      (is : AreRight mode contents octets) where
    -- the pieces of the values
    record All_pieces : Type 0 where
      rest : List Piece
      are : (passed ++ p ∷ []) ++ rest ≡ pieces_of is.values

    all_pieces : All_pieces
    all_pieces =
        let all : before_all (passed ++ p ∷ []) r ≡ Some (pieces_of is.values) = sym e ∙ left_complete mode octets is.values is.encode in
        let m = mapped (λ (l : List Piece). (passed ++ p ∷ []) ++ l) r (pieces_of is.values) all in
        record { rest = m.0; are = m.2 }

    not_kept : (IsKept mode contents p → ⊥) → ⊥
    not_kept n =
        n (λ k. All-first (IsPieceMeant mode) p [] (All-back (IsPieceMeant mode) passed (p ∷ [])
        (All-front (IsPieceMeant mode) (passed ++ p ∷ []) all_pieces.rest
        (subst (All (IsPieceMeant mode)) (sym all_pieces.are) (all_meant_pieces mode is.values (is.meant k))))))

    not_placed : contents ≡ true → (IsPlaced mode (open_behind [] passed) p → ⊥) → ⊥
    not_placed k n =
        let all : passed ++ (p ∷ all_pieces.rest) ≡ pieces_of is.values = sym (append_assoc passed (p ∷ []) all_pieces.rest) ∙ all_pieces.are in
        n (front_placed mode [] passed (p ∷ all_pieces.rest)
        (subst (ArePlaced mode []) (sym all) (placed_outside mode is.values (is.placed k)))).0

  never : (passed : List Piece) (os : List Open) (x : List ℕ) → pieces_left mode [] octets ≡ before_all passed (pieces_left mode os x)
      → pieces_left mode os x ≡ None → AreRight mode contents octets → ⊥
  never passed os x e n is = none_is _ (sym (e ∙ ap (before_all passed) n) ∙ left_complete mode octets is.values is.encode)

  -- one more piece
  judged_on : (passed : List Piece) (p : Piece) (r : Option (List Piece)) (old mid new : List Breach)
      → pieces_left mode [] octets ≡ before_all (passed ++ p ∷ []) r → IsVerdict mode contents octets passed old → (more : List Breach) → mid ≡ old ++ more
      → IsJudged mode contents p old mid → TellsPlace mode contents octets (IsPlaced mode (open_behind [] passed) p) mid new
      → IsVerdict mode contents octets (passed ++ p ∷ []) new
  judged_on passed p r old mid new e (right f kept_all placed) more is (kept same k) (in_place q i) =
      right (q ∙ same ∙ f) (All-append (IsKept mode contents) passed (p ∷ []) kept_all (All-one (IsKept mode contents) p k))
      (λ c. one_more_placed mode [] passed p (placed c) (i c))
  judged_on passed p r old mid new e (right f kept_all placed) more is (kept same k) (misplaced b q z h c n) =
      wrong (omega (arith, z, ap length q, length-append mid b)) (λ w. not_placed passed p r e w c n)
  judged_on passed p r old mid new e (right f kept_all placed) more is (broken l n) (in_place q i) =
      wrong (omega (arith, l, ap length q)) (λ w. not_kept passed p r e w n)
  judged_on passed p r old mid new e (right f kept_all placed) more is (broken l n) (misplaced b q z h c m) =
      wrong (omega (arith, z, ap length q, length-append mid b)) (λ w. not_kept passed p r e w n)
  judged_on passed p r old mid new e (wrong l n) more is j (in_place q i) =
      wrong (omega (arith, l, ap length q, ap length is, length-append old more)) n
  judged_on passed p r old mid new e (wrong l n) more is j (misplaced b q z h c m) =
      wrong (omega (arith, z, ap length q, length-append mid b)) n

  hold_on : (P : Type 0) (mid new : List Breach) → All (Holds mode octets) mid → TellsPlace mode contents octets P mid new → All (Holds mode octets) new
  hold_on P mid new h (in_place q i) = subst (All (Holds mode octets)) (sym q) h
  hold_on P mid new h (misplaced b q z k c n) =
      subst (All (Holds mode octets)) (sym q) (All-append (Holds mode octets) mid b h k)

  hold_more : (os ps : List Open) (x y : List ℕ) (at then : ℕ) (old mid : List Breach) (met : Met) (d : List ℕ) → Comes octets os x at
      → All (Holds mode octets) old
      → Passes mode contents os x at old ps y then mid met d → All (Holds mode octets) mid
  hold_more os ps x y at then old mid met d k h p =
      let a = p.onward.adds in
      subst (All (Holds mode octets)) (sym a.is) (All-append (Holds mode octets) old a.more h (a.hold octets k))

  not_lost : (os ps : List Open) (x y : List ℕ) (at then : ℕ) (q : Piece) (met : Met) (d : List ℕ) → IsMet mode os x at ps y then q met d → met ≡ Lost → ⊥
  not_lost os ps x y at then q met d (of_value t size c pe me b o se e n) k = let z : met_meant t false c ≡ Lost = sym me ∙ k in absurd cc
  not_lost os ps x y at then q met d (of_beginning t size o pe me b e n) k = let z : met_meant t true y ≡ Lost = sym me ∙ k in absurd cc
  not_lost os ps x y at then q met d (of_end o n pe me c e j) k = let z : End ≡ Lost = sym me ∙ k in absurd cc

  -- a value was lost, now or before
  pub walk_lost : (os ps : List Open) (es : List Enclosing) (text x y : List ℕ) (at then : ℕ) (old mid : List Breach) (met : Met) (d : List ℕ) (whole : Bool)
      → InWalk mode contents octets os es text whole x at old → Passes mode contents os x at old ps y then mid met d → (whole ≡ true → met ≡ Lost)
      → InWalk mode contents octets ps es text false y then mid
  walk_lost os ps es text x y at then old mid met d whole i p l = record {
    comes = p.onward.goes.comes octets i.comes;
    hold = hold_more os ps x y at then old mid met d i.comes i.hold p;
    count = p.onward.goes.count ∙ i.count;
    followed = go i.followed p.judges;
  }
    where
      longer : length old ≤ length mid
      longer = let a = p.onward.adds in omega (arith, ap length a.is, length-append old a.more)

      go : IsFollowed mode contents octets os es text whole x at old → Judges mode contents os x at ps y then old mid met d
          → IsFollowed mode contents octets ps es text false y then mid
      go (no_values w k n) j = no_values refl (omega (arith, k, longer)) n
      go (so_far w passed same around v) (loses k told none) = no_values refl (omega (arith, told)) (never passed os x same none)
      go (so_far w passed same around v) (passes q m left j) = absurd (not_lost os ps x y at then q met d m (l w))

  -- a piece was passed and followed
  pub walk_followed : (os ps : List Open) (es gs : List Enclosing) (text text' x y : List ℕ) (at then : ℕ) (old mid new : List Breach) (met : Met)
      (d : List ℕ) (whole : Bool)
      (start : Bor (List ℕ)) → InWalk mode contents octets os es text whole x at old → Passes mode contents os x at old ps y then mid met d
      → whole ≡ true → (met ≡ Lost → ⊥) → start.now ≡ x → Follows mode contents es text start d met y then mid gs text' new
      → InWalk mode contents octets ps gs text' true y then new
  walk_followed os ps es gs text text' x y at then old mid new met d whole start i p w l s f = go i.followed p.judges
    where
      all : (passed : List Piece) → pieces_left mode [] octets ≡ before_all passed (pieces_left mode os x)
          → AreAround mode octets es text (open_behind [] passed) os x at → IsVerdict mode contents octets passed old → (q : Piece)
          → IsMet mode os x at ps y then q met d → pieces_left mode os x ≡ before_all (q ∷ []) (pieces_left mode ps y)
          → IsJudged mode contents q old mid → InWalk mode contents octets ps gs text' true y then new
      all passed same around v q m left j =
          let t = met_followed mode contents octets es text text' (open_behind [] passed) os x at ps y then q met d start gs mid new around i.comes m s f in
          let r : pieces_left mode [] octets ≡ before_all (passed ++ q ∷ []) (pieces_left mode ps y) =
          same ∙ ap (before_all passed) left ∙ before_both passed (q ∷ []) (pieces_left mode ps y) in
          record {
            comes = p.onward.goes.comes octets i.comes;
            hold =
                hold_on (IsPlaced mode (open_behind [] passed) q) mid new (hold_more os ps x y at then old mid met d i.comes i.hold p) t.tells;
            count = p.onward.goes.count ∙ i.count;
            followed =
                so_far refl (passed ++ q ∷ []) r
                (subst (λ z. AreAround mode octets gs text' z ps y then) (sym (behind_more [] passed q)) t.around)
                (judged_on passed q (pieces_left mode ps y) old mid new r v p.onward.adds.more p.onward.adds.is j t.tells);
          }

      go : IsFollowed mode contents octets os es text whole x at old → Judges mode contents os x at ps y then old mid met d
          → InWalk mode contents octets ps gs text' true y then new
      go (no_values z k n) j = let u : ◌≡◌ {A = Bool} true false = sym w ∙ z in absurd cc
      go (so_far z passed same around v) (loses k told none) = absurd (l k)
      go (so_far z passed same around v) (passes q m left j) = all passed same around v q m left j

  pub walk_ends : (os : List Open) (es : List Enclosing) (text : List ℕ) (whole : Bool) (x : List ℕ) (at : ℕ) (found : List Breach) → AreOctets octets
      → os ≡ [] → x ≡ []
      → InWalk mode contents octets os es text whole x at found → (found ≡ []) ↔ AreRight mode contents octets
  walk_ends os es text whole x at found o none nothing i = go i.followed
    where
      is_right : (passed : List Piece) → pieces_left mode [] octets ≡ before_all passed (pieces_left mode os x) → All (IsKept mode contents) passed
          → (contents ≡ true → ArePlaced mode [] passed) → AreRight mode contents octets
      is_right passed same kept_all placed =
          let end : pieces_left mode os x ≡ Some [] = rw (none, nothing) (nothing_left mode) in
          let all : pieces_left mode [] octets ≡ Some (passed ++ []) = same ∙ ap (before_all passed) end in
          let v = left_sound mode octets (passed ++ []) o all in
          let are : passed ≡ pieces_of v.trees = sym (append-nil passed) ∙ v.are in
          record {
            values = v.trees;
            encode = v.encode;
            meant = λ k. all_pieces_meant mode v.trees (subst (All (IsPieceMeant mode)) are (λ n d l. kept_all n d l k));
            placed = λ k. outside_placed mode v.trees (subst (ArePlaced mode []) are (placed k));
          }

      by_verdict : (passed : List Piece) → pieces_left mode [] octets ≡ before_all passed (pieces_left mode os x)
          → IsVerdict mode contents octets passed found → (found ≡ []) ↔ AreRight mode contents octets
      by_verdict passed same (right e kept_all placed) = (λ _. is_right passed same kept_all placed, λ _. e)
      by_verdict passed same (wrong l n) = (λ e. absurd (omega (arith, l, ap length e)), λ r. absurd (n r))

      go : IsFollowed mode contents octets os es text whole x at found → (found ≡ []) ↔ AreRight mode contents octets
      go (so_far w passed same around v) = by_verdict passed same v
      go (no_values w l n) = (λ e. absurd (omega (arith, l, ap length e)), λ r. absurd (n r))

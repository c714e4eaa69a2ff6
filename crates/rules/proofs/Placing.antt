-- Values in their places, as pieces.
use Rattle.std.proofs.Common.{◌≡◌, Bool, true, false, None, List, [], reverse, ◌∙◌, ◌∷◌, ◌++◌, Some, refl, sym, ap, subst, append_assoc}
use Rattle.std.specs.Prelude.{is_some}
use Rattle.std.proofs.lemmas.List.{reverse-append}
use Rattle.bcder.specs.declared.mode.Mode.{Mode}
use Rattle.bcder.specs.laws.Sound.{none_is, some_inj}
use Rattle.bcder.specs.x690.Identifier.{Tag}
use Rattle.bcder.specs.x690.Tree.{Tree, primitive, constructed, Trees, no_trees, ◌∷ₜ◌, ◌+++◌}
use Rattle.encodings.specs.Pieces.{Piece, ends, pieces, pieces_of}
use Rattle.rules.specs.Placed.{are_several, last_of, unused_of, unused_of_last, MayComeEach, IsInPlace, AreInPlace}
use Rattle.rules.specs.Placed.{Frame, added, step, MayComeIn, IsPlaced, ArePlaced, open_behind}

-- ---- stacks

pub pushed_first : {X : Type 0} (os ps : List X) (f : X) → ps ≡ os ++ f ∷ [] → reverse ps ≡ f ∷ reverse os
pushed_first os ps f e = ap reverse e ∙ reverse-append os (f ∷ [])

-- ---- lists of values

pub last_added : (ts : Trees) (u : Tree) → last_of (ts +++ (u ∷ₜ no_trees)) ≡ Some u
last_added no_trees u = refl
last_added (t ∷ₜ no_trees) u = refl
last_added (t ∷ₜ (s ∷ₜ ts)) u = last_added (s ∷ₜ ts) u

pub is_last : (t : Tree) (ts : Trees) → is_some (last_of (t ∷ₜ ts)) ≡ true
is_last t no_trees = refl
is_last t (u ∷ₜ us) = is_last u us

pub several_added : (ts : Trees) (u : Tree) → are_several (ts +++ (u ∷ₜ no_trees)) ≡ is_some (last_of ts)
several_added no_trees u = refl
several_added (t ∷ₜ no_trees) u = refl
several_added (t ∷ₜ (s ∷ₜ ts)) u = sym (is_last s ts)

pub unused_of_none : (ts : Trees) → last_of ts ≡ None → unused_of_last ts ≡ 0
unused_of_none no_trees e = refl
unused_of_none (t ∷ₜ ts) e =
    let z : ◌≡◌ {A = Bool} true false = sym (is_last t ts) ∙ ap is_some e in
    absurd cc

pub unused_of_some : (ts : Trees) (u : Tree) → last_of ts ≡ Some u → unused_of_last ts ≡ unused_of u
unused_of_some no_trees u e = absurd (none_is u e)
unused_of_some (t ∷ₜ no_trees) u e = ap unused_of (some_inj t u e)
unused_of_some (t ∷ₜ (s ∷ₜ ts)) u e = unused_of_some (s ∷ₜ ts) u e

one_by_one : (ts us : Trees) (u : Tree) → (ts +++ (u ∷ₜ no_trees)) +++ us ≡ ts +++ (u ∷ₜ us)
one_by_one no_trees us u = refl
one_by_one (t ∷ₜ ts) us u = ap (λ z. t ∷ₜ z) (one_by_one ts us u)

with_none : (ts : Trees) → ts +++ no_trees ≡ ts
with_none no_trees = refl
with_none (t ∷ₜ ts) = ap (λ z. t ∷ₜ z) (with_none ts)

-- ---- values in place are pieces in place

abbrev frame : Tag → Trees → Frame
frame t ts = record { tag = t; trees = ts }

module _ (mode : Mode) where
  mutual
    placed_tree : (t : Tree) (fs : List Frame) (ps : List Piece) → IsInPlace mode t → MayComeIn mode fs t → ArePlaced mode (added t fs) ps
        → ArePlaced mode fs (pieces t ++ ps)
    placed_tree (primitive t c) fs ps i m h = (m, h)
    placed_tree (constructed t ts) fs ps i m h = (
      tt,
      subst (ArePlaced mode (frame t no_trees ∷ fs)) (sym (append_assoc (pieces_of ts) (ends ∷ []) ps))
          (placed_trees ts no_trees t fs (ends ∷ ps) i.0 i.1 ((i.2, m), h)),
    )

    placed_trees : (us ts : Trees) (t : Tag) (fs : List Frame) (ps : List Piece) → AreInPlace mode us → MayComeEach mode t (last_of ts) us
        → ArePlaced mode (frame t (ts +++ us) ∷ fs) ps → ArePlaced mode (frame t ts ∷ fs) (pieces_of us ++ ps)
    placed_trees no_trees ts t fs ps i m h = subst (λ z. ArePlaced mode (frame t z ∷ fs) ps) (with_none ts) h
    placed_trees (u ∷ₜ us) ts t fs ps i m h =
        subst (ArePlaced mode (frame t ts ∷ fs)) (sym (append_assoc (pieces u) (pieces_of us) ps))
        (placed_tree u (frame t ts ∷ fs) (pieces_of us ++ ps) i.0 m.0
        (placed_trees us (ts +++ (u ∷ₜ no_trees)) t fs ps i.1 (subst (λ z. MayComeEach mode t z us) (sym (last_added ts u)) m.1)
        (subst (λ z. ArePlaced mode (frame t z ∷ fs) ps) (sym (one_by_one ts us u)) h)))

  pub placed_outside : (us : Trees) → AreInPlace mode us → ArePlaced mode [] (pieces_of us)
  placed_outside no_trees i = tt
  placed_outside (u ∷ₜ us) i = placed_tree u [] (pieces_of us) i.0 tt (placed_outside us i.1)

  mutual
    tree_placed : (t : Tree) (fs : List Frame) (ps : List Piece) → ArePlaced mode fs (pieces t ++ ps)
        → IsInPlace mode t × MayComeIn mode fs t × ArePlaced mode (added t fs) ps
    tree_placed (primitive t c) fs ps h = (tt, h.0, h.1)
    tree_placed (constructed t ts) fs ps h =
        let k = trees_placed ts no_trees t fs (ends ∷ ps)
        (subst (ArePlaced mode (frame t no_trees ∷ fs)) (append_assoc (pieces_of ts) (ends ∷ []) ps) h.1) in
        ((k.0, k.1, k.2.0.0), k.2.0.1, k.2.1)

    trees_placed : (us ts : Trees) (t : Tag) (fs : List Frame) (ps : List Piece) → ArePlaced mode (frame t ts ∷ fs) (pieces_of us ++ ps)
        → AreInPlace mode us × MayComeEach mode t (last_of ts) us × ArePlaced mode (frame t (ts +++ us) ∷ fs) ps
    trees_placed no_trees ts t fs ps h = (tt, tt, subst (λ z. ArePlaced mode (frame t z ∷ fs) ps) (sym (with_none ts)) h)
    trees_placed (u ∷ₜ us) ts t fs ps h =
        let a = tree_placed u (frame t ts ∷ fs) (pieces_of us ++ ps)
        (subst (ArePlaced mode (frame t ts ∷ fs)) (append_assoc (pieces u) (pieces_of us) ps) h) in
        let b = trees_placed us (ts +++ (u ∷ₜ no_trees)) t fs ps a.2 in (
          (a.0, b.0),
          (a.1, subst (λ z. MayComeEach mode t z us) (last_added ts u) b.1),
          subst (λ z. ArePlaced mode (frame t z ∷ fs) ps) (one_by_one ts us u) b.2,
        )

  pub outside_placed : (us : Trees) → ArePlaced mode [] (pieces_of us) → AreInPlace mode us
  outside_placed no_trees h = tt
  outside_placed (u ∷ₜ us) h = let a = tree_placed u [] (pieces_of us) h in (a.0, outside_placed us a.2)

  -- ---- the first of pieces, and the next

  pub front_placed : (fs : List Frame) (a b : List Piece) → ArePlaced mode fs (a ++ b) → ArePlaced mode (open_behind fs a) b
  front_placed fs [] b h = h
  front_placed fs (p ∷ a) b h = front_placed (step fs p) a b h.1

  pub one_more_placed : (fs : List Frame) (a : List Piece) (p : Piece) → ArePlaced mode fs a → IsPlaced mode (open_behind fs a) p
      → ArePlaced mode fs (a ++ p ∷ [])
  one_more_placed fs [] p h i = (i, tt)
  one_more_placed fs (q ∷ a) p h i = (h.0, one_more_placed (step fs q) a p h.1 i)

pub behind_more : (fs : List Frame) (a : List Piece) (p : Piece) → open_behind fs (a ++ p ∷ []) ≡ step (open_behind fs a) p
behind_more fs [] p = refl
behind_more fs (q ∷ a) p = behind_more (step fs q) a p

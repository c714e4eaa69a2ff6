-- Iterators over a slice give one list, and memory runs out for them only if it does for an item.
-- Each lemma has a variable for each fact of the iterator and of its items, so that a tactic applies it to any of them.
use Rattle.std.specs.Prelude.{◌≡◌, zero, suc, List, [], ◌∷◌, length, All, Any, Option, Some, Vec}
use Rattle.std.proofs.Common.{Iter, arith, inl, inr, sym, ap, ◌∙◌, subst, refl}
use denote.Ref.{Bor}
use Rattle.std.specs.Slice.Iter.{iter_rest, iter_steps}
use Rattle.std.specs.Iterator.{Count, IsFinite, Yields}
use Rattle.bcder.specs.declared.mode.Mode.{Mode}
use Rattle.bcder.specs.calls.Meaning.{Meaning}
use Rattle.bcder.specs.calls.Iterated.{AlwaysGives, GivesOneList, RunsLack}

-- an item behind some reference
abbrev shown_one : {V : Type 0} → V → Bor V
shown_one v = record { ref_ptr = (0, 0); now = v }

abbrev shown : {V : Type 0} → List V → List (Bor V)
shown [] = []
shown (v ∷ vs) = shown_one v ∷ shown vs

-- the item of a, behind the reference b
abbrev moved : {V : Type 0} → Bor V → Bor V → Bor V
moved a b = record { ref_ptr = b.ref_ptr; now = a.now }

moved_is : {V : Type 0} (a b : Bor V) → b.now ≡ a.now → moved a b ≡ b
moved_is a b e = rw (sym e) refl

-- the steps are those of an iterator over a slice; and what is required of an item, and what it means, does not depend on the reference
module _ {V : Type 0} {steps : Iter V → Option (Bor V) → Iter V → Type 0} {can : Bor V → Type 0} {means : Bor V → Mode → Meaning → Type 0}
    (are_steps : (s : Iter V) (r : Option (Bor V)) (t : Iter V) → steps s r t → iter_steps s r t)
    (can_be : (a b : Bor V) → can a → can (moved a b))
    (mean : (a b : Bor V) (mode : Mode) (m : Meaning) → means a mode m → means (moved a b) mode m) where
  mean_at : (a b : Bor V) → b.now ≡ a.now → (mode : Mode) (m : Meaning) → means a mode m → means b mode m
  mean_at a b e mode m h = subst (λ z. means z mode m) (moved_is a b e) (mean a b mode m h)

  refs_given : (vs : List V) (s : Iter V) → iter_rest s ≡ vs → All (λ v. can (shown_one v)) vs → AlwaysGives steps can means s (shown vs)
  refs_given [] s e all = λ x t st. absurd (let l = ap length (sym (are_steps s _ t st) ∙ e) in omega (arith, l))
  refs_given (v ∷ vs) s e all = (
    λ t st. absurd (let l = ap length e in omega (arith, l, (are_steps s _ t st).0)),
    λ x t st. (
        let both : x.now ∷ iter_rest t ≡ v ∷ vs = sym (are_steps s _ t st) ∙ e in
        let here : x.now ≡ v = cc in
        let there : iter_rest t ≡ vs = cc in (
          (
            subst can (moved_is (shown_one v) x here) (can_be (shown_one v) x (all 0 v (omega arith))),
            inr (record { same = mean_at x (shown_one v) (sym here) }, record { same = mean_at (shown_one v) x here }),
          ),
          refs_given vs t there (λ k d below. all (suc k) d (omega (arith, below))),
        )),
  )

  refs_can : (vs : List V) → All (λ v. can (shown_one v)) vs → All can (shown vs)
  refs_can [] all k d below = absurd (omega (arith, below))
  refs_can (v ∷ vs) all zero d below = all 0 v (omega arith)
  refs_can (v ∷ vs) all (suc k) d below = refs_can vs (λ j e low. all (suc j) e (omega (arith, low))) k d (omega (arith, below))

  -- the iterator may be run to its end
  module _ {can_next : Iter V → Type 0} {left : Iter V → Count} (ends : (i : Iter V) → can_next i × IsFinite (left i)) where
    listed : {T : Type 0} {is_clone : T → T → Type 0} {gives : T → Iter V → Type 0} (x : T) (xs : List V)
        → ((t : T) (i : Iter V) → is_clone x t → gives t i → iter_rest i ≡ xs) → All (λ v. can (shown_one v)) xs
        → GivesOneList is_clone gives steps can_next left can means x
    listed x xs made all = record {
      items = shown xs;
      all_can = refs_can xs all;
      may_call = λ t i cloned given. ends i;
      same = λ t i cloned given. refs_given xs i (made t i cloned given) all;
    }

    -- an iterator over a slice gives one list
    pub slice_iter_listed : {is_clone gives : Iter V → Iter V → Type 0} {x : Iter V}
        → ((s t : Iter V) → is_clone s t → iter_rest t ≡ iter_rest s) → ((s t : Iter V) → gives s t → t ≡ s)
        → All (λ v. can (shown_one v)) (iter_rest x)
        → GivesOneList is_clone gives steps can_next left can means x
    slice_iter_listed {x = x} clones made all = listed x (iter_rest x) (λ t i c g. ap iter_rest (made t i g) ∙ clones x t c) all

    -- a slice gives one list
    pub slice_listed : {is_clone : Bor (List V) → Bor (List V) → Type 0} {gives : Bor (List V) → Iter V → Type 0} {x : Bor (List V)}
        → ((s t : Bor (List V)) → is_clone s t → t ≡ s) → ((s : Bor (List V)) (i : Iter V) → gives s i → iter_rest i ≡ s.now)
        → All (λ v. can (shown_one v)) x.now
        → GivesOneList is_clone gives steps can_next left can means x
    slice_listed {x = x} clones made all = listed x x.now (λ t i c g. made t i g ∙ ap (λ z. z.now) (clones x t c)) all

    -- a vector, by reference, gives one list
    pub vec_listed : {A : Type 0} {is_clone : Bor (Vec V A) → Bor (Vec V A) → Type 0} {gives : Bor (Vec V A) → Iter V → Type 0}
        {x : Bor (Vec V A)} → ((s t : Bor (Vec V A)) → is_clone s t → t ≡ s)
        → ((s : Bor (Vec V A)) (i : Iter V) → gives s i → iter_rest i ≡ s.now.items) → All (λ v. can (shown_one v)) x.now.items
        → GivesOneList is_clone gives steps can_next left can means x
    vec_listed {x = x} clones made all = listed x x.now.items (λ t i c g. made t i g ∙ ap (λ z. z.now.items) (clones x t c)) all

-- ---- when memory may run out

-- the steps are those of an iterator over a slice, a clone doesn't fail, and memory may run out for what is behind a reference
module _ {V : Type 0} {steps : Iter V → Option (Bor V) → Iter V → Type 0} {lacks : Bor V → Type 0} {L : V → Type 0}
    (are_steps : (s : Iter V) (r : Option (Bor V)) (t : Iter V) → steps s r t → iter_steps s r t)
    (of_item : (y : Bor V) → lacks y → L y.now) where
  item_given : (s t u : Iter V) (xs : List (Bor V)) (y : Bor V) → Yields steps s xs t → steps t (Some y) u → L y.now → Any L (iter_rest s)
  item_given s t u [] y run st l = subst (Any L) (sym (ap iter_rest run ∙ are_steps t _ u st)) (0, y.now, omega arith, refl, l)
  item_given s t u (x ∷ xs) y run st l =
      let (k, v, below, is, m) = item_given run.0 t u xs y run.2 st l in
      subst (Any L) (sym (are_steps s _ run.0 run.1)) (suc k, v, omega (arith, below), is, m)

  given_lacks : {T : Type 0} {is_clone : T → T → Type 0} (is_infallible : T → Type 0) {gives : T → Iter V → Type 0} (x : T) (vs : List V)
      → is_infallible x → ((t : T) (i : Iter V) → is_clone x t → gives t i → iter_rest i ≡ vs)
      → RunsLack is_clone is_infallible gives steps lacks x → Any L vs
  given_lacks is_infallible x vs safe made (inl fails) = absurd (fails safe)
  given_lacks is_infallible x vs safe made (inr g) =
      let b = g.begins in
      subst (Any L) (made b.copy b.from b.cloned b.made)
      (item_given b.from b.to g.left g.before g.item b.ran g.gives_item (of_item g.item g.may))

  -- memory may run out for an iterator over a slice only if it may for an item
  pub slice_iter_lacks : {is_clone gives : Iter V → Iter V → Type 0} (is_infallible : Iter V → Type 0) {x : Iter V} → is_infallible x
      → ((s t : Iter V) → is_clone s t → iter_rest t ≡ iter_rest s) → ((s t : Iter V) → gives s t → t ≡ s)
      → RunsLack is_clone is_infallible gives steps lacks x → Any L (iter_rest x)
  slice_iter_lacks is_infallible {x = x} safe clones made h =
      given_lacks is_infallible x (iter_rest x) safe (λ t i c g. ap iter_rest (made t i g) ∙ clones x t c) h

  -- memory may run out for a slice only if it may for an item
  pub slice_lacks : {is_clone : Bor (List V) → Bor (List V) → Type 0} (is_infallible : Bor (List V) → Type 0)
      {gives : Bor (List V) → Iter V → Type 0} {x : Bor (List V)} → is_infallible x → ((s t : Bor (List V)) → is_clone s t → t ≡ s)
      → ((s : Bor (List V)) (i : Iter V) → gives s i → iter_rest i ≡ s.now)
      → RunsLack is_clone is_infallible gives steps lacks x → Any L x.now
  slice_lacks is_infallible {x = x} safe clones made h =
      given_lacks is_infallible x x.now safe (λ t i c g. made t i g ∙ ap (λ z. z.now) (clones x t c)) h

  -- memory may run out for a vector, by reference, only if it may for an item
  pub vec_lacks : {A : Type 0} {is_clone : Bor (Vec V A) → Bor (Vec V A) → Type 0} (is_infallible : Bor (Vec V A) → Type 0)
      {gives : Bor (Vec V A) → Iter V → Type 0} {x : Bor (Vec V A)} → is_infallible x → ((s t : Bor (Vec V A)) → is_clone s t → t ≡ s)
      → ((s : Bor (Vec V A)) (i : Iter V) → gives s i → iter_rest i ≡ s.now.items)
      → RunsLack is_clone is_infallible gives steps lacks x → Any L x.now.items
  vec_lacks is_infallible {x = x} safe clones made h =
      given_lacks is_infallible x x.now.items safe (λ t i c g. made t i g ∙ ap (λ z. z.now.items) (clones x t c)) h

-- the rules that a caller of `iter` names once
pub ruleset gives_one_list = (slice_iter_listed, slice_listed, vec_listed)

-- The items of an iterator, so far.
use Rattle.std.proofs.Common.{◌≡◌, ℕ, ◌+◌, List, [], ◌∷◌, ◌++◌, length, Option, None, Some, Ok, Err, refl}
use Rattle.std.proofs.Common.{sym, ap, ◌∙◌, subst, inl, inr, length-append, append-nil}
use Rattle.std.specs.Iterator.{Yields}
use Rattle.bcder.specs.declared.encode.error.EncodeError.{EncodeError}
use Rattle.bcder.specs.declared.mode.Mode.{Mode}
use Rattle.bcder.specs.x690.Tree.{Trees, no_trees, ◌∷ₜ◌, ◌+++◌}
use Rattle.bcder.specs.calls.Meaning.{Encoded, Meaning}
use Rattle.bcder.specs.calls.Encoders.{TellsSize, TellsSum}
use Rattle.bcder.specs.calls.Meaning.{nothing, join, EachOf, IsSum}
use Rattle.bcder.specs.calls.Iterated.{MeanSame, AlwaysGives}
use Rattle.bcder.proofs.Joining.{join-assoc, WrittenSoFar}

-- what the items mean, and its size
pub record SumSeen {A : Type 0} (M : A → Meaning → Type 0) (xs : List A) (sum : Option ℕ) : Type 0 where
  pub seen : Encoded
  pub each : EachOf M xs (Ok seen)
  pub is_sum : IsSum sum (length seen.octets)

+++-nil : (ts : Trees) → ts +++ no_trees ≡ ts
+++-nil no_trees = refl
+++-nil (t ∷ₜ ts) = ap (λ u. t ∷ₜ u) (+++-nil ts)

join-nothing : (a : Encoded) → a ≡ join a nothing
join-nothing a =
    ap (λ (t : Trees). let r : Encoded = record { values = t; octets = a.octets } in r) (sym (+++-nil a.values))
    ∙ ap (λ (o : List ℕ). let r : Encoded = record { values = a.values +++ no_trees; octets = o } in r) (sym (append-nil a.octets))

module _ {A : Type 0} (M : A → Meaning → Type 0) where
  pub seen_none : SumSeen M [] (Some 0)
  seen_none = record { seen = nothing; each = refl; is_sum = refl }

  pub each_next : (xs : List A) (x : A) (z a : Encoded) → EachOf M xs (Ok z) → M x (Ok a) → EachOf M (xs ++ x ∷ []) (Ok (join z a))
  each_next [] x z a h m = let none : z ≡ nothing = cc in (a, nothing, m, refl, ap (λ e. join e a) none ∙ join-nothing a)
  each_next (y ∷ ys) x z a (p, q, my, each, eq) m = (p, join q a, my, each_next ys x q a each m, ap (λ e. join e a) eq ∙ join-assoc p q a)

  pub each_refused : (xs : List A) (x : A) (z : Encoded) (e : EncodeError) → EachOf M xs (Ok z) → M x (Err e) → EachOf M (xs ++ x ∷ []) (Err e)
  each_refused [] x z e h m = inl m
  each_refused (y ∷ ys) x z e (p, q, my, each, eq) m = inr (p, my, each_refused ys x q e each m)

  pub seen_next : {xs : List A} {old new : Option ℕ} (x : A) (len : ℕ) → SumSeen M xs old → TellsSize (λ (e : Encoded). e.octets) (M x) ⊥ (Ok len)
      → ((k : ℕ) → IsSum old k → IsSum new (k + len)) → SumSeen M (xs ++ x ∷ []) new
  seen_next {xs} {old} {new} x len s (a, m, is) adds = record {
    seen = join s.seen a;
    each = each_next xs x s.seen a s.each m;
    is_sum = subst (IsSum new) (ap (λ k. length s.seen.octets + k) is ∙ sym (length-append s.seen.octets a.octets)) (adds (length s.seen.octets) s.is_sum);
  }

-- the sum of what is meant
pub sum_told : (M : Meaning → Type 0) (sum : Option ℕ) (z : Encoded) → M (Ok z) → IsSum sum (length z.octets) → TellsSum M ⊥ (Ok sum)
sum_told M (Some n) z m is = (z, m, is)
sum_told M None z m is = (z, m, is)

module _ {S A : Type 0} (steps : S → Option A → S → Type 0) where
  pub yields_next : (s t u : S) (xs : List A) (x : A) → Yields steps s xs t → steps t (Some x) u → Yields steps s (xs ++ x ∷ []) u
  yields_next s t u [] x run step = (u, subst (λ i. steps i (Some x) u) (sym run) step, refl)
  yields_next s t u (y ∷ ys) x run step = (run.0, run.1, yields_next run.0 t u ys x run.2 step)

module _ {I A : Type 0} (steps : I → Option A → I → Type 0) (can : A → Type 0) (means : A → Mode → Meaning → Type 0) where
  -- each item that comes may be encoded
  pub item_can : (s t u : I) (xs ys : List A) (x : A) → AlwaysGives steps can means s ys → Yields steps s xs t → steps t (Some x) u → can x
  item_can s t u [] [] x h run step = absurd (h x u (subst (λ i. steps i (Some x) u) (sym run) step))
  item_can s t u [] (y ∷ ys) x h run step = (h.1 x u (subst (λ i. steps i (Some x) u) (sym run) step)).0.0
  item_can s t u (z ∷ xs) [] x h run step = absurd (h z run.0 run.1)
  item_can s t u (z ∷ xs) (y ∷ ys) x h run step = item_can run.0 t u xs ys x (h.1 z run.0 run.1).1 run.2 step

  -- the items that are left, of which x is the first
  pub record Next (x : A) (u : I) (rest : List A) : Type 0 where
    pub first : A
    pub others : List A
    pub is : rest ≡ first ∷ others
    pub may : can x
    pub same : MeanSame means first x
    pub gives : AlwaysGives steps can means u others

  pub next_of : (t u : I) (rest : List A) (x : A) → AlwaysGives steps can means t rest → steps t (Some x) u → Next x u rest
  next_of t u [] x h step = absurd (h x u step)
  next_of t u (y ∷ ys) x h step = let at = h.1 x u step in record { first = y; others = ys; is = refl; may = at.0.0; same = at.0.1; gives = at.1 }

  -- what is written so far, and what the iterator is yet to give
  pub record Running (mode : Mode) (M : Meaning → Type 0) (t : I) (old new : Option (List ℕ)) : Type 0 where
    pub rest : List A
    pub gives : AlwaysGives steps can means t rest
    pub so_far : WrittenSoFar M (EachOf (λ v. means v mode) rest) old new

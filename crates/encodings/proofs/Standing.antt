-- The states that a call takes: those that stand for open values, with some other numbers kept.
use Rattle.std.proofs.Common.{◌≡◌, ℕ, zero, suc, ◌+◌, ◌-◌, ◌<◌, ◌≤◌, true, false, List, [], ◌∷◌, ◌++◌, length, drop, reverse, get_or}
use Rattle.std.proofs.Common.{slice_range, replicate, Some, None, refl, sym, ap, subst, ◌∙◌, arith}
use Rattle.std.specs.Prelude.{nat_eq}
use Rattle.std.proofs.lemmas.Bool.Decides.{nat_tests}
use Rattle.std.proofs.lemmas.List.{length-append, length-drop, length-replicate, length-reverse, reverse-reverse, take_at}
use Rattle.bcder.specs.declared.mode.Mode.{Mode}
use Rattle.encodings.specs.declared.next.Walk.{Walk}
use Rattle.encodings.specs.Open.{Open}
use Rattle.encodings.specs.Next.{no_offset, kept, AreKept, StandsForNone, around, EndsInside, MayStand}
use Rattle.encodings.proofs.Stepping.{popped, may_stand}

is_none : (n : ℕ) → nat_eq n no_offset ≡ true → n ≡ no_offset
is_none n e = grind (arith, nat_tests)

-- ---- open values for which the numbers are kept

-- values of definite length that end where all octets do, around octets that end there, or inside them
outer_open : (w : List ℕ) (end k : ℕ) → length w < no_offset → end ≤ length w → (k ≡ 0 → end ≡ length w)
    → (os : List Open) × AreKept w end (replicate k (length w)) os
outer_open w end zero small l e = ([], e refl)
outer_open w end (suc k) small l e =
    let o = outer_open w (length w) k small (omega arith) (λ z. refl) in
    (Some (slice_range w end (length w)) ∷ o.0, (small, l, refl, o.1))

inner_open : (w : List ℕ) (end n k : ℕ) → length w < no_offset → EndsInside w end (suc k) (around end n)
    → (os : List Open) × AreKept w end (n ∷ replicate k (length w)) os
inner_open w end n k small i = by_mark (nat_eq n no_offset) refl
  where
    by_mark : (b : _) → nat_eq n no_offset ≡ b → (os : List Open) × AreKept w end (n ∷ replicate k (length w)) os
    by_mark true e =
        let j : EndsInside w end (suc k) end = rw e at i in
        let o = outer_open w end k small j.inside (λ z. j.outermost (ap suc z)) in
        (None ∷ o.0, (is_none n e, o.1))
    by_mark false e =
        let j : EndsInside w end (suc k) n = rw e at i in
        let o = outer_open w n k small j.inside (λ z. j.outermost (ap suc z)) in
        (Some (slice_range w end n) ∷ o.0, (omega (arith, j.inside, small), j.order, refl, o.1))

head_is : (a b : ℕ) (v w : List ℕ) → ◌≡◌ {A = List ℕ} (a ∷ v) (b ∷ w) → a ≡ b
head_is a b v w e = ap (λ l. get_or l 0 0) e

-- the numbers that a call reads, with others that are kept for such values
module _ (w stack : List ℕ) (walk : Walk) (small : length w < no_offset) (m : MayStand w stack walk) where
  none_open : walk.depth ≡ 0 → StandsForNone w stack walk → ⊥
  none_open z none =
      none stack [] (slice_range w walk.at walk.end) (record { room = refl; innermost = λ l. refl }) (record {
        room = m.room;
        numbers = rw z (m.outermost z);
        order = m.order;
        rest = refl;
      })

  some_open : (k : ℕ) → walk.depth ≡ suc k → StandsForNone w stack walk → ⊥
  some_open k d none =
      let last : walk.depth - 1 ≡ k = omega (arith, d) in
      let n = get_or stack k 0 in
      let ns = n ∷ replicate k (length w) in
      let other = reverse ns ++ drop (suc k) stack in
      let i : EndsInside w walk.end (suc k) (around walk.end n) = rw (last, d) at (m.innermost (omega (arith, d))) in
      let o = inner_open w walk.end n k small i in
      let size : length (reverse ns) ≡ suc k = length-reverse ns ∙ ap suc (length-replicate k (length w)) in
      let all : length other ≡ length stack =
      omega (arith, length-append (reverse ns) (drop (suc k) stack), size, length-drop (suc k) stack, m.room, d) in
      let one_more : k + 1 ≡ suc k = omega arith in
      let front : kept other (suc k) ≡ ns =
      ap reverse (take_at (reverse ns) (drop (suc k) stack) (suc k) size) ∙ reverse-reverse ns in
      let first : get_or other k 0 ≡ n =
      head_is _ _ _ _ (sym (popped other k (omega (arith, all, m.room, d))) ∙ ap (kept other) one_more ∙ front) in
      none other o.0 (slice_range w walk.at walk.end) (record { room = all; innermost = λ l. rw last first }) (record {
        room = omega (arith, all, m.room);
        numbers = subst (λ ms. AreKept w walk.end ms o.0) (sym (ap (kept other) d ∙ front)) o.1;
        order = m.order;
        rest = refl;
      })

  pub stands_for_some : StandsForNone w stack walk → ⊥
  stands_for_some none = by_depth walk.depth refl
    where
      by_depth : (d : ℕ) → walk.depth ≡ d → ⊥
      by_depth zero e = none_open e none
      by_depth (suc k) e = some_open k e none

-- ---- the other way round

-- a state that a call refuses stands for none, whatever the numbers are that it doesn't read
pub stands_for_none : (mode : Mode) (w stack : List ℕ) (walk : Walk) → (MayStand w stack walk → ⊥) → StandsForNone w stack walk
stands_for_none mode w stack walk none other os x same s =
    let m = may_stand mode w other walk os x s in
    none (record {
      order = m.order;
      inside = m.inside;
      room = omega (arith, m.room, same.room);
      outermost = m.outermost;
      innermost = λ l. subst (λ n. EndsInside w walk.end walk.depth (around walk.end n)) (same.innermost l) (m.innermost l);
    })

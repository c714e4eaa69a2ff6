-- Sizes that are noted where encoders are measured, and read where they are written.
use Rattle.std.proofs.Common.{◌≡◌, ℕ, List, [], ◌∷◌, ◌++◌, length, None, Some, Result, Ok, Err, refl, sym, ap, ◌∙◌, subst, ◌⊎◌, inl, inr}
use Rattle.std.proofs.Common.{append_assoc, append-nil, ◌+◌, ◌<◌, ◌≤◌, drop_of_length-le, drop, get_or, suc, add-one, drop-cons}
use Rattle.std.specs.Prelude.{IfOk}
use Rattle.bcder.specs.declared.length.Length.TheVariants.{Definite}
use Rattle.bcder.specs.x690.Octets.{constructed_length}
use Rattle.bcder.specs.steps.Enclosing.{TakesContents}
use Rattle.bcder.specs.declared.encode.sizes.Sizes.{Sizes}
use Rattle.bcder.specs.declared.mode.Mode.{Mode}
use Rattle.bcder.specs.declared.mode.Mode.TheVariants.{Ber, Cer, Der}
use Rattle.bcder.specs.calls.Meaning.{Encoded, Meaning, IsOne}
use Rattle.bcder.specs.calls.Noted.{noted, ReadsNone, Reads, ReadsThen, ReadsEach, HasSize, ReadsInside, ReadsContents, MayRead, HasRead, Notes}
use Rattle.bcder.proofs.Writing.{same_ok}

pub one_size : {M : Meaning → Type 0} (one : IsOne M) (n : ℕ) (a : Encoded) → M (Ok a) → n ≡ length a.octets → HasSize M n
one_size one n a m is = λ e p. is ∙ ap (λ (x : Encoded). length x.octets) (same_ok _ one.same a e m p)

-- ---- nothing

-- nothing is left to read
pub nothing_left : (R : List ℕ → List ℕ → Type 0) (l : List ℕ) → l ≡ [] → MayRead R l
nothing_left R l is = record { after = []; reads = inl (is, refl) }

pub none_read : (a : List ℕ) → HasRead ReadsNone a a
none_read a = record {
  ends = inr (λ after r. elim r [
    | inl p ↦ p.0 ∙ sym p.1
    | inr same ↦ same
  ]);
}

pub nothing_noted : (s : Sizes) → Notes ReadsNone s s
nothing_noted s = record { sizes = []; added = sym (append-nil (noted s)); reads = λ behind more. inr refl; full = λ is. (refl, is) }

-- ---- what was noted is read from the start

pub noted_read : {R : List ℕ → List ℕ → Type 0} (old new : Sizes) → noted old ≡ [] → Notes R old new → (l : List ℕ) → l ≡ noted new → MayRead R l
noted_read {R} old new none n l is =
    let all : l ≡ n.sizes ++ [] = is ∙ n.added ∙ ap (λ b. b ++ n.sizes) none ∙ sym (append-nil n.sizes) in
    record { after = []; reads = subst (λ x. Reads R x []) (sym all) (n.reads [] (λ full. refl)) }

-- the sizes that are left of a tape may be read
pub left_read : {R : List ℕ → List ℕ → Type 0} (l m : List ℕ) → l ≡ m → MayRead R m → MayRead R l
left_read {R} l m is may = subst (MayRead R) (sym is) may

-- ---- where a step succeeded

pub where_ok : {A E P Q : Type 0} (r : Result A E) → (P → Q) → IfOk r (λ _. P) → IfOk r (λ _. Q)
where_ok (Ok u) f h = f h
where_ok (Err e) f h = tt

pub in_any_case : {A E Q : Type 0} (r : Result A E) → Q → IfOk r (λ _. Q)
in_any_case (Ok u) q = q
in_any_case (Err e) q = tt

-- ---- one after the other

module _ (R S : List ℕ → List ℕ → Type 0) where
  pub then_noted : {old mid new : Sizes} → Notes R old mid → Notes S mid new → Notes (ReadsThen R S) old new
  then_noted {old} {mid} {new} p q = record {
    sizes = p.sizes ++ q.sizes;
    added = q.added ∙ ap (λ l. l ++ q.sizes) p.added ∙ append_assoc (noted old) p.sizes q.sizes;
    reads = λ behind more. inr (
      q.sizes ++ behind,
      subst (λ l. Reads R l (q.sizes ++ behind)) (sym (append_assoc p.sizes q.sizes behind)) (p.reads (q.sizes ++ behind) (λ full.
          let (none, still) = q.full full in
          ap (λ l. l ++ behind) none ∙ more still)),
      q.reads behind more,
    );
    full = λ is.
        let (none, still) = p.full is in
        let (none_more, at_end) = q.full still in
        (ap (λ l. l ++ q.sizes) none ∙ none_more, at_end);
  }

  first_at : (l after : List ℕ) → Reads (ReadsThen R S) l after → MayRead R l
  first_at l after (inl p) = nothing_left R l p.0
  first_at l after (inr (mid, r, s)) = record { after = mid; reads = r }

  pub first_may : (l : List ℕ) → MayRead (ReadsThen R S) l → MayRead R l
  first_may l may = first_at l may.after may.reads

  rest_at : (l m after : List ℕ) → Reads (ReadsThen R S) l after → (m ≡ []) ⊎ ((mid : List ℕ) → Reads R l mid → m ≡ mid) → MayRead S m
  rest_at l m after r (inl none) = nothing_left S m none
  rest_at l m after (inl p) (inr all) = nothing_left S m (all [] (inl (p.0, refl)))
  rest_at l m after (inr (mid, r, s)) (inr all) = record { after = after; reads = subst (λ x. Reads S x after) (sym (all mid r)) s }

  pub rest_may : (l m : List ℕ) → MayRead (ReadsThen R S) l → HasRead R l m → MayRead S m
  rest_may l m may has = rest_at l m may.after may.reads has.ends

  ended : (m n : List ℕ) → m ≡ [] → (n ≡ []) ⊎ ((after : List ℕ) → Reads S m after → n ≡ after) → n ≡ []
  ended m n none (inl end) = end
  ended m n none (inr all) = all [] (inl (none, refl))

  read_at : (l m n : List ℕ) → ((mid : List ℕ) → Reads R l mid → m ≡ mid) → ((after : List ℕ) → Reads S m after → n ≡ after) → (after : List ℕ)
      → Reads (ReadsThen R S) l after → n ≡ after
  read_at l m n all more after (inl p) = more [] (inl (all [] (inl (p.0, refl)), refl)) ∙ sym p.1
  read_at l m n all more after (inr (mid, first, rest)) = more after (subst (λ x. Reads S x after) (sym (all mid first)) rest)

  ends_at : (l m n : List ℕ) → (m ≡ []) ⊎ ((mid : List ℕ) → Reads R l mid → m ≡ mid) → (n ≡ []) ⊎ ((after : List ℕ) → Reads S m after → n ≡ after)
      → (n ≡ []) ⊎ ((after : List ℕ) → Reads (ReadsThen R S) l after → n ≡ after)
  ends_at l m n (inl none) q = inl (ended m n none q)
  ends_at l m n (inr all) (inl end) = inl end
  ends_at l m n (inr all) (inr more) = inr (read_at l m n all more)

  pub then_read : (l m n : List ℕ) → HasRead R l m → HasRead S m n → HasRead (ReadsThen R S) l n
  then_read l m n p q = record { ends = ends_at l m n p.ends q.ends }

-- ---- each of a list

pub ReadsEach_at : {X : Type 0} (R : X → List ℕ → List ℕ → Type 0) (xs : List X) (i : ℕ) (x : X) → i < length xs → x ≡ get_or xs i x
    → ReadsEach R (drop i xs) ≡ ReadsThen (R x) (ReadsEach R (drop (i + 1) xs))
ReadsEach_at R xs i x h is = ap (ReadsEach R) (drop-cons xs i x h ∙ ap (λ y. y ∷ drop (suc i) xs) (sym is) ∙ ap (λ j. x ∷ drop j xs) (sym (add-one i)))

pub ReadsEach_end : {X : Type 0} (R : X → List ℕ → List ℕ → Type 0) (xs : List X) (i : ℕ) → length xs ≤ i → ReadsEach R (drop i xs) ≡ ReadsNone
ReadsEach_end R xs i h = ap (ReadsEach R) (drop_of_length-le xs h)

-- what is noted so far may be read before whatever is noted after it
pub record NotedSoFar (R rest : List ℕ → List ℕ → Type 0) (old mid : Sizes) : Type 0 where
  pub leads : (new : Sizes) → Notes rest mid new → Notes R old new

pub noted_start : {R : List ℕ → List ℕ → Type 0} {a : Sizes} → NotedSoFar R R a a
noted_start = record { leads = λ new n. n }

pub noted_next : {R : List ℕ → List ℕ → Type 0} (S rest : List ℕ → List ℕ → Type 0) {old mid new : Sizes} → NotedSoFar R (ReadsThen S rest) old mid
    → Notes S mid new → NotedSoFar R rest old new
noted_next S rest s n = record { leads = λ end more. s.leads end (then_noted S rest n more) }

pub noted_done : {R : List ℕ → List ℕ → Type 0} {old mid : Sizes} → NotedSoFar R ReadsNone old mid → Notes R old mid
noted_done {R} {old} {mid} s = s.leads mid (nothing_noted mid)

-- what is read so far is what R says, before the rest, which may be read
pub record ReadSoFar (R rest : List ℕ → List ℕ → Type 0) (old mid : List ℕ) : Type 0 where
  pub may : MayRead rest mid
  pub leads : (new : List ℕ) → HasRead rest mid new → HasRead R old new

pub read_start : {R : List ℕ → List ℕ → Type 0} {l : List ℕ} → MayRead R l → ReadSoFar R R l l
read_start may = record { may = may; leads = λ new r. r }

pub read_next : {R : List ℕ → List ℕ → Type 0} (S rest : List ℕ → List ℕ → Type 0) {old mid new : List ℕ} → ReadSoFar R (ReadsThen S rest) old mid
    → HasRead S mid new → ReadSoFar R rest old new
read_next S rest {old} {mid} {new} s r = record {
  may = rest_may S rest mid new s.may r;
  leads = λ end more. s.leads end (then_read S rest mid new end r more);
}

pub read_done : {R : List ℕ → List ℕ → Type 0} {old mid : List ℕ} → ReadSoFar R ReadsNone old mid → HasRead R old mid
read_done {R} {old} {mid} s = s.leads mid (none_read mid)

-- ---- inside a value

module _ (M : Meaning → Type 0) (R : List ℕ → List ℕ → Type 0) where
  inside_at : (l m after : List ℕ) (size : ℕ) → l ≡ size ∷ m → Reads (ReadsInside M R) l after → HasSize M size × Reads R m after
  inside_at l m after size is (inl p) = cc
  inside_at l m after size is (inr (n, behind, at, sized, r)) =
      let same_size : n ≡ size = cc in
      let same : behind ≡ m = cc in
      (subst (λ k. HasSize M k) same_size sized, subst (λ x. Reads R x after) same r)

  pub inside_may : (l m : List ℕ) (size : ℕ) → l ≡ size ∷ m → MayRead (ReadsInside M R) l → HasSize M size × MayRead R m
  inside_may l m size is may = let (sized, r) = inside_at l m may.after size is may.reads in (sized, record { after = may.after; reads = r })

  inside_ends : (l m n : List ℕ) (size : ℕ) → l ≡ size ∷ m → (n ≡ []) ⊎ ((after : List ℕ) → Reads R m after → n ≡ after)
      → (n ≡ []) ⊎ ((after : List ℕ) → Reads (ReadsInside M R) l after → n ≡ after)
  inside_ends l m n size is (inl none) = inl none
  inside_ends l m n size is (inr all) = inr (λ after r. all after (inside_at l m after size is r).1)

  pub inside_read : (l m n : List ℕ) (size : ℕ) → l ≡ size ∷ m → HasRead R m n → HasRead (ReadsInside M R) l n
  inside_read l m n size is h = record { ends = inside_ends l m n size is h.ends }

  -- ---- inside a constructed value

  within_at : (l after : List ℕ) → Reads (Reads R) l after → Reads R l after
  within_at l after (inl p) = inl p
  within_at l after (inr r) = r

  within_ends : (l n : List ℕ) → (n ≡ []) ⊎ ((after : List ℕ) → Reads R l after → n ≡ after)
      → (n ≡ []) ⊎ ((after : List ℕ) → Reads (Reads R) l after → n ≡ after)
  within_ends l n (inl none) = inl none
  within_ends l n (inr all) = inr (λ after r. all after (within_at l after r))

  -- its size is told
  pub contents_may : (mode : Mode) (l m : List ℕ) (size : ℕ) → TakesContents mode l (Some size) m → MayRead (ReadsContents mode M R) l
      → ((x : Encoded) → M (Ok x) → constructed_length mode size ≡ constructed_length mode (length x.octets)) × MayRead R m
  contents_may Cer l m size same may = (λ x meant. refl, subst (MayRead R) (sym same) (record { after = may.after; reads = within_at l may.after may.reads }))
  contents_may Ber l m size at may = let (sized, r) = inside_may l m size at may in (λ x meant. ap Definite (sized x meant), r)
  contents_may Der l m size at may = let (sized, r) = inside_may l m size at may in (λ x meant. ap Definite (sized x meant), r)

  pub contents_read : (mode : Mode) (l m n : List ℕ) (size : ℕ) → TakesContents mode l (Some size) m → HasRead R m n → HasRead (ReadsContents mode M R) l n
  contents_read Cer l m n size same h = let here = subst (λ x. HasRead R x n) same h in record { ends = within_ends l n here.ends }
  contents_read Ber l m n size at h = inside_read l m n size at h
  contents_read Der l m n size at h = inside_read l m n size at h

  pub not_noted : (mode : Mode) (l m : List ℕ) → TakesContents mode l None m → HasRead (ReadsContents mode M R) l m
  not_noted Cer l m h = absurd h
  not_noted Ber l m h = record { ends = inl h.1 }
  not_noted Der l m h = record { ends = inl h.1 }

-- What a reader says of contents octets that are all at hand.
use Rattle.std.proofs.Common.{◌≡◌, ℕ, List, length, Some, Result, Ok, Err, IfOk, IfErr, sym, ap, subst, ◌∙◌, arith}
use Rattle.std.proofs.lemmas.List.{take_all}
use Rattle.std.specs.Borrow.{MutBor}
use Rattle.bcder.specs.declared.mode.Mode.{Mode}
use Rattle.bcder.specs.declared.decode.error.DecodeError.{DecodeError}
use Rattle.bcder.specs.calls.Cause.{cause_of, of_source}
use Rattle.bcder.specs.calls.Content.{Reading}
use Rattle.bcder.specs.calls.Stream.{at_hand}
use Rattle.bcder.specs.calls.Decoding.{RanAlone, RefusedAlone, by_closure, left_octets}
use Rattle.bcder.specs.calls.Readers.{Reads, MeanNothing, RefusesReading, refused, source, few}

module _ {C T X : Type 0} (view : C → Reading) (post : MutBor C → Result T (DecodeError X) → MutBor C → Type 0) (Means : Mode → List ℕ → T → Type 0)
    (reads : (p : MutBor C) (r : Result T (DecodeError X)) (q : MutBor C) → post p r q
    → Reads (Means (view p.now).mode) (MeanNothing (Means (view p.now).mode)) (view p.now) r (view q.now))
    (m : Mode) (w : List ℕ) where
  pub read_alone : (r : Result T (DecodeError X)) → RanAlone view post (at_hand w) (length w) m r → IfOk r (λ x. Means m w x)
  read_alone (Err e) ran = tt
  read_alone (Ok x) ran =
      let a = ran.answers.answered in
      let v = (reads a.handed (Ok x) a.left a.called).value in
      let rest : (view a.handed.now).stream.rest ≡ w =
      ap (λ i. i.stream.rest) a.handed_is ∙ ap (λ s. s.rest) ran.over.stream ∙ take_all (length w) w (omega arith) in
      let mode : (view a.handed.now).mode ≡ m = ap (λ i. i.mode) a.handed_is ∙ ran.over.mode in
      subst (λ k. Means k w x) mode (subst (λ k. Means (view a.handed.now).mode k x) rest v)

  pub refused_alone : (r : Result T (DecodeError X)) → RanAlone view post (at_hand w) (length w) m r
      → IfErr r (λ e. (cause_of e ≡ of_source → ⊥) → (x : T) → Means m w x → ⊥)
  refused_alone (Ok x) ran = tt
  refused_alone (Err e) ran = λ own x means. go own x means ran.refuses
    where
      inner : (cause_of e ≡ of_source → ⊥) → (x : T) → Means m w x → (p q : MutBor C) → view p.now ≡ ran.handed
          → RefusesReading (MeanNothing (Means (view p.now).mode)) (view p.now) e (view q.now) → ⊥
      inner own x means p q is (source c g) = own c
      inner own x means p q is (few s k n) =
          let rest : (view p.now).stream.rest ≡ w = ap (λ i. i.stream.rest) is ∙ ap (λ s. s.rest) ran.over.stream ∙ take_all (length w) w (omega arith) in
          let owed : (view p.now).owed ≡ Some (length w) = ap (λ i. i.owed) is ∙ ran.over.owed in
          omega (arith, s (length w) owed, ap length rest)
      inner own x means p q is (refused a n f) =
          let rest : (view p.now).stream.rest ≡ w = ap (λ i. i.stream.rest) is ∙ ap (λ s. s.rest) ran.over.stream ∙ take_all (length w) w (omega arith) in
          let mode : (view p.now).mode ≡ m = ap (λ i. i.mode) is ∙ ran.over.mode in
          n.0 x (subst (λ k. Means (view p.now).mode k x) (sym rest) (subst (λ k. Means k w x) (sym mode) means))

      go : (cause_of e ≡ of_source → ⊥) → (x : T) → Means m w x → RefusedAlone view post ran.handed e ran.left → ⊥
      go own x means (by_closure a) = inner own x means a.handed a.left a.handed_is ((reads a.handed (Err e) a.left a.called).refused)
      go own x means (left_octets y a n k) = n (ap (λ i. i.owed) (sym a.left_is) ∙ (reads a.handed (Ok y) a.left a.called).none_owed)

-- What a call promises in any case leaves it nothing else to return if a value comes next, or the end.
use Rattle.std.proofs.Common.{◌≡◌, inl, inr, ℕ, ◌≤◌, List, [], ◌∷◌, ◌++◌, Option, Some, None, Ok, Err, refl, sym, ◌∙◌, subst}
use Rattle.std.proofs.Common.{arith, append_assoc}
use Rattle.std.specs.Prelude.{Result, IsOk, IsOkAnd, IfOk, IfErr, IfSome, IfNone, IsSomeAnd, IsTrue, is_none, ◌<◌, ◌⊎◌}
use Rattle.bcder.specs.declared.decode.content.State.TheVariants.{Open, Ended, Failed}
use Rattle.bcder.specs.declared.decode.error.ContentError.{ContentError}
use Rattle.bcder.specs.declared.decode.error.DecodeError.{DecodeError}
use Rattle.bcder.specs.calls.Cause.{cause_of, of_memory}
use Rattle.bcder.specs.x690.Tree.{Tree}
use Rattle.bcder.specs.x690.Preorder.{Heading, preorder}
use Rattle.bcder.specs.calls.Stream.{Grew}
use Rattle.bcder.specs.calls.Captured.{Kept}
use Rattle.bcder.specs.calls.Content.{any, Reading, Octets, EndsBefore}
use Rattle.bcder.specs.calls.Walking.{HasNoNext, HasNoValue, HasValue, PassesValue, HasValues, AllBy}
use Rattle.bcder.specs.calls.Calls.{NextBy}
use Rattle.bcder.specs.calls.Walking as walking
use Rattle.bcder.specs.calls.Walking.{Steps, SkipsValue, RefusesSkip, SkippedValueBy, RefusesOne, RefusesSkipAll}
use Rattle.bcder.specs.calls.Capturing.{CapturesBy, HasValueOrDeep, of_value, of_depth}
use Rattle.bcder.specs.calls.Capturing.{HasValuesOrDeep, CapturesValue, CapturesNext, CapturesValues, HasOthers}
use Rattle.bcder.specs.laws.Exactly.{FoundMemory, AnswersNext, AnswersAll, IsShallow, MaySkip, AnswersSkip, AnswersCapture}
use Rattle.bcder.proofs.Moving.{open_not_ended, open_not_failed}
use Rattle.bcder.proofs.Entering.{Within}
use Rattle.bcder.specs.calls.Content.{Refuses, failed, source, nothing, otherwise}
use Rattle.bcder.proofs.WalkSteps.{value_not_at_end, value_once}

failed_end : (c : Reading) (after : List ℕ) → EndsBefore c after → c.state ≡ Failed → ⊥
failed_end c after (inl a) b = (let y : Ended ≡ Failed = sym a ∙ b in cc)
failed_end c after (inr a) b = open_not_failed c.state a.0 b

octets_no_values : (c : Reading) → c.kind ≡ Octets → HasValues c → ⊥
octets_no_values c k h = (let x : ⊥ = subst (λ z. walking.ClosesBefore z c.mode c.owed h.all h.after) k h.closes in x)

module _ (c d : Reading) (within : Within c) (sound : Grew c.stream.faults d.stream.faults → ⊥) where
  -- ---- passing

  module _ {X : Type 0} (e : DecodeError X) where
    no_refused_value : (t : Tree) (w after : List ℕ) → HasValue c t w after → Refuses cause_of any HasNoNext ⊥ c e d → ⊥
    no_refused_value t w after h (failed s a) = open_not_failed c.state h.usable s
    no_refused_value t w after h (source k s) = sound s
    no_refused_value t w after h (nothing n a) = n.none.none t w after h
    no_refused_value t w after h (otherwise n) = absurd n

    no_refused_end : (after : List ℕ) → EndsBefore c after → Refuses cause_of any HasNoNext ⊥ c e d → ⊥
    no_refused_end after h (failed s a) = failed_end c after h s
    no_refused_end after h (source k s) = sound s
    no_refused_end after h (nothing n a) = n.some after h
    no_refused_end after h (otherwise n) = absurd n

  pub answers_next : {T X : Type 0} (r : Result (Option T) (DecodeError X)) → IfOk r (λ o. IfSome o (λ _. PassesValue c d))
      → IfOk r (λ o. IfNone o (EndsBefore c d.stream.rest)) → IfErr r (λ e. Refuses cause_of any HasNoNext ⊥ c e d) → AnswersNext c r d
  answers_next (Ok None) a b n =
      record { found = λ t v after h. absurd (let z = value_not_at_end c within t v after h in z d.stream.rest b); ended = λ after h. refl }
  answers_next (Ok (Some x)) a b n = record {
    found = λ t v after h. (refl, (let s = value_once c a.tree t a.value v d.stream.rest after a.has h in s.rest));
    ended = λ after h. absurd (let z = value_not_at_end c within a.tree a.value d.stream.rest a.has in z after h);
  }
  answers_next (Err e) a b n =
      record { found = λ t v after h. absurd (no_refused_value e t v after h n); ended = λ after h. absurd (no_refused_end e after h n) }

  pub walked_exactly : {T X : Type 0} (r : Result (Option T) (DecodeError X)) → NextBy any (λ i _ j. PassesValue i j) (Refuses cause_of any HasNoNext ⊥) c r d
      → AnswersNext c r d
  walked_exactly (Ok None) p = answers_next (Ok None) tt p.value.missing.0 tt
  walked_exactly (Ok (Some x)) p = answers_next (Ok (Some x)) p.value tt tt
  walked_exactly (Err e) p = answers_next (Err e) tt tt p.refused.1

  -- if memory was found, refusals are those of a walk
  walk_of_one : {X : Type 0} (e : DecodeError X) → (cause_of e ≡ of_memory → ⊥) → RefusesOne cause_of c e d → Refuses cause_of any HasNoNext ⊥ c e d
  walk_of_one e n (failed s a) = failed s a
  walk_of_one e n (source s f) = source s f
  walk_of_one e n (nothing h a) = nothing h a
  walk_of_one e n (otherwise g) = absurd (n g.0)

  pub passed_exactly : {T X : Type 0} (r : Result (Option T) (DecodeError X))
      → NextBy any (λ i _ j. PassesValue i j) (RefusesOne cause_of) c r d → FoundMemory r → AnswersNext c r d
  passed_exactly (Ok None) s m = answers_next (Ok None) tt s.value.missing.0 tt
  passed_exactly (Ok (Some x)) s m = answers_next (Ok (Some x)) s.value tt tt
  passed_exactly (Err e) s m = answers_next (Err e) tt tt (walk_of_one e m s.refused.1)

  -- ---- skipping

  joined_calls : (calls more hs : List Heading) (h : Heading) → hs ≡ (calls ++ h ∷ []) ++ more → hs ≡ calls ++ h ∷ more
  joined_calls calls more hs h e = e ∙ append_assoc calls (h ∷ []) more

  not_nothing : (calls : List Heading) (h : Heading) → calls ++ h ∷ [] ≡ [] → ⊥
  not_nothing [] h e = cc
  not_nothing (k ∷ calls) h e = cc

  module _ {F X : Type 0} (step : Steps F ContentError) (f g : F) where
    no_refused_skip : (e : DecodeError X) (t : Tree) (w after : List ℕ) → HasValue c t w after → AnswersAll step f (preorder t 0)
        → IsShallow (preorder t 0) ⊎ (cause_of e ≡ of_memory → ⊥) → RefusesSkip cause_of step c f e g d → ⊥
    no_refused_skip e t w after h a m (walking.RefusesSkip.by_content calls called were r) = no_refused_value e t w after h r
    no_refused_skip e t w after h a m (walking.RefusesSkip.by_closure calls k q x called r were j) =
        (let o = were.one t w after h in a calls o.0 k q g x (joined_calls calls o.0 (preorder t 0) k o.1) called r)
    no_refused_skip e t w after h a (inl m) (walking.RefusesSkip.by_memory calls k called were b l j) = (let o = were.one t w after h in
        let y : k.depth < 4 = m calls o.0 k (joined_calls calls o.0 (preorder t 0) k o.1) b in let z : 4 ≤ k.depth = l in absurd (omega arith))
    no_refused_skip e t w after h a (inr m) (walking.RefusesSkip.by_memory calls k called were b l j) = m j

    no_skip_at_end : (e : DecodeError X) (after : List ℕ) → EndsBefore c after → RefusesSkip cause_of step c f e g d → ⊥
    no_skip_at_end e after h (walking.RefusesSkip.by_content calls called were r) = no_refused_end e after h r
    no_skip_at_end e after h (walking.RefusesSkip.by_closure calls k q x called r were j) =
        (let u = were.usable (not_nothing calls k) in u.1 after h)
    no_skip_at_end e after h (walking.RefusesSkip.by_memory calls k called were b l j) =
        (let u = were.usable (not_nothing calls k) in u.1 after h)

    pub skipped_exactly : {T : Type 0} (r : Result (Option T) (DecodeError X)) → NextBy any (λ i _ j. SkipsValue step i f g j)
        (λ i e j. RefusesSkip cause_of step i f e g j) c r d → AnswersSkip step c f r d
    skipped_exactly (Ok None) s = record {
      found = λ t w after h m. absurd (let z = value_not_at_end c within t w after h in z d.stream.rest s.value.missing.0);
      ended = λ after h. refl;
    }
    skipped_exactly (Ok (Some x)) s = record {
      found = λ t w after h m. (refl, (let p = s.value.passes in let y = value_once c p.tree t p.value w d.stream.rest after p.has h in y.rest));
      ended = λ after h. absurd (let p = s.value.passes in let z = value_not_at_end c within p.tree p.value d.stream.rest p.has in z after h);
    }
    skipped_exactly (Err e) s = record {
      found = λ t w after h m. absurd (no_refused_skip e t w after h m.0 m.1 s.refused.1);
      ended = λ after h. absurd (no_skip_at_end e after h s.refused.1);
    }

    pub value_exactly : {T : Type 0} (r : Result T (DecodeError X)) → SkippedValueBy step c f r g d → (t : Tree) (w after : List ℕ)
        → HasValue c t w after → MaySkip step f t r → IsOkAnd r (λ _. d.stream.rest ≡ after)
    value_exactly (Ok x) s t w after h m =
        (let y = value_once c s.value.passes.tree t s.value.passes.value w d.stream.rest after s.value.passes.has h in y.rest)
    value_exactly (Err e) s t w after h m = absurd (elim s.refused [
      | inl n ↦ (let z = value_not_at_end c within t w after h in z d.stream.rest n.0.missing.0)
      | inr n ↦ no_refused_skip e t w after h m.0 m.1 n.1
    ])

  -- ---- capturing the next value, if there is one

  module _ {X : Type 0} where
    capture_found : (r : Result (Option Kept) (DecodeError X)) → CapturesNext c r d → (t : Tree) (v after : List ℕ) → HasValue c t v after → FoundMemory r
        → IsOkAnd r (λ o. IsSomeAnd o (λ k. k.octets ≡ v))
    capture_found (Ok (Some k)) h t v after z m = (let s = value_once c h.value.tree t k.octets v d.stream.rest after h.value.has z in s.front)
    capture_found (Ok None) h t v after z m = absurd ((value_not_at_end c within t v after z) d.stream.rest h.value.missing.0)
    capture_found (Err e) h t v after z m = absurd (refuted h.refused.1)
      where
        refuted : Refuses cause_of any HasNoNext ((cause_of e ≡ of_memory) × HasValueOrDeep c) c e d → ⊥
        refuted (failed x o) = open_not_failed c.state z.usable x
        refuted (source x y) = sound y
        refuted (nothing n o) = n.none.none t v after z
        refuted (otherwise n) = m n.0

    capture_ended : (r : Result (Option Kept) (DecodeError X)) → CapturesNext c r d → (after : List ℕ) → EndsBefore c after
        → IsOkAnd r (λ o. IsTrue (is_none o))
    capture_ended (Ok None) h after z = refl
    capture_ended (Ok (Some k)) h after z = absurd ((value_not_at_end c within h.value.tree k.octets d.stream.rest h.value.has) after z)
    capture_ended (Err e) h after z = absurd (refuted h.refused.1)
      where
        met : HasValueOrDeep c → ⊥
        met (of_value t v x y) = (value_not_at_end c within t v x y) after z
        met (of_depth u s l) = s after z

        refuted : Refuses cause_of any HasNoNext ((cause_of e ≡ of_memory) × HasValueOrDeep c) c e d → ⊥
        refuted (failed x o) = failed_end c after z x
        refuted (source x y) = sound y
        refuted (nothing n o) = n.some after z
        refuted (otherwise n) = met n.1

    pub next_exactly : (r : Result (Option Kept) (DecodeError X)) → CapturesNext c r d → AnswersCapture c r
    next_exactly r h = record { found = capture_found r h; ended = capture_ended r h }

module _ {X : Type 0} (c d : Reading) (sound : Grew c.stream.faults d.stream.faults → ⊥) where
  -- ---- capturing a value that has to be there

  pub one_exactly : (r : Result Kept (DecodeError X)) → CapturesBy CapturesValue HasNoValue HasValueOrDeep c r d → FoundMemory r
      → (t : Tree) (w after : List ℕ) → HasValue c t w after → IsOkAnd r (λ k. k.octets ≡ w)
  one_exactly (Ok k) h m t w after v = (let s = value_once c h.value.tree t k.octets w d.stream.rest after h.value.has v in s.front)
  one_exactly (Err e) h m t w after v = absurd (refuted h.refused.0)
    where
      refuted : Refuses cause_of any HasNoValue ((cause_of e ≡ of_memory) × HasValueOrDeep c) c e d → ⊥
      refuted (failed s o) = open_not_failed c.state v.usable s
      refuted (source k x) = sound x
      refuted (nothing n o) = n.none t w after v
      refuted (otherwise x) = m x.0

  -- ---- all values

  pub all_exactly : {T : Type 0} (r : Result T (DecodeError X)) → AllBy (RefusesSkipAll cause_of) c r d → FoundMemory r → c.state ≡ Open → HasValues c
      → IsOk r
  all_exactly (Ok x) s m o h = refl
  all_exactly (Err e) s m o h = absurd (go s.refused.1)
    where
      go : RefusesSkipAll cause_of c e d → ⊥
      go (walking.RefusesSkipAll.by_values (failed a b)) = open_not_failed c.state o a
      go (walking.RefusesSkipAll.by_values (source a b)) = sound b
      go (walking.RefusesSkipAll.by_values (nothing n z)) = n.1 h
      go (walking.RefusesSkipAll.by_values (otherwise x)) = octets_no_values c x.0 h
      go (walking.RefusesSkipAll.by_depth j w g z) = m z

  pub captures_all_exactly : (r : Result Kept (DecodeError X)) → CapturesBy CapturesValues HasOthers HasValuesOrDeep c r d → FoundMemory r
      → (HasValues c → c.state ≡ Open → IsOk r) × (c.state ≡ Ended → IsOk r)
  captures_all_exactly (Ok k) h m = (λ v o. refl, λ e. refl)
  captures_all_exactly (Err e) h m = (λ v o. absurd (refuted v o h.refused.0), λ s. absurd (not_ended s h.refused.0))
    where
      refuted : HasValues c → c.state ≡ Open → Refuses cause_of any HasOthers ((cause_of e ≡ of_memory) × HasValuesOrDeep c) c e d → ⊥
      refuted v o (failed s a) = open_not_failed c.state o s
      refuted v o (source k x) = sound x
      refuted v o (nothing n a) = n.none v
      refuted v o (otherwise x) = m x.0

      not_ended : c.state ≡ Ended → Refuses cause_of any HasOthers ((cause_of e ≡ of_memory) × HasValuesOrDeep c) c e d → ⊥
      not_ended s (failed x a) = (let y : Ended ≡ Failed = sym s ∙ x in cc)
      not_ended s (source k x) = sound x
      not_ended s (nothing n a) = open_not_ended c.state n.usable s
      not_ended s (otherwise x) = m x.0

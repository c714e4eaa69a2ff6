-- All values up to the end of content, passed over.
use Rattle.std.proofs.Common.{◌≢◌, true, List, ℕ, Some, None, refl, sym, ◌∙◌, subst, inl, inr}
use Rattle.std.specs.Prelude.{Ok, Err}
use Rattle.bcder.specs.declared.decode.error.DecodeError.{DecodeError}
use Rattle.bcder.specs.x690.Tree.{Trees, no_trees}
use Rattle.bcder.specs.calls.Cause.{cause_of}
use Rattle.bcder.specs.calls.Content.{any, Reading, Octets, Moves, EndsBefore, IsDone}
use Rattle.bcder.specs.calls.Walking.{RefusesOne, RefusesSkipAll, by_values}
use Rattle.bcder.specs.calls.Calls.{NextBy}
use Rattle.bcder.specs.calls.Walking as skipping
use Rattle.bcder.specs.calls.Valued.{HoldsValues}
use Rattle.bcder.specs.calls.Walking.{HasValues, PassesValue, AllBy}
use Rattle.bcder.proofs.Lemmas.{open_has_not_ended, open_has_not_failed, IsWithinOwed, values_after, values_with_one_more}
use Rattle.bcder.proofs.Lemmas.{no_values_at_the_end, no_trees_at_the_end, done_is_at_its_end}
use Rattle.bcder.proofs.Lemmas.{no_values_without_a_first, as_many_are_no_fewer, grew_in_between}
use Rattle.asn1.specs.Types.{AreAll, TakesFields, RefusesFields, ReadsFields}
use Rattle.asn1.specs.Types as types
use Rattle.bcder.specs.calls.Content as refusals
use Rattle.asn1.proofs.Reading.{held_once, failed_holds_none}

-- ---- content at its end

end_holds_none : (c : Reading) → c.kind ≢ Octets → (after : List ℕ) → EndsBefore c after → HoldsValues c no_trees
end_holds_none c k after (inl e) = inr (e, refl)
end_holds_none c k after (inr e) = inl (record {
  usable = e.0;
  values = no_values_at_the_end c after k e.1;
  are = no_trees_at_the_end c after k e.1;
})

module _ {T : Type 0} (c d : Reading) (k : d.kind ≢ Octets) (x : T) where
  all_taken : (ts : Trees) → HoldsValues c ts → IsDone d → TakesFields AreAll c x d
  all_taken ts h e =
      let n = end_holds_none d k d.stream.rest (done_is_at_its_end d d.kind refl e) in
      record {
        before = λ us g. (ts, h, held_once d us no_trees g n);
        behind = λ us vs y g i. subst (HoldsValues d) (sym i) n;
      }

-- ---- one value passed, and all behind it

module _ {T X A : Type 0} (x : T) (c d : Reading) (k : c.kind ≢ Octets) (l : d.kind ≢ Octets) where
  pub none_to_skip : NextBy {T = A} {E = DecodeError X} any (λ i _ j. PassesValue i j) (RefusesOne cause_of) c (Ok None) d
      → ReadsFields AreAll true {X = X} c (Ok x) d
  none_to_skip p = record {
    value = all_taken c d l x no_trees (end_holds_none c k d.stream.rest p.value.missing.0) p.value.missing.1;
    no_fault = p.no_fault;
    refused = tt;
    mode = p.mode;
    marked = p.marked;
  }

module _ {T X : Type 0} (c d : Reading) (k : c.kind ≢ Octets) (e : DecodeError X) where
  refused_one : RefusesOne cause_of c e d → RefusesFields (AreAll {T = T}) true c e d
  refused_one (refusals.Refuses.failed s a) =
      types.RefusesFields.broken (λ ts us y h i. failed_holds_none c s ts h) a
  refused_one (refusals.Refuses.source f g) = types.RefusesFields.source f g
  refused_one (refusals.Refuses.nothing n a) = types.RefusesFields.broken none_held a.refused
    where
      none_held : (ts us : Trees) (y : T) → HoldsValues c ts → AreAll ts y us → ⊥
      none_held ts us y (inl h) i = no_values_without_a_first c n h.values
      none_held ts us y (inr h) i = open_has_not_ended c.state n.usable h.0
  refused_one (refusals.Refuses.otherwise g) = types.RefusesFields.memory g.0 refl

  pub refuses_to_skip : {A : Type 0} → NextBy {T = A} any (λ i _ j. PassesValue i j) (RefusesOne cause_of) c (Err e) d
      → ReadsFields (AreAll {T = T}) true c (Err e) d
  refuses_to_skip {A} p = record {
    value = tt;
    no_fault = tt;
    refused = refused_one p.refused.1;
    mode = p.mode;
    marked = p.marked;
  }

-- the first of them was passed, and then those behind it
module _ {X A : Type 0} (c j d : Reading) (w : IsWithinOwed c) (k : j.kind ≢ Octets) (l : d.kind ≢ Octets) (m : Moves c j) (u : A)
    (p : NextBy {E = DecodeError X} any (λ i _ j. PassesValue i j) (RefusesOne cause_of) c (Ok (Some u)) j) where
  pub behind_first : (ts : Trees) → HoldsValues c ts → HasValues j
  unfolding Moves
  behind_first ts (inl h) = values_after c j w p.value m p.mode h.values
  behind_first ts (inr h) = absurd (open_has_not_ended c.state p.value.has.usable h.0)

  pub with_first : HasValues j → (ts : Trees) × HoldsValues c ts
  unfolding Moves
  with_first h =
      let v : HasValues c = values_with_one_more c j w p.value m p.mode h in
      (v.trees, inl (record { usable = p.value.has.usable; values = v; are = refl }))

  pub skipped_all : {T : Type 0} (x : T) → AllBy {T = Unit {0}} {E = DecodeError X} (RefusesSkipAll cause_of) j (Ok tt) d
      → ReadsFields AreAll true {X = X} c (Ok x) d
  skipped_all {T} x q =
      let h = with_first (q.value.0 p.value.stays) in
      record {
        value = all_taken c d l x h.0 h.1 q.value.1;
        no_fault = q.no_fault ∙ p.no_fault;
        refused = tt;
        mode = q.mode ∙ p.mode;
        marked = q.marked ∙ p.marked;
      }

  pub refused_behind : {T : Type 0} (e : DecodeError X) → RefusesSkipAll cause_of j e d → RefusesFields (AreAll {T = T}) true c e d
  refused_behind {T} e (skipping.RefusesSkipAll.by_values (refusals.Refuses.failed s a)) =
      absurd (open_has_not_failed j.state p.value.stays s)
  refused_behind {T} e (skipping.RefusesSkipAll.by_values (refusals.Refuses.source f g)) =
      types.RefusesFields.source f (grew_in_between _ _ _ _ (as_many_are_no_fewer _ _ p.no_fault) g refl)
  refused_behind {T} e (skipping.RefusesSkipAll.by_values (refusals.Refuses.nothing n a)) =
      types.RefusesFields.broken (λ ts us y h i. n.1 (behind_first ts h)) a.refused
  refused_behind {T} e (skipping.RefusesSkipAll.by_values (refusals.Refuses.otherwise s)) = absurd (k s.0)
  refused_behind {T} e (skipping.RefusesSkipAll.by_depth i v g f) = types.RefusesFields.memory f refl

  pub refuses_behind : {T : Type 0} (e : DecodeError X) → AllBy {T = Unit {0}} (RefusesSkipAll cause_of) j (Err e) d
      → ReadsFields (AreAll {T = T}) true c (Err e) d
  refuses_behind {T} e q = record {
    value = tt;
    no_fault = tt;
    refused = refused_behind e q.refused.1;
    mode = q.mode ∙ p.mode;
    marked = q.marked ∙ p.marked;
  }

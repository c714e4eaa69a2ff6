-- Primitive values, read as what their contents octets mean.
use Rattle.std.proofs.Common.{◌≡◌, ℕ, Bool, true, false, List, Option, Some, None, refl, sym, subst, inl, inr}
use Rattle.std.specs.Prelude.{◌⊎◌, Result, Ok, Err}
use Rattle.bcder.specs.declared.decode.error.DecodeError.{DecodeError}
use Rattle.bcder.specs.x690.Identifier.{Tag}
use Rattle.bcder.specs.x690.Tree.{Tree, primitive, constructed}
use Rattle.bcder.specs.calls.Valued.{HasNoTree, TakesTree}
use Rattle.bcder.specs.calls.Calls.{NextBy}
use Rattle.bcder.specs.calls.Cause.{cause_of, of_memory}
use Rattle.bcder.specs.calls.Content.{tagged, Reading}
use Rattle.bcder.specs.calls.Valued.{InPrimitive, RefusesAs}
use Rattle.bcder.specs.calls.Content as refusals
use Rattle.bcder.specs.calls.Readers.{MeanNothing}
use Rattle.bcder.specs.calls.Walking.{HasValue}
use Rattle.bcder.proofs.Lemmas.{IsWithinOwed, value_once, header_is_there, header_of_tagged}
use Rattle.asn1.specs.Types.{IsLeaf, Only, HasTagged, by_tags, TakesTyped, RefusesTyped, TakesNextTyped}
use Rattle.asn1.specs.Types as types
use Rattle.asn1.proofs.Typed.{none_of_one, typed_header}

same_contents : (t u : Tag) (v w : List ℕ) → ◌≡◌ {A = Tree} (primitive t v) (primitive u w) → v ≡ w
same_contents t u v w e = cc

-- the octets mean nothing, or memory ran out for them, if it may
abbrev pub NothingOrLacking : {T X : Type 0} → Bool → (List ℕ → T → Type 0) → List ℕ → DecodeError X → Type 0
NothingOrLacking lacks Means v e = MeanNothing Means v e ⊎ (cause_of e ≡ of_memory) × (lacks ≡ true)

module _ {T X : Type 0} (tag : Tag) (Means : List ℕ → T → Type 0) (lacks : Bool) (Refuses : List ℕ → DecodeError X → Type 0)
    (nothing : (v : List ℕ) (e : DecodeError X) → Refuses v e → NothingOrLacking lacks Means v e) (c d : Reading) (w : IsWithinOwed c) where
  leaf_taken : (x : T) → TakesTree tag (InPrimitive Means) c x d → TakesTyped (Only tag) (IsLeaf Means) c x d
  leaf_taken x h = record { tree = h.tree; octets = h.octets; has = h.has; means = h.means; stays = h.stays }

  broken_leaf : HasNoTree {T = Unit {0}} tag (InPrimitive (λ _ _. Unit {0})) c → (t : Tree) (v rest : List ℕ) (x : T) → HasTagged (Only tag) c t v rest → IsLeaf Means t x → ⊥
  broken_leaf b (primitive t z) v rest x h k = b.value (primitive t z) v rest tt (h.0, h.1) tt
  broken_leaf b (constructed t ts) v rest x h k = k

  nothing_leaf : (z v rest : List ℕ) → HasValue c (primitive tag z) v rest → ((x : T) → Means z x → ⊥) → (t : Tree) (u behind : List ℕ) (x : T)
      → HasTagged (Only tag) c t u behind → IsLeaf Means t x → ⊥
  nothing_leaf z v rest p n (primitive t y) u behind x h k =
      let e = value_once c (primitive tag z) (primitive t y) v u rest behind p h.0 in
      n x (subst (λ s. Means s x) (sym (same_contents tag t z y e.tree)) k)
  nothing_leaf z v rest p n (constructed t ts) u behind x h k = k

  refused_contents : (z v rest : List ℕ) (e : DecodeError X) → HasValue c (primitive tag z) v rest → NothingOrLacking lacks Means z e
      → RefusesTyped (Only tag) (IsLeaf Means) lacks c e d
  refused_contents z v rest e p (inl n) =
      let h = header_of_tagged c w tag (primitive tag z) v rest (p, refl) in
      types.RefusesTyped.broken
      (record { usable = p.usable; value = nothing_leaf z v rest p n.0; absent = by_tags (λ x f. header_is_there tag c h.0 x p.usable h.1 (f tag refl)) }) n.1
  refused_contents z v rest e p (inr m) =
      (let h = header_of_tagged c w tag (primitive tag z) v rest (p, refl) in types.RefusesTyped.memory m.0 m.1 (typed_header tag c h.0 h.1))

  leaf_refused : (e : DecodeError X) → RefusesAs tag Refuses c e d → RefusesTyped (Only tag) (IsLeaf Means) lacks c e d
  leaf_refused e (refusals.Refuses.failed s a) = types.RefusesTyped.failed s a
  leaf_refused e (refusals.Refuses.source s g) = types.RefusesTyped.source s g
  leaf_refused e (refusals.Refuses.nothing b a) =
      types.RefusesTyped.broken (record { usable = b.usable; value = broken_leaf b; absent = by_tags (λ rest f. b.absent rest (f tag refl)) }) a.refused
  leaf_refused e (refusals.Refuses.otherwise (z, v, rest, p, n)) = refused_contents z v rest e p (nothing z e n)

  pub next_leaf : (r : Result (Option T) (DecodeError X)) → NextBy (tagged tag) (TakesTree tag (InPrimitive Means)) (RefusesAs tag Refuses) c r d → TakesNextTyped (Only tag) (IsLeaf Means) lacks c r d
  next_leaf (Ok (Some x)) n = record {
    value = leaf_taken x n.value;
    none = tt;
    no_fault = n.no_fault;
    refused = tt;
    failed = tt;
    mode = n.mode;
    marked = n.marked;
  }
  next_leaf (Ok None) n = record {
    value = tt;
    none = none_of_one tag c d n.value;
    no_fault = n.no_fault;
    refused = tt;
    failed = tt;
    mode = n.mode;
    marked = n.marked;
  }
  next_leaf (Err e) n = record { value = tt; none = tt; no_fault = tt; refused = leaf_refused e n.refused.1; failed = n.refused.0; mode = n.mode; marked = n.marked }

-- where octets are refused only as they mean nothing
pub or_nothing : {T X : Type 0} (Means : List ℕ → T → Type 0) (v : List ℕ) (e : DecodeError X) → MeanNothing Means v e → NothingOrLacking false Means v e
or_nothing Means v e n = inl n

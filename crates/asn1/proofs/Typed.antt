-- Takes of bcder, as readers of a type with one tag.
use Rattle.std.proofs.Common.{ℕ, true, List, Option, Some, None, refl, sym, subst}
use Rattle.std.specs.Prelude.{Result, Ok, Err}
use Rattle.bcder.specs.declared.decode.error.DecodeError.{DecodeError}
use Rattle.bcder.specs.x690.Identifier.{Tag}
use Rattle.bcder.specs.x690.Tree.{Tree}
use Rattle.bcder.specs.calls.Content.{Reading, tagged, HasHeader}
use Rattle.bcder.specs.calls.Calls.{HasNone}
use Rattle.bcder.specs.calls.Valued.{TakesTree, HasNoTree, WantsMemoryFor, TakesNextTree, RefusesTree}
use Rattle.bcder.specs.calls.Valued as valued
use Rattle.bcder.proofs.Lemmas.{IsWithinOwed, header_of_tagged}
use Rattle.asn1.specs.Types.{Only, HasNoneOf, elsewhere, TakesTyped, HasNoTyped, AllocatesFor, of_header, by_tags, RefusesTyped, TakesNextTyped}
use Rattle.bcder.specs.calls.Content as refusals
use Rattle.asn1.specs.Types as types

pub none_of_one : (tag : Tag) (c d : Reading) → HasNone (tagged tag) c d → HasNoneOf (Only tag) c d
none_of_one tag c d n = elsewhere (λ u e. subst (λ t. HasNone (tagged t) c d) (sym e) n)

pub typed_header : (tag : Tag) (c : Reading) (after : List ℕ) → HasHeader (tagged tag) c after → AllocatesFor (Only tag) c
typed_header tag c after h = of_header (record { tag = tag; is_one = refl; after = after; header = h })

module _ {T : Type 0} (tag : Tag) (Means : Tree → T → Type 0) (c d : Reading) (w : IsWithinOwed c) where
  taken : (x : T) → TakesTree tag Means c x d → TakesTyped (Only tag) Means c x d
  taken x h = record { tree = h.tree; octets = h.octets; has = h.has; means = h.means; stays = h.stays }

  pub none_there : HasNoTree tag Means c → HasNoTyped (Only tag) Means c
  none_there n = record { usable = n.usable; value = n.value; absent = by_tags (λ rest f. n.absent rest (f tag refl)) }

  needed : WantsMemoryFor tag Means c → AllocatesFor (Only tag) c
  needed (valued.WantsMemoryFor.of_value t v rest x h m) = (let y = header_of_tagged c w tag t v rest h in typed_header tag c y.0 y.1)
  needed (valued.WantsMemoryFor.of_header o after h f) = typed_header tag c after h

  refused : {X : Type 0} (e : DecodeError X) → RefusesTree tag Means c e d
      → RefusesTyped (Only tag) Means true c e d
  refused e (refusals.Refuses.failed s a) = types.RefusesTyped.failed s a
  refused e (refusals.Refuses.source s g) = types.RefusesTyped.source s g
  refused e (refusals.Refuses.otherwise n) = types.RefusesTyped.memory n.0 refl (needed n.1)
  refused e (refusals.Refuses.nothing n a) = types.RefusesTyped.broken (none_there n) a.refused

  pub next_typed : {X : Type 0} (r : Result (Option T) (DecodeError X)) → TakesNextTree tag Means c r d → TakesNextTyped (Only tag) Means true c r d
  next_typed (Ok (Some x)) n = record { value = taken x n.value; none = tt; no_fault = n.no_fault; refused = tt; failed = tt; mode = n.mode; marked = n.marked }
  next_typed (Ok None) n = record {
    value = tt;
    none = none_of_one tag c d n.value;
    no_fault = n.no_fault;
    refused = tt;
    failed = tt;
    mode = n.mode;
    marked = n.marked;
  }
  next_typed (Err e) n = record { value = tt; none = tt; no_fault = tt; refused = refused e n.refused.1; failed = n.refused.0; mode = n.mode; marked = n.marked }

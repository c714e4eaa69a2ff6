-- A reader of what something is seen as, and of values that have other tags for the same.
use Rattle.std.proofs.Common.{◌≡◌, ◌≢◌, Bool, true, Some, None, refl, sym, ◌∙◌}
use Rattle.std.specs.Prelude.{Ok, Err}
use Rattle.bcder.specs.declared.decode.content.State.TheVariants.{Open, Ended, Failed}
use Rattle.bcder.specs.declared.decode.error.DecodeError.{DecodeError}
use Rattle.bcder.specs.x690.Identifier.{Tag}
use Rattle.bcder.specs.x690.Tree.{Tree}
use Rattle.bcder.specs.calls.Cause.{cause_of, of_memory}
use Rattle.bcder.specs.calls.Content.{Reading}
use Rattle.bcder.specs.calls.Valued.{tag_of}
use Rattle.bcder.proofs.Lemmas.{IsWithinOwed, header_of_tagged}
use Rattle.asn1.specs.Types.{HasNoneOf, elsewhere, at_end, AllocatesFor, of_header, of_depth, MayHave, by_tags, by_end}
use Rattle.asn1.specs.Types.{HasNoTyped, RefusesTyped, TakesTyped, TakesNextTyped}
use Rattle.asn1.specs.Types as types

module _ (Tags Others : Tag → Type 0) (to : (t : Tag) → Tags t → Others t) (back : (t : Tag) → Others t → Tags t) (c d : Reading) where
  may_seen : MayHave Tags c → MayHave Others c
  may_seen (by_tags f) = by_tags (λ rest g. f rest (λ t p. g t (to t p)))
  may_seen (by_end f e) = by_end (λ t g. to t (f t g)) e

  allocates_seen : AllocatesFor Tags c → AllocatesFor Others c
  allocates_seen (of_header h) = of_header (record { tag = h.tag; is_one = to h.tag h.is_one; after = h.after; header = h.header })
  allocates_seen (of_depth f h) = of_depth (λ t g. to t (f t g)) h

  none_seen : HasNoneOf Tags c d → HasNoneOf Others c d
  none_seen (elsewhere f) = elsewhere (λ t p. f t (back t p))
  none_seen (at_end f k n) = at_end (λ t g. to t (f t g)) k n

module _ {A V X : Type 0} {lacks : Bool} (Tags Others : Tag → Type 0) (to : (t : Tag) → Tags t → Others t) (back : (t : Tag) → Others t → Tags t)
    (Means : Tree → A → Type 0) (view : V → A) (c d : Reading) where
  refused_seen : (e : DecodeError X) → RefusesTyped Tags Means lacks c e d → RefusesTyped Others (λ (t : Tree) (x : V). Means t (view x)) lacks c e d
  refused_seen e (types.RefusesTyped.failed s a) = types.RefusesTyped.failed s a
  refused_seen e (types.RefusesTyped.source s g) = types.RefusesTyped.source s g
  refused_seen e (types.RefusesTyped.memory s l h) = types.RefusesTyped.memory s l (allocates_seen Tags Others to back c d h)
  refused_seen e (types.RefusesTyped.broken n a) =
      let none : HasNoTyped Others (λ (t : Tree) (x : V). Means t (view x)) c = record {
        usable = n.usable;
        value = λ t w rest x h k. n.value t w rest (view x) (h.0, back _ h.1) k;
        absent = may_seen Tags Others to back c d n.absent;
      } in
      types.RefusesTyped.broken none a

  pub retagged_none : TakesNextTyped Tags Means lacks {X = X} c (Ok None) d
      → TakesNextTyped Others (λ (t : Tree) (x : V). Means t (view x)) lacks {X = X} c (Ok None) d
  retagged_none r =
      record { value = tt; none = none_seen Tags Others to back c d r.none; no_fault = r.no_fault; refused = tt; failed = tt; mode = r.mode; marked = r.marked }

  pub retagged_refuses : (e : DecodeError X) → TakesNextTyped Tags Means lacks c (Err e) d
      → TakesNextTyped Others (λ (t : Tree) (x : V). Means t (view x)) lacks c (Err e) d
  retagged_refuses e r = record {
    value = tt;
    none = tt;
    no_fault = tt;
    refused = refused_seen e r.refused;
    failed = r.failed;
    mode = r.mode;
    marked = r.marked;
  }

module _ {A V X : Type 0} {lacks : Bool} (Tags : Tag → Type 0) (Means : Tree → A → Type 0) (view : V → A) (c d : Reading) where
  pub refuses_seen : (e : DecodeError X) → TakesNextTyped Tags Means lacks c (Err e) d
      → TakesNextTyped Tags (λ (t : Tree) (x : V). Means t (view x)) lacks c (Err e) d
  refuses_seen e r = retagged_refuses Tags Tags (λ t p. p) (λ t p. p) Means view c d e r

  pub value_seen : {may : Bool} (x : V) → TakesNextTyped Tags Means lacks {X = X} c (Ok (Some (view x))) d
      → TakesNextTyped Tags (λ (t : Tree) (y : V). Means t (view y)) may {X = X} c (Ok (Some x)) d
  value_seen x r =
      let v : TakesTyped Tags Means c (view x) d = r.value in
      record {
        value = record { tree = v.tree; octets = v.octets; has = v.has; means = v.means; stays = v.stays };
        none = tt;
        no_fault = r.no_fault;
        refused = tt;
        failed = tt;
        mode = r.mode;
        marked = r.marked;
      }

  -- a value was taken, and no memory was left for what holds it, so content was made to fail
  pub refuses_taken : IsWithinOwed c → (x : A) → TakesNextTyped Tags Means lacks {X = X} c (Ok (Some x)) d → (f : Reading)
      → (d.state ≢ Ended → f.state ≡ Failed) → f.mode ≡ d.mode → f.marked ≡ d.marked → (e : DecodeError X) → cause_of e ≡ of_memory
      → TakesNextTyped Tags (λ (t : Tree) (y : V). Means t (view y)) true c (Err e) f
  refuses_taken w x r f s m k e n =
      let v : TakesTyped Tags Means c x d = r.value in
      let h = header_of_tagged c w (tag_of v.tree) v.tree v.octets d.stream.rest (v.has.0, refl) in
      let usable : d.state ≢ Ended = λ g. (let z : Open ≡ Ended = sym v.stays ∙ g in cc) in
      record {
        value = tt;
        none = tt;
        no_fault = tt;
        refused = types.RefusesTyped.memory n refl (of_header (record { tag = tag_of v.tree; is_one = v.has.1; after = h.0; header = h.1 }));
        failed = s usable;
        mode = m ∙ r.mode;
        marked = k ∙ r.marked;
      }

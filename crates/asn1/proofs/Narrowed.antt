-- Readers of a type with primitive values, each of which is one of another type.
use Rattle.std.proofs.Common.{◌≡◌, ◌≢◌, ℕ, Bool, List, Some, None, refl, sym, ◌∙◌, subst}
use Rattle.std.specs.Prelude.{Ok, Err}
use Rattle.bcder.specs.declared.decode.content.State.TheVariants.{Open, Ended, Failed}
use Rattle.bcder.specs.declared.decode.error.DecodeError.{DecodeError}
use Rattle.bcder.specs.x690.Identifier.{Tag}
use Rattle.bcder.specs.x690.Tree.{Tree, primitive, constructed}
use Rattle.bcder.specs.calls.Cause.{IsRefusal}
use Rattle.bcder.specs.calls.Content.{Reading}
use Rattle.bcder.specs.calls.Valued.{tag_of}
use Rattle.bcder.proofs.Lemmas.{IsWithinOwed, value_once, header_is_there, header_of_tagged}
use Rattle.asn1.specs.Types.{IsLeaf, HasTagged, by_tags, HasNoTyped, TakesTyped, RefusesTyped, TakesNextTyped}
use Rattle.asn1.specs.Types as types

-- contents octets that mean something of the one type mean something of the other
module _ {A V : Type 0} (Wide : List ℕ → A → Type 0) (Narrow : List ℕ → V → Type 0) where
  leaf_wide : ((w : List ℕ) (x : V) → Narrow w x → (a : A) × Wide w a) → (t : Tree) (x : V) → IsLeaf Narrow t x → (a : A) × IsLeaf Wide t a
  leaf_wide wide (primitive t w) x k = wide w x k
  leaf_wide wide (constructed t ts) x k = absurd k

  leaf_narrow : (a : A) (x : V) → ((w : List ℕ) → Wide w a → Narrow w x) → (t : Tree) → IsLeaf Wide t a → IsLeaf Narrow t x
  leaf_narrow a x f (primitive t w) k = f w k
  leaf_narrow a x f (constructed t ts) k = absurd k

  leaf_not : (a : A) → ((w : List ℕ) (x : V) → Wide w a → Narrow w x → ⊥) → (t : Tree) (x : V) → IsLeaf Wide t a → IsLeaf Narrow t x → ⊥
  leaf_not a f (primitive t w) x k l = f w x k l
  leaf_not a f (constructed t ts) x k l = k

  none_there : (Tags : Tag → Type 0) → ((w : List ℕ) (x : V) → Narrow w x → (a : A) × Wide w a) → (c : Reading) → HasNoTyped Tags (IsLeaf Wide) c
      → HasNoTyped Tags (IsLeaf Narrow) c
  none_there Tags wide c n = record {
    usable = n.usable;
    value = λ t w rest x h k. (let a = leaf_wide wide t x k in n.value t w rest a.0 h a.1);
    absent = n.absent;
  }

module _ {A V X : Type 0} {lacks : Bool} (Tags : Tag → Type 0) (Wide : List ℕ → A → Type 0) (Narrow : List ℕ → V → Type 0)
    (wide : (w : List ℕ) (x : V) → Narrow w x → (a : A) × Wide w a) (c d : Reading) where
  refused : (e : DecodeError X) → RefusesTyped Tags (IsLeaf Wide) lacks c e d → RefusesTyped Tags (IsLeaf Narrow) lacks c e d
  refused e (types.RefusesTyped.failed s a) = types.RefusesTyped.failed s a
  refused e (types.RefusesTyped.source s g) = types.RefusesTyped.source s g
  refused e (types.RefusesTyped.memory s l h) = types.RefusesTyped.memory s l h
  refused e (types.RefusesTyped.broken n a) = types.RefusesTyped.broken (none_there Wide Narrow Tags wide c n) a

  pub narrow_none : TakesNextTyped Tags (IsLeaf Wide) lacks {X = X} c (Ok None) d → TakesNextTyped Tags (IsLeaf Narrow) lacks {X = X} c (Ok None) d
  narrow_none r = record { value = tt; none = r.none; no_fault = r.no_fault; refused = tt; failed = tt; mode = r.mode; marked = r.marked }

  pub narrow_refuses : (e : DecodeError X) → TakesNextTyped Tags (IsLeaf Wide) lacks c (Err e) d → TakesNextTyped Tags (IsLeaf Narrow) lacks c (Err e) d
  narrow_refuses e r =
      record { value = tt; none = tt; no_fault = tt; refused = refused e r.refused; failed = r.failed; mode = r.mode; marked = r.marked }

  -- a value was taken, which is one of the narrower type
  pub narrow_value : (a : A) (x : V) → ((w : List ℕ) → Wide w a → Narrow w x) → TakesNextTyped Tags (IsLeaf Wide) lacks {X = X} c (Ok (Some a)) d
      → TakesNextTyped Tags (IsLeaf Narrow) lacks {X = X} c (Ok (Some x)) d
  narrow_value a x f r =
      let v : TakesTyped Tags (IsLeaf Wide) c a d = r.value in
      record {
        value = record { tree = v.tree; octets = v.octets; has = v.has; means = leaf_narrow Wide Narrow a x f v.tree v.means; stays = v.stays };
        none = tt;
        no_fault = r.no_fault;
        refused = tt;
        failed = tt;
        mode = r.mode;
        marked = r.marked;
      }

  -- a value was taken, which is none of the narrower type, so content was made to fail
  pub narrow_not : IsWithinOwed c → (a : A) → ((w : List ℕ) (x : V) → Wide w a → Narrow w x → ⊥)
      → TakesNextTyped Tags (IsLeaf Wide) lacks {X = X} c (Ok (Some a)) d → (f : Reading) → (d.state ≢ Ended → f.state ≡ Failed) → f.mode ≡ d.mode
      → f.marked ≡ d.marked → (e : DecodeError X) → IsRefusal e → TakesNextTyped Tags (IsLeaf Narrow) lacks c (Err e) f
  narrow_not w a n r f s m k e i =
      let v : TakesTyped Tags (IsLeaf Wide) c a d = r.value in
      let h = header_of_tagged c w (tag_of v.tree) v.tree v.octets d.stream.rest (v.has.0, refl) in
      let usable : d.state ≢ Ended = λ g. (let z : Open ≡ Ended = sym v.stays ∙ g in cc) in
      let none : (t : Tree) (u rest : List ℕ) (x : V) → HasTagged Tags c t u rest → IsLeaf Narrow t x → ⊥ = λ t u rest x g l.
      let same = value_once c v.tree t v.octets u d.stream.rest rest v.has.0 g.0 in
      leaf_not Wide Narrow a n v.tree x v.means (subst (λ z. IsLeaf Narrow z x) (sym same.tree) l) in
      record {
        value = tt;
        none = tt;
        no_fault = tt;
        refused = types.RefusesTyped.broken (record {
          usable = v.has.0.usable;
          value = none;
          absent = by_tags (λ rest g. header_is_there (tag_of v.tree) c h.0 rest v.has.0.usable h.1 (g (tag_of v.tree) v.has.1));
        }) i;
        failed = s usable;
        mode = m ∙ r.mode;
        marked = k ∙ r.marked;
      }

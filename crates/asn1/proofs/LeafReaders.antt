-- Readers of contents octets, as readers of types with primitive values.
use Rattle.std.proofs.Common.{◌≡◌, ℕ, Bool, true, false, List, Option, Some, refl, inl, inr}
use Rattle.std.specs.Prelude.{◌⊎◌, Result}
use Rattle.std.specs.Borrow.{MutBor}
use Rattle.bcder.specs.declared.mode.Mode.{Mode}
use Rattle.bcder.specs.declared.decode.content.Constructed.{Constructed}
use Rattle.bcder.specs.declared.decode.content.Primitive.{Primitive}
use Rattle.bcder.specs.declared.decode.error.DecodeError.{DecodeError}
use Rattle.bcder.specs.x690.Identifier.{Tag}
use Rattle.bcder.specs.calls.Cause.{cause_of, of_memory, IsRefusal}
use Rattle.bcder.specs.calls.Content.{tagged}
use Rattle.bcder.specs.calls.Readers.{Reads, MeanNothing, AreNeverRefused}
use Rattle.bcder.specs.calls.Stream.{Stream, IsSound}
use Rattle.bcder.specs.calls.Calls.{TakesNext}
use Rattle.bcder.specs.calls.Views.{of_constructed, of_primitive}
use Rattle.bcder.proofs.Lemmas.{constructed_is_within_owed, next_as, octets_form}
use Rattle.asn1.specs.Types.{IsLeaf, Only, TakesNextTyped}
use Rattle.asn1.proofs.Contents.{NothingOrLacking, next_leaf}

module _ {S T X : Type 0} {lacks : Bool} (stream : S → Stream) (sound : (x : S) → IsSound (stream x))
    (post : Tag → MutBor (Primitive S) → Result T (DecodeError X) → MutBor (Primitive S) → Type 0) (tag : Tag)
    (Means : Mode → List ℕ → T → Type 0) (Refuses : Mode → List ℕ → DecodeError X → Type 0)
    (nothing : (m : Mode) (v : List ℕ) (e : DecodeError X) → Refuses m v e → NothingOrLacking lacks (Means m) v e)
    (reads : (t : Tag) (p : MutBor (Primitive S)) (r : Result T (DecodeError X)) (q : MutBor (Primitive S)) → post t p r q
    → Reads (Means (of_primitive stream p.now).mode) (Refuses (of_primitive stream p.now).mode) (of_primitive stream p.now) r
    (of_primitive stream q.now)) (c d : Constructed S) where
  pub takes_leaf : (r : Result (Option T) (DecodeError X))
      → TakesNext (of_primitive stream) post (Some true) (tagged tag) (of_constructed stream c) r (of_constructed stream d)
      → TakesNextTyped (Only tag) (IsLeaf (Means (of_constructed stream c).mode)) lacks (of_constructed stream c) r (of_constructed stream d)
  takes_leaf r h =
      let i = of_constructed stream c in
      let w = constructed_is_within_owed stream sound c in
      next_leaf tag (Means i.mode) lacks (Refuses i.mode) (nothing i.mode) i (of_constructed stream d) w r
      (next_as (of_primitive stream) post tag Means Refuses (octets_form stream) reads i (of_constructed stream d) r w h)

-- octets that are always taken are never refused
pub never : {T X : Type 0} (Means : List ℕ → T → Type 0) (v : List ℕ) (e : DecodeError X) → AreNeverRefused v e
    → NothingOrLacking false Means v e
never Means v e n = absurd n

-- octets that are refused as they mean nothing, or as memory ran out for them
pub or_memory : {T X : Type 0} (Means : List ℕ → T → Type 0) (For : List ℕ → Type 0) (v : List ℕ) (e : DecodeError X)
    → MeanNothing Means v e ⊎ (cause_of e ≡ of_memory) × For v → NothingOrLacking true Means v e
or_memory Means For v e (inl n) = inl n
or_memory Means For v e (inr m) = inr (m.0, refl)

-- octets that are refused as they have no shape that is asked for, or as memory ran out for them
pub or_shapeless : {T X : Type 0} (Means : List ℕ → T → Type 0) (Shape : List ℕ → Type 0) → ((v : List ℕ) (x : T) → Means v x → Shape v)
    → (v : List ℕ) (e : DecodeError X) → (Shape v → ⊥) × IsRefusal e ⊎ (cause_of e ≡ of_memory) × Shape v → NothingOrLacking true Means v e
or_shapeless Means Shape f v e (inl n) = inl (λ x h. n.0 (f v x h), n.1)
or_shapeless Means Shape f v e (inr m) = inr (m.0, refl)

-- Readers of the content of values of either form, as readers of types.
use Rattle.std.proofs.Common.{◌≡◌, ◌≢◌, ℕ, true, List, Option, None, refl, sym, ◌∙◌, subst, inl, inr}
use Rattle.std.specs.Prelude.{◌⊎◌, Result, Ok, Err, IsErrAnd}
use Rattle.std.specs.Borrow.{MutBor}
use Rattle.bcder.specs.declared.mode.Mode.{Mode}
use Rattle.bcder.specs.declared.decode.content.Constructed.{Constructed}
use Rattle.bcder.specs.declared.decode.content.Content.{Content}
use Rattle.bcder.specs.declared.decode.content.Content.TheVariants as content
use Rattle.bcder.specs.declared.decode.content.State.TheVariants.{Open}
use Rattle.bcder.specs.declared.decode.error.DecodeError.{DecodeError}
use Rattle.bcder.specs.x690.Identifier.{Tag}
use Rattle.bcder.specs.x690.Tree.{Tree, primitive, constructed}
use Rattle.bcder.specs.calls.Cause.{cause_of, of_memory, IsRefusal}
use Rattle.bcder.specs.calls.Content.{Reading, Octets, Moves, IsUsedUp, tagged}
use Rattle.bcder.specs.calls.Readers.{Reads, MeanNothing, RefusesReading}
use Rattle.bcder.specs.calls.Readers as readers
use Rattle.bcder.specs.calls.Stream.{Stream, IsSound}
use Rattle.bcder.specs.calls.Calls.{TakesNext}
use Rattle.bcder.specs.calls.Valued.{HoldsNone, ReadsAny, ReadsContent, RefusesToRead}
use Rattle.bcder.specs.calls.Valued as valued
use Rattle.bcder.specs.calls.Views.{of_constructed, of_content, of_primitive}
use Rattle.bcder.specs.laws.Moved.{untouched_is_moved, Carries}
use Rattle.bcder.proofs.Lemmas.{constructed_is_within_owed, constructed_is_not_octets, all_held, too_few, octets_form, next_tree}
use Rattle.asn1.specs.Types.{IsLeaf, Only, TakesNextTyped}
use Rattle.asn1.proofs.Typed.{next_typed}

module _ {S T X : Type 0} (stream : S → Stream) (sound : (x : S) → IsSound (stream x))
    (post : Tag → MutBor (Content S) → Result T (DecodeError X) → MutBor (Content S) → Type 0) (tag : Tag) (Means : Mode → Tree → T → Type 0)
    (reads : (t : Tag) (p : MutBor (Content S)) (r : Result T (DecodeError X)) (q : MutBor (Content S)) → post t p r q
    → ReadsAny Means (of_content stream p.now) r (of_content stream q.now)) (c d : Constructed S) where
  pub takes_content : (r : Result (Option T) (DecodeError X))
      → TakesNext (of_content stream) post None (tagged tag) (of_constructed stream c) r (of_constructed stream d)
      → TakesNextTyped (Only tag) (Means (of_constructed stream c).mode) true (of_constructed stream c) r (of_constructed stream d)
  takes_content r h =
      let i = of_constructed stream c in
      let j = of_constructed stream d in
      let w = constructed_is_within_owed stream sound c in
      next_typed tag (Means i.mode) i j w r (next_tree (of_content stream) post tag Means reads i j r w h)

-- ---- content of values with contents octets alone

-- what memory runs out for means something
abbrev pub NothingOrMemory : {T X : Type 0} → (List ℕ → T → Type 0) → (List ℕ → DecodeError X → Type 0) → Type 0
NothingOrMemory Means Refuses = (v : List ℕ) (e : _) → Refuses v e → MeanNothing Means v e ⊎ (cause_of e ≡ of_memory) × ((x : _) × Means v x)

module _ {T X : Type 0} (tag : Tag) (Means : List ℕ → T → Type 0) (Refuses : List ℕ → DecodeError X → Type 0) (nothing : NothingOrMemory Means Refuses)
    (c d : Reading) where
  mean_none : ((x : T) → Means c.stream.rest x → ⊥) → HoldsNone tag (IsLeaf Means) c
  mean_none n (primitive t contents) x h means = n x (subst (λ z. Means z x) (sym h.1.rest) means)
  mean_none n (constructed t ts) x h means = means

  refused_octets : (e : DecodeError X) → c.kind ≡ Octets → c.state ≡ Open → RefusesReading Refuses c e d → RefusesToRead tag (IsLeaf Means) c e d
  refused_octets e k o (readers.RefusesReading.source s g) = valued.RefusesToRead.source s g
  refused_octets e k o (readers.RefusesReading.few s a n) = valued.RefusesToRead.nothing (too_few tag (IsLeaf Means) c k o s) a
  refused_octets e k o (readers.RefusesReading.refused h a n) = elim (nothing c.stream.rest e a) [
    | inl m ↦ valued.RefusesToRead.nothing (mean_none m.0) m.1
    | inr m ↦ valued.RefusesToRead.memory m.0 (valued.NeedsMemory.of_octets c.stream.rest m.1.0 (all_held c k o h) m.1.1)
  ]

  reads_octets : (r : Result T (DecodeError X)) → (c.kind ≡ Octets) × (c.state ≡ Open) → (d.kind ≡ Octets) × (d.state ≡ Open) → Reads Means Refuses c r d
      → ReadsContent tag (IsLeaf Means) c r d
  reads_octets (Ok x) k l r = record {
    value = record { tree = primitive tag c.stream.rest; holds = (refl, all_held c k.0 k.1 r.all); means = r.value };
    done = inr (l.1, subst (λ f. IsUsedUp f d.owed d.stream.rest) (sym l.0) r.none_owed);
    no_fault = r.no_fault;
    refused = tt;
    mode = r.mode;
    marked = r.marked;
  }
  reads_octets (Err e) k l r = record { value = tt; done = tt; no_fault = tt; refused = refused_octets e k.0 k.1 r.refused; mode = r.mode; marked = r.marked }

no_leaf : {T : Type 0} (tag : Tag) (Means : List ℕ → T → Type 0) (c : Reading) → c.kind ≢ Octets → HoldsNone tag (IsLeaf Means) c
no_leaf tag Means c n (primitive t contents) x h means = n h.1.form
no_leaf tag Means c n (constructed t ts) x h means = means

refuses_values : {T X : Type 0} (tag : Tag) (Means : List ℕ → T → Type 0) (c d : Reading) (r : Result T (DecodeError X)) → c.kind ≢ Octets
    → IsErrAnd r IsRefusal × (d ≡ c) → ReadsContent tag (IsLeaf Means) c r d
refuses_values tag Means c d (Ok x) n h = absurd h.0
refuses_values tag Means c d (Err e) n h = subst (λ z. ReadsContent tag (IsLeaf Means) c (Err e) z) (sym h.1)
    (record { value = tt; done = tt; no_fault = tt; refused = valued.RefusesToRead.nothing (no_leaf tag Means c n) h.0; mode = refl; marked = refl })

module _ {S T X : Type 0} (stream : S → Stream) (Means : Mode → List ℕ → T → Type 0) (Refuses : Mode → List ℕ → DecodeError X → Type 0)
    (nothing : (m : Mode) → NothingOrMemory (Means m) (Refuses m)) where
  stays_octets : (c d : Reading) → Carries c d → d.kind ≡ c.kind
  unfolding Moves
  stays_octets c d m = (m c (untouched_is_moved c)).kind

  pub reads_leaf : (p q : Content S) (r : Result T (DecodeError X)) → Carries (of_content stream p) (of_content stream q)
      → ((of_content stream p).kind ≡ Octets →
      Reads (Means (of_content stream p).mode) (Refuses (of_content stream p).mode) (of_content stream p) r (of_content stream q))
      → ((of_content stream p).kind ≢ Octets → IsErrAnd r IsRefusal × (of_content stream q ≡ of_content stream p))
      → ReadsAny (λ m. IsLeaf (Means m)) (of_content stream p) r (of_content stream q)
  reads_leaf (content.Primitive x) (content.Primitive y) r m f g =
      let i = of_primitive stream x in
      record {
        at_tag = λ tag.
            reads_octets tag (Means i.mode) (Refuses i.mode) (nothing i.mode) i (of_primitive stream y) r (octets_form stream x) (octets_form stream y)
            (f (octets_form stream x).0);
      }
  reads_leaf (content.Primitive x) (content.Constructed y) r m f g =
      absurd (constructed_is_not_octets stream y (stays_octets (of_primitive stream x) (of_constructed stream y) m ∙ (octets_form stream x).0))
  reads_leaf (content.Constructed x) q r m f g =
      let i = of_constructed stream x in
      record {
        at_tag = λ tag.
            refuses_values tag (Means i.mode) i (of_content stream q) r (constructed_is_not_octets stream x) (g (constructed_is_not_octets stream x));
      }

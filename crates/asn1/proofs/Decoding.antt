-- All values of a source, where they are fields, or one value.
use Rattle.std.proofs.Common.{◌≡◌, ◌≢◌, ℕ, None, Bool, List, [], ◌++◌, refl, sym, ◌∙◌, ap, append-nil, subst, inl, inr}
use Rattle.std.specs.Prelude.{Result, Ok, Err, IfOk, IfErr}
use Rattle.std.specs.Borrow.{MutBor}
use Rattle.bcder.specs.declared.mode.Mode.{Mode}
use Rattle.bcder.specs.declared.decode.content.State.{State}
use Rattle.bcder.specs.declared.decode.content.State.TheVariants.{Open, Ended, Failed}
use Rattle.bcder.specs.declared.decode.error.DecodeError.{DecodeError}
use Rattle.bcder.specs.x690.Identifier.{Tag}
use Rattle.bcder.specs.x690.Tree.{Tree, Trees, no_trees, ◌∷ₜ◌}
use Rattle.bcder.specs.x690.Encoding.{IsEncoding, AreEncodings}
use Rattle.bcder.specs.laws.Lists.{AreEncodings-one}
use Rattle.bcder.specs.calls.Cause.{cause_of}
use Rattle.bcder.specs.calls.Stream.{Stream, limited}
use Rattle.bcder.specs.declared.decode.content.Kind.TheVariants as kind
use Rattle.bcder.specs.calls.Content.{Reading, Octets, Moves, of_unbounded, values}
use Rattle.bcder.specs.calls.Calls.{Answered}
use Rattle.bcder.specs.calls.Walking.{HasValues, ClosesBefore}
use Rattle.bcder.specs.calls.Valued.{HoldsValues}
use Rattle.bcder.specs.calls.Decoding.{IsAllOf, Decodes, RefusesDecode, RefusesOn}
use Rattle.bcder.specs.calls.Decoding as decoding
use Rattle.bcder.specs.calls.Decoding.{DecodesWhole, RefusesWhole, RefusesRest}
use Rattle.bcder.proofs.Lemmas.{open_has_not_ended, open_has_not_failed, as_many_are_no_fewer, grew_in_between}
use Rattle.asn1.specs.Types.{IsMember, TakesFields, HoldsNoFields, RefusesFields, ReadsFields}
use Rattle.asn1.specs.Types as types
use Rattle.asn1.specs.Decoded.{IsValueOf, RefusesAll, AreFields, RefusesFieldsOf}
use Rattle.asn1.specs.Decoded as decoded
use Rattle.asn1.proofs.Reading.{none_held_at_end}

unbounded_not_octets : values kind.Unbounded ≢ Octets
unbounded_not_octets e = cc

unbounded_not_indefinite : values kind.Unbounded ≢ values kind.Indefinite
unbounded_not_indefinite e = cc

is_open : (s : State) → s ≢ Failed → s ≢ Ended → s ≡ Open
is_open Open f n = refl
is_open Ended f n = absurd (n refl)
is_open Failed f n = absurd (f refl)

module _ {T : Type 0} (mode : Mode) (Takes : Trees → T → Trees → Type 0) (s : Stream) (i : Reading) (o : IsAllOf s mode i) where
  octets_are : i.stream.rest ≡ s.rest
  octets_are = ap (λ (z : Stream). z.rest) o.stream

  -- the values up to the end are all octets
  all_encode : (ts : Trees) → HoldsValues i ts → AreEncodings mode ts s.rest
  all_encode ts (inr h) = absurd (open_has_not_ended i.state o.state h.0)
  all_encode ts (inl h) =
      let v : HasValues i = h.values in
      let c : v.after ≡ [] = subst (λ k. ClosesBefore k i.mode i.owed v.all v.after) o.kind v.closes in
      let e : s.rest ≡ v.all = sym octets_are ∙ v.rest ∙ ap (λ z. v.all ++ z) c ∙ append-nil v.all in
      subst (AreEncodings mode ts) (sym e) (subst (λ z. AreEncodings z ts v.all) o.mode (subst (λ z. AreEncodings i.mode z v.all) h.are v.encode))

  -- and the other way round
  all_held : (ts : Trees) → AreEncodings mode ts s.rest → HoldsValues i ts
  all_held ts e = inl (record {
    usable = o.state;
    values = record {
      trees = ts;
      all = s.rest;
      after = [];
      encode = subst (λ z. AreEncodings z ts s.rest) (sym o.mode) e;
      rest = octets_are ∙ sym (append-nil s.rest);
      closes = subst (λ k. ClosesBefore k i.mode i.owed s.rest []) (sym o.kind) refl;
    };
    are = refl;
  })

  module _ (j : Reading) (m : Moves i j) (f : j.state ≢ Failed) where
    left_open : j.state ≡ Open
    unfolding Moves
    left_open = is_open j.state f (λ e. elim (m.ends e) [ inl h ↦ open_has_not_ended i.state o.state h | inr h ↦ unbounded_not_indefinite (sym o.kind ∙ h) ])

    left_unbounded : j.kind ≡ values kind.Unbounded
    unfolding Moves
    left_unbounded = m.kind ∙ o.kind

    none_held : j.stream.rest ≡ [] → HoldsValues j no_trees
    none_held e = none_held_at_end j [] (λ k. unbounded_not_octets (sym left_unbounded ∙ k)) (inr (left_open, of_unbounded left_unbounded e))

    fields_of : (x : T) → TakesFields Takes i x j → j.stream.rest ≡ [] → AreFields mode Takes s.rest x
    fields_of x t e = (let b = t.before no_trees (none_held e) in record { trees = b.0; encode = all_encode b.0 b.1; taken = b.2 })

    -- octets that are left show that they are no fields
    not_all : (x : T) → TakesFields Takes i x j → (j.stream.rest ≡ [] → ⊥) → (y : T) → AreFields mode Takes s.rest y → ⊥
    not_all x t n y v = nothing (t.behind v.trees no_trees y (all_held v.trees v.encode) v.taken)
      where
        nothing : HoldsValues j no_trees → ⊥
        nothing (inr h) = open_has_not_ended j.state left_open h.0
        nothing (inl h) = n (h.values.rest ∙ empty)
          where
            none : h.values.all ≡ []
            none = (let k : AreEncodings j.mode no_trees h.values.all = subst (λ z. AreEncodings j.mode z h.values.all) h.are h.values.encode in k)

            empty : (h.values.all ++ h.values.after) ≡ []
            empty = ap (λ z. z ++ h.values.after) none ∙ subst (λ k. ClosesBefore k j.mode j.owed h.values.all h.values.after) left_unbounded h.values.closes

  no_fields : HoldsNoFields Takes i → (y : T) → AreFields mode Takes s.rest y → ⊥
  no_fields n y v = n v.trees no_trees y (all_held v.trees v.encode) v.taken

  failed_not_all : (j : Reading) → j.state ≡ Failed → (x : T) → TakesFields Takes i x j → (y : T) → AreFields mode Takes s.rest y → ⊥
  failed_not_all j f x t y v =
      elim (t.behind v.trees no_trees y (all_held v.trees v.encode) v.taken) [
        | inl h ↦ open_has_not_failed j.state h.usable f
        | inr h ↦ (let z : ◌≡◌ {A = State} Ended Failed = sym h.0 ∙ f in cc)
      ]

-- ---- what a closure that takes fields decodes

module _ {C T X : Type 0} (view : C → Reading) (post : MutBor C → Result T (DecodeError X) → MutBor C → Type 0) (mode : Mode)
    (Takes : Mode → Trees → T → Trees → Type 0) (lacks : Bool)
    (reads : (p : MutBor C) (r : Result T (DecodeError X)) (q : MutBor C) → post p r q
    → ReadsFields (Takes (view p.now).mode) lacks (view p.now) r (view q.now))
    (s : Stream) where
  answered_fields : (i j : Reading) (r : Result T (DecodeError X)) → Answered {R = Result T (DecodeError X)} view post i r j → i.mode ≡ mode
      → ReadsFields (Takes mode) lacks i r j
  answered_fields i j r a e =
      subst (λ z. ReadsFields (Takes z) lacks i r j) e
      (subst (λ z. ReadsFields (Takes z.mode) lacks z r j) a.handed_is
      (subst (λ z. ReadsFields (Takes (view a.handed.now).mode) lacks (view a.handed.now) r z) a.left_is (reads a.handed r a.left a.called)))

  decoded_fields : (x : T) → DecodesWhole view post s mode x → AreFields mode (Takes mode) s.rest x
  decoded_fields x d =
      let h = d.decodes in
      let r = answered_fields d.decodes.handed d.decodes.left (Ok x) d.decodes.answered h.over.mode in
      fields_of mode (Takes mode) s d.decodes.handed h.over d.decodes.left h.moves d.decodes.usable x r.value
      (ap (λ (z : Stream). z.rest) h.leaves ∙ d.none_left)

  module _ (e : DecodeError X) where
    fields_refused : (i j : Reading) (later : Stream) → IsAllOf s mode i → j.stream ≡ limited None later → RefusesFields (Takes mode) lacks i e j
        → RefusesFieldsOf mode (Takes mode) lacks s e
    fields_refused i j later over leaves (types.RefusesFields.source c g) =
        decoded.RefusesFieldsOf.source later c
        (grew_in_between _ _ _ _ (as_many_are_no_fewer _ _ (ap (λ (z : Stream). z.faults) over.stream)) g (ap (λ (z : Stream). z.faults) leaves))
    fields_refused i j later over leaves (types.RefusesFields.memory c l) = decoded.RefusesFieldsOf.memory c l
    fields_refused i j later over leaves (types.RefusesFields.broken n a) = decoded.RefusesFieldsOf.broken (no_fields mode (Takes mode) s i over n) a

    closure_refused : (i j : Reading) (later : Stream) → IsAllOf s mode i → j.stream ≡ limited None later → RefusesOn cause_of view post i e j
        → RefusesFieldsOf mode (Takes mode) lacks s e
    closure_refused i j later over leaves (decoding.RefusesOn.by_closure a) =
        fields_refused i j later over leaves (answered_fields i j (Err e) a over.mode).refused
    closure_refused i j later over leaves (decoding.RefusesOn.left_failed x a f c) =
        decoded.RefusesFieldsOf.broken (failed_not_all mode (Takes mode) s i over j f x (answered_fields i j (Ok x) a over.mode).value) c

    decoding_refused : RefusesWhole view post s mode e → RefusesFieldsOf mode (Takes mode) lacks s e
    decoding_refused (decoding.RefusesWhole.by_decoding later d) = closure_refused d.handed d.left later d.over d.leaves d.refuses
    decoding_refused (decoding.RefusesWhole.by_rest x left later d (decoding.RefusesRest.octets_left n a p f)) =
        let r = answered_fields d.handed d.left (Ok x) d.answered d.over.mode in
        let same = sym (ap (λ (z : Stream). z.rest) d.leaves) in
        decoded.RefusesFieldsOf.broken
        (not_all mode (Takes mode) s d.handed d.over d.left d.moves d.usable x r.value (λ z. n (same ∙ z))) a
    decoding_refused (decoding.RefusesWhole.by_rest x left later d (decoding.RefusesRest.source_failed c g)) =
        let r = answered_fields d.handed d.left (Ok x) d.answered d.over.mode in
        let faults = λ (z : Stream). z.faults in
        let same = sym (ap faults d.leaves) ∙ r.no_fault ∙ ap faults d.over.stream in
        decoded.RefusesFieldsOf.source later c (grew_in_between _ _ _ _ (as_many_are_no_fewer _ _ same) g refl)

  pub decoded_all : (r : Result T (DecodeError X)) → IfOk r (λ x. DecodesWhole view post s mode x) → IfOk r (λ x. AreFields mode (Takes mode) s.rest x)
  decoded_all (Ok x) h = decoded_fields x h
  decoded_all (Err e) h = tt

  pub refused_all : (r : Result T (DecodeError X)) → IfErr r (λ e. RefusesWhole view post s mode e) → IfErr r (λ e. RefusesFieldsOf mode (Takes mode) lacks s e)
  refused_all (Ok x) h = tt
  refused_all (Err e) h = decoding_refused e h

-- ---- one value

one_value : (mode : Mode) (t : Tree) (w : List ℕ) → AreEncodings mode (t ∷ₜ no_trees) w → IsEncoding mode t w
one_value mode t w k = subst (IsEncoding mode t) (sym (k.4 ∙ ap (λ z. k.0 ++ z) k.3 ∙ append-nil k.0)) k.2

module _ {T : Type 0} (mode : Mode) (Tags : Tag → Type 0) (Means : Tree → T → Type 0) where
  value_of : (w : List ℕ) (x : T) → AreFields mode (IsMember Tags Means) w x → IsValueOf mode Tags Means w x
  value_of w x f =
      let m : IsMember Tags Means f.trees x no_trees = f.taken in
      record { tree = m.tree; encodes = one_value mode m.tree w (subst (λ z. AreEncodings mode z w) m.are f.encode); tagged = m.tagged; means = m.means }

  as_fields : (w : List ℕ) (x : T) → IsValueOf mode Tags Means w x → AreFields mode (IsMember Tags Means) w x
  as_fields w x v = record {
    trees = v.tree ∷ₜ no_trees;
    encode = AreEncodings-one mode v.tree w v.encodes;
    taken = record { tree = v.tree; are = refl; tagged = v.tagged; means = v.means };
  }

  none_refused : {X : Type 0} {lacks : Bool} (s : Stream) (e : DecodeError X) → RefusesFieldsOf mode (IsMember Tags Means) lacks s e
      → RefusesAll mode Tags Means lacks s e
  none_refused s e (decoded.RefusesFieldsOf.source later c g) = decoded.RefusesAll.source later c g
  none_refused s e (decoded.RefusesFieldsOf.memory c l) = decoded.RefusesAll.memory c l
  none_refused s e (decoded.RefusesFieldsOf.broken n a) = decoded.RefusesAll.broken (λ x v. n x (as_fields s.rest x v)) a

  module _ {X : Type 0} (s : Stream) where
    pub one_decoded : (r : Result T (DecodeError X)) → IfOk r (λ x. AreFields mode (IsMember Tags Means) s.rest x)
        → IfOk r (λ x. IsValueOf mode Tags Means s.rest x)
    one_decoded (Ok x) h = value_of s.rest x h
    one_decoded (Err e) h = tt

    pub one_refused : (lacks : Bool) (r : Result T (DecodeError X)) → IfErr r (λ e. RefusesFieldsOf mode (IsMember Tags Means) lacks s e)
        → IfErr r (λ e. RefusesAll mode Tags Means lacks s e)
    one_refused lacks (Ok x) h = tt
    one_refused lacks (Err e) h = none_refused s e h

-- One of two types.
use Rattle.std.proofs.Common.{◌≡◌, ◌≢◌, ℕ, Bool, ◌||◌, ◌++◌, ap, List, length, Some, None, refl, sym, ◌∙◌, subst, inl, inr}
use Rattle.std.specs.Prelude.{Ok, Err}
use Rattle.bcder.specs.declared.mode.Mode.{Mode}
use Rattle.bcder.specs.declared.decode.error.DecodeError.{DecodeError}
use Rattle.bcder.specs.x690.Identifier.{Tag}
use Rattle.bcder.specs.x690.Tree.{Tree}
use Rattle.bcder.specs.x690.Encoding.{IsHeader, IsEncoding}
use Rattle.bcder.specs.declared.decode.content.State.TheVariants.{Ended, Failed}
use Rattle.bcder.specs.calls.Capturing.{BeginsDeep}
use Rattle.bcder.specs.calls.Capturing.{LeadDeep}
use Rattle.bcder.specs.declared.decode.content.Kind.TheVariants as kind
use Rattle.bcder.specs.calls.Violations.{BeginsOther}
use Rattle.bcder.specs.calls.Content.{Reading, Octets, Moves, Falls, Asked, any, tagged, HasHeader, values}
use Rattle.bcder.specs.calls.Content.{HasMarker, IsAbsent, IsElsewhere, none_left, other, marker}
use Rattle.bcder.specs.calls.Content.{EndsBefore, IsDone, IsUsedUp, of_octets, of_definite, of_indefinite, of_unbounded}
use Rattle.bcder.specs.calls.Calls.{HasNone}
use Rattle.bcder.specs.calls.Walking.{HasValue}
use Rattle.bcder.specs.calls.Valued.{tag_of}
use Rattle.bcder.proofs.Lemmas.{IsWithinOwed, as_many_are_no_fewer, grew_in_between, header_is_there, header_of_tagged, done_is_at_its_end}
use Rattle.bcder.proofs.Lemmas.{open_has_not_ended, open_has_not_failed}
use Rattle.asn1.specs.declared.choice.Choice2.{Choice2}
use Rattle.asn1.specs.declared.choice.Choice2.TheVariants.{One, Two}
use Rattle.asn1.specs.Types.{HasTagged, AreEvery, HasNoneOf, elsewhere, at_end, AllocatesFor, of_header, of_depth, MayHave}
use Rattle.asn1.specs.Types.{by_tags, by_end, TakesTyped, HasNoTyped, RefusesTyped, TakesNextTyped}
use Rattle.asn1.specs.Types as types
use Rattle.asn1.specs.Choices.{EitherTag, IsChoice}
use Rattle.asn1.proofs.Lacking.{first_lacks, second_lacks}
use Rattle.asn1.proofs.Reading.{Alike, alike_back, none_alike, other_of_value, AreTags, absent_at_end, encoded_tag, no_value_at_end}

-- ---- what stands in front of content stands in front of its like

module _ (c d : Reading) (a : Alike c d) where
  value_there : (t : Tree) (v after : List ℕ) → HasValue c t v after → HasValue d t v after
  value_there t v after h = record { usable = a.state ∙ h.usable; encodes = subst (λ z. IsEncoding z t v) (sym a.mode) h.encodes; rest = a.rest ∙ h.rest }

  header_there : (asked : Asked) (after : List ℕ) → HasHeader asked c after → HasHeader asked d after
  header_there asked after h = record {
    tag = h.tag;
    form = h.form;
    len = h.len;
    octets = h.octets;
    is_header = subst (λ z. IsHeader z h.tag h.form h.len h.octets) (sym a.mode) h.is_header;
    is_asked = h.is_asked;
    rest = a.rest ∙ h.rest;
    owed = h.owed;
    falls = subst (λ z. Falls z (length h.octets) h.owed) (sym a.owed) h.falls;
    fits = h.fits;
  }

  elsewhere_there : (t : Tag) (rest : List ℕ) → IsElsewhere t c rest → IsElsewhere t d rest
  elsewhere_there t rest (none_left r e) = none_left (a.rest ∙ r) e
  elsewhere_there t rest (other h e) = other (subst (BeginsOther t) (sym a.rest) h) (e ∙ sym a.rest)
  elsewhere_there t rest (marker e k m) =
      marker e (a.kind ∙ k) (subst (λ z. HasMarker z d.stream.rest rest) (sym a.mode) (subst (λ z. HasMarker c.mode z rest) (sym a.rest) m))

  absent_there : (t : Tag) (rest : List ℕ) → IsAbsent (tagged t) c rest → IsAbsent (tagged t) d rest
  absent_there t rest (inl h) = inl (a.state ∙ h.0, h.1 ∙ sym a.rest)
  absent_there t rest (inr h) = inr (a.state ∙ h.0, elsewhere_there t rest h.1)

  ends_there : (after : List ℕ) → EndsBefore c after → EndsBefore d after
  ends_there after (inl e) = inl (a.state ∙ e)
  ends_there after (inr (s, of_octets q e)) = inr (a.state ∙ s, of_octets (a.kind ∙ q) (a.owed ∙ e))
  ends_there after (inr (s, of_definite q e)) = inr (a.state ∙ s, of_definite (a.kind ∙ q) (a.owed ∙ e))
  ends_there after (inr (s, of_unbounded q e)) = inr (a.state ∙ s, of_unbounded (a.kind ∙ q) (a.rest ∙ e))
  ends_there after (inr (s, of_indefinite q m)) =
      inr (
        a.state ∙ s,
        of_indefinite (a.kind ∙ q)
            (subst (λ z. HasMarker z d.stream.rest after) (sym a.mode) (subst (λ z. HasMarker c.mode z after) (sym a.rest) m)),
      )

  done_there : IsDone c → IsDone d
  done_there (inl e) = inl (a.state ∙ e)
  done_there (inr e) =
      inr (
        a.state ∙ e.0,
        subst (λ z. IsUsedUp z d.owed d.stream.rest) (sym a.kind)
            (subst (λ z. IsUsedUp c.kind z d.stream.rest) (sym a.owed) (subst (λ z. IsUsedUp c.kind c.owed z) (sym a.rest) e.1)),
      )

deep_there : (c d : Reading) → Alike c d → BeginsDeep c → BeginsDeep d
deep_there c d a h = record {
  usable = a.state ∙ h.usable;
  some = λ after e. h.some after (ends_there d c (alike_back c d a) after e);
  leads = subst (λ z. LeadDeep z d.stream.rest) (sym a.mode) (subst (LeadDeep c.mode) (sym a.rest) h.leads);
}

done_has_not_failed : (d : Reading) → IsDone d → d.state ≡ Failed → ⊥
done_has_not_failed d (inl s) e = let x : Ended ≡ Failed = sym s ∙ e in cc
done_has_not_failed d (inr s) e = open_has_not_failed d.state s.0 e

module _ {A B : Type 0} (P : Tag → Type 0) (M : Mode → Tree → A → Type 0) (Q : Tag → Type 0) (N : Mode → Tree → B → Type 0)
    (a_lacks b_lacks : Bool) (c d : Reading) (w : IsWithinOwed c) where
  abbrev Means : Tree → Choice2 A B → Type 0
  Means = IsChoice P (M c.mode) Q (N c.mode)

  -- ---- a value of the first type, or a refusal

  one_taken : (a : A) → TakesTyped P (M c.mode) c a d → TakesTyped (EitherTag P Q) Means c (One a) d
  one_taken a h = record { tree = h.tree; octets = h.octets; has = (h.has.0, inl h.has.1); means = (h.has.1, h.means); stays = h.stays }

  no_value : HasNoTyped P (M c.mode) c → (t : Tree) (v rest : List ℕ) (x : Choice2 A B) → HasTagged (EitherTag P Q) c t v rest → Means t x → ⊥
  no_value n t v rest (One a) h k = n.value t v rest a (h.0, k.0) k.1
  no_value n t v rest (Two b) h k = elim n.absent [
    | by_tags f ↦ f c.stream.rest (λ u p. inr (n.usable, other (other_of_value u c w t v rest (λ q. k.0 (subst P (sym q) p)) h.0.encodes h.0.rest) refl))
    | by_end f e ↦ k.0 (f (tag_of t) (encoded_tag c.mode t v h.0.encodes))
  ]

  one_may : MayHave P c → MayHave (EitherTag P Q) c
  one_may (by_tags f) = by_tags (λ rest g. f rest (λ t p. g t (inl p)))
  one_may (by_end f e) = by_end (λ t g. inl (f t g)) e

  pub next_one : {X : Type 0} (a : A) → TakesNextTyped P (M c.mode) a_lacks {X = X} c (Ok (Some a)) d
      → TakesNextTyped (EitherTag P Q) Means (a_lacks || b_lacks) {X = X} c (Ok (Some (One a))) d
  next_one a n = record { value = one_taken a n.value; none = tt; no_fault = n.no_fault; refused = tt; failed = tt; mode = n.mode; marked = n.marked }

  one_allocates : AllocatesFor P c → AllocatesFor (EitherTag P Q) c
  one_allocates (of_header h) = of_header (record { tag = h.tag; is_one = inl h.is_one; after = h.after; header = h.header })
  one_allocates (of_depth f h) = of_depth (λ t g. inl (f t g)) h

  one_refused : {X : Type 0} (f : DecodeError X) → RefusesTyped P (M c.mode) a_lacks c f d → RefusesTyped (EitherTag P Q) Means (a_lacks || b_lacks) c f d
  one_refused f (types.RefusesTyped.failed s z) = types.RefusesTyped.failed s z
  one_refused f (types.RefusesTyped.source s g) = types.RefusesTyped.source s g
  one_refused f (types.RefusesTyped.memory s m h) = types.RefusesTyped.memory s (first_lacks a_lacks b_lacks m) (one_allocates h)
  one_refused f (types.RefusesTyped.broken n z) =
      types.RefusesTyped.broken (record { usable = n.usable; value = no_value n; absent = one_may n.absent }) z

  pub fails_one : {X : Type 0} (f : DecodeError X) → TakesNextTyped P (M c.mode) a_lacks c (Err f) d
      → TakesNextTyped (EitherTag P Q) Means (a_lacks || b_lacks) c (Err f) d
  fails_one f n = record { value = tt; none = tt; no_fault = tt; refused = one_refused f n.refused; failed = n.failed; mode = n.mode; marked = n.marked }

  -- ---- none of the first type, and what the second returns

  module _ {X : Type 0} (m : Moves c d) (v : AreTags P) (n : TakesNextTyped P (M c.mode) a_lacks {X = X} c (Ok None) d) (x : IsWithinOwed d) (e : Reading) where
    -- content is as it was
    module _ (s : (t : Tag) → P t → HasNone (tagged t) c d) where
      same : Alike c d
      same = none_alike v.own c d (v.value_tags v.own v.is_own) m n.mode (s v.own v.is_own)

      back : Alike d c
      back = alike_back c d same

      not_first : (t : Tree) (u rest : List ℕ) → HasValue c t u rest → P (tag_of t) → ⊥
      not_first t u rest h p =
          header_is_there (tag_of t) c _ d.stream.rest h.usable (header_of_tagged c w (tag_of t) t u rest (h, refl)).1 (s (tag_of t) p).missing.0

      two_taken : (b : B) → TakesTyped Q (N c.mode) d b e → TakesTyped (EitherTag P Q) Means c (Two b) e
      two_taken b h =
          let k = value_there d c back h.tree h.octets e.stream.rest h.has.0 in
          record {
            tree = h.tree;
            octets = h.octets;
            has = (k, inr h.has.1);
            means = (not_first h.tree h.octets e.stream.rest k, (h.has.1, h.means));
            stays = h.stays;
          }

      each : AreTags Q → Moves d e → e.mode ≡ d.mode → ((t : Tag) → Q t → HasNone (tagged t) d e) → (t : Tag) → EitherTag P Q t → HasNone (tagged t) c e
      each i q o h t (inl p) =
          let a = none_alike i.own d e (i.value_tags i.own i.is_own) q o (h i.own i.is_own) in
          let k = s t p in
          let l = h i.own i.is_own in
          record {
            missing = (subst (IsAbsent (tagged t) c) (sym a.rest) k.missing.0, inl (a.state ∙ same.state, a.rest ∙ same.rest));
            marked = l.marked ∙ k.marked;
            no_fault = l.no_fault ∙ k.no_fault;
          }
      each i q o h t (inr p) =
          let a = none_alike i.own d e (i.value_tags i.own i.is_own) q o (h i.own i.is_own) in
          let k = h t p in
          let l = s v.own v.is_own in
          record {
            missing = (absent_there d c back t e.stream.rest k.missing.0, inl (a.state ∙ same.state, a.rest ∙ same.rest));
            marked = k.marked ∙ l.marked;
            no_fault = k.no_fault ∙ l.no_fault;
          }

      neither_there : AreTags Q → Moves d e → e.mode ≡ d.mode → HasNoneOf Q d e → HasNoneOf (EitherTag P Q) c e
      neither_there i q o (elsewhere h) = elsewhere (each i q o h)
      neither_there i q o (at_end every k h) =
          let l = s v.own v.is_own in
          at_end (λ t g. inr (every t g)) (λ f. k (same.kind ∙ f))
          (record {
            missing = (ends_there d c back e.stream.rest h.missing.0, h.missing.1);
            marked = h.marked ∙ l.marked;
            no_fault = h.no_fault ∙ l.no_fault;
          })

      no_second : HasNoTyped Q (N c.mode) d → (t : Tree) (u rest : List ℕ) (y : Choice2 A B) → HasTagged (EitherTag P Q) c t u rest → Means t y → ⊥
      no_second h t u rest (One a) z k = not_first t u rest z.0 k.0
      no_second h t u rest (Two b) z k = h.value t u rest b (value_there c d same t u rest z.0, k.1.0) k.1.1

      two_may : MayHave Q d → MayHave (EitherTag P Q) c
      two_may (by_tags f) = by_tags (λ rest g. f rest (λ t p. absent_there c d same t rest (g t (inr p))))
      two_may (by_end f h) = by_end (λ t g. inr (f t g)) (λ after g. h after (ends_there c d same after g))

      two_allocates : AllocatesFor Q d → AllocatesFor (EitherTag P Q) c
      two_allocates (of_header h) =
          of_header (record { tag = h.tag; is_one = inr h.is_one; after = h.after; header = header_there d c back (tagged h.tag) h.after h.header })
      two_allocates (of_depth f h) = of_depth (λ t g. inr (f t g)) (deep_there d c back h)

      two_refused : (f : DecodeError X) → RefusesTyped Q (N c.mode) b_lacks d f e → RefusesTyped (EitherTag P Q) Means (a_lacks || b_lacks) c f e
      two_refused f (types.RefusesTyped.failed g z) = types.RefusesTyped.failed (sym same.state ∙ g) z
      two_refused f (types.RefusesTyped.source g h) =
          types.RefusesTyped.source g (grew_in_between _ _ _ _ (as_many_are_no_fewer _ _ n.no_fault) h refl)
      two_refused f (types.RefusesTyped.memory g r h) = types.RefusesTyped.memory g (second_lacks a_lacks b_lacks r) (two_allocates h)
      two_refused f (types.RefusesTyped.broken h z) =
          let none : HasNoTyped (EitherTag P Q) Means c = record {
            usable = sym same.state ∙ h.usable;
            value = no_second h;
            absent = two_may h.absent;
          } in
          types.RefusesTyped.broken none z

    -- content is at its end
    module _ (every : AreEvery P) (k : c.kind ≢ Octets) (z : HasNone any c d) where
      form : d.kind ≢ Octets
      unfolding Moves
      form f = k (sym m.kind ∙ f)

      ends : EndsBefore d d.stream.rest
      ends = done_is_at_its_end d d.kind refl z.missing.1

      not_ended : Moves d e → e.state ≡ Failed → d.state ≡ Ended → ⊥
      unfolding Moves
      not_ended q f g = let y = sym (q.ended g).0 ∙ f in cc

      past_end : (u rest : List ℕ) → EndsBefore c u → (d.state ≡ Ended → rest ≡ u) → EndsBefore c rest
      unfolding Moves
      past_end u rest (inl g) h = inl g
      past_end u rest (inr (g, of_octets q f)) h = inr (g, of_octets q f)
      past_end u rest (inr (g, of_definite q f)) h = inr (g, of_definite q f)
      past_end u rest (inr (g, of_unbounded q f)) h = inr (g, of_unbounded q f)
      past_end u rest (inr (g, of_indefinite q f)) h = inr (g, of_indefinite q (subst (HasMarker c.mode c.stream.rest) (sym (h (was_ended q z.missing.1))) f))
        where
          was_ended : c.kind ≡ values kind.Indefinite → IsDone d → d.state ≡ Ended
          was_ended q (inl y) = y
          was_ended q (inr y) = absurd (subst (λ r. IsUsedUp r d.owed d.stream.rest) (m.kind ∙ q) y.1)

      same_rest : Moves d e → d.state ≡ Ended → e.stream.rest ≡ d.stream.rest
      unfolding Moves
      same_rest q g = sym (q.rest ∙ ap (λ y. y ++ e.stream.rest) (q.ended g).1)

      still_done : AreTags Q → Moves d e → e.mode ≡ d.mode → HasNoneOf Q d e → IsDone e
      still_done i q o (elsewhere h) = done_there d e (none_alike i.own d e (i.value_tags i.own i.is_own) q o (h i.own i.is_own)) z.missing.1
      still_done i q o (at_end g f h) = h.missing.1

      neither_at_end : AreTags Q → Moves d e → e.mode ≡ d.mode → e.marked ≡ d.marked → e.stream.faults ≡ d.stream.faults → HasNoneOf Q d e
          → HasNoneOf (EitherTag P Q) c e
      neither_at_end i q o y g h =
          at_end (λ t r. inl (every t r)) k
          (record {
            missing = (past_end d.stream.rest e.stream.rest z.missing.0 (same_rest q), still_done i q o h);
            marked = y ∙ z.marked;
            no_fault = g ∙ z.no_fault;
          })

      -- so the second type fails only for the source
      fails_at_end : AreTags Q → Moves d e → (f : DecodeError X) → e.state ≡ Failed → RefusesTyped Q (N c.mode) b_lacks d f e
          → RefusesTyped (EitherTag P Q) Means (a_lacks || b_lacks) c f e
      fails_at_end i q f y (types.RefusesTyped.failed g r) = absurd (done_has_not_failed d z.missing.1 g)
      fails_at_end i q f y (types.RefusesTyped.source g h) =
          types.RefusesTyped.source g (grew_in_between _ _ _ _ (as_many_are_no_fewer _ _ n.no_fault) h refl)
      fails_at_end i q f y (types.RefusesTyped.memory g u (of_header h)) = absurd (no_header ends)
        where
          no_header : EndsBefore d d.stream.rest → ⊥
          no_header (inl r) = not_ended q y r
          no_header (inr r) =
              let a = absent_at_end d x form d.stream.rest r.1 in
              header_is_there h.tag d h.after a.0 r.0 h.header (inr (r.0, a.1 h.tag (i.value_tags h.tag h.is_one)))
      fails_at_end i q f y (types.RefusesTyped.memory g u (of_depth r h)) = absurd (h.some d.stream.rest ends)
      fails_at_end i q f y (types.RefusesTyped.broken h r) = absurd (not_there h.absent ends)
        where
          not_there : MayHave Q d → EndsBefore d d.stream.rest → ⊥
          not_there (by_end f e) g = e d.stream.rest g
          not_there (by_tags f) (inl g) = open_has_not_ended d.state h.usable g
          not_there (by_tags f) (inr g) =
              (let a = absent_at_end d x form d.stream.rest g.1 in f a.0 (λ t p. inr (g.0, a.1 t (i.value_tags t p))))

    two_there : HasNoneOf P c d → (b : B) → TakesTyped Q (N c.mode) d b e → TakesTyped (EitherTag P Q) Means c (Two b) e
    two_there (elsewhere s) b h = two_taken s b h
    two_there (at_end every k z) b h = absurd (no_value_at_end d x (form every k z) d.stream.rest (ends every k z) h.tree h.octets e.stream.rest h.has.0)

    neither : AreTags Q → Moves d e → HasNoneOf P c d → TakesNextTyped Q (N c.mode) b_lacks {X = X} d (Ok None) e → HasNoneOf (EitherTag P Q) c e
    neither i q (elsewhere s) h = neither_there s i q h.mode h.none
    neither i q (at_end every k z) h = neither_at_end every k z i q h.mode h.marked h.no_fault h.none

    two_fails : AreTags Q → Moves d e → HasNoneOf P c d → (f : DecodeError X) → TakesNextTyped Q (N c.mode) b_lacks d (Err f) e
        → RefusesTyped (EitherTag P Q) Means (a_lacks || b_lacks) c f e
    two_fails i q (elsewhere s) f h = two_refused s f h.refused
    two_fails i q (at_end every k z) f h = fails_at_end every k z i q f h.failed h.refused

    in_mode : (o : _) → TakesNextTyped Q (N d.mode) b_lacks {X = X} d o e → TakesNextTyped Q (N c.mode) b_lacks {X = X} d o e
    in_mode o h = subst (λ z. TakesNextTyped Q (N z) b_lacks {X = X} d o e) n.mode h

    pub next_two : (b : B) → TakesNextTyped Q (N d.mode) b_lacks {X = X} d (Ok (Some b)) e
        → TakesNextTyped (EitherTag P Q) Means (a_lacks || b_lacks) {X = X} c (Ok (Some (Two b))) e
    next_two b k =
        let h = in_mode (Ok (Some b)) k in
        record {
          value = two_there n.none b h.value;
          none = tt;
          no_fault = h.no_fault ∙ n.no_fault;
          refused = tt;
          failed = tt;
          mode = h.mode ∙ n.mode;
          marked = h.marked ∙ n.marked;
        }

    pub next_neither : AreTags Q → Moves d e → TakesNextTyped Q (N d.mode) b_lacks {X = X} d (Ok None) e
        → TakesNextTyped (EitherTag P Q) Means (a_lacks || b_lacks) {X = X} c (Ok None) e
    next_neither i q k =
        let h = in_mode (Ok None) k in
        record {
          value = tt;
          none = neither i q n.none h;
          no_fault = h.no_fault ∙ n.no_fault;
          refused = tt;
          failed = tt;
          mode = h.mode ∙ n.mode;
          marked = h.marked ∙ n.marked;
        }

    pub fails_two : AreTags Q → Moves d e → (f : DecodeError X) → TakesNextTyped Q (N d.mode) b_lacks d (Err f) e
        → TakesNextTyped (EitherTag P Q) Means (a_lacks || b_lacks) c (Err f) e
    fails_two i q f k =
        let h = in_mode (Err f) k in
        record {
          value = tt;
          none = tt;
          no_fault = tt;
          refused = two_fails i q n.none f h;
          failed = h.failed;
          mode = h.mode ∙ n.mode;
          marked = h.marked ∙ n.marked;
        }

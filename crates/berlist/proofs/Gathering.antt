-- What is gathered, at each way that it can go.
use Rattle.std.proofs.Common.{◌≡◌, ◌≢◌, ℕ, Bool, true, false, List, [], ◌∷◌, ◌++◌, Option, Some, None, MatchOption, refl}
use Rattle.std.proofs.Common.{sym, ap, subst, ◌∙◌, append_assoc, append-nil, arith, inl, inr}
use Rattle.std.specs.Prelude.{◌⊎◌, Result, Ok, Err, IfOk, IfErr, IfSome, OnOk}
use Rattle.std.specs.Borrow.{MutBor, GName}
use Rattle.std.proofs.lemmas.Fn.{chained_keeps}
use Rattle.bcder.specs.calls.Calls.{HasNone}
use Rattle.bcder.specs.calls.Content.{any}
use Rattle.bcder.specs.declared.mode.Mode.{Mode}
use Rattle.bcder.specs.declared.decode.content.State.TheVariants.{Open, Failed}
use Rattle.bcder.specs.declared.decode.content.Constructed.{Constructed}
use Rattle.bcder.specs.declared.decode.error.ContentError.{ContentError}
use Rattle.bcder.specs.declared.decode.error.DecodeError.{DecodeError}
use Rattle.bcder.specs.declared.decode.error.DecodeError.TheVariants as error
use Rattle.bcder.specs.declared.decode.source.slice.SliceSource.{SliceSource}
use Rattle.bcder.specs.x690.Tree.{Tree, Trees, no_trees, ◌∷ₜ◌}
use Rattle.bcder.specs.x690.Encoding.{AreEncodings}
use Rattle.bcder.specs.x690.Preorder.{Heading, preorder, preorders}
use Rattle.bcder.specs.declared.decode.content.Kind.TheVariants as kind
use Rattle.bcder.specs.calls.Content.{Reading, Octets, Moves, IsDone, EndsBefore, values}
use Rattle.bcder.specs.calls.Walking.{ClosesBefore, HasValues, Walks}
use Rattle.bcder.specs.calls.Walking.{Steps, Called, SkipsValue, RefusesSkip}
use Rattle.bcder.specs.calls.Walking as skipping
use Rattle.bcder.specs.calls.Content as refusals
use Rattle.bcder.specs.calls.Decoding.{IsAllOf, RefusesOn, RefusesDecode}
use Rattle.bcder.specs.calls.Decoding as decoding
use Rattle.bcder.specs.calls.Stream.{Stream, Grew}
use Rattle.bcder.specs.calls.Views.{of_constructed}
use Rattle.bcder.specs.calls.Cause.{Cause, cause_of}
use Rattle.bcder.specs.laws.Moved.{moved_keeps_kind}
use Rattle.bcder.proofs.Lemmas.{open_has_not_ended, IsWithinOwed, values_with_one_more, trees_with_one_more, refused_on_the_way}
use Rattle.bcder.proofs.Lemmas.{no_values_at_the_end, no_trees_at_the_end, walks_nothing, walks_one_more}
use Rattle.berlist.specs.Lines.{line, lines}
use Rattle.berlist.specs.Gather.{IsWant, ListsValue, ListsValues, RefusesNext, RefusesAll}
use Rattle.berlist.specs.Answers.{IsNoList}
use Rattle.berlist.proofs.Listing.{lines-append, lines-list}

-- ---- values up to the end

-- what was gathered of the values passed, and what is to be gathered of those that remain, is what is to be gathered of all
pub record GoesOn (c d : Reading) (mid : List ℕ) : Type 0 where
  pub walks : Walks c d
  pub more : (h : HasValues d) → (k : HasValues c) × (lines (preorders k.trees 0) ≡ mid ++ lines (preorders h.trees 0))

pub begins : (c : Reading) (mid : List ℕ) → mid ≡ [] → GoesOn c c mid
begins c mid e = record { walks = walks_nothing c; more = λ h. (h, ap (λ w. w ++ lines (preorders h.trees 0)) (sym e)) }

lines_first : (t : Tree) (ts us : Trees) (mid : List ℕ) → us ≡ t ∷ₜ ts → mid ++ lines (preorders us 0) ≡ (mid ++ lines (preorder t 0)) ++ lines (preorders ts 0)
lines_first t ts us mid e =
    ap (λ z. mid ++ lines (preorders z 0)) e ∙ ap (λ l. mid ++ l) (lines-list t ts 0) ∙ sym (append_assoc mid (lines (preorder t 0)) (lines (preorders ts 0)))

pub goes_on : (i j k : Reading) (mid new : List ℕ) → IsWithinOwed j → GoesOn i j mid → Moves j k → k.mode ≡ j.mode → k.marked ≡ j.marked
    → ListsValue j mid new k → GoesOn i k new
unfolding Moves
goes_on i j k mid new w g m o s v = record {
  walks = walks_one_more i j k w g.walks m o s v.passes;
  more = λ h.
      let b = values_with_one_more j k w v.passes m o h in
      let a = g.more b in (
        a.0,
        a.1 ∙ lines_first v.passes.tree h.trees b.trees mid (trees_with_one_more j k w v.passes m o h)
            ∙ ap (λ z. z ++ lines (preorders h.trees 0)) (sym v.is),
      );
}

end_lines : (ts : Trees) (mid : List ℕ) → ts ≡ no_trees → mid ++ lines (preorders ts 0) ≡ mid
end_lines ts mid e = ap (λ z. mid ++ lines (preorders z 0)) e ∙ append-nil mid

pub ends_here : (i j k : Reading) (mid new : List ℕ) → new ≡ mid → i.kind ≢ Octets → GoesOn i j mid → EndsBefore j k.stream.rest → i.state ≡ Open
    → ListsValues i new
ends_here i j k mid new same o g (inl e) s = absurd (open_has_not_ended i.state s (g.walks.ended e))
ends_here i j k mid new same o g (inr e) s =
    let q : j.kind ≢ Octets = λ q. o (sym (moved_keeps_kind i j g.walks.moves) ∙ q) in
    let h = no_values_at_the_end j k.stream.rest q e.1 in
    let a = g.more h in
    record { values = a.0; is = same ∙ sym (a.1 ∙ end_lines h.trees mid (no_trees_at_the_end j k.stream.rest q e.1)) }

pub refused_here : {S : Type 0} (e : DecodeError S) (i j k : Reading) → i.kind ≢ Octets → Walks i j → RefusesNext j e k → RefusesAll i e k
refused_here e i j k o w (inl m) = inl m
refused_here e i j k o w (inr r) = inr (refused_on_the_way cause_of e i j k o w r)

-- ---- the lines of headings

lines-push : (hs : List Heading) (h : Heading) → lines (hs ++ h ∷ []) ≡ lines hs ++ line h
lines-push hs h = lines-append hs (h ∷ []) ∙ ap (λ l. lines hs ++ l) (append-nil (line h))

-- a closure that adds a line where it answers Ok, and else wanted memory; it keeps what it borrows
module _ {F : Type 0} (step : Steps F ContentError) (text : F → List ℕ) (wants : F → Bool) (text_name wants_name : F → GName) where
  pub record AddsLines : Type 0 where
    pub adds : (p q : F) (h : Heading) → step p h.tag h.constructed h.depth (Ok tt) q → text q ≡ text p ++ line h
    pub tells : (p q : F) (h : Heading) (x : ContentError) → step p h.tag h.constructed h.depth (Err x) q → wants q ≡ true
    pub same_text : (p q : F) (h : Heading) (r : Result (Unit {0}) ContentError) → step p h.tag h.constructed h.depth r q → text_name q ≡ text_name p
    pub same_wants : (p q : F) (h : Heading) (r : Result (Unit {0}) ContentError) → step p h.tag h.constructed h.depth r q → wants_name q ≡ wants_name p

  module _ (k : AddsLines) where
    lines_added : (hs : List Heading) (f g : F) → Called step f hs g → (text g ≡ text f ++ lines hs) × (text_name g ≡ text_name f)
    lines_added hs f g c =
        chained_keeps (λ p h q. step p h.tag h.constructed h.depth (Ok tt) q) (λ done q. (text q ≡ text f ++ lines done) × (text_name q ≡ text_name f))
        (λ done q h v e s. (
          k.adds q v h s ∙ ap (λ w. w ++ line h) e.0 ∙ append_assoc (text f) (lines done) (line h)
              ∙ ap (λ w. text f ++ w) (sym (lines-push done h)),
          k.same_text q v h (Ok tt) s ∙ e.1,
        ))
        hs f g (sym (append-nil (text f)), refl) c

    wants_kept : (hs : List Heading) (f g : F) → Called step f hs g → wants_name g ≡ wants_name f
    wants_kept hs f g c = chained_keeps (λ p h q. step p h.tag h.constructed h.depth (Ok tt) q) (λ done q. wants_name q ≡ wants_name f)
        (λ done q h v e s. k.same_wants q v h (Ok tt) s ∙ e) hs f g refl c

    pub lists_next : {T X : Type 0} (c d : Reading) (f g : F) (r : Result (Option T) X) (new : List ℕ) → (text_name g ≡ text_name f → new ≡ text g)
        → IfOk r (λ o. MatchOption o (HasNone any c d) (λ _. SkipsValue step c f g d)) → IfOk r (λ o. IfSome o (λ _. ListsValue c (text f) new d))
    lists_next c d f g (Ok None) new same s = tt
    lists_next c d f g (Ok (Some x)) new same s =
        let all = lines_added (preorder s.passes.tree 0) f g s.called in
        record { passes = s.passes; is = same all.1 ∙ all.0 }
    lists_next c d f g (Err e) new same s = tt

    refuses_one : {S : Type 0} (c d : Reading) (f g : F) (e : DecodeError S) → (wants_name g ≡ wants_name f → wants g ≡ false)
        → RefusesSkip cause_of step c f e g d → RefusesNext c e d
    refuses_one c d f g e w (skipping.RefusesSkip.by_content hs x y z) = inr z
    refuses_one c d f g e w (skipping.RefusesSkip.by_closure hs h q x y z u v) =
        (let b : true ≡ false = sym (k.tells q g h x z) ∙ w (k.same_wants q g h (Err x) z ∙ wants_kept hs f q y) in cc)
    refuses_one c d f g e w (skipping.RefusesSkip.by_memory hs h x y z u v) = inl v

    pub refuses_next : {T S : Type 0} (c d : Reading) (f g : F) (r : Result T (DecodeError S)) → (wants_name g ≡ wants_name f → wants g ≡ false)
        → IfErr r (λ e. (d.state ≡ Failed) × RefusesSkip cause_of step c f e g d) → IfErr r (λ e. RefusesNext c e d)
    refuses_next c d f g (Ok x) w s = tt
    refuses_next c d f g (Err e) w s = refuses_one c d f g e w s.1

-- ---- what an answer says

pub when_none : {X : Type 0} (P : Type 0) (Q : X → Type 0) (r : Option X) → r ≡ None → MatchOption r P Q → P
when_none P Q r e m = subst (λ r. MatchOption r P Q) e m

-- ---- all octets

-- values up to the end of unbounded content are all of its octets
pub values_there : (i : Reading) (mode : Mode) (w : List ℕ) (ts : Trees) → i.kind ≡ values kind.Unbounded → i.mode ≡ mode → i.stream.rest ≡ w
    → AreEncodings mode ts w → HasValues i
values_there i mode w ts k m r a = record {
  trees = ts;
  all = w;
  after = [];
  encode = subst (λ z. AreEncodings z ts w) (sym m) a;
  rest = r ∙ sym (append-nil w);
  closes = subst (λ z. ClosesBefore z i.mode i.owed w []) (sym k) refl;
}

-- ---- all values of a source

-- what a closure makes of all values of a source
pub record ListsAll {T S : Type 0} (bytes : T → List ℕ) (i : Reading) (r : Result T (DecodeError S)) (j : Reading) : Type 0 where
  pub done : OnOk r (IsDone j)
  pub listed : IfOk r (λ x. i.state ≡ Open → ListsValues i (bytes x))
  pub refused : IfErr r (λ e. RefusesAll i e j)

-- a slice never fails
pub slices_faultless : (stream : SliceSource → Stream) → ((x : SliceSource) → (stream x).faults ≡ 0) → (c : Constructed SliceSource)
    → (of_constructed stream c).stream.faults ≡ 0
unfolding of_constructed
slices_faultless stream f c = f c.source.now.source

-- a count that grew isn't 0
grew_past : (old new : ℕ) → Grew old new → new ≢ 0
grew_past old new g z = let n = g.no_smaller in elim g.larger_or_last [ inl h ↦ omega (arith, h, z) | inr h ↦ omega (arith, h, z) ]

done_not_failed : (c : Reading) → IsDone c → c.state ≢ Failed
done_not_failed c (inl h) f = cc
done_not_failed c (inr h) f = let x = h.0 in cc

module _ {C T S : Type 0} (view : C → Reading) (post : MutBor C → Result T (DecodeError S) → MutBor C → Type 0) (bytes : T → List ℕ) (faultless : (c : C)
    → (view c).stream.faults ≡ 0) (k : (p : MutBor C) (r : Result T (DecodeError S)) (q : MutBor C) → post p r q → ListsAll bytes (view p.now) r (view q.now))
    (s : Stream) (mode : Mode) where
  no_values : (e : DecodeError S) (i j : Reading) → (IsWant e → ⊥) → IsAllOf s mode i → j.stream.faults ≡ 0 → RefusesAll i e j → IsNoList mode s.rest
  no_values e i j n o f (inl m) ts a = n m
  no_values e i j n o f (inr (refusals.Refuses.failed x y)) ts a = let z = o.state in cc
  no_values e i j n o f (inr (refusals.Refuses.source k x)) ts a = grew_past i.stream.faults j.stream.faults x f
  no_values e i j n o f (inr (refusals.Refuses.nothing h y)) ts a = h.1 (values_there i mode s.rest ts o.kind o.mode (ap (λ (z : Stream). z.rest) o.stream) a)
  no_values e i j n o f (inr (refusals.Refuses.otherwise h)) ts a = let x = h.0 in let z = o.kind in cc

  none_listed : (e : DecodeError S) (i j : Reading) → (IsWant e → ⊥) → IsAllOf s mode i → RefusesOn cause_of view post i e j → IsNoList mode s.rest
  none_listed e i j n o (decoding.by_closure a) =
      let g = k a.handed (Err e) a.left a.called in
      let f = ap (λ (z : Reading). z.stream.faults) (sym a.left_is) ∙ faultless a.left.now in
      no_values e i j n o f (subst (λ z. RefusesAll i e z) a.left_is (subst (λ z. RefusesAll z e (view a.left.now)) a.handed_is g.refused))
  none_listed e i j n o (decoding.left_failed x a z y) = absurd (done_not_failed j (subst IsDone a.left_is (k a.handed (Ok x) a.left a.called).done) z)

  pub refuses_all : (e : DecodeError S) (s' : Stream) → (IsWant e → ⊥) → RefusesDecode cause_of view post s mode e s' → IsNoList mode s.rest
  refuses_all e s' n d = none_listed e d.handed d.left n d.over d.refuses

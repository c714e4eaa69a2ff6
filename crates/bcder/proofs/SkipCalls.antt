-- What skipping promises of content, by what a run over the content of a value did.
use Rattle.std.proofs.Common.{◌≡◌, ◌≢◌, inr, ℕ, ◌+◌, ◌*◌, ◌≤◌, true, false, List, [], ◌∷◌, ◌++◌, length, Option, Some, None, Ok}
use Rattle.std.proofs.Common.{Err, refl, sym, ap, subst, ◌∙◌, arith, append_assoc, append-nil, length-append}
use Rattle.std.specs.Prelude.{Result}
use Rattle.std.proofs.lemmas.List.{append_cancel_right}
use Rattle.bcder.specs.declared.mode.Mode.{Mode}
use Rattle.bcder.specs.declared.decode.content.State.TheVariants.{Open, Ended, Failed}
use Rattle.bcder.specs.declared.decode.content.skip.Interrupt.{Interrupt}
use Rattle.bcder.specs.declared.decode.content.skip.Interrupt.TheVariants as interrupt
use Rattle.bcder.specs.declared.decode.error.ContentError.{ContentError}
use Rattle.bcder.specs.declared.decode.error.DecodeError.{DecodeError}
use Rattle.bcder.specs.calls.Cause.{Cause, cause_of, of_source, of_content, of_memory, IsOfContent}
use Rattle.bcder.specs.x690.Identifier.{universal, AreOctets}
use Rattle.bcder.specs.x690.Tree.{Tree, primitive}
use Rattle.bcder.specs.x690.Encoding.{IsEncoding, Header}
use Rattle.bcder.specs.x690.Preorder.{Heading, preorder}
use Rattle.bcder.specs.steps.Reading.{read_header, read_contents, read_list, read_tree}
use Rattle.bcder.specs.calls.Stream.{Stream, Grew, cut, past, limited}
use Rattle.bcder.specs.calls.Content.{EndsBefore, Reading, Octets, Resembles, any, Falls, Moves}
use Rattle.bcder.specs.steps.Entering.{Advances, Enters}
use Rattle.bcder.specs.x690.Grammar.{IsOnly}
use Rattle.bcder.specs.calls.Walking.{HasNoNext, PassesValue, Walks}
use Rattle.bcder.specs.calls.Calls.{HasNone, NextBy}
use Rattle.bcder.specs.calls.Walking.{Steps, Called, WereCalls, SkipsValue, RefusesSkip}
use Rattle.bcder.specs.calls.Walking.{SkippedValueBy, RefusesOne, RefusesSkipAll}
use Rattle.bcder.specs.calls.Walking as skipping
use Rattle.bcder.specs.steps.Stacked.{heading, interrupt_cause, PassesCalls, IsUnderWay, IsBroken, RanBy, Breaks, by_source, by_content, by_closure, by_memory}
use Rattle.bcder.specs.laws.Complete.{header_complete, header_size, tree_complete, only_at_front}
use Rattle.bcder.specs.laws.Sound.{none_is, some_inj}
use Rattle.bcder.specs.laws.Stands.{Stands, tree_sound}
use Rattle.bcder.specs.laws.Moved.{moved_is_no_longer}
use Rattle.bcder.proofs.Ends.{from_header}
use Rattle.bcder.proofs.Entering.{Within, header_not_at_end, header_entered}
use Rattle.bcder.proofs.Inner.{layers_eq}
use Rattle.bcder.proofs.Moving.{moves_value, moves_failed, advances_trans, open_not_ended}
use Rattle.bcder.proofs.LimitStack.{cut_falls, past_falls, finished}
use Rattle.bcder.proofs.Naming.{behind_header}
use Rattle.bcder.proofs.Passing.{looked_open, looked_refused, looked_by}
use Rattle.bcder.specs.calls.Content as refusals
use Rattle.bcder.specs.calls.Content.{Refuses}
use Rattle.bcder.specs.steps.WalkSteps.{NoValue}
use Rattle.bcder.proofs.WalkSteps.{no_next, walks_refused}

-- a call passed over the next value, or found the end, or refused; `why` gives the cause of its error
abbrev pub SkippedBy : {F T X : Type 0} → (X → Cause ContentError) → Steps F ContentError → Reading → F → Result (Option T) X → F → Reading → Type 0
SkippedBy why step c f r g d = NextBy any (λ i _ j. SkipsValue step i f g j) (λ i e j. RefusesSkip why step i f e g j) c r d

-- ---- calls that were made

-- none
pub no_calls : (c d : Reading) → length d.stream.rest ≤ length c.stream.rest → WereCalls c [] d
no_calls c d l = (let t : Tree = primitive (record { class = universal; number = 4 }) [] in record {
  some = (t, preorder t 0, refl);
  one = λ u w x h. (preorder u 0, refl);
  stand = refl;
  twice = omega arith;
  usable = λ n. absurd (n refl);
})

same_calls : (c d : Reading) (a b : List Heading) → a ≡ b → WereCalls c a d → WereCalls c b d
same_calls c d a b e w = subst (λ z. WereCalls c z d) e w

-- ---- a value whose header was passed, and then its content, or not

module _ (c d e : Reading) (k : Header) (s t : Stream) (o p : Option ℕ) (within : Within c) (x : Enters c k d)
    (ds : d.stream ≡ limited o s) (do' : d.owed ≡ o) (es : e.stream ≡ limited p t) (eo : e.owed ≡ p)
    (ek : e.kind ≡ d.kind) (em : e.mode ≡ d.mode) (en : e.name ≡ d.name) (ea : e.marked ≡ d.marked) where
  read_is : read_tree c.mode c.stream.rest ≡ read_contents (read_list c.mode) k.tag k.form k.len (cut o s.rest)
  read_is = from_header c.mode k c.stream.rest (cut o s.rest) within.octets (ap (read_header c.mode) (x.advances.rest ∙ ap (λ z. x.octets ++ z.rest) ds)
      ∙ header_complete c.mode k.tag k.form k.len x.octets (cut o s.rest) x.is_header)

  not_at_end : (after : List ℕ) → EndsBefore c after → ⊥
  not_at_end = header_not_at_end c d.stream.rest within x.usable (header_entered c k d any refl x)

  module _ (calls : List Heading) (g : PassesCalls c.mode s o calls t p) where
    passed_rest : d.stream.rest ≡ g.passed ++ e.stream.rest
    passed_rest = ap (λ z. z.rest) ds ∙ ap (cut o) g.passes.rest ∙ cut_falls o p g.passed t.rest g.falls ∙ ap (λ z. g.passed ++ z.rest) (sym es)

    whole_rest : c.stream.rest ≡ (x.octets ++ g.passed) ++ e.stream.rest
    whole_rest = x.advances.rest ∙ ap (λ z. x.octets ++ z) passed_rest ∙ sym (append_assoc x.octets g.passed e.stream.rest)

    advances_on : s.faults ≤ t.faults → Advances d e g.passed
    advances_on f = record {
      rest = passed_rest;
      owed = subst (λ z. Falls z (length g.passed) e.owed) (sym do') (subst (λ z. Falls o (length g.passed) z) (sym eo) g.falls);
      kept = ap (λ z. z.kept) es ∙ layers_eq _ _ t.kept s.kept (sym (ap (past o) g.passes.rest ∙ past_falls o p g.passed t.rest g.falls)) g.passes.kept
          ∙ ap (λ z. z.kept) (sym ds);
      faults = omega (arith, f, ap (λ z. z.faults) ds, ap (λ z. z.faults) es);
      kind = ek;
      mode = em;
      name = en;
    }

    -- all octets from the header on
    pub advances_whole : s.faults ≤ t.faults → Advances c e (x.octets ++ g.passed)
    advances_whole f = advances_trans c d e x.octets g.passed x.advances (advances_on f)

    -- what calls were made, those of a tree that begins so
    pub were_calls : (u : Tree) (more : List Heading) → preorder u 0 ≡ (heading k 0 ∷ calls) ++ more
        → ((v : Tree) (y : List ℕ) → read_contents (read_list c.mode) k.tag k.form k.len (cut o s.rest) ≡ Some (v, y)
        → (more : List Heading) × (preorder v 0 ≡ (heading k 0 ∷ calls) ++ more)) → WereCalls c (heading k 0 ∷ calls) e
    were_calls u more is one = record {
      some = (u, more, is);
      one = λ v w after h. one v after (sym read_is ∙ ap (read_tree c.mode) h.rest ∙ tree_complete c.mode v w after h.encodes);
      stand = (
        k.len,
        x.octets,
        d.stream.rest,
        e.stream.rest,
        x.is_header,
        x.advances.rest,
        subst (λ z. skipping.HeadersStand c.mode calls z e.stream.rest) (ap (λ z. z.rest) (sym ds))
            (subst (λ z. skipping.HeadersStand c.mode calls (cut o s.rest) z) (ap (λ z. z.rest) (sym es)) g.stand),
      );
      twice = (let a : 2 * length calls ≤ length g.passed = g.twice in let b : 2 ≤ length x.octets = header_size c.mode k.tag k.form k.len x.octets
          x.is_header in omega (arith, ap length whole_rest, length-append (x.octets ++ g.passed) e.stream.rest, length-append x.octets g.passed));
      usable = λ n. (x.usable, not_at_end);
    }

  -- ---- the whole value

  module _ (calls : List Heading) (u : IsUnderWay c.mode k s o calls [] t p) (st : e.state ≡ Open) where
    front : Stands c.mode (finished c.mode k s o calls t p u).0 c.stream.rest (cut p t.rest)
    front = tree_sound c.mode c.stream.rest ((finished c.mode k s o calls t p u).0, cut p t.rest) within.octets
        (read_is ∙ (finished c.mode k s o calls t p u).1)

    front_rest : c.stream.rest ≡ front.front ++ e.stream.rest
    front_rest = front.is ∙ ap (λ y. front.front ++ y.rest) (sym es)

    passes : PassesValue c e
    passes = record {
      tree = (finished c.mode k s o calls t p u).0;
      value = front.front;
      has = record { usable = x.usable; encodes = front.is_encoding; rest = front_rest };
      only = subst (λ y. IsOnly c.mode (finished c.mode k s o calls t p u).0 front.front y) (sym front_rest)
          (only_at_front c.mode (finished c.mode k s o calls t p u).0 front.front e.stream.rest front.is_encoding);
      stays = st;
    }

    pub skips_moves : s.faults ≤ t.faults → Moves c e
    skips_moves nf =
        let is : front.front ≡ x.octets ++ u.passes.passed =
        append_cancel_right front.front (x.octets ++ u.passes.passed) e.stream.rest (sym front_rest ∙ whole_rest calls u.passes) in
        moves_value c e front.front (finished c.mode k s o calls t p u).0 false (subst (Advances c e) (sym is) (advances_whole calls u.passes nf))
        front.is_encoding (λ y. ea ∙ x.unmarked ∙ y) (λ y. absurd (let w : false ≡ true = y in cc)) x.usable st

    skips_calls : WereCalls c (heading k 0 ∷ calls) e
    skips_calls =
        let none : preorder (finished c.mode k s o calls t p u).0 0 ≡ (heading k 0 ∷ calls) ++ [] =
        (finished c.mode k s o calls t p u).2 ∙ sym (append-nil (heading k 0 ∷ calls)) in
        were_calls calls u.passes (finished c.mode k s o calls t p u).0 [] none
        (λ v y r. ([], ap (λ w. preorder w 0) (ap (λ q. q.0) (some_inj _ _ (sym r ∙ (finished c.mode k s o calls t p u).1))) ∙ none))

    skips_value : {F : Type 0} (step : Steps F ContentError) (f g : F) → Called step f (heading k 0 ∷ calls) g → SkipsValue step c f g e
    unfolding passes
    skips_value step f g called = record {
      passes = passes;
      called = subst (λ y. Called step f y g) (sym (finished c.mode k s o calls t p u).2) called;
      were = same_calls c e (heading k 0 ∷ calls) (preorder (finished c.mode k s o calls t p u).0 0) (sym (finished c.mode k s o calls t p u).2) skips_calls;
    }

    pub skipped_value : {F T X : Type 0} (why : X → Cause ContentError) (step : Steps F ContentError) (f g : F) (y : T) → t.faults ≡ s.faults
        → d.stream.faults ≡ c.stream.faults → Called step f (heading k 0 ∷ calls) g → SkippedBy why step c f (Ok (Some y)) g e
    skipped_value why step f g y nf nd called = record {
      value = skips_value step f g called;
      no_fault = ap (λ z. z.faults) es ∙ nf ∙ ap (λ z. z.faults) (sym ds) ∙ nd;
      refused = tt;
      mode = em ∙ x.advances.mode;
      marked = ea ∙ x.unmarked;
    }

  -- ---- a refusal of it

  broken_calls : (calls : List Heading) → IsBroken c.mode k s o calls t p → WereCalls c (heading k 0 ∷ calls) e
  broken_calls calls b = were_calls calls b.passes b.some.0 b.some.1 b.some.2 b.one

  nothing_there : read_contents (read_list c.mode) k.tag k.form k.len (cut o s.rest) ≡ None → NoValue c
  nothing_there n = record { none = λ v w after h r. none_is (v, after) (sym (read_is ∙ n) ∙ ap (read_tree c.mode) r ∙ tree_complete c.mode v w after h) }

  module _ {F X Y : Type 0} (step : Steps F ContentError) (f g : F) (why : Y → Cause ContentError) (h : Interrupt X) (y : Y) (st : e.state ≡ Failed)
      (nf : d.stream.faults ≡ c.stream.faults) (ends : c.state ≢ Ended)
      (hc : IsOfContent (interrupt_cause h) → IsOfContent (why y)) (hs : interrupt_cause h ≡ of_source → why y ≡ of_source)
      (hm : interrupt_cause h ≡ of_memory → why y ≡ of_memory) (hx : (z : ContentError) → h ≡ interrupt.Closure z → why y ≡ of_content z) where
    refused_by : Breaks step c.mode k s o f h g t p → RefusesSkip why step c f y g e
    refused_by (by_source calls called b j z) = skipping.RefusesSkip.by_content (heading k 0 ∷ calls) called (broken_calls calls b) (refusals.Refuses.source
        (hs j) (subst (λ n. Grew n e.stream.faults) (ap (λ q. q.faults) (sym ds) ∙ nf) (subst (λ n. Grew s.faults n) (ap (λ q. q.faults) (sym es)) z)))
    refused_by (by_content calls called b n j) = skipping.RefusesSkip.by_content (heading k 0 ∷ calls) called (broken_calls calls b)
        (refusals.Refuses.nothing (no_next c x.usable (nothing_there n) not_at_end)
        (behind_header any c (why y) (hc j) d.stream.rest (header_entered c k d any refl x)))
    refused_by (by_closure calls before last q z is called r b j) =
        skipping.RefusesSkip.by_closure before last q z called r (same_calls c e (heading k 0 ∷ calls) (before ++ last ∷ []) is (broken_calls calls b)) (hx z j)
    refused_by (by_memory calls before last is called a l b j) = skipping.RefusesSkip.by_memory before last (subst (λ z. Called step f z g) is called)
        (same_calls c e (heading k 0 ∷ calls) (before ++ last ∷ []) is (broken_calls calls b)) a l (hm j)

    pub skipped_not : {T : Type 0} → Breaks step c.mode k s o f h g t p → SkippedBy {T = T} why step c f (Err y) g e
    skipped_not b = record {
      value = tt;
      no_fault = tt;
      refused = (st, refused_by b);
      mode = em ∙ x.advances.mode;
      marked = ea ∙ x.unmarked;
    }

    pub breaks_moves : s.faults ≤ t.faults → Breaks step c.mode k s o f h g t p → Moves c e
    breaks_moves l b = go (passed_of b)
      where
        passed_of : Breaks step c.mode k s o f h g t p → (calls : List Heading) × PassesCalls c.mode s o calls t p
        passed_of (by_source calls called b j z) = (calls, b.passes)
        passed_of (by_content calls called b n j) = (calls, b.passes)
        passed_of (by_closure calls before last q z is called r b j) = (calls, b.passes)
        passed_of (by_memory calls before last is called a l b j) = (calls, b.passes)

        go : (calls : List Heading) × PassesCalls c.mode s o calls t p → Moves c e
        go q = moves_failed c e (x.octets ++ q.1.passed) (advances_whole q.0 q.1 l) (λ z. ea ∙ x.unmarked ∙ z) ends st

-- ---- a header of two octets of a value that is here

-- ---- the same of content of which only the header was passed

-- c is the content b behind a header that was passed
pub record IsPast (b : Reading) (h : Header) (c : Reading) : Type 0 where
  pub enters : Enters b h c
  pub octets : AreOctets b.stream.rest
  pub fits : (n : ℕ) → b.owed ≡ Some n → length b.stream.rest ≤ n

past_within : (c d : Reading) (k : Header) → IsPast c k d → Within c
past_within c d k i = record { fits = i.fits; octets = i.octets }

module _ (c d e : Reading) (k : Header) (m : Mode) (s t : Stream) (o p : Option ℕ) (i : IsPast c k d) (dm : d.mode ≡ m)
    (ds : d.stream ≡ limited o s) (do' : d.owed ≡ o) (es : e.stream ≡ limited p t) (eo : e.owed ≡ p)
    (ek : e.kind ≡ d.kind) (em : e.mode ≡ d.mode) (en : e.name ≡ d.name) (ea : e.marked ≡ d.marked)
    {F X : Type 0} (step : Steps F ContentError) (f g : F) where
  of_content_mode : {T : Type 0} (r : Result T (Interrupt X)) → RanBy step m k s o f r g t p → RanBy step c.mode k s o f r g t p
  of_content_mode r x = subst (λ z. RanBy step z k s o f r g t p) (sym dm ∙ i.enters.advances.mode) x

  pub behind_moved : {T : Type 0} (y : T) → RanBy {X = X} step m k s o f (Ok y) g t p → e.state ≡ Open → Moves c e
  behind_moved y x st =
      (let r = of_content_mode (Ok y) x in skips_moves c d e k s t o p (past_within c d k i) i.enters ds do' es eo ek em en ea r.whole.0 r.whole.2 st r.faults)

  pub behind_passed : {T U Y : Type 0} (why : Y → Cause ContentError) (y : T) (z : U) → RanBy {X = X} step m k s o f (Ok y) g t p → e.state ≡ Open
      → SkippedBy why step c f (Ok (Some z)) g e
  behind_passed why y z x st = (let r = of_content_mode (Ok y) x in skipped_value c d e k s t o p
      (past_within c d k i) i.enters ds do' es eo ek em en ea r.whole.0 r.whole.2 st why step f g z r.no_fault i.enters.no_fault r.whole.1)

  module _ {Y : Type 0} (why : Y → Cause ContentError) (h : Interrupt X) (y : Y) (st : e.state ≡ d.state)
      (hc : IsOfContent (interrupt_cause h) → IsOfContent (why y)) (hs : interrupt_cause h ≡ of_source → why y ≡ of_source)
      (hm : interrupt_cause h ≡ of_memory → why y ≡ of_memory) (hx : (z : ContentError) → h ≡ interrupt.Closure z → why y ≡ of_content z) where
    pub behind_stopped : {T : Type 0} → RanBy step {T = T} m k s o f (Err h) g t p → Moves c e
    behind_stopped x = (let r = of_content_mode (Err h) x in breaks_moves c d e k s t o p (past_within c d k i) i.enters ds do' es eo ek em en ea step f g why h
        y (st ∙ i.enters.opened) i.enters.no_fault (open_not_ended _ i.enters.usable) hc hs hm hx r.faults r.breaks)

    pub behind_refused : {T U : Type 0} → RanBy step {T = T} m k s o f (Err h) g t p → SkippedBy {T = U} why step c f (Err y) g e
    behind_refused x = (let r = of_content_mode (Err h) x in skipped_not c d e k s t o p (past_within c d k i) i.enters ds do' es eo ek em en ea step f g why h
        y (st ∙ i.enters.opened) i.enters.no_fault (open_not_ended _ i.enters.usable) hc hs hm hx r.breaks)

-- ---- no header was passed

module _ {F X : Type 0} (why : X → Cause ContentError) (step : Steps F ContentError) (c d : Reading) (f : F) (mode : d.mode ≡ c.mode)
    (marked : d.marked ≡ c.marked) where
  pub skipped_end : {T : Type 0} → HasNone any c d → SkippedBy {T = T} why step c f (Ok None) f d
  skipped_end n = record { value = n; no_fault = n.no_fault; refused = tt; mode = mode; marked = marked }

  pub skipped_none : {T : Type 0} (e : X) → Moves c d → Refuses why any HasNoNext ⊥ c e d → d.state ≡ Failed → SkippedBy {T = T} why step c f (Err e) f d
  skipped_none e m r a = record {
    value = tt;
    no_fault = tt;
    refused = (a, skipping.RefusesSkip.by_content [] refl (no_calls c d (moved_is_no_longer c d m)) r);
    mode = mode;
    marked = marked;
  }

-- ---- a value that has to be there

module _ {F S : Type 0} (step : Steps F ContentError) (c : Reading) (f g : F) (d : Reading) where
  pub value_refused : {T U : Type 0} (e : DecodeError S) → SkippedBy {T = T} {X = DecodeError S} cause_of step c f (Err e) g d
      → SkippedValueBy {T = U} {S = S} step c f (Err e) g d
  value_refused e s = record { value = tt; no_fault = tt; refused = inr s.refused; mode = s.mode; marked = s.marked }

-- ---- without a closure

module _ {X : Type 0} (why : X → Cause ContentError) (c d e : Reading) where
  -- a value that was passed at once
  pub one_at_once : {T : Type 0} (x : T) → PassesValue c d → d.stream.faults ≡ c.stream.faults → d.mode ≡ c.mode → d.marked ≡ c.marked
      → NextBy {E = X} any (λ i _ j. PassesValue i j) (RefusesOne why) c (Ok (Some x)) d
  one_at_once x p n m k = record { value = p; no_fault = n; refused = tt; mode = m; marked = k }

  -- and one that was refused at once
  pub refused_at_once : {T : Type 0} (x : X) → RefusesOne why c x d → d.state ≡ Failed → d.mode ≡ c.mode → d.marked ≡ c.marked
      → NextBy {T = T} any (λ i _ j. PassesValue i j) (RefusesOne why) c (Err x) d
  refused_at_once x r f m k = record { value = tt; no_fault = tt; refused = (f, r); mode = m; marked = k }

  -- content that was only looked at before
  looked_calls : Resembles c d → (calls : List Heading) → WereCalls d calls e → WereCalls c calls e
  looked_calls s calls w = record {
    some = w.some;
    one = λ t v after h. w.one t v after
        (record { usable = s.state ∙ h.usable; encodes = subst (λ m. IsEncoding m t v) (sym s.mode) h.encodes; rest = s.rest ∙ h.rest });
    stand = subst (λ m. skipping.HeadersFrom m calls c.stream.rest) s.mode (subst (λ z. skipping.HeadersFrom d.mode calls z) s.rest w.stand);
    twice = (let y : 2 * length calls + length e.stream.rest ≤ length d.stream.rest = w.twice in omega (arith, ap length s.rest));
    usable = λ n. (sym s.state ∙ (w.usable n).0, looked_open c d s (w.usable n).1);
  }

  looked_one : Resembles c d → d.stream.faults ≡ c.stream.faults → (y : X) → RefusesOne why d y e → RefusesOne why c y e
  looked_one s f y r = looked_refused why c d e s f (λ x. (let g = x.1 in
      (x.0, record { calls = g.calls; last = g.last; were = looked_calls s (g.calls ++ g.last ∷ []) g.were; constructed = g.constructed; deep = g.deep }))) y r

  pub looked_skipped : {T : Type 0} (r : Result (Option T) X) → Resembles c d → d.stream.faults ≡ c.stream.faults
      → NextBy any (λ i _ j. PassesValue i j) (RefusesOne why) d r e → NextBy any (λ i _ j. PassesValue i j) (RefusesOne why) c r e
  looked_skipped r s f = looked_by c d e s f (RefusesOne why) (looked_one s f) r

-- ---- all values

pub loop_refused : {X : Type 0} (why : X → Cause ContentError) (e : X) (i j k : Reading) → i.kind ≢ Octets → Walks i j → RefusesOne why j e k
    → RefusesSkipAll why i e k
loop_refused why e i j k o w (refusals.Refuses.failed f a) = skipping.RefusesSkipAll.by_values (walks_refused why e i j k o w (refusals.Refuses.failed f a))
loop_refused why e i j k o w (refusals.Refuses.source s f) = skipping.RefusesSkipAll.by_values (walks_refused why e i j k o w (refusals.Refuses.source s f))
loop_refused why e i j k o w (refusals.Refuses.nothing n a) = skipping.RefusesSkipAll.by_values (walks_refused why e i j k o w (refusals.Refuses.nothing n a))
loop_refused why e i j k o w (refusals.Refuses.otherwise g) = skipping.RefusesSkipAll.by_depth j w g.1 g.0

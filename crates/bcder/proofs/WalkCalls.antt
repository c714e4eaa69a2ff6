-- What a call that walks its content says of the value.
use Rattle.std.proofs.Common.{◌≡◌, true, false, ◌++◌, Option, Some, None, sym, ◌∙◌, append_assoc, subst, inl, inr}
use Rattle.std.specs.Prelude.{MatchOption, ◌⊎◌, Result, Ok, Err, IfOk, IfErr, IfSome, IfNone, is_some}
use Rattle.std.specs.Borrow.{MutBor}
use Rattle.bcder.specs.x690.Identifier.{Tag}
use Rattle.bcder.specs.x690.Encoding.{IsEncoding}
use Rattle.bcder.specs.x690.Grammar.{IsOnly}
use Rattle.bcder.specs.calls.Stream.{Grew}
use Rattle.bcder.specs.declared.decode.error.ContentError.{ContentError}
use Rattle.bcder.specs.calls.Cause.{Cause, of_source, IsOfContent}
use Rattle.bcder.specs.calls.Content.{Reading, any, label, NothingThere}
use Rattle.bcder.specs.calls.Calls.{Answered, TakesValue, RefusesContent, by_closure, unfinished, RefusesFront}
use Rattle.bcder.specs.calls.Walking.{HasNoNext, PassesValue}
use Rattle.bcder.specs.steps.WalkSteps.{NoValue, WalksBy}
use Rattle.bcder.specs.laws.Complete.{only_at_front}
use Rattle.bcder.proofs.Entering.{Within, header_not_at_end, no_fewer}
use Rattle.bcder.proofs.Naming.{behind_header}
use Rattle.bcder.specs.calls.Content as refusals
use Rattle.bcder.specs.calls.Content.{Refuses}
use Rattle.bcder.proofs.WalkSteps.{no_next, no_value_of_nothing, end_of_nothing, refused_inside, refused_end as refused_left}

abbrev pub WalksContent : {C T E : Type 0} → (E → Cause ContentError) → (C → Reading) → (Tag → MutBor C → Result T E → MutBor C → Type 0) → Type 0
WalksContent {C} {T} {E} why view post = (t : Tag) (p : MutBor C) (r : Result T E) (q : MutBor C) → post t p r q → WalksBy why (view p.now) r (view q.now)

module _ {C T E : Type 0} (why : E → Cause ContentError) (view : C → Reading) (post : Tag → MutBor C → Result T E → MutBor C → Type 0)
    (k : WalksContent why view post) where
  walks_by : (t : Tag) (i j : Reading) (r : Result T E) → Answered {R = Result T E} view (post t) i r j → WalksBy why i r j
  walks_by t i j r a = subst (λ z. WalksBy why z r j) a.handed_is (subst (λ z. WalksBy why (view a.handed.now) r z) a.left_is (k t a.handed r a.left a.called))

  -- ---- refused

  front_refused : (c d : Reading) (e : E) (f : RefusesFront why view post any c e d) → RefusesContent why view post f.front.tag f.handed e f.left
      → ((why e ≡ of_source) × Grew c.stream.faults d.stream.faults) ⊎ (NoValue c × IsOfContent (why e))
  front_refused c d e f (by_closure x) = refused_inside why e c d f.handed f.left f.after f.front f.hands (no_fewer _ _ f.faults_handed) f.faults_left
      (walks_by f.front.tag f.handed f.left (Err e) x).refused
  front_refused c d e f (unfinished y l x m k z) =
      let w = walks_by f.front.tag f.handed l (Ok y) x in
      inl (refused_left why e c d f.handed f.left f.after f.front f.hands (no_fewer _ _ f.faults_handed) f.faults_left l w.done w.moves z)

  walk_refused : (c d : Reading) (e : E) → Within c
      → Refuses why any (NothingThere any) (RefusesFront why view post any c e d) c e d → Refuses why any HasNoNext ⊥ c e d
  walk_refused c d e w (refusals.Refuses.failed s a) = refusals.Refuses.failed s a
  walk_refused c d e w (refusals.Refuses.source k s) = refusals.Refuses.source k s
  walk_refused c d e w (refusals.Refuses.nothing n a) =
      refusals.Refuses.nothing (no_next c n.usable (no_value_of_nothing c w n) (end_of_nothing c n)) a
  walk_refused c d e w (refusals.Refuses.otherwise f) = elim (front_refused c d e f f.refuses) [
    | inl s ↦ refusals.Refuses.source s.0 s.1
    | inr n ↦ refusals.Refuses.nothing (no_next c f.usable n.0 (header_not_at_end c f.after w f.usable f.front))
        (behind_header any c (why e) n.1 f.after f.front)
  ]

  pub refuses_walk : {U : Type 0} (c d : Reading) (r : Result U E) → Within c
      → IfErr r (λ e. Refuses why any (NothingThere any) (RefusesFront why view post any c e d) c e d)
      → IfErr r (λ e. Refuses why any HasNoNext ⊥ c e d)
  refuses_walk c d (Ok x) w h = tt
  refuses_walk c d (Err e) w h = walk_refused c d e w h

  -- ---- taken

  unmarked_inside : (c d : Reading) (x : T) (v : TakesValue view post any c x d) → v.left.marked ≡ false
  unmarked_inside c d x v = v.answers.marked ∙ (walks_by v.front.tag v.handed v.answers.left (Ok x) v.answers.answered).marked ∙ v.hands.marked

  takes_value : (c d : Reading) (x : T) → TakesValue view post any c x d → PassesValue c d
  takes_value c d x v =
      let e : IsEncoding c.mode v.tree (v.front.octets ++ v.passed) =
      subst (λ b. IsEncoding (label c.mode b) v.tree (v.front.octets ++ v.passed)) (unmarked_inside c d x v) v.encodes in
      let r : c.stream.rest ≡ (v.front.octets ++ v.passed) ++ d.stream.rest = v.front.rest ∙ sym (append_assoc v.front.octets v.passed d.stream.rest) in
      record {
        tree = v.tree;
        value = v.front.octets ++ v.passed;
        has = record { usable = v.usable; encodes = e; rest = r };
        only = subst (λ z. IsOnly c.mode v.tree (v.front.octets ++ v.passed) z) (sym r)
            (only_at_front c.mode v.tree (v.front.octets ++ v.passed) d.stream.rest e);
        stays = v.stays;
      }

  pub walks_one : (c d : Reading) (r : Result (Option T) E) → IfOk r (λ o. IfSome o (λ x. TakesValue view post any c x d))
      → IfOk r (λ o. IfSome o (λ _. PassesValue c d))
  walks_one c d (Ok None) h = tt
  walks_one c d (Ok (Some x)) h = takes_value c d x h
  walks_one c d (Err e) h = tt

-- ---- what a call answered

pub value_there : {T : Type 0} (N P : Type 0) (o : Option T) → true ≡ is_some o → MatchOption o N (λ _. P) → P
value_there N P None e h = (let x : true ≡ false = e in cc)
value_there N P (Some x) e h = h

pub none_there : {T : Type 0} (N P : Type 0) (o : Option T) → false ≡ is_some o → MatchOption o N (λ _. P) → N
none_there N P None e h = h
none_there N P (Some x) e h = (let y : false ≡ true = e in cc)

pub some_value : {T : Type 0} (P : Type 0) (o : Option T) → true ≡ is_some o → IfSome o (λ _. P) → P
some_value P None e h = (let x : true ≡ false = e in cc)
some_value P (Some x) e h = h

pub none_value : {T : Type 0} (P : Type 0) (o : Option T) → false ≡ is_some o → IfNone o P → P
none_value P None e h = h
none_value P (Some x) e h = (let y : false ≡ true = e in cc)

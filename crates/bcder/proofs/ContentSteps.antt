-- Steps over content that runs no closure, as a closure's steps are said.
use Rattle.std.proofs.Common.{◌≡◌, ℕ, ◌+◌, ◌-◌, ◌<◌, ◌≤◌, Bool, true, false, length, take, drop, refl, ap, sym}
use Rattle.std.proofs.Common.{◌∙◌, arith, append-nil, subst, inl, inr, length-append}
use Rattle.std.proofs.lemmas.Grind.{common_steps}
use Rattle.std.specs.Borrow.{GName, MutBor}
use Rattle.std.specs.Prelude.{Option, Some, None, Result, Ok, Err, ◌⊎◌, ◌||◌, IfOk, IfErr, OnOk, OnErr}
use Rattle.bcder.specs.declared.mode.Mode.{Mode}
use Rattle.bcder.specs.declared.length.Length.TheVariants.{Definite}
use Rattle.bcder.specs.declared.decode.content.State.TheVariants.{Open}
use Rattle.bcder.specs.declared.decode.error.ContentError.{ContentError}
use Rattle.bcder.specs.calls.Cause.{Cause, of_source, IsOfContent}
use Rattle.bcder.specs.steps.StopCause.{stop_cause, MatchStop}
use Rattle.bcder.specs.declared.decode.stop.Stop.{Stop}
use Rattle.bcder.specs.declared.decode.stop.Stop.TheVariants as stop
use Rattle.bcder.specs.x690.Identifier.{Tag, AreOctets}
use Rattle.bcder.specs.x690.Encoding.{Header}
use Rattle.bcder.specs.calls.Stream.{Stream, IsSound, Grew, past, limited}
use Rattle.bcder.specs.calls.Content.{NothingThere, Reading, ContentForm, Octets, any, Moves, FitsOwed, IsDone}
use Rattle.bcder.specs.steps.Entering.{Enters, Advances}
use Rattle.bcder.specs.calls.Calls.{IsFormOf, Answered, AnswersDone, RefusesContent, by_closure, RefusesFront}
use Rattle.bcder.specs.steps.Inside.{RanOver, TakesContent, popped}
use Rattle.bcder.specs.steps.WalkSteps.{WalksBy, itself, walked}
use Rattle.bcder.specs.laws.Limits.{limited_sound}
use Rattle.bcder.specs.laws.Moved.{untouched_is_moved, moved_keeps_kind}
use Rattle.bcder.proofs.Moving.{moves_still, moves_octets}
use Rattle.bcder.specs.laws.Complete.{header_size}
use Rattle.bcder.proofs.Entering.{Within}
use Rattle.bcder.proofs.WalkSteps.{done_here}
use Rattle.bcder.proofs.WalkCalls.{refuses_walk}
use Rattle.bcder.proofs.Taking.{value_refused}
use Rattle.bcder.specs.calls.Content as refusals
use Rattle.bcder.specs.calls.Content.{Refuses}
use Rattle.bcder.specs.calls.Walking.{HasNoNext, RefusesValues}
use Rattle.bcder.proofs.Inner.{layer_is, layers_eq, takes_definite, encodes_primitive}

-- a borrow of content
held : Reading → MutBor Reading
held i = record { ref_ptr = (0, 0); ghost_name = i.name; now = i }

module _ {T E : Type 0} (why : E → Cause ContentError) where
  answered : (t : Tag) (i j : Reading) (r : Result T E) → WalksBy why i r j → Answered {R = Result T E} itself (walked why t) i r j
  unfolding held
  answered t i j r w = record { handed = held i; left = held j; handed_is = refl; left_is = refl; called = w }

  answers_walked : (t : Tag) (i j : Reading) (r : Result T E) (f : ContentForm) → j.kind ≡ f → WalksBy why i r j
      → IfOk r (λ x. AnswersDone {R = Result T E} itself (walked why) t i (Ok x) j)
  answers_walked t i j (Ok x) f k w = record {
    left = j;
    answered = answered t i j (Ok x) w;
    finishes = untouched_is_moved j;
    marked = refl;
    no_fault = refl;
    ends = done_here j f k w.done;
    done = w.done;
  }
  answers_walked t i j (Err e) f k w = tt

  refuses_walked : (t : Tag) (i j : Reading) (r : Result T E) → WalksBy why i r j → IfErr r (λ e. RefusesContent {T = T} why itself (walked why) t i e j)
  refuses_walked t i j (Ok x) w = tt
  refuses_walked t i j (Err e) w = by_closure (answered t i j (Err e) w)

  -- content over a source was walked
  pub ran_walked : (i j : Reading) (r : Result T E) → WalksBy why i r j → (s s' : Stream) (o o' : Option ℕ) (f : ContentForm) (m : Mode) (t : Tag)
      → i.stream ≡ s → i.owed ≡ o → i.kind ≡ f → i.state ≡ Open → i.mode ≡ m → i.marked ≡ false → j.stream ≡ s' → j.owed ≡ o' → j.kind ≡ f → j.marked ≡ false
      → RanOver why itself (walked why) s o f m t r false s' o'
  ran_walked i j r w s s' o o' f m t is io ik it im ia js jo jk ja = record {
    handed = i;
    left = j;
    runs = record { stream = is; owed = io; kind = ik; state = it; mode = im; marked = ia; left_stream = js; left_owed = jo; moves = w.moves };
    marks = ja;
    answers = answers_walked t i j r f jk w;
    refuses = refuses_walked t i j r w;
  }

  always : (P : Type 0) (r : Result T E) → P → OnOk r P
  always P (Ok x) p = p
  always P (Err x) p = tt

  pub ran_values : (i j : Reading) (r : Result T E) → Moves i j → j.marked ≡ i.marked → OnOk r (IsDone j) → IfErr r (λ e. RefusesValues why i e j)
      → (s s' : Stream) (o o' : Option ℕ) (f : ContentForm) (m : Mode) (t : Tag) → i.stream ≡ s → i.owed ≡ o → i.kind ≡ f → i.state ≡ Open → i.mode ≡ m
      → i.marked ≡ false → j.stream ≡ s' → j.owed ≡ o' → RanOver why itself (walked why) s o f m t r false s' o'
  ran_values i j r mv mk d h s s' o o' f m t is io ik it im ia js jo = ran_walked i j r
      (record { moves = mv; marked = always _ r mk; done = d; refused = h }) s s' o o' f m t is io ik it im ia js jo (moved_keeps_kind i j mv ∙ ik) (mk ∙ ia)

-- ---- why a step was refused

pub step_refused : {T E : Type 0} (why : E → Cause ContentError) (c d : Reading) (e : E) → Within c
    → Refuses why any (NothingThere any) (RefusesFront why itself (walked {T = T} why) any c e d) c e d
    → Refuses why any HasNoNext ⊥ c e d
step_refused {T} {E} why c d e w h = (let r : Result T E = Err e in refuses_walk why itself (walked {T = T} why) (λ t p r q x. x) c d r w h)

pub next_refused : {E : Type 0} (why : E → Cause ContentError) (c d : Reading) (e : E) → Within c → Refuses why any (NothingThere any) ⊥ c e d
    → Refuses why any HasNoNext ⊥ c e d
next_refused why c d e w h = step_refused {T = ℕ} why c d e w (value_refused why itself (walked {T = ℕ} why) any c e d h)

pub entered_shorter : (c : Reading) (h : Header) (d : Reading) → Enters c h d → length d.stream.rest + 2 ≤ length c.stream.rest
entered_shorter c h d x =
    (let z : 2 ≤ length x.octets = header_size c.mode h.tag h.form h.len x.octets x.is_header in
    omega (arith, z, ap length x.advances.rest, length-append x.octets d.stream.rest))

pub stop_reason : {S : Type 0} (A B : Type 0) (e : Stop S) → MatchStop e A B → (stop_cause e ≡ of_source) × A ⊎ B × IsOfContent (stop_cause e)
stop_reason A B (stop.Source x) a = inl (refl, a)
stop_reason A B (stop.Violated x) b = inr (b, tt)
stop_reason A B (stop.Refused x) b = inr (b, tt)
stop_reason A B stop.NoMemory none = absurd none

-- ---- the octets of a primitive value, passed at once

module _ (m : Mode) (name : GName) where
  pub inside : Stream → Option ℕ → Reading
  inside s o = record { stream = limited o s; owed = o; kind = Octets; state = Open; mode = m; marked = false; name = name }

  skipped_advances : (n : ℕ) (s s' : Stream) → n ≤ length s.rest → s'.rest ≡ drop n s.rest → s'.faults ≡ s.faults → s'.kept ≡ s.kept
      → Advances (inside s (Some n)) (inside s' (Some 0)) (take n s.rest)
  unfolding inside
  skipped_advances n s s' l r f k = record {
    rest = sym (append-nil (take n s.rest));
    owed = (let x : n ≡ length (take n s.rest) + 0 = grind (arith, common_steps) in x);
    kept = layers_eq (past (Some 0) s'.rest) (past (Some n) s.rest) s'.kept s.kept
        (layer_is _ _ _ _ r (let x : 0 - length s'.rest + 1 ≡ n - length s.rest + 1 = omega arith in x)) k;
    faults = omega (arith, f);
    kind = refl;
    mode = refl;
    name = refl;
  }

  skipped_moves : (n : ℕ) (s s' : Stream) → n ≤ length s.rest → s'.rest ≡ drop n s.rest → s'.faults ≡ s.faults → s'.kept ≡ s.kept
      → Moves (inside s (Some n)) (inside s' (Some 0))
  unfolding inside
  skipped_moves n s s' l r f k = moves_octets (inside s (Some n)) (inside s' (Some 0)) (take n s.rest) (skipped_advances n s s' l r f k) refl refl refl refl

  asked_again : (n : ℕ) (s s' : Stream) → s'.rest ≡ s.rest → s.faults ≤ s'.faults → s'.kept ≡ s.kept → Moves (inside s (Some n)) (inside s' (Some n))
  unfolding inside
  asked_again n s s' r f k = moves_still (inside s (Some n)) (inside s' (Some n)) (ap (take n) r)
      (layers_eq (past (Some n) s'.rest) (past (Some n) s.rest) s'.kept s.kept (ap (past (Some n)) r) k) f refl refl (λ _. refl) refl refl (λ x. x)

  module _ {T E : Type 0} (why : E → Cause ContentError) where
    pub walks_skipped : (x : T) (n : ℕ) (s s' : Stream) → n ≤ length s.rest → s'.rest ≡ drop n s.rest → s'.faults ≡ s.faults → s'.kept ≡ s.kept
        → WalksBy why (inside s (Some n)) (Ok x) (inside s' (Some 0))
    unfolding inside
    walks_skipped x n s s' l r f k = record { moves = skipped_moves n s s' l r f k; marked = refl; done = inr (refl, refl); refused = tt }

    -- they were too few, or the source failed
    pub walks_stopped : (e : E) (n : ℕ) (s s' : Stream) → s'.rest ≡ s.rest → s.faults ≤ s'.faults → s'.kept ≡ s.kept → (why e ≡ of_source)
        × Grew s.faults s'.faults ⊎ (length s.rest < n) × IsOfContent (why e) → WalksBy why {T = T} (inside s (Some n)) (Err e) (inside s' (Some n))
    unfolding inside
    walks_stopped e n s s' r f k (inl g) = record { moves = asked_again n s s' r f k; marked = tt; done = tt; refused = refusals.Refuses.source g.0 g.1 }
    walks_stopped e n s s' r f k (inr h) = record {
      moves = asked_again n s s' r f k;
      marked = tt;
      done = tt;
      refused = refusals.Refuses.otherwise (
        refl,
        (λ q z. let w : length s.rest < n = h.0 in let y : length (take n s.rest) ≤ length s.rest = grind (arith, common_steps) in
            let v : n ≡ q = (let u : ◌≡◌ {A = Option ℕ} (Some n) (Some q) = z in cc) in omega arith),
        h.1,
      );
    }

pub or_none : (a b : Bool) → b ≡ a → b ≡ (a || false)
or_none true b e = e
or_none false b e = e

popped_back : (o : Option ℕ) (n : ℕ) → FitsOwed (Definite n) o → popped o n (Some n) ≡ o
popped_back None n f = refl
popped_back (Some l) n f = ap Some (let x : l - (n - n) ≡ l = omega arith in x)

module _ {T E : Type 0} (why : E → Cause ContentError) (c d : Reading) (h : Header) (n : ℕ) (s s' : Stream) (o : Option ℕ) (hn : h.len ≡ Definite n)
    (g : h.form ≡ false) (fits : FitsOwed (Definite n) o) (so : IsSound s) (cs : c.stream ≡ limited o s) (co : c.owed ≡ o)
    (k : d.kind ≡ c.kind) (md : d.mode ≡ c.mode) (nm : d.name ≡ c.name) (st : d.state ≡ c.state) (mk : d.marked ≡ c.marked) where
  takes_inside : (r : Result T E) (l : ℕ) → d.stream ≡ limited (popped o n (Some l)) s' → d.owed ≡ popped o n (Some l)
      → WalksBy why (inside c.mode c.name s (Some n)) r (inside c.mode c.name s' (Some l)) → TakesContent why itself (walked why) c h r d
  unfolding inside
  takes_inside r l ds do' w =
      let q = ran_walked why (inside c.mode c.name s (Some n)) (inside c.mode c.name s' (Some l)) r w (limited (Some n) s) (limited (Some l) s') (Some n)
      (Some l) Octets c.mode h.tag refl refl refl refl refl refl refl refl refl refl in
      takes_definite why itself (walked why) c d h r k md nm st false (or_none c.marked d.marked mk) Octets n s s' o (Some l) hn
      (subst (λ z. IsFormOf z (Definite n) Octets) (sym g) refl) cs co ds do' fits q
      (λ w e mv v. encodes_primitive c.mode h.tag h.form h.len w q.handed q.left e q.runs.state q.runs.mode mv v n hn g q.runs.kind q.runs.owed
      (subst (λ z. AreOctets z.rest) (sym q.runs.stream) ((limited_sound (Some n) s so).octets)))

  pub takes_skipped : (x : T) → d.stream ≡ limited (popped o n (Some 0)) s' → d.owed ≡ popped o n (Some 0) → n ≤ length s.rest → s'.rest ≡ drop n s.rest
      → s'.faults ≡ s.faults → s'.kept ≡ s.kept → TakesContent why itself (walked why) c h (Ok x) d
  takes_skipped x ds do' l r f e = takes_inside (Ok x) 0 ds do' (walks_skipped c.mode c.name why x n s s' l r f e)

  pub stops_skipping : (e : E) → d.stream ≡ limited o s' → d.owed ≡ o → s'.rest ≡ s.rest → s.faults ≤ s'.faults → s'.kept ≡ s.kept
      → (why e ≡ of_source) × Grew s.faults s'.faults ⊎ (length s.rest < n) × IsOfContent (why e) → TakesContent why itself (walked {T = T} why) c h (Err e) d
  stops_skipping e ds do' r f a q =
      let p = popped_back o n fits in
      takes_inside (Err e) n (ds ∙ ap (λ z. limited z s') (sym p)) (do' ∙ sym p) (walks_stopped c.mode c.name why e n s s' r f a q)

  pub skips : (r : Result T E) (q : Option ℕ) → d.stream ≡ limited q s' → d.owed ≡ q → OnOk r (q ≡ popped o n (Some 0)) → OnOk r (n ≤ length s.rest)
      → OnOk r (s'.rest ≡ drop n s.rest) → OnOk r (s'.faults ≡ s.faults)
      → IfErr r (λ e. (why e ≡ of_source) × Grew s.faults s'.faults ⊎ (length s.rest < n) × IsOfContent (why e)) → OnErr r (s'.rest ≡ s.rest) → OnErr r (q ≡ o)
      → s.faults ≤ s'.faults → s'.kept ≡ s.kept → TakesContent why itself (walked why) c h r d
  skips (Ok x) q ds do' a l r f e b z nf k' = takes_skipped x (ds ∙ ap (λ z. limited z s') a) (do' ∙ a) l r f k'
  skips (Err x) q ds do' a l r f e b z nf k' = stops_skipping x (ds ∙ ap (λ y. limited y s') z) (do' ∙ z) b nf k' e

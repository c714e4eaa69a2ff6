-- Content behind another borrow of its source: what was done to it was done to the content itself.
use Rattle.std.proofs.Common.{◌≡◌, ℕ, Bool, List, Option, Some, None, refl, ◌∙◌, subst}
use Rattle.std.specs.Borrow.{GName}
use Rattle.std.specs.Prelude.{Result, Ok, Err}
use Rattle.bcder.specs.declared.mode.Mode.{Mode}
use Rattle.bcder.specs.declared.decode.content.State.{State}
use Rattle.bcder.specs.declared.decode.error.ContentError.{ContentError}
use Rattle.bcder.specs.calls.Cause.{Cause}
use Rattle.bcder.specs.x690.Preorder.{Heading}
use Rattle.bcder.specs.calls.Stream.{Stream}
use Rattle.bcder.specs.calls.Content.{any, Reading, ContentForm, Moves, Whole, EndsBefore}
use Rattle.bcder.specs.calls.Walking.{HasNoNext, PassesValue}
use Rattle.bcder.specs.calls.Calls.{NextBy}
use Rattle.bcder.specs.calls.Walking.{WereCalls, RefusesOne}
use Rattle.bcder.specs.calls.Content as refusals
use Rattle.bcder.specs.calls.Content.{Refuses}
use Rattle.bcder.proofs.Naming.{Alike, ends_alike, front_named}

-- content c, behind a borrow of this name
abbrev pub named : GName → Reading → Reading
named n c = record { stream = c.stream; owed = c.owed; kind = c.kind; state = c.state; mode = c.mode; marked = c.marked; name = n }

module _ (n : GName) where
  whole_named : (m : Mode) (c d : Reading) (p : List ℕ) → Whole m c p d → Whole m (named n c) p (named n d)
  whole_named m c d p w = record { trees = w.trees; values = w.values; close = w.close; split = w.split; encodes = w.encodes; closes = w.closes }

  moves_named : (c d : Reading) → Moves c d → Moves (named n c) (named n d)
  unfolding Moves
  moves_named c d a = record {
    passed = a.passed;
    rest = a.rest;
    owed = a.owed;
    kept = a.kept;
    kind = a.kind;
    mode = a.mode;
    name = refl;
    faults = a.faults;
    ended = a.ended;
    failed = a.failed;
    marked = a.marked;
    ends = a.ends;
    whole = λ x o. whole_named _ c d a.passed (a.whole x o);
  }

  alike_named : (c : Reading) → Alike (named n c) c
  alike_named c = record { rest = refl; owed = refl; kind = refl; state = refl; mode = refl }

  alike_unnamed : (c : Reading) → Alike c (named n c)
  alike_unnamed c = record { rest = refl; owed = refl; kind = refl; state = refl; mode = refl }

  ends_named : (c : Reading) (after : List ℕ) → EndsBefore c after → EndsBefore (named n c) after
  ends_named c after e = ends_alike (named n c) c (alike_named c) after e

  ends_unnamed : (c : Reading) (after : List ℕ) → EndsBefore (named n c) after → EndsBefore c after
  ends_unnamed c after e = ends_alike c (named n c) (alike_unnamed c) after e

  open_named : (c : Reading) → ((after : List ℕ) → EndsBefore c after → ⊥) → (after : List ℕ) → EndsBefore (named n c) after → ⊥
  open_named c o = λ after e. o after (ends_unnamed c after e)

  nothing_named : (c : Reading) → HasNoNext c → HasNoNext (named n c)
  nothing_named c v = record {
    usable = v.usable;
    some = open_named c v.some;
    none = record { none = λ t w after h. v.none.none t w after (record { usable = h.usable; encodes = h.encodes; rest = h.rest }) };
  }

  value_named : (c d : Reading) → PassesValue c d → PassesValue (named n c) (named n d)
  value_named c d p = record {
    tree = p.tree;
    value = p.value;
    has = record { usable = p.has.usable; encodes = p.has.encodes; rest = p.has.rest };
    only = p.only;
    stays = p.stays;
  }

  module _ {E : Type 0} (why : E → Cause ContentError) (c d : Reading) where
    refused_named : {A B : Type 0} → (A → B) → (x : E) → Refuses why any HasNoNext A c x d → Refuses why any HasNoNext B (named n c) x (named n d)
    refused_named o x (refusals.Refuses.failed h i) = refusals.Refuses.failed h i
    refused_named o x (refusals.Refuses.source h g) = refusals.Refuses.source h g
    refused_named o x (refusals.Refuses.nothing v i) = refusals.Refuses.nothing (nothing_named c v) (front_named (named n c) c (alike_named c) (why x) i)
    refused_named o x (refusals.Refuses.otherwise v) = refusals.Refuses.otherwise (o v)

    -- whatever is refused of the content behind the other borrow too
    passed_named : {T : Type 0} (Refuses : Reading → E → Reading → Type 0) → ((x : E) → Refuses c x d → Refuses (named n c) x (named n d))
        → (r : Result (Option T) E) → NextBy any (λ i _ j. PassesValue i j) Refuses c r d
        → NextBy any (λ i _ j. PassesValue i j) Refuses (named n c) r (named n d)
    passed_named Refuses f (Ok None) p = record {
      value = record { missing = (ends_named c d.stream.rest p.value.missing.0, p.value.missing.1); marked = p.marked; no_fault = p.no_fault };
      no_fault = p.no_fault;
      refused = tt;
      mode = p.mode;
      marked = p.marked;
    }
    passed_named Refuses f (Ok (Some x)) p =
        record { value = value_named c d p.value; no_fault = p.no_fault; refused = tt; mode = p.mode; marked = p.marked }
    passed_named Refuses f (Err x) p =
        record { value = tt; no_fault = tt; refused = (p.refused.0, f x p.refused.1); mode = p.mode; marked = p.marked }

    calls_named : (calls : List Heading) → WereCalls c calls d → WereCalls (named n c) calls (named n d)
    calls_named calls w = record {
      some = w.some;
      one = λ t v after h. w.one t v after (record { usable = h.usable; encodes = h.encodes; rest = h.rest });
      stand = w.stand;
      twice = w.twice;
      usable = λ m. ((w.usable m).0, open_named c (w.usable m).1);
    }

    one_named : (y : E) → RefusesOne why c y d → RefusesOne why (named n c) y (named n d)
    one_named y r = refused_named (λ x. (let g = x.1 in
        (x.0, record { calls = g.calls; last = g.last; were = calls_named _ g.were; constructed = g.constructed; deep = g.deep }))) y r

same_fields : (s s' : Stream) → s ≡ s' → (o o' : Option ℕ) → o ≡ o' → (k k' : ContentForm) → k ≡ k' → (t t' : State) → t ≡ t' → (m m' : Mode) → m ≡ m'
    → (b b' : Bool) → b ≡ b' → (n n' : GName) → n ≡ n'
    → ◌≡◌ {A = Reading} (record { stream = s; owed = o; kind = k; state = t; mode = m; marked = b; name = n })
    (record { stream = s'; owed = o'; kind = k'; state = t'; mode = m'; marked = b'; name = n' })
same_fields s s' es o o' eo k k' ek t t' et m m' em b b' eb n n' en = cc

-- content e is what d is, which content c became by a step, behind a borrow of another name
module _ (n : GName) (c d e : Reading) (s : d.stream ≡ e.stream) (o : d.owed ≡ e.owed) (k : c.kind ≡ e.kind) (t : d.state ≡ e.state) (m : c.mode ≡ e.mode)
    (b : c.marked ≡ e.marked) (l : n ≡ e.name) (mv : Moves c d) (md : d.mode ≡ c.mode) (mk : d.marked ≡ c.marked) where
  moved_kind : d.kind ≡ c.kind
  unfolding Moves
  moved_kind = mv.kind

  is_named : named n d ≡ e
  is_named = same_fields d.stream e.stream s d.owed e.owed o d.kind e.kind (moved_kind ∙ k) d.state e.state t d.mode e.mode
      (md ∙ m) d.marked e.marked (mk ∙ b) n e.name l

  pub moves_behind : Moves (named n c) e
  moves_behind = subst (λ z. Moves (named n c) z) is_named (moves_named n c d mv)

  pub passed_behind : {T E : Type 0} (why : E → Cause ContentError) (r : Result (Option T) E)
      → NextBy any (λ i _ j. PassesValue i j) (Refuses why any HasNoNext ⊥) c r d
      → NextBy any (λ i _ j. PassesValue i j) (Refuses why any HasNoNext ⊥) (named n c) r e
  passed_behind why r p =
      subst (λ z. NextBy any (λ i _ j. PassesValue i j) (Refuses why any HasNoNext ⊥) (named n c) r z) is_named
      (passed_named n why c d (Refuses why any HasNoNext ⊥) (refused_named n why c d (λ x. x)) r p)

  pub skipped_behind : {T E : Type 0} (why : E → Cause ContentError) (r : Result (Option T) E)
      → NextBy any (λ i _ j. PassesValue i j) (RefusesOne why) c r d → NextBy any (λ i _ j. PassesValue i j) (RefusesOne why) (named n c) r e
  skipped_behind why r p = subst (λ z. NextBy any (λ i _ j. PassesValue i j) (RefusesOne why) (named n c) r z) is_named
      (passed_named n why c d (RefusesOne why) (one_named n why c d) r p)

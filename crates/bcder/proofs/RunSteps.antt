-- What a run over the values of a value did, step by step.
use Rattle.std.proofs.Common.{◌≡◌, ◌⊎◌, inl, inr, ℕ, zero, suc, ◌+◌, ◌*◌, ◌<◌, ◌≤◌, false, List, [], ◌∷◌, ◌++◌, length, drop, Option}
use Rattle.std.proofs.Common.{Some, None, Result, Ok, Err, IfSome, refl, sym, ap, subst, ◌∙◌, arith, length-append}
use Rattle.std.specs.Prelude.{◌^◌}
use Rattle.std.proofs.lemmas.List.{length-drop}
use Rattle.bcder.specs.declared.decode.content.skip.OpenValues.{OpenValues}
use Rattle.std.proofs.lemmas.Fn.{FoldsTo-push}
use Rattle.bcder.specs.declared.mode.Mode.{Mode}
use Rattle.bcder.specs.declared.length.Length.TheVariants as len
use Rattle.bcder.specs.declared.decode.content.Kind.{Kind}
use Rattle.bcder.specs.declared.decode.content.State.TheVariants.{Open}
use Rattle.bcder.specs.steps.Stacked.{Entry, entries, remain, due, heading, unwound, TopIs, Passes, GoesInto, octets, LeavesInnermost, Counts, PassesCalls}
use Rattle.bcder.specs.steps.Stacked.{IsUnderWay, IsBroken, StaysAt, for_memory, by_failure, too_few, GoneBy, IsCounted, framed, StaysOut, refused, wanted}
use Rattle.bcder.specs.steps.Stacked.{failing, few, VisitedBy, Breaks, by_source, by_content, by_closure, by_memory, RanBy}
use Rattle.bcder.specs.declared.decode.content.skip.Interrupt.{Interrupt}
use Rattle.bcder.specs.declared.decode.content.skip.Interrupt.TheVariants as interrupt
use Rattle.bcder.specs.declared.decode.stop.Stop.{Stop}
use Rattle.bcder.specs.declared.decode.error.ContentError.{ContentError}
use Rattle.bcder.specs.steps.StopCause.{stop_cause, MatchStop}
use Rattle.bcder.specs.calls.Cause.{of_source, IsOfContent}
use Rattle.bcder.specs.steps.Inside.{popped}
use Rattle.bcder.specs.x690.Identifier.{AreOctets}
use Rattle.bcder.specs.x690.Encoding.{IsHeader, Header}
use Rattle.bcder.specs.x690.Tree.{Trees, no_trees, ◌∷ₜ◌, primitive, constructed}
use Rattle.bcder.specs.steps.Growing.{AreOpen}
use Rattle.bcder.specs.x690.Preorder.{Heading, preorder, preorders}
use Rattle.bcder.specs.steps.Reading.{read_contents, read_list}
use Rattle.bcder.specs.calls.Stream.{IsSound, Layer, Stream, Grew, cut, past, limited}
use Rattle.bcder.specs.calls.Content.{NothingThere, Reading, values, any, Falls, FitsOwed, EndsBefore, Moves}
use Rattle.bcder.specs.steps.Entering.{Enters}
use Rattle.bcder.specs.calls.Walking.{Steps, Called}
use Rattle.bcder.specs.steps.Stacked as stacked
use Rattle.bcder.specs.laws.Complete.{header_size}
use Rattle.bcder.specs.laws.Limits.{first_kept}
use Rattle.bcder.proofs.Entering.{Within}
use Rattle.bcder.proofs.Moving.{open_not_failed}
use Rattle.bcder.proofs.ContentSteps.{stop_reason}
use Rattle.bcder.proofs.WalkSteps.{no_value_of_nothing, end_of_nothing, moves_faults}
use Rattle.bcder.proofs.LimitStack.{calls_on, falls_unwound, source_passes, first_gone, first_broken, IsMet, met, met_gone}
use Rattle.bcder.proofs.LimitStack.{met_broken, left, broken, nothing_more, nothing_whole, few_there}
use Rattle.bcder.proofs.Unwinding.{counts_falls, unwound_indefinites}
use Rattle.bcder.specs.steps.WalkSteps.{NoValue}
use Rattle.bcder.specs.calls.Content.{Refuses, failed, source, nothing, otherwise}

-- the closure was called at a header and at headings after it, and these values are open, without a fault
pub record Goes {F : Type 0} (step : Steps F ContentError) (mode : Mode) (h : Header) (s : Stream) (o : Option ℕ) (f : F) (es : List Entry) (g : F) (t : Stream)
    (p : Option ℕ) : Type 0 where
  pub calls : List Heading
  pub called : Called step f (heading h 0 ∷ calls) g
  pub under : IsUnderWay mode h s o calls es t p
  pub no_fault : t.faults ≡ s.faults

-- ---- the content around, as content tells it

module _ (t v : Stream) (p q : Option ℕ) (c d : Reading) (cs : c.stream ≡ limited p t) (co : c.owed ≡ p) (ds : d.stream ≡ limited q v) (do' : d.owed ≡ q) where
  cut_moved : (w : List ℕ) → c.stream.rest ≡ w ++ d.stream.rest → cut p t.rest ≡ w ++ cut q v.rest
  cut_moved w r = ap (λ x. x.rest) (sym cs) ∙ r ∙ ap (λ x. w ++ x.rest) ds

  kept_moved : d.stream.kept ≡ c.stream.kept → ◌≡◌ {A = List Layer} (past q v.rest ∷ v.kept) (past p t.rest ∷ t.kept)
  kept_moved k = ap (λ x. x.kept) (sym ds) ∙ k ∙ ap (λ x. x.kept) cs

  falls_moved : (n : ℕ) → Falls c.owed n d.owed → Falls p n q
  falls_moved n f = subst (λ x. Falls x n q) co (subst (λ x. Falls c.owed n x) do' f)

  pub octets_moved : Within c → AreOctets (cut p t.rest)
  octets_moved w = subst AreOctets (ap (λ x. x.rest) cs) w.octets

  -- what was passed of content was passed of the source
  pub record Passing : Type 0 where
    pub octets : List ℕ
    pub passes : Passes t octets v
    pub falls : Falls p (length octets) q
    pub layer : past q v.rest ≡ past p t.rest

  pub passing : Moves c d → Passing
  unfolding Moves
  passing m = record {
    octets = m.passed;
    passes = source_passes t v p q m.passed (cut_moved m.passed m.rest) (kept_moved m.kept);
    falls = falls_moved (length m.passed) m.owed;
    layer = first_kept (kept_moved m.kept);
  }

  module _ (mode : Mode) (h : Header) (s : Stream) (o : Option ℕ) (calls : List Heading) (es : List Entry) (cm : c.mode ≡ mode) (within : Within c)
      (some : 1 ≤ length es) (u : IsUnderWay mode h s o calls es t p) where
    pub met_entered : (k : Header) → Enters c k d → IsMet mode h s o calls es k v q
    met_entered k e = met mode h s o calls es k t v p q e.octets u some (octets_moved within) (cut_moved e.octets e.advances.rest) (kept_moved e.advances.kept)
        (falls_moved (length e.octets) e.advances.owed) (subst (λ m. IsHeader m k.tag k.form k.len e.octets) cm e.is_header)

pub entered_fits : (c d : Reading) (k : Header) (q : Option ℕ) → d.owed ≡ q → Enters c k d → FitsOwed k.len q
entered_fits c d k q do' e = subst (FitsOwed k.len) do' e.fits

-- the innermost value was left
pub went_out : (mode : Mode) (h : Header) (s : Stream) (o : Option ℕ) (calls : List Heading) (es fs : List Entry) (t v x : Stream) (p q r : Option ℕ)
    (c d : Reading) (k : Kind) (cs : c.stream ≡ limited p t) (co : c.owed ≡ p) (ds : d.stream ≡ limited q v) (do' : d.owed ≡ q)
    → IsUnderWay mode h s o calls es t p → Moves c d → c.kind ≡ values k → TopIs es k → c.state ≡ Open → c.mode ≡ mode → Within c → EndsBefore c d.stream.rest
    → LeavesInnermost es q fs r → x ≡ v → IsUnderWay mode h s o calls fs x r
went_out mode h s o calls es fs t v x p q r c d k cs co ds do' u m ck ti st cm wi e l i =
    let a = passing t v p q c d cs co ds do' m in
    subst (λ z. IsUnderWay mode h s o calls fs z r) (sym i)
    (left mode h s o calls es fs t v p q r a.octets c d k u a.passes a.falls a.layer ck ti st cm co (ap (λ z. z.rest) cs) (ap (λ z. z.rest) ds)
    (octets_moved t v p q c d cs co ds do' wi) e l)

-- ---- a header that was met, and its content

module _ {F X : Type 0} (step : Steps F ContentError) (h : Header) (es : List Entry) (s : Stream) (o : Option ℕ) (f g : F) where
  pub visited_refused : {T : Type 0} (x : ContentError) → step f h.tag h.form (length es) (Err x) g
      → VisitedBy {X = X} step {T = T} h es s o f (Err (interrupt.Closure x)) g es s o
  visited_refused x r =
      record { answered = tt; goes = tt; no_fault = tt; stays = refused x r refl; entries = refl; rest = refl; limit = refl; kept = refl; faults = omega arith }

  module _ (fs : List Entry) (t : Stream) (p : Option ℕ) (called : step f h.tag h.form (length es) (Ok tt) g) where
    pub visited_gone : {T U : Type 0} (x : T) (y : U) → GoneBy {X = X} h es s o (Ok x) fs t p → VisitedBy {X = X} step h es s o f (Ok y) g fs t p
    visited_gone x y z =
        record { answered = called; goes = z.goes; no_fault = z.no_fault; stays = tt; entries = tt; rest = tt; limit = tt; kept = z.kept; faults = z.faults }

    pub visited_stopped : {T U : Type 0} (e : Stop X) → GoneBy {T = T} h es s o (Err e) fs t p
        → VisitedBy step {T = U} h es s o f (Err (interrupt.Stopped e)) g fs t p
    visited_stopped e z = record {
      answered = tt;
      goes = tt;
      no_fault = tt;
      stays = go z.stays;
      entries = z.entries;
      rest = z.rest;
      limit = z.limit;
      kept = z.kept;
      faults = z.faults;
    }
      where
        go : StaysAt h (length es) s e t → StaysOut step h (length es) s f (interrupt.Stopped e) g t
        go (for_memory a l j) = wanted called a l j
        go (by_failure j k) = failing called j k
        go (too_few m a k l j) = few m called a k l j

-- ---- steps of a run

module _ {F : Type 0} (step : Steps F ContentError) (mode : Mode) (h : Header) (s : Stream) (o : Option ℕ) (f : F) where
  abbrev R : F → Heading → F → Type 0
  R p k q = step p k.tag k.constructed k.depth (Ok tt) q

  pub began : {X : Type 0} → (x : Unit {0}) (g : F) (es fs : List Entry) (t : Stream) (p : Option ℕ) → es ≡ [] → FitsOwed h.len o
      → VisitedBy {X = X} step h es s o f (Ok x) g fs t p → Goes step mode h s o f fs g t p
  began x g es fs t p e w v = record {
    calls = [];
    called = FoldsTo-push R f [] f (heading h 0) g refl (subst (λ z. step f h.tag h.form (length z) (Ok tt) g) e v.answered);
    under = first_gone mode h s t o p fs w (subst (λ z. GoesInto h z s o fs t p) e v.goes);
    no_fault = v.no_fault;
  }

  -- a run that left a source left an equal one
  pub left_here : {X : Type 0} → (r : Result (Unit {0}) (Interrupt X)) (g : F) (t t' : Stream) (p p' : Option ℕ) → t' ≡ t → p' ≡ p
      → RanBy step {T = Unit {0}} mode h s o f r g t p → RanBy step {T = Unit {0}} mode h s o f r g t' p'
  left_here r g t t' p p' a b x =
      subst (λ z. RanBy step {T = Unit {0}} mode h s o f r g z p') (sym a) (subst (λ z. RanBy step {T = Unit {0}} mode h s o f r g t z) (sym b) x)

  pub not_begun : {X : Type 0} → (e : Interrupt X) (g : F) (es fs : List Entry) (t : Stream) (p : Option ℕ) → es ≡ []
      → VisitedBy step {T = Unit {0}} h es s o f (Err e) g fs t p → RanBy step {T = Unit {0}} mode h s o f (Err e) g t p
  not_begun e g es fs t p i v = record { whole = tt; no_fault = tt; breaks = go v.stays; faults = v.faults }
    where
      b : IsBroken mode h s o [] t p
      b = first_broken mode h s t o p v.rest v.kept v.limit

      called : step f h.tag h.form (length es) (Ok tt) g → Called step f (heading h 0 ∷ []) g
      called a = FoldsTo-push R f [] f (heading h 0) g refl (subst (λ z. step f h.tag h.form (length z) (Ok tt) g) i a)

      go : StaysOut step h (length es) s f e g t → Breaks step mode h s o f e g t p
      go (refused x a j) = by_closure [] [] (heading h 0) f x refl refl (subst (λ z. step f h.tag h.form (length z) (Err x) g) i a) b j
      go (wanted a j l k) = absurd (omega (arith, ap length i))
      go (failing a j k) = by_source [] (called a) b j k
      go (few m a j k l n) = by_content [] (called a) b (few_there mode es h s o m k l) n

  module _ (es fs : List Entry) (g : F) (t : Stream) (p : Option ℕ) (none : es ≡ []) (called : step f h.tag h.form 0 (Ok tt) g) where
    at_first : step f h.tag h.form (length es) (Ok tt) g
    at_first = subst (λ z. step f h.tag h.form (length z) (Ok tt) g) (sym none) called

    -- the content of the first was gone into, or not
    pub first_went : {X : Type 0} (x : Unit {0}) → FitsOwed h.len o → GoneBy {X = X} h es s o (Ok x) fs t p → Goes step mode h s o f fs g t p
    first_went {X} x w z = began {X = X} x g es fs t p none w (visited_gone {X = X} step h es s o f g fs t p at_first x x z)

    pub first_stopped : {T X : Type 0} (e : Stop X) → GoneBy {T = T} h es s o (Err e) fs t p
        → RanBy step {T = Unit {0}} mode h s o f (Err (interrupt.Stopped e)) g t p
    first_stopped e z = not_begun (interrupt.Stopped e) g es fs t p none (visited_stopped step h es s o f g fs t p at_first e z)

  module _ (es : List Entry) (g : F) (t : Stream) (p : Option ℕ) (w : Goes step mode h s o f es g t p) where
    -- a value inside was gone into
    module _ (k : Header) (v : Stream) (q : Option ℕ) (m : IsMet mode h s o w.calls es k v q) (nf : v.faults ≡ t.faults) (fits : FitsOwed k.len q) where
      pub went_in : {X : Type 0} → (x : Unit {0}) (g' : F) (fs : List Entry) (t' : Stream) (p' : Option ℕ)
          → VisitedBy {X = X} step k es v q g (Ok x) g' fs t' p' → Goes step mode h s o f fs g' t' p'
      went_in x g' fs t' p' z = record {
        calls = w.calls ++ heading k (length es) ∷ [];
        called = FoldsTo-push R f (heading h 0 ∷ w.calls) g (heading k (length es)) g' w.called z.answered;
        under = met_gone mode h s o w.calls es k v q m fs t' p' fits z.goes;
        no_fault = z.no_fault ∙ nf ∙ w.no_fault;
      }

      -- or not, and the limit was given back
      stayed_out_of : {X : Type 0} → (e : Interrupt X) (g' : F) (fs : List Entry) (t' : Stream) (p' r : Option ℕ)
          → VisitedBy step {T = Unit {0}} k es v q g (Err e) g' fs t' p' → r ≡ unwound fs p' → RanBy step {T = Unit {0}} mode h s o f (Err e) g' t' r
      stayed_out_of e g' fs t' p' r z i = record { whole = tt; no_fault = tt; breaks = go z.stays; faults = omega (arith, z.faults, nf, w.no_fault) }
        where
          after_it : List Heading
          after_it = w.calls ++ heading k (length es) ∷ []

          b : IsBroken mode h s o after_it t' r
          b = met_broken mode h s o w.calls es k v q m t' r z.rest z.kept (i ∙ ap (λ y. unwound y p') z.entries ∙ ap (unwound es) z.limit)

          called : step g k.tag k.form (length es) (Ok tt) g' → Called step f (heading h 0 ∷ after_it) g'
          called a = FoldsTo-push R f (heading h 0 ∷ w.calls) g (heading k (length es)) g' w.called a

          grew : Grew v.faults t'.faults → Grew s.faults t'.faults
          grew y = subst (λ n. Grew n t'.faults) (nf ∙ w.no_fault) y

          none : (n : ℕ) → k.len ≡ len.Definite n → length v.rest < n → read_contents (read_list mode) h.tag h.form h.len (cut o s.rest) ≡ None
          none n a l = nothing_whole mode h s o (heading h 0 ∷ w.calls) (due mode es k q v.rest) m.outcome
              (ap (λ y. stacked.next_to mode es y (stacked.lack q v.rest) (past q v.rest).octets) (few_there mode es k v q n a l))

          go : StaysOut step k (length es) v g e g' t' → Breaks step mode h s o f e g' t' r
          go (refused x a j) = by_closure after_it (heading h 0 ∷ w.calls) (heading k (length es)) g x refl w.called a b j
          go (wanted a j l y) = by_memory after_it (heading h 0 ∷ w.calls) (heading k (length es)) refl (called a) j l b y
          go (failing a j y) = by_source after_it (called a) b j (grew y)
          go (few n a j y l c) = by_content after_it (called a) b (none n y l) c

      pub stayed_out : {X : Type 0} → (e : Interrupt X) (g' : F) (fs : List Entry) (t' u' : Stream) (p' r : Option ℕ)
          → VisitedBy step {T = Unit {0}} k es v q g (Err e) g' fs t' p' → u' ≡ t' → r ≡ unwound fs p' → RanBy step {T = Unit {0}} mode h s o f (Err e) g' u' r
      stayed_out e g' fs t' u' p' r z y i = subst (λ x. RanBy step {T = Unit {0}} mode h s o f (Err e) g' x r) (sym y) (stayed_out_of e g' fs t' p' r z i)

    -- the next header was refused, and the limit was given back
    pub went_wrong : {X : Type 0} → (e : Stop X) (v x' : Stream) (q r : Option ℕ) (c d : Reading) (k : Kind) (cs : c.stream ≡ limited p t) (co : c.owed ≡ p)
        (ds : d.stream ≡ limited q v) (do' : d.owed ≡ q) → Moves c d → 1 ≤ length es → c.kind ≡ values k → TopIs es k → c.state ≡ Open → c.mode ≡ mode
        → Within c → Refuses stop_cause any (NothingThere any) ⊥ c e d → x' ≡ v → r ≡ unwound es q
        → RanBy step {T = Unit {0}} mode h s o f (Err (interrupt.Stopped e)) g x' r
    went_wrong e v x' q r c d k cs co ds do' m some ck ti st cm wi x j i =
        subst (λ z. RanBy step {T = Unit {0}} mode h s o f (Err (interrupt.Stopped e)) g z r) (sym j) record {
          whole = tt;
          no_fault = tt;
          breaks = go x;
          faults = (let y : c.stream.faults ≤ d.stream.faults = moves_faults c d m in omega (arith, w.no_fault, ap (λ z. z.faults) cs, ap (λ z. z.faults) ds));
        }
      where
        a : Passing t v p q c d cs co ds do'
        a = passing t v p q c d cs co ds do' m

        b : IsBroken mode h s o w.calls v r
        b = broken mode h s o w.calls es t v p q r a.octets w.under a.passes a.falls i

        grew : Grew c.stream.faults d.stream.faults → Grew s.faults v.faults
        grew y = subst (λ n. Grew n v.faults) (ap (λ z. z.faults) cs ∙ w.no_fault) (subst (λ n. Grew c.stream.faults n) (ap (λ z. z.faults) ds) y)

        remains : (es : List Entry) → 1 ≤ length es → TopIs es k → stacked.AreLimited es p → NoValue c → ((after : List ℕ) → EndsBefore c after → ⊥) → remain mode es p t.rest ≡ None
        remains [] l ti li n j = absurd (omega arith)
        remains (top ∷ fs) l ti li n j = nothing_more mode fs t p c k ck st cm co (ap (λ z. z.rest) cs) (octets_moved t v p q c d cs co ds do' wi) n j top ti li

        go : Refuses stop_cause any (NothingThere any) ⊥ c e d → Breaks step mode h s o f (interrupt.Stopped e) g v r
        go (failed y z) = absurd (open_not_failed c.state st y)
        go (source y z) = by_source w.calls w.called b y (grew z)
        go (nothing n z) = by_content w.calls w.called b (nothing_whole mode h s o (heading h 0 ∷ w.calls) (remain mode es p t.rest) w.under.outcome
            (remains es some ti w.under.limits (no_value_of_nothing c wi n) (end_of_nothing c n))) z.refused
        go (otherwise n) = absurd n

  -- all was passed
  pub went_through : {X : Type 0} → (x : Unit {0}) (es : List Entry) (g : F) (t : Stream) (p : Option ℕ) → es ≡ [] → Goes step mode h s o f es g t p
      → RanBy {X = X} step mode h s o f (Ok x) g t p
  went_through x es g t p e w = record {
    whole = (w.calls, w.called, subst (λ z. IsUnderWay mode h s o w.calls z t p) e w.under);
    no_fault = w.no_fault;
    breaks = tt;
    faults = omega (arith, w.no_fault);
  }

-- the limit around is one, where there was one
pub around_counts : (mode : Mode) (s : Stream) (o : Option ℕ) (calls : List Heading) (t : Stream) (p : Option ℕ) → PassesCalls mode s o calls t p
    → IfSome o (λ n. n < 2 ^ 64) → Counts o p
around_counts mode s o calls t p c l = counts_falls o p (length c.passed) c.falls l

-- ---- the measure

pub passes_shorter : (s : Stream) (w : List ℕ) (t : Stream) → Passes s w t → length t.rest + length w ≡ length s.rest
passes_shorter s w t p = omega (arith, ap length p.rest, length-append w t.rest)

pub goes_shorter : (h : Header) (es fs : List Entry) (s t : Stream) (o p : Option ℕ) → GoesInto h es s o fs t p
    → length t.rest + length fs ≤ length s.rest + length es + 1
goes_shorter h es fs s t o p (octets n a b l e r k i) = omega (arith, ap length e, ap length r, length-drop n s.rest)
goes_shorter h es fs s t o p (stacked.values a e k i) = omega (arith, ap length e, ap (λ x. length x.rest) k)

-- ---- the stack

pub some_entry : (v : OpenValues) → IsCounted v → 0 < v.depth → 1 ≤ length (entries v)
some_entry v c l = omega (arith, c.depth)

-- the values that are open are no more than the calls, and there are two octets for each
open_calls : (k : ℕ) (ts : Trees) (d : ℕ) → AreOpen k ts → k ≤ length (preorders ts d)
open_calls zero ts d h = omega arith
open_calls (suc k) no_trees d h = absurd h
open_calls (suc k) (primitive t contents ∷ₜ no_trees) d h = absurd h
open_calls (suc k) (constructed t ts ∷ₜ no_trees) d h = (let x = open_calls k ts (d + 1) h in omega (arith, x, length-append (preorders ts (d + 1)) []))
open_calls (suc k) (t ∷ₜ (u ∷ₜ us)) d h = (let x = open_calls (suc k) (u ∷ₜ us) d h in omega (arith, x, length-append (preorder t d) (preorders (u ∷ₜ us) d)))

pub few_open : (v : OpenValues) (c : IsCounted v) (mode : Mode) (h : Header) (s t : Stream) (o p : Option ℕ) (calls : List Heading) → IsSound s
    → IsUnderWay mode h s o calls (entries v) t p → v.depth + 1 < 2 ^ 64
few_open v c mode h s t o p calls so u =
    let a : length (entries v) ≤ length (preorders (u.part.tree ∷ₜ no_trees) 0) = open_calls (length (entries v)) (u.part.tree ∷ₜ no_trees) 0 u.part.opened in
    let b : length (preorders (u.part.tree ∷ₜ no_trees) 0) ≡ length (preorder u.part.tree 0) + 0 = length-append (preorder u.part.tree 0) [] in
    let e : length (preorder u.part.tree 0) ≡ 1 + length calls =
    ap length u.part.are ∙ (let x : length (heading h 0 ∷ calls) ≡ 1 + length calls = omega arith in x) in
    let w : 2 * length calls ≤ length u.passes.passed = u.passes.twice in
    let r : length s.rest ≡ length u.passes.passed + length t.rest = ap length u.passes.passes.rest ∙ length-append u.passes.passed t.rest in
    let f : length s.rest < 2 ^ 64 = so.size in
    omega (arith, a, b, e, w, r, f, c.depth)

-- the limit that a visit which halted leaves
pub out_counts : (mode : Mode) (h : Header) (s : Stream) (o : Option ℕ) (calls : List Heading) (es : List Entry) (k : Header) (v : Stream) (q : Option ℕ)
    (fs : List Entry) (p outer : Option ℕ) → IsMet mode h s o calls es k v q → fs ≡ es → p ≡ q → outer ≡ o → IfSome outer (λ n. n < 2 ^ 64)
    → Counts outer (unwound fs p)
out_counts mode h s o calls es k v q fs p outer m e f i r = rw (e, f) (around_counts mode s outer (calls ++ heading k (length es) ∷ []) v (unwound es q)
    (subst (λ z. PassesCalls mode s z (calls ++ heading k (length es) ∷ []) v (unwound es q)) (sym i) m.passes) r)

-- the limit around is told by the values of definite length
pub frames_count : (v : OpenValues) (q outer : Option ℕ) → Counts outer (unwound (entries v) q) → Counts outer (unwound (framed v.frames.now) q)
frames_count v q outer c = subst (Counts outer) (unwound_indefinites v.indefinite (framed v.frames.now) q) c

pub frames_unwound : (v : OpenValues) (q r : Option ℕ) → r ≡ unwound (framed v.frames.now) q → r ≡ unwound (entries v) q
frames_unwound v q r e = e ∙ sym (unwound_indefinites v.indefinite (framed v.frames.now) q)

pub wrong_counts : (mode : Mode) (h : Header) (s : Stream) (o : Option ℕ) (calls : List Heading) (es : List Entry) (t v : Stream) (p q outer : Option ℕ)
    (c d : Reading) (cs : c.stream ≡ limited p t) (co : c.owed ≡ p) (ds : d.stream ≡ limited q v) (do' : d.owed ≡ q) → Moves c d
    → IsUnderWay mode h s o calls es t p → outer ≡ o → IfSome outer (λ n. n < 2 ^ 64) → Counts outer (unwound es q)
wrong_counts mode h s o calls es t v p q outer c d cs co ds do' m u i r =
    let a = passing t v p q c d cs co ds do' m in
    let b = calls_on mode s o calls t v (unwound es p) (unwound es q) a.octets u.passes a.passes (falls_unwound es p q (length a.octets) a.falls) in
    around_counts mode s outer calls v (unwound es q) (subst (λ z. PassesCalls mode s z calls v (unwound es q)) (sym i) b) r

pub entered_shorter : (t v : Stream) (p q : Option ℕ) (c d : Reading) (cs : c.stream ≡ limited p t) (co : c.owed ≡ p) (ds : d.stream ≡ limited q v)
    (do' : d.owed ≡ q) (k : Header) (es fs : List Entry) (t' : Stream) (p' : Option ℕ) → Enters c k d → GoesInto k es v q fs t' p'
    → length t'.rest + length fs < length t.rest + length es
entered_shorter t v p q c d cs co ds do' k es fs t' p' e g =
    let w : Passes t e.octets v =
    source_passes t v p q e.octets (cut_moved t v p q c d cs co ds do' e.octets e.advances.rest) (kept_moved t v p q c d cs co ds do' e.advances.kept) in
    omega (arith, passes_shorter t e.octets v w, goes_shorter k es fs v t' q p' g, header_size c.mode k.tag k.form k.len e.octets e.is_header)

pub left_shorter : (t v : Stream) (p q : Option ℕ) (c d : Reading) (cs : c.stream ≡ limited p t) (co : c.owed ≡ p) (ds : d.stream ≡ limited q v)
    (do' : d.owed ≡ q) → Moves c d → length v.rest ≤ length t.rest
left_shorter t v p q c d cs co ds do' m =
    let a = passing t v p q c d cs co ds do' m in
    omega (arith, passes_shorter t a.octets v a.passes)

-- ---- a primitive value, which needs no stack

module _ {F X : Type 0} (step : Steps F ContentError) (mode : Mode) (h : Header) (s : Stream) (o : Option ℕ) (f : F) (form : h.form ≡ false) where
  pub octets_refused : (x : ContentError) (g : F) → step f h.tag h.form 0 (Err x) g
      → RanBy {X = X} step {T = Unit {0}} mode h s o f (Err (interrupt.Closure x)) g s o
  octets_refused x g r = not_begun step mode h s o f (interrupt.Closure x) g [] [] s o refl (record {
    answered = tt;
    goes = tt;
    no_fault = tt;
    stays = refused x r refl;
    entries = refl;
    rest = refl;
    limit = refl;
    kept = refl;
    faults = omega arith;
  })

  module _ (g : F) (t : Stream) (p : Option ℕ) (n : ℕ) (tells : h.len ≡ len.Definite n) (called : step f h.tag h.form 0 (Ok tt) g) (kept : t.kept ≡ s.kept)
      (least : s.faults ≤ t.faults) where
    pub octets_passed : FitsOwed h.len o → n ≤ length s.rest → t.rest ≡ drop n s.rest → p ≡ popped o n (Some 0) → t.faults ≡ s.faults
        → RanBy {X = X} step {T = Unit {0}} mode h s o f (Ok tt) g t p
    octets_passed fits enough rest limit nf =
        went_through step mode h s o f tt [] g t p refl (began step mode h s o f {X = X} tt g [] [] t p refl fits (record {
          answered = called;
          goes = octets n form tells enough refl rest kept limit;
          no_fault = nf;
          stays = tt;
          entries = tt;
          rest = tt;
          limit = tt;
          kept = kept;
          faults = least;
        }))

    pub octets_stopped : (e : Stop X) → MatchStop e (Grew s.faults t.faults) (length s.rest < n) → t.rest ≡ s.rest → p ≡ o
        → RanBy {X = X} step {T = Unit {0}} mode h s o f (Err (interrupt.Stopped e)) g t p
    octets_stopped e why rest limit = not_begun step mode h s o f (interrupt.Stopped e) g [] [] t p refl (record {
      answered = tt;
      goes = tt;
      no_fault = tt;
      stays = go (stop_reason _ _ e why);
      entries = refl;
      rest = rest;
      limit = limit;
      kept = kept;
      faults = least;
    })
      where
        go : (stop_cause e ≡ of_source) × Grew s.faults t.faults ⊎ (length s.rest < n) × IsOfContent (stop_cause e)
            → StaysOut step h 0 s f (interrupt.Stopped e) g t
        go (inl x) = failing called x.0 x.1
        go (inr x) = few n called form tells x.0 x.1

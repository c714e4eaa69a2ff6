-- What a call that looks ahead for a primitive value says of the content before it looked.
use Rattle.std.proofs.Common.{◌≡◌, ◌⊎◌, ℕ, Bool, true, false, List, Option, Some, None, Ok, Err, ap, sym, ◌∙◌, subst, inl, inr}
use Rattle.std.specs.Prelude.{Result, IsErrAnd}
use Rattle.std.specs.Borrow.{MutBor}
use Rattle.bcder.specs.declared.length.Length.{Length}
use Rattle.bcder.specs.declared.length.Length.TheVariants.{Definite}
use Rattle.bcder.specs.declared.decode.header.Form.TheVariants as form
use Rattle.bcder.specs.declared.decode.header.Header.{Header as CodeHeader}
use Rattle.bcder.specs.declared.decode.content.State.TheVariants.{Open, Ended, Failed}
use Rattle.bcder.specs.declared.decode.error.DecodeError.{DecodeError}
use Rattle.bcder.specs.declared.decode.error.ContentError.{ContentError}
use Rattle.bcder.specs.calls.Cause.{Cause, cause_of, IsOfContent}
use Rattle.bcder.specs.x690.Identifier.{Tag, end_of_contents}
use Rattle.bcder.specs.steps.Peek.{is_constructed, len_of, header_of, octets_header}
use Rattle.bcder.specs.calls.Stream.{Grew}
use Rattle.bcder.specs.calls.Violations.{BeginsOther}
use Rattle.bcder.specs.calls.Content.{NothingThere, Reading, Asked, tagged, HasMarker, Resembles, IsElsewhere, none_left}
use Rattle.bcder.specs.steps.Entering.{Enters}
use Rattle.bcder.specs.calls.Content.{other, marker, IsAbsent}
use Rattle.bcder.specs.steps.Entering.{EntersOctets, HasForm}
use Rattle.bcder.specs.calls.Calls.{HasNone, TakesNext, by_form}
use Rattle.bcder.proofs.Entering.{looked_enters, header_entered, no_fewer}
use Rattle.bcder.proofs.Stopping.{header_stopped}
use Rattle.bcder.proofs.Taking.{next_refused}
use Rattle.bcder.specs.calls.Content.{Refuses, failed, source, nothing, otherwise}
use Rattle.bcder.proofs.Naming.{nothing_violated, looked_alike, header_alike, named_alike}

alike : (c d : Reading) → Resembles c d → Resembles d c
alike c d s = record {
  rest = sym s.rest;
  kept = sym s.kept;
  owed = sym s.owed;
  kind = sym s.kind;
  state = sym s.state;
  mode = sym s.mode;
  marked = sym s.marked;
  name = sym s.name;
}

elsewhere_alike : (c d : Reading) (s : Resembles c d) (t : Tag) (after : List ℕ) → IsElsewhere t c after → IsElsewhere t d after
elsewhere_alike c d s t after (none_left e f) = none_left (s.rest ∙ e) f
elsewhere_alike c d s t after (other o e) = other (subst (λ z. BeginsOther t z) (sym s.rest) o) (e ∙ sym s.rest)
elsewhere_alike c d s t after (marker e k m) =
    marker e (s.kind ∙ k) (subst (λ z. HasMarker z d.stream.rest after) (sym s.mode) (subst (λ z. HasMarker c.mode z after) (sym s.rest) m))

absent_alike : (c d : Reading) (s : Resembles c d) (t : Tag) (after : List ℕ) → IsAbsent (tagged t) c after → IsAbsent (tagged t) d after
absent_alike c d s t after (inl x) = inl (s.state ∙ x.0, x.1 ∙ sym s.rest)
absent_alike c d s t after (inr x) = inr (s.state ∙ x.0, elsewhere_alike c d s t after x.1)

-- the content was looked at, without a fault, and then a call went on from there
module _ (c d e : Reading) (s : Resembles c d) (f : d.stream.faults ≡ c.stream.faults) (t : Tag) where
  left_alike : (e.state ≡ d.state) × (e.stream.rest ≡ d.stream.rest) ⊎ (t ≡ end_of_contents) × (d.state ≡ Open) × (e.state ≡ Ended)
      → (e.state ≡ c.state) × (e.stream.rest ≡ c.stream.rest) ⊎ (t ≡ end_of_contents) × (c.state ≡ Open) × (e.state ≡ Ended)
  left_alike (inl x) = inl (x.0 ∙ s.state, x.1 ∙ s.rest)
  left_alike (inr x) = inr (x.0, sym s.state ∙ x.1, x.2)

  none_ahead : HasNone (tagged t) d e → HasNone (tagged t) c e
  none_ahead n = record {
    missing = (absent_alike d c (alike c d s) t e.stream.rest n.missing.0, left_alike n.missing.1);
    marked = n.marked ∙ s.marked;
    no_fault = n.no_fault ∙ f;
  }

  refused_ahead : {E : Type 0} (why : E → Cause ContentError) (x : E) → Refuses why (tagged t) (NothingThere (tagged t)) ⊥ d x e
      → Refuses why (tagged t) (NothingThere (tagged t)) ⊥ c x e
  refused_ahead why x (failed h o) = failed (sym s.state ∙ h) o
  refused_ahead why x (source k g) = source k (subst (λ z. Grew z e.stream.faults) f g)
  refused_ahead why x (otherwise n) = absurd n
  refused_ahead why x (nothing n o) = nothing_violated why (tagged t) c e x (record {
    usable = sym s.state ∙ n.usable;
    header = λ after h. n.header after (header_alike d c (looked_alike d c (alike c d s)) (tagged t) after h);
    absent = λ after a. n.absent after (absent_alike c d s t after a);
  }) (named_alike c d (looked_alike c d s) (why x) (o.named n))

  form_ahead : HasForm (Some true) (tagged t) d → HasForm (Some true) (tagged t) c
  unfolding header_alike
  form_ahead x =
      (sym s.state ∙ x.0, x.1, header_alike c d (looked_alike c d s) (tagged t) x.1 x.2, x.3)

  pub ahead : {E : Type 0} (why : E → Cause ContentError) (r : Result (Option ℕ) E) → EntersOctets why t d r e → EntersOctets why t c r e
  ahead why (Ok (Some n)) p = record {
    entered = looked_enters c d s (no_fewer _ _ f) f _ e p.entered;
    none = tt;
    refused = tt;
    failed = tt;
    mode = p.mode ∙ s.mode;
    marked = p.marked ∙ s.marked;
  }
  ahead why (Ok None) p = record { entered = tt; none = none_ahead p.none; refused = tt; failed = tt; mode = p.mode ∙ s.mode; marked = p.marked ∙ s.marked }
  ahead why (Err x) p = record {
    entered = tt;
    none = tt;
    refused = elim p.refused [ inl h ↦ inl (refused_ahead why x h) | inr h ↦ inr (form_ahead h.0, h.1) ];
    failed = p.failed;
    mode = p.mode ∙ s.mode;
    marked = p.marked ∙ s.marked;
  }

-- ---- what a header that was passed is

module _ (c d : Reading) (t : Tag) (h : CodeHeader) (e : h.tag ≡ t) (x : Enters c (header_of h) d) where
  pub primitive_entered : (n : ℕ) → h.form ≡ form.Primitive n → Enters c (header_of (octets_header t n)) d
  primitive_entered n f =
      subst (λ z. Enters c (record { tag = z; form = false; len = Definite n }) d) e
      (subst (λ z. Enters c (record { tag = h.tag; form = is_constructed z; len = len_of z }) d) f x)

  pub constructed_there : (l : Length) → h.form ≡ form.Constructed l → HasForm (Some true) (tagged t) c
  constructed_there l f = (x.usable, d.stream.rest, header_entered c (header_of h) d (tagged t) e x, sym (ap (λ z. Some (is_constructed z)) f))

-- an error is for the cause that a stop has
abbrev IsOfCause : {X : Type 0} → Cause ContentError → DecodeError X → Type 0
IsOfCause s e = cause_of e ≡ s

-- what a take says where no header was passed
module _ {C T X S : Type 0} (view : C → Reading) (post : Tag → MutBor C → Result T (DecodeError X) → MutBor C → Type 0) (c d : Reading)
    (mode : d.mode ≡ c.mode) (t : Tag) where
  pub next_stopped : (stopped : S → Cause ContentError) (s : S) (e : DecodeError X) → IsOfCause (stopped s) e → d.marked ≡ c.marked → d.state ≡ Failed
      → Refuses stopped (tagged t) (NothingThere (tagged t)) ⊥ c s d ⊎ HasForm (Some true) (tagged t) c × IsOfContent (stopped s)
      → TakesNext view post (Some true) (tagged t) c (Err e) d
  next_stopped stopped s e same m f (inl h) =
      next_refused view post (Some true) (tagged t) c d mode e (header_stopped stopped cause_of s e same c d (tagged t) h) m f
  next_stopped stopped s e same m f (inr x) =
      record { value = tt; shorter = tt; none = tt; refused = by_form x.0 (subst IsOfContent (sym same) x.1) m; failed = f; mode = mode }

  -- a result that is an error of this cause refuses the next value
  pub next_stops : (stopped : S → Cause ContentError) (s : S) (r : Result (Option T) (DecodeError X)) → IsErrAnd r (IsOfCause (stopped s)) → d.marked ≡ c.marked
      → d.state ≡ Failed → Refuses stopped (tagged t) (NothingThere (tagged t)) ⊥ c s d ⊎ HasForm (Some true) (tagged t) c × IsOfContent (stopped s)
      → TakesNext view post (Some true) (tagged t) c r d
  next_stops stopped s (Err e) y m f h = next_stopped stopped s e y m f h
  next_stops stopped s (Ok _) y m f h = elim y [ ]

-- a value of any form was refused at its header
module _ {C T X S : Type 0} (view : C → Reading) (post : Tag → MutBor C → Result T (DecodeError X) → MutBor C → Type 0) (form : Option Bool) (asked : Asked)
    (c d : Reading) (mode : d.mode ≡ c.mode) where
  pub next_answered : (stopped : S → Cause ContentError) (s : S) (r : Result (Option T) (DecodeError X)) → IsErrAnd r (IsOfCause (stopped s))
      → d.marked ≡ c.marked → d.state ≡ Failed → Refuses stopped asked (NothingThere asked) ⊥ c s d → TakesNext view post form asked c r d
  next_answered stopped s (Err e) y m f h = next_refused view post form asked c d mode e (header_stopped stopped cause_of s e y c d asked h) m f
  next_answered stopped s (Ok _) y m f h = elim y [ ]

-- A value that is passed in one step.
use Rattle.std.proofs.Common.{◌≡◌, ◌≢◌, ℕ, true, false, List, [], take, Option, Some, None, refl, sym, ◌∙◌, subst, inl, inr}
use Rattle.std.specs.Prelude.{Result, Ok, Err}
use Rattle.bcder.specs.declared.decode.error.ContentError.{ContentError}
use Rattle.bcder.specs.calls.Cause.{Cause}
use Rattle.bcder.specs.calls.Stream.{Grew}
use Rattle.bcder.specs.declared.decode.content.State.TheVariants.{Open}
use Rattle.bcder.specs.declared.mode.Mode.{Mode}
use Rattle.bcder.specs.x690.Encoding.{Header, IsEncoding}
use Rattle.bcder.specs.x690.Tree.{Tree}
use Rattle.bcder.specs.x690.Grammar.{IsOnly}
use Rattle.bcder.specs.calls.Content.{any, Reading, Octets, Moves, Resembles, IsAtEnd, of_octets, of_definite}
use Rattle.bcder.specs.steps.Entering.{Advances}
use Rattle.bcder.specs.calls.Content.{of_indefinite, of_unbounded, EndsBefore}
use Rattle.bcder.specs.calls.Walking.{HasNoNext, PassesValue}
use Rattle.bcder.specs.calls.Calls.{NextBy}
use Rattle.bcder.specs.steps.Reading.{read_identifier, read_header}
use Rattle.bcder.specs.steps.Entering.{GoesOn}
use Rattle.bcder.specs.laws.Complete.{only_at_front}
use Rattle.bcder.specs.laws.Sound.{none_is}
use Rattle.bcder.proofs.Moving.{moves_value, open_not_ended}
use Rattle.bcder.proofs.Headers.{header_no_end, no_marker_unread}
use Rattle.bcder.proofs.Entering.{Within, used_rest}
use Rattle.bcder.specs.calls.Content as refusals
use Rattle.bcder.specs.calls.Content.{Refuses}
use Rattle.bcder.proofs.Naming.{looked_alike, ends_alike, front_named}

-- octets at the front of open content were passed that are the encoding of a value
module _ (c d : Reading) (n : ℕ) (t : Tree) (k : IsEncoding c.mode t (take n c.stream.rest)) (a : Advances c d (take n c.stream.rest)) (s : c.state ≡ Open)
    (e : d.state ≡ Open) where
  pub passes_encoding : PassesValue c d
  passes_encoding = record {
    tree = t;
    value = take n c.stream.rest;
    has = record { usable = s; encodes = k; rest = a.rest };
    only = subst (λ z. IsOnly c.mode t (take n c.stream.rest) z) (sym a.rest) (only_at_front c.mode t (take n c.stream.rest) d.stream.rest k);
    stays = e;
  }

  pub moves_encoding : d.marked ≡ c.marked → Moves c d
  moves_encoding m = moves_value c d (take n c.stream.rest) t false a k (λ x. m ∙ x) (λ x. absurd (let y : false ≡ true = x in cc)) s e

-- a value that was passed of content that was only looked at
pub looked_passes : (c d e : Reading) → Resembles c d → PassesValue d e → PassesValue c e
looked_passes c d e s p = record {
  tree = p.tree;
  value = p.value;
  has = record { usable = sym s.state ∙ p.has.usable; encodes = subst (λ m. IsEncoding m p.tree p.value) s.mode p.has.encodes; rest = sym s.rest ∙ p.has.rest };
  only = subst (λ m. IsOnly m p.tree p.value c.stream.rest) s.mode (subst (λ z. IsOnly d.mode p.tree p.value z) s.rest p.only);
  stays = p.stays;
}

-- ---- content that was only looked at

resembles_sym : (c d : Reading) → Resembles c d → Resembles d c
resembles_sym c d s = record {
  rest = sym s.rest;
  kept = sym s.kept;
  owed = sym s.owed;
  kind = sym s.kind;
  state = sym s.state;
  mode = sym s.mode;
  marked = sym s.marked;
  name = sym s.name;
}

pub looked_ends : (c d : Reading) (after : List ℕ) → Resembles c d → EndsBefore d after → EndsBefore c after
looked_ends c d after s e = ends_alike c d (looked_alike c d s) after e

pub looked_open : (c d : Reading) → Resembles c d → ((after : List ℕ) → EndsBefore d after → ⊥) → (after : List ℕ) → EndsBefore c after → ⊥
looked_open c d s n = λ after e. n after (looked_ends d c after (resembles_sym c d s) e)

looked_nothing : (c d : Reading) → Resembles c d → HasNoNext d → HasNoNext c
looked_nothing c d s n = record {
  usable = sym s.state ∙ n.usable;
  some = looked_open c d s n.some;
  none = record {
    none = λ t w after h. n.none.none t w after
        (record { usable = s.state ∙ h.usable; encodes = subst (λ m. IsEncoding m t w) (sym s.mode) h.encodes; rest = s.rest ∙ h.rest });
  };
}

-- whatever a call refuses that went on from there
module _ {E : Type 0} (c d e : Reading) (s : Resembles c d) (f : d.stream.faults ≡ c.stream.faults) (Refuses : Reading → E → Reading → Type 0)
    (refused : (x : E) → Refuses d x e → Refuses c x e) where
  pub looked_by : {T : Type 0} (r : Result (Option T) E) → NextBy any (λ i _ j. PassesValue i j) Refuses d r e
      → NextBy any (λ i _ j. PassesValue i j) Refuses c r e
  looked_by (Ok None) p = record {
    value = record { missing = (looked_ends c d e.stream.rest s p.value.missing.0, p.value.missing.1); marked = p.marked ∙ s.marked; no_fault = p.no_fault ∙ f };
    no_fault = p.no_fault ∙ f;
    refused = tt;
    mode = p.mode ∙ s.mode;
    marked = p.marked ∙ s.marked;
  }
  looked_by (Ok (Some x)) p = record {
    value = looked_passes c d e s p.value;
    no_fault = p.no_fault ∙ f;
    refused = tt;
    mode = p.mode ∙ s.mode;
    marked = p.marked ∙ s.marked;
  }
  looked_by (Err x) p = record {
    value = tt;
    no_fault = tt;
    refused = (p.refused.0, refused x p.refused.1);
    mode = p.mode ∙ s.mode;
    marked = p.marked ∙ s.marked;
  }

module _ {E : Type 0} (why : E → Cause ContentError) (c d e : Reading) (s : Resembles c d) (f : d.stream.faults ≡ c.stream.faults) where
  pub looked_refused : {A B : Type 0} → (A → B) → (x : E) → Refuses why any HasNoNext A d x e → Refuses why any HasNoNext B c x e
  looked_refused o x (refusals.Refuses.failed h i) = refusals.Refuses.failed (sym s.state ∙ h) i
  looked_refused o x (refusals.Refuses.source h g) = refusals.Refuses.source h (subst (λ z. Grew z e.stream.faults) f g)
  looked_refused o x (refusals.Refuses.nothing n i) = refusals.Refuses.nothing (looked_nothing c d s n) (front_named c d (looked_alike c d s) (why x) i)
  looked_refused o x (refusals.Refuses.otherwise n) = refusals.Refuses.otherwise (o n)

  -- a call that went on from there went on from the content itself
  pub looked_next : {T : Type 0} (r : Result (Option T) E) → NextBy any (λ i _ j. PassesValue i j) (Refuses why any HasNoNext ⊥) d r e
      → NextBy any (λ i _ j. PassesValue i j) (Refuses why any HasNoNext ⊥) c r e
  looked_next r = looked_by c d e s f (Refuses why any HasNoNext ⊥) (looked_refused (λ x. x)) r

-- ---- content that begins with a header

empty_unread : (m : Mode) → read_header m [] ≡ None
unfolding read_header read_identifier
empty_unread m = refl

no_empty_header : (m : Mode) (h : Header) (x : List ℕ) → read_header m [] ≡ Some (h, x) → ⊥
no_empty_header m h x e = none_is _ (sym (empty_unread m) ∙ e)

header_goes_on : (c : Reading) → Within c → c.state ≡ Open → c.kind ≢ Octets → (h : Header) (x : List ℕ)
    → read_header c.mode c.stream.rest ≡ Some (h, x) → (after : List ℕ) → EndsBefore c after → ⊥
header_goes_on c w o k h x r = λ after e. elim e [ inl y ↦ open_not_ended c.state o y | inr y ↦ at_end after y.1 ]
  where
    some : c.stream.rest ≡ [] → ⊥
    some e = no_empty_header c.mode h x (subst (λ z. read_header c.mode z ≡ Some (h, x)) e r)

    at_end : (after : List ℕ) → IsAtEnd c after → ⊥
    at_end after (of_octets q e) = k q
    at_end after (of_definite q e) = some (used_rest c w e)
    at_end after (of_indefinite q m) = no_marker_unread c.mode c.stream.rest after (header_no_end c.mode c.stream.rest h x r) m
    at_end after (of_unbounded q e) = some e

pub looked_goes_on : (c d : Reading) → Resembles c d → d.stream.position ≡ c.stream.position → Within c → c.state ≡ Open → c.kind ≢ Octets
    → (h : Header) (x : List ℕ) → read_header c.mode d.stream.rest ≡ Some (h, x) → GoesOn c d
looked_goes_on c d s p w o k h x r = record {
  usable = o;
  some = header_goes_on c w o k h x (subst (λ z. read_header c.mode z ≡ Some (h, x)) s.rest r);
  same = s;
  position = p;
}

-- Contents octets that a closure was lent, read as what it was told.
use Rattle.std.proofs.Common.{◌≡◌, ℕ, List, sym, subst}
use Rattle.std.specs.Prelude.{Result, Ok, Err}
use Rattle.bcder.specs.declared.decode.error.ContentError.{ContentError}
use Rattle.bcder.specs.declared.decode.error.DecodeError.{DecodeError}
use Rattle.bcder.specs.calls.Cause.{cause_of, of_content, IsOfContent}
use Rattle.bcder.specs.calls.Content.{Reading}
use Rattle.bcder.specs.calls.Readers.{Reads, RefusesReading, MeanNothing}
use Rattle.bcder.specs.calls.Readers as readers

-- octets that are told to mean x
abbrev pub TellOf : {B T : Type 0} → (B → List ℕ) → (B → T → Type 0) → List ℕ → T → Type 0
TellOf now Tells w x = (p : _) × (now p ≡ w) × Tells p x

-- octets that are refused
abbrev pub TellNothing : {B X : Type 0} → (B → List ℕ) → (B → ContentError → Type 0) → List ℕ → DecodeError X → Type 0
TellNothing now Refuses w e = (p : _) × (error : ContentError) × (now p ≡ w) × Refuses p error × (cause_of e ≡ of_content error)

module _ {B T X : Type 0} (now : B → List ℕ) (Tells : B → T → Type 0) (Refuses : B → ContentError → Type 0) (c d : Reading) (Means : List ℕ → T → Type 0)
    (untold : (p : B) (error : ContentError) → Refuses p error → ((x : T) → Means (now p) x → ⊥) × IsOfContent (of_content error)) where
  nothing : (w : List ℕ) (e : DecodeError X) → TellNothing now Refuses w e → MeanNothing Means w e
  nothing w e u = (let n = untold u.0 u.1 u.3 in (subst (λ z. (x : T) → Means z x → ⊥) u.2 n.0, subst IsOfContent (sym u.4) n.1))

  refused : (e : DecodeError X) → RefusesReading (TellNothing now Refuses) c e d → RefusesReading (MeanNothing Means) c e d
  refused e (readers.RefusesReading.source s g) = readers.RefusesReading.source s g
  refused e (readers.RefusesReading.few s a n) = readers.RefusesReading.few s a n
  refused e (readers.RefusesReading.refused h u n) = readers.RefusesReading.refused h (nothing c.stream.rest e u) n

  told_by : ((p : B) (x : T) → Tells p x → Means (now p) x) → (r : Result T (DecodeError X)) → Reads (TellOf now Tells) (TellNothing now Refuses) c r d
      → Reads Means (MeanNothing Means) c r d
  told_by told (Ok x) h = record {
    value = subst (λ w. Means w x) h.value.1 (told h.value.0 x h.value.2);
    all = h.all;
    none_left = h.none_left;
    none_owed = h.none_owed;
    no_fault = h.no_fault;
    refused = tt;
    kept = tt;
    still_owed = tt;
    mode = h.mode;
    marked = h.marked;
  }
  told_by told (Err e) h = record {
    value = tt;
    all = tt;
    none_left = tt;
    none_owed = tt;
    no_fault = tt;
    refused = refused e h.refused;
    kept = h.kept;
    still_owed = h.still_owed;
    mode = h.mode;
    marked = h.marked;
  }

pub told_reads : {B T X : Type 0} (now : B → List ℕ) (Tells : B → T → Type 0) (Refuses : B → ContentError → Type 0) (c d : Reading)
    (r : Result T (DecodeError X)) → Reads (TellOf now Tells) (TellNothing now Refuses) c r d
    → (Means : List ℕ → T → Type 0) → ((p : B) (x : T) → Tells p x → Means (now p) x)
    → ((p : B) (error : ContentError) → Refuses p error → ((x : T) → Means (now p) x → ⊥) × IsOfContent (of_content error)) → Reads Means (MeanNothing Means) c r d
told_reads now Tells Refuses c d r h Means told untold = told_by now Tells Refuses c d Means untold told r h

-- What a step over the header of the next value returns and leaves.
use Rattle.std.specs.Prelude.{◌≡◌, ◌⊎◌, ℕ, Bool, true, List, Option, Some, Result, IfOk, IfErr, IfSome, IfNone, OnOk, OnErr, ◌≢◌, ◌≤◌}
use Rattle.std.specs.Prelude.{[], ◌++◌, length}
use Rattle.bcder.specs.declared.{decode.error.ContentError.ContentError, decode.error.ContentError.TheVariants.Static}
use Rattle.bcder.specs.declared.{decode.violation.Violation.Violation, decode.header.Header.Header as CodeHeader}
use Rattle.bcder.specs.declared.decode.content.State.TheVariants.{Open, Failed, Ended}
use Rattle.bcder.specs.declared.decode.content.Kind.TheVariants as kind
use Rattle.bcder.specs.x690.Identifier.{Tag}
use Rattle.bcder.specs.x690.Encoding.{IsHeader, Header}
use Rattle.bcder.specs.calls.Cause.{Cause, of_content, IsOfContent}
use Rattle.bcder.specs.calls.Content.{EndsBefore, HasHeader, Reading, Asked, tagged, IsAsked, NothingThere, Resembles, Violates, Refuses}
use Rattle.bcder.specs.calls.Content.{Falls, FitsOwed, HasMarker, values}
use Rattle.bcder.specs.calls.Calls.{HasNone}
use Rattle.bcder.specs.calls.Violations.{violation_text}
use Rattle.bcder.specs.steps.Peek.{header_of, octets_header}

-- octets were passed, and neither the kind nor the mode changed
pub record Advances (c d : Reading) (passed : List ℕ) : Type 0 where
  pub rest : c.stream.rest ≡ passed ++ d.stream.rest
  pub owed : Falls c.owed (length passed) d.owed
  pub kept : d.stream.kept ≡ c.stream.kept
  pub faults : c.stream.faults ≤ d.stream.faults
  pub kind : d.kind ≡ c.kind
  pub mode : d.mode ≡ c.mode
  pub name : d.name ≡ c.name

-- the header of a value was passed without a fault of the source, and content is failed until the value is taken
pub record Enters (c : Reading) (h : Header) (d : Reading) : Type 0 where
  pub octets : List ℕ
  pub is_header : IsHeader c.mode h.tag h.form h.len octets
  pub advances : Advances c d octets
  pub no_fault : d.stream.faults ≡ c.stream.faults
  pub unmarked : d.marked ≡ c.marked
  pub usable : c.state ≡ Open
  pub opened : d.state ≡ Failed
  pub fits : FitsOwed h.len d.owed

-- an end marker was taken
pub record TakesMarker (c d : Reading) : Type 0 where
  pub usable : c.state ≡ Open
  pub kind : c.kind ≡ values kind.Indefinite
  pub marker : HasMarker c.mode c.stream.rest d.stream.rest
  pub ended : d.state ≡ Ended

-- the next octets are neither the header of a value nor an end marker
pub record NoFront (c : Reading) : Type 0 where
  pub some : c.stream.rest ≢ []
  pub header : (asked : Asked) (after : List ℕ) → HasHeader asked c after → ⊥
  pub marker : c.kind ≡ values kind.Indefinite → (after : List ℕ) → HasMarker c.mode c.stream.rest after → ⊥

module _ {E : Type 0} (c d : Reading) where
  -- the header of an asked value was passed
  abbrev pub EntersNext : Asked → Result (Option CodeHeader) E → Type 0
  EntersNext asked r = IfOk r (λ o. IfSome o (λ h. IsAsked asked h.tag × Enters c (header_of h) d))

  -- no asked value is there, and content is left so
  abbrev pub FindsNone : Asked → {T : Type 0} → Result (Option T) E → Type 0
  FindsNone asked r = IfOk r (λ o. IfNone o (HasNone asked c d))

  -- why no header was passed
  abbrev pub RefusesNext : (E → Cause ContentError) → Asked → {T : Type 0} → Result T E → Type 0
  RefusesNext why asked r = IfErr r (λ e. Refuses why asked (NothingThere asked) ⊥ c e d)

  -- on Ok, the source met no fault
  abbrev pub MeetsNoFault : {T : Type 0} → Result T E → Type 0
  MeetsNoFault r = OnOk r (d.stream.faults ≡ c.stream.faults)

-- the cause is content, and its text names what the octets violate
abbrev pub NamesViolation : Cause ContentError → Reading → Type 0
NamesViolation why c = (r : Violation) × Violates c r × (why ≡ of_content (Static (violation_text r)))

-- an asked header comes next, of this form
abbrev pub HasForm : Option Bool → Asked → Reading → Type 0
HasForm form asked c = (c.state ≡ Open) × (after : List ℕ) × (h : HasHeader asked c after) × (form ≡ Some h.form)

-- the header of a primitive value of the tag was passed, with n contents octets; or there is none; or it was refused,
-- as that of a constructed value is
pub record EntersOctets {E : Type 0} (why : E → Cause ContentError) (t : Tag) (c : Reading) (r : Result (Option ℕ) E)
    (d : Reading) : Type 0 where
  pub entered : IfOk r (λ o. IfSome o (λ n. Enters c (header_of (octets_header t n)) d))
  pub none : IfOk r (λ o. IfNone o (HasNone (tagged t) c d))
  pub refused : IfErr r (λ e. Refuses why (tagged t) (NothingThere (tagged t)) ⊥ c e d
      ⊎ HasForm (Some true) (tagged t) c × IsOfContent (why e))
  pub failed : OnErr r (d.state ≡ Failed)
  pub mode : d.mode ≡ c.mode
  pub marked : d.marked ≡ c.marked

-- open content is not at its end, and was only looked at
pub record GoesOn (c d : Reading) : Type 0 where
  pub usable : c.state ≡ Open
  pub some : (after : List ℕ) → EndsBefore c after → ⊥
  pub same : Resembles c d
  pub position : d.stream.position ≡ c.stream.position

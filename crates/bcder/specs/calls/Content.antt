-- Content in the view of clauses: octets, numbers and marks, whatever source is below.
use Rattle.std.specs.Prelude.{ℕ, Option, Some, None, ◌≡◌, ◌≢◌, ◌⊎◌, ◌+◌, ◌<◌, ◌≤◌, Bool, true, false, List, [], ◌++◌, length}
use Rattle.std.specs.Borrow.{GName}
use Rattle.bcder.specs.declared.{length.Length.Length, mode.Mode.Mode, mode.Mode.TheVariants.Ber, decode.content.Kind.Kind}
use Rattle.bcder.specs.declared.{decode.content.State.State, decode.error.ContentError.ContentError}
use Rattle.bcder.specs.declared.{decode.error.ContentError.TheVariants.Static, decode.violation.Violation.Violation}
use Rattle.bcder.specs.declared.length.Length.TheVariants.{Definite, Indefinite}
use Rattle.bcder.specs.declared.decode.content.Kind.TheVariants as kind
use Rattle.bcder.specs.declared.decode.content.State.TheVariants.{Open, Ended, Failed}
use Rattle.bcder.specs.declared.decode.violation.Violation.TheVariants as v
use Rattle.bcder.specs.x690.Identifier.{Tag, IsTag, identifier, end_of_contents}
use Rattle.bcder.specs.x690.Length.{IsEndOfContents}
use Rattle.bcder.specs.x690.Tree.{Trees}
use Rattle.bcder.specs.x690.Encoding.{IsHeader, AreEncodings}
use Rattle.bcder.specs.calls.Stream.{Stream, Grew}
use Rattle.bcder.specs.calls.Cause.{Cause, of_content, IsOfContent, of_source}
use Rattle.bcder.specs.calls.Violations.{violation_text, ViolatesFront}

abbrev pub length_of : Option ℕ → Length
length_of (Some n) = Definite n
length_of None = Indefinite

-- the form of content: octets, or values whose end is known in one of three ways
pub data ContentForm : Type 0 where
  Octets : ContentForm
  values : Kind → ContentForm

pub record Reading : Type 0 where
  -- the source, up to the limit of this content
  pub stream : Stream
  -- how many octets are owed up to the nearest limit, if there is one
  pub owed : Option ℕ
  pub kind : ContentForm
  pub state : State
  pub mode : Mode
  -- whether a mode was changed in this content or inside it
  pub marked : Bool
  -- the name of the borrow that the content holds
  pub name : GName

-- ---- how content changes

-- the mode of what was passed: BER if a mode was changed
abbrev pub label : Mode → Bool → Mode
label mode false = mode
label mode true = Ber

-- what is owed falls by the number of octets passed
abbrev pub Falls : Option ℕ → ℕ → Option ℕ → Type 0
Falls (Some m) k (Some n) = m ≡ k + n
Falls None k None = k ≡ k
Falls (Some m) k None = m ≢ m
Falls None k (Some n) = n ≢ n

-- the octets e that end content: none, or the end marker of indefinite content
abbrev pub Closes : Mode → Reading → List ℕ → Reading → Type 0
Closes mode c e d = (e ≡ []) × (d.state ≡ c.state)
    ⊎ IsEndOfContents mode e × (c.kind ≡ values kind.Indefinite) × (c.state ≡ Open) × (d.state ≡ Ended)

-- the octets passed are whole values in the mode, and perhaps the end marker
pub record Whole (mode : Mode) (c : Reading) (passed : List ℕ) (d : Reading) : Type 0 where
  pub trees : Trees
  pub values : List ℕ
  pub close : List ℕ
  pub split : passed ≡ values ++ close
  pub encodes : AreEncodings mode trees values
  pub closes : Closes mode c close d

pub record MovesBy (c d : Reading) : Type 0 where
  pub passed : List ℕ
  pub rest : c.stream.rest ≡ passed ++ d.stream.rest
  pub owed : Falls c.owed (length passed) d.owed
  pub ends : d.state ≡ Ended → (c.state ≡ Ended) ⊎ (c.kind ≡ values kind.Indefinite)
  pub kept : d.stream.kept ≡ c.stream.kept
  pub kind : d.kind ≡ c.kind
  pub mode : d.marked ≡ false → d.mode ≡ c.mode
  pub name : d.name ≡ c.name
  pub faults : c.stream.faults ≤ d.stream.faults
  pub ended : c.state ≡ Ended → (d.state ≡ Ended) × (passed ≡ [])
  pub failed : c.state ≡ Failed → d.state ≡ Failed
  pub marked : c.marked ≡ true → d.marked ≡ true
  pub whole : d.state ≢ Failed → c.kind ≢ Octets → Whole (label c.mode d.marked) c passed d

-- lawful steps lead from content c to content d: the one relation of all content calls and closures
unfoldable pub Moves : Reading → Reading → Type 0
Moves c d = MovesBy c d

-- ---- what comes next

-- whether a value of any tag is asked for, or one of this tag
pub data Asked : Type 0 where
  any : Asked
  tagged : Tag → Asked

abbrev pub IsAsked : Asked → Tag → Type 0
IsAsked any t = t ≡ t
IsAsked (tagged u) t = t ≡ u

-- the length fits into what is owed
abbrev pub FitsOwed : Length → Option ℕ → Type 0
FitsOwed (Definite n) (Some o) = n ≤ o
FitsOwed (Definite n) None = n ≡ n
FitsOwed Indefinite o = o ≡ o

-- the header of an asked value comes next, allowed in the mode, with a length that fits into what is owed
pub record HasHeader (asked : Asked) (c : Reading) (after : List ℕ) : Type 0 where
  pub tag : Tag
  pub form : Bool
  pub len : Length
  pub octets : List ℕ
  pub is_header : IsHeader c.mode tag form len octets
  pub is_asked : IsAsked asked tag
  pub rest : c.stream.rest ≡ octets ++ after
  pub owed : Option ℕ
  pub falls : Falls c.owed (length octets) owed
  pub fits : FitsOwed len owed

-- an end marker comes next
pub record HasMarker (mode : Mode) (w after : List ℕ) : Type 0 where
  pub marker : List ℕ
  pub is_end : IsEndOfContents mode marker
  pub rest : w ≡ marker ++ after

-- ---- the end

-- the octets of open content are used up: none is owed, or, without a limit, none is left
abbrev pub IsUsedUp : ContentForm → Option ℕ → List ℕ → Type 0
IsUsedUp Octets o rest = o ≡ Some 0
IsUsedUp (values kind.Definite) o rest = o ≡ Some 0
IsUsedUp (values kind.Indefinite) o rest = ⊥
IsUsedUp (values kind.Unbounded) o rest = rest ≡ []

-- content is at its end, its marker taken, and has no more octets
abbrev pub IsDone : Reading → Type 0
IsDone c = (c.state ≡ Ended) ⊎ (c.state ≡ Open) × IsUsedUp c.kind c.owed c.stream.rest

-- open content is at its end, and the octets `after` follow
pub data IsAtEnd (c : Reading) (after : List ℕ) : Type 0 where
  of_octets : c.kind ≡ Octets → c.owed ≡ Some 0 → IsAtEnd c after
  of_definite : c.kind ≡ values kind.Definite → c.owed ≡ Some 0 → IsAtEnd c after
  of_indefinite : c.kind ≡ values kind.Indefinite → HasMarker c.mode c.stream.rest after → IsAtEnd c after
  of_unbounded : c.kind ≡ values kind.Unbounded → c.stream.rest ≡ [] → IsAtEnd c after

-- content is at its end, and these octets follow
abbrev pub EndsBefore : Reading → List ℕ → Type 0
EndsBefore c after = (c.state ≡ Ended) ⊎ (c.state ≡ Open) × IsAtEnd c after

-- why the tag t does not come next in open content, and the octets left: no octets come, those of another tag do,
-- or the end marker, if t is its tag
pub data IsElsewhere (t : Tag) (c : Reading) (after : List ℕ) : Type 0 where
  none_left : c.stream.rest ≡ [] → after ≡ [] → IsElsewhere t c after
  other : (u : Tag) × (f : Bool) × (x : List ℕ) × IsTag u × (u ≢ t) × (c.stream.rest ≡ identifier u f ++ x) → after ≡ c.stream.rest
      → IsElsewhere t c after
  marker : t ≡ end_of_contents → c.kind ≡ values kind.Indefinite → HasMarker c.mode c.stream.rest after → IsElsewhere t c after

-- no asked value comes next, and these octets are left
abbrev pub IsAbsent : Asked → Reading → List ℕ → Type 0
IsAbsent any c after = EndsBefore c after
IsAbsent (tagged t) c after = (c.state ≡ Ended) × (after ≡ c.stream.rest) ⊎ (c.state ≡ Open) × IsElsewhere t c after

-- no asked value comes next, and content is usable: at its end; or, for a tag, as it was, or ended by its marker
abbrev pub IsMissing : Asked → Reading → Reading → Type 0
IsMissing any c d = EndsBefore c d.stream.rest × IsDone d
IsMissing (tagged t) c d = IsAbsent (tagged t) c d.stream.rest
    × ((d.state ≡ c.state) × (d.stream.rest ≡ c.stream.rest) ⊎ (t ≡ end_of_contents) × (c.state ≡ Open) × (d.state ≡ Ended))

-- neither an asked value comes next, nor is there a reason to return that there is none
pub record NothingThere (asked : Asked) (c : Reading) : Type 0 where
  pub usable : c.state ≡ Open
  pub header : (after : List ℕ) → HasHeader asked c after → ⊥
  pub absent : (after : List ℕ) → IsAbsent asked c after → ⊥

-- d is the content c, over a source that gives the same octets
pub record Resembles (c d : Reading) : Type 0 where
  pub rest : d.stream.rest ≡ c.stream.rest
  pub kept : d.stream.kept ≡ c.stream.kept
  pub owed : d.owed ≡ c.owed
  pub kind : d.kind ≡ c.kind
  pub state : d.state ≡ c.state
  pub mode : d.mode ≡ c.mode
  pub marked : d.marked ≡ c.marked
  pub name : d.name ≡ c.name

-- ---- what octets violate

-- the octets to come are refused in the content, for the named reason
pub data Violates (c : Reading) (r : Violation) : Type 0 where
  in_front : ViolatesFront c.mode c.stream.rest r → Violates c r
  truncated_contents : r ≡ v.TruncatedContents → c.stream.rest ≡ [] → c.kind ≢ values kind.Unbounded → Violates c r
  -- the header of a value comes next, and promises more octets than are left
  value_too_long : r ≡ v.ValueTooLong → (t : Tag) (form : Bool) (number left : ℕ) (octets after : List ℕ)
      → IsHeader c.mode t form (Definite number) octets → c.stream.rest ≡ octets ++ after → c.owed ≡ Some left
      → left < length octets + number → Violates c r
  stray_end : r ≡ v.StrayEnd → c.kind ≢ values kind.Indefinite → (after : List ℕ) → HasMarker c.mode c.stream.rest after → Violates c r

-- the cause is content; and if no asked value comes next, nor a reason to return none, its text names what the octets violate
pub record NamesFront (asked : Asked) (why : Cause ContentError) (c : Reading) : Type 0 where
  pub refused : IsOfContent why
  pub named : NothingThere asked c → (r : Violation) × Violates c r × (why ≡ of_content (Static (violation_text r)))

-- ---- why a call refuses

-- why e was returned for content c, which is d then: an earlier value was refused, the source failed, c has none of what is
-- asked for, or another reason that the call has; `why` gives the cause of e
pub data Refuses {E : Type 0} (why : E → Cause ContentError) (asked : Asked) (HasNone : Reading → Type 0) (Other : Type 0)
    (c : Reading) (e : E) (d : Reading) : Type 0 where
  failed : c.state ≡ Failed → IsOfContent (why e) → Refuses why asked HasNone Other c e d
  source : why e ≡ of_source → Grew c.stream.faults d.stream.faults → Refuses why asked HasNone Other c e d
  nothing : HasNone c → NamesFront asked (why e) c → Refuses why asked HasNone Other c e d
  otherwise : Other → Refuses why asked HasNone Other c e d

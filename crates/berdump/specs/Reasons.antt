-- Why octets are refused, and where.
use Rattle.std.specs.Prelude.{◌≡◌, ℕ, ◌+◌, ◌<◌, ◌⊎◌, Bool, List, [], ◌++◌, Option, Some, length}
use Rattle.bcder.specs.declared.mode.Mode.{Mode}
use Rattle.bcder.specs.x690.Identifier.{Tag}
use Rattle.bcder.specs.x690.Encoding.{IsHeader}
use Rattle.bcder.specs.calls.Content.{length_of}
use Rattle.bcder.specs.calls.Violations.{BeginsHeader, BeginsEnd}
use Rattle.bcder.specs.calls.Violations.{ViolatesFront}
use Rattle.berdump.specs.declared.list.Reason.{Reason}
use Rattle.berdump.specs.declared.list.Reason.TheVariants as r
use Rattle.berdump.specs.declared.scope.Scope.{Scope}

-- a header comes first, and fewer octets follow it than its value has contents octets
abbrev pub IsCutShort : Mode → List ℕ → Type 0
IsCutShort mode w = (t : Tag) × (form : Bool) × (n : ℕ) × (header rest : List ℕ) × IsHeader mode t form (length_of (Some n)) header
    × (w ≡ header ++ rest) × (length rest < n)

-- no header of a value comes first
abbrev pub BeginsNoHeader : Mode → List ℕ → Type 0
BeginsNoHeader mode w = (t : Tag) (form : Bool) (n : Option ℕ) (h x : List ℕ) → IsHeader mode t form (length_of n) h → w ≡ h ++ x → ⊥

-- what is wrong with octets that should go on with a value
abbrev pub IsReason : Mode → List ℕ → Reason → Type 0
IsReason mode w (r.Header violation) = ViolatesFront mode w violation
IsReason mode w r.Contents = IsCutShort mode w
IsReason mode w r.TooLong = IsCutShort mode w
IsReason mode w r.StrayEnd = BeginsNoHeader mode w × (BeginsHeader mode w ⊎ BeginsEnd mode w)
IsReason mode w r.NoEnd = w ≡ []

-- the octets up to the end of the innermost open value that has a length stand at the offset, and this is wrong with them
pub record IsRefusedAt (scope : Scope) (mode : Mode) (octets : List ℕ) (at : ℕ) (why : Reason) : Type 0 where
  pub before : List ℕ
  pub here : List ℕ
  pub behind : List ℕ
  pub are : octets ≡ before ++ (here ++ behind)
  pub offset : scope.from + length before ≡ at
  pub reason : IsReason mode here why

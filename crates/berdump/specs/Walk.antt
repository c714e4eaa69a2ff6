-- How far a listing is.
use Rattle.std.specs.Prelude.{◌≡◌, ℕ, ◌+◌, ◌-◌, true, List, [], ◌∷◌, ◌++◌, Option, length}
use Rattle.std.specs.Borrow.{Bor}
use Rattle.bcder.specs.declared.mode.Mode.{Mode}
use Rattle.bcder.specs.x690.Identifier.{Tag}
use Rattle.berdump.specs.declared.heading.Heading.{Heading}
use Rattle.berdump.specs.declared.scope.Scope.{Scope}
use Rattle.berdump.specs.declared.list.ListError.{ListError}
use Rattle.berdump.specs.declared.opened.Open.{Open}
use Rattle.berdump.specs.declared.opened.Open.TheVariants.{Definite}
use Rattle.berdump.specs.Listing.{IsList, HoldsNone, Holds, AreListed}
use Rattle.berdump.specs.Opened.{behind_all, Completes, Fits}
use Rattle.berdump.specs.Answers.{AllStand, Written, IsUnlisted}

-- with these values open, and these octets at an offset up to the end of the innermost that has a length
pub record IsAt (scope : Scope) (mode : Mode) (octets : List ℕ) (old new : Option (List ℕ)) (es : List Open) (w : List ℕ)
    (at : ℕ) : Type 0 where
  pub headings : List Heading
  pub written : Written scope headings old new
  pub stand : AllStand scope mode octets headings
  pub goes : (hs : List Heading) → Completes scope mode es w at hs → AreListed scope mode octets scope.from 0 (headings ++ hs)
  pub fits : IsList mode octets → Fits mode es w
  pub passed : List ℕ
  pub offset : scope.from + length passed ≡ at
  pub are : octets ≡ passed ++ (w ++ behind_all es)

-- what a step leaves to do: the octets that aren't passed, and the values that aren't closed
abbrev pub left : List Open → List ℕ → ℕ
left es w = length w + length (behind_all es) + length es

-- a listing that met these headings has met one more, whose value stands at an offset
pub record Follows (scope : Scope) (mode : Mode) (octets : List ℕ) (old new : Option (List ℕ)) (hs : List Heading) (at : ℕ) (es : List Open)
    (w : List ℕ) (end : ℕ) : Type 0 where
  pub next : IsAt scope mode octets old new es w end
  pub heading : Heading
  pub adds : next.headings ≡ hs ++ (heading ∷ [])
  pub offset : heading.offset ≡ at

-- a step goes on from wherever a listing is
abbrev pub Meets : Scope → Mode → List Open → List ℕ → ℕ → Option (List ℕ) → List Open → List ℕ → ℕ → Option (List ℕ) → Type 0
Meets scope mode es w at b fs v behind c = (octets : List ℕ) (a : Option (List ℕ)) (s : IsAt scope mode octets a b es w at)
    → Follows scope mode octets a c s.headings at fs v behind

-- a step ends it with an error
abbrev pub Stops : Scope → Mode → List Open → List ℕ → ℕ → Option (List ℕ) → Option (List ℕ) → ListError → Type 0
Stops scope mode es w at b c e = (octets : List ℕ) (a : Option (List ℕ)) → IsAt scope mode octets a b es w at
    → IsUnlisted scope mode octets a c e

-- contents octets at an offset are passed, or gone into where they are those of a string that holds encodings
pub data PassesContents (scope : Scope) (mode : Mode) (t : Tag) (contents behind : List ℕ) (at : ℕ) (es fs : List Open) (w : List ℕ)
    (end : ℕ) : Type 0 where
  passed : (scope.inside ≡ true → HoldsNone mode t contents) → fs ≡ es → w ≡ behind → end ≡ at + length contents
      → PassesContents scope mode t contents behind at es fs w end
  opened : (b : Bor (List ℕ)) → scope.inside ≡ true → Holds mode t contents w → b.now ≡ behind → fs ≡ Definite b ∷ es
      → end ≡ at + (length contents - length w) → PassesContents scope mode t contents behind at es fs w end

-- What one step of the walk does.
use Rattle.std.specs.Prelude.{◌≡◌, ℕ, ◌+◌, ◌*◌, ◌<◌, Bool, true, false, List, [], ◌∷◌, ◌++◌, length, Some, None, All}
use Rattle.bcder.specs.declared.mode.Mode.{Mode}
use Rattle.bcder.specs.declared.mode.Mode.TheVariants.{Ber}
use Rattle.bcder.specs.x690.Identifier.{AreOctets, Tag}
use Rattle.bcder.specs.x690.Length.{IsEndOfContents}
use Rattle.encodings.specs.Open.{Closes, Open, to_come}
use Rattle.encodings.specs.Pieces.{Piece, value, begins, ends, pieces_left, before_all}
use Rattle.rules.specs.Around.{AreAround, met_meant}
use Rattle.rules.specs.Begun.{BeginsValue}
use Rattle.rules.specs.Broken.{BreaksValue, Holds}
use Rattle.rules.specs.Comes.{Comes}
use Rattle.rules.specs.Means.{AreRight, IsMeantAlone, IsPieceMeant}
use Rattle.rules.specs.Placed.{ArePlaced, open_behind}
use Rattle.rules.specs.declared.around.Enclosing.{Enclosing}
use Rattle.rules.specs.declared.around.Met.{Met}
use Rattle.rules.specs.declared.around.Met.TheVariants as m
use Rattle.rules.specs.declared.rule.Breach.{Breach}
use Rattle.rules.specs.declared.rule.Rule.{Rule}

-- ---- where the walk goes

-- end-of-contents octets come first, and then these octets
abbrev pub EndsBefore : List ℕ → List ℕ → Type 0
EndsBefore x y = (end : List ℕ) × IsEndOfContents Ber end × (x ≡ end ++ y)

-- the walk goes on from the octets x inside the open values os to the octets y inside ps
pub record GoesTo (os : List Open) (x : List ℕ) (at : ℕ) (ps : List Open) (y : List ℕ) (then : ℕ) : Type 0 where
  pub comes : (octets : List ℕ) → Comes octets os x at → Comes octets ps y then
  pub count : then + length (to_come ps y) ≡ at + length (to_come os x)
  pub smaller : length (to_come ps y) * 2 + length ps < length (to_come os x) * 2 + length os

-- the header of a value was passed, and the contents too, if it is primitive
abbrev pub Enters : Bool → ℕ → List ℕ → Open → ℕ → List Open → List Open → List ℕ → ℕ → Type 0
Enters false size c behind at os ps y then = (ps ≡ os) × (behind ≡ Some y) × (then ≡ at + size + length c)
Enters true size c behind at os ps y then = (ps ≡ behind ∷ os) × (y ≡ c) × (then ≡ at + size)

-- ---- what is told

-- breaches were added that hold, if a walk got here
pub record Adds (mode : Mode) (os : List Open) (x : List ℕ) (at : ℕ) (old new : List Breach) : Type 0 where
  pub more : List Breach
  pub is : new ≡ old ++ more
  pub hold : (octets : List ℕ) → Comes octets os x at → All (Holds mode octets) more

-- what a value without those inside it breaks was told, if contents octets count
pub data Looks (mode : Mode) (contents : Bool) (t : Tag) (form : Bool) (size : ℕ) (c : List ℕ) (at : ℕ)
    (old new : List Breach) : Type 0 where
  nothing : new ≡ old → (contents ≡ true → IsMeantAlone mode t form c) → Looks mode contents t form size c at old new
  told : (rule : Rule) (place : ℕ) → new ≡ old ++ record { at = at + place; rule = rule } ∷ [] → contents ≡ true
      → BreaksValue mode t form size c rule place → (IsMeantAlone mode t form c → ⊥) → Looks mode contents t form size c at old new

-- a step of the walk, and what was told of it
pub record Onward (mode : Mode) (os : List Open) (x : List ℕ) (at : ℕ) (old : List Breach) (ps : List Open) (y : List ℕ) (then : ℕ)
    (new : List Breach) : Type 0 where
  pub goes : GoesTo os x at ps y then
  pub adds : Adds mode os x at old new

-- a step of the walk into a value, which was looked at
pub record PassesValue (mode : Mode) (contents : Bool) (t : Tag) (form : Bool) (size : ℕ) (c : List ℕ) (behind : Open) (os : List Open)
    (x : List ℕ) (at : ℕ) (old : List Breach) (ps : List Open) (y : List ℕ) (then : ℕ) (new : List Breach) : Type 0 where
  pub onward : Onward mode os x at old ps y then new
  pub enters : Enters form size c behind at os ps y then
  pub looks : Looks mode contents t form size c at old new

-- a step of the walk that told something
pub record PassesBroken (mode : Mode) (os : List Open) (x : List ℕ) (at : ℕ) (old : List Breach) (ps : List Open) (y : List ℕ) (then : ℕ)
    (new : List Breach) : Type 0 where
  pub onward : Onward mode os x at old ps y then new
  pub told : length old < length new

-- ---- whether it is right

-- a piece breaks no rule of contents octets, if these count
abbrev pub IsKept : Mode → Bool → Piece → Type 0
IsKept mode contents p = contents ≡ true → IsPieceMeant mode p

-- a piece was passed, from the octets x inside the open values os to y inside ps, and what is told of it
pub data IsMet (mode : Mode) (os : List Open) (x : List ℕ) (at : ℕ) (ps : List Open) (y : List ℕ) (then : ℕ) (p : Piece) (met : Met)
    (contents : List ℕ) : Type 0 where
  of_value : (t : Tag) (size : ℕ) (c : List ℕ) → p ≡ value t c → met ≡ met_meant t false c → BeginsValue mode x t false size c (Some y)
      → AreOctets c → contents ≡ c → ps ≡ os → then ≡ at + size + length c → IsMet mode os x at ps y then p met contents
  of_beginning : (t : Tag) (size : ℕ) (o : Open) → p ≡ begins t → met ≡ met_meant t true y → BeginsValue mode x t true size y o
      → ps ≡ o ∷ os
      → then ≡ at + size → IsMet mode os x at ps y then p met contents
  of_end : (o : Open) (n : ℕ) → p ≡ ends → met ≡ m.End → Closes mode o x y n → os ≡ o ∷ ps → then ≡ at + n
      → IsMet mode os x at ps y then p met contents

-- a piece breaks no rule of contents octets, and nothing was added; or it does, and something was
pub data IsJudged (mode : Mode) (contents : Bool) (p : Piece) (old new : List Breach) : Type 0 where
  kept : new ≡ old → IsKept mode contents p → IsJudged mode contents p old new
  broken : length old < length new → (IsKept mode contents p → ⊥) → IsJudged mode contents p old new

-- the next piece was passed; or the octets to come aren't the rest of values, and something was added
pub data Judges (mode : Mode) (contents : Bool) (os : List Open) (x : List ℕ) (at : ℕ) (ps : List Open) (y : List ℕ) (then : ℕ)
    (old new : List Breach) (met : Met) (octets : List ℕ) : Type 0 where
  passes : (p : Piece) → IsMet mode os x at ps y then p met octets → pieces_left mode os x ≡ before_all (p ∷ []) (pieces_left mode ps y)
      → IsJudged mode contents p old new → Judges mode contents os x at ps y then old new met octets
  loses : met ≡ m.Lost → length old < length new → pieces_left mode os x ≡ None → Judges mode contents os x at ps y then old new met octets

-- one step of the walk
pub record Passes (mode : Mode) (contents : Bool) (os : List Open) (x : List ℕ) (at : ℕ) (old : List Breach) (ps : List Open) (y : List ℕ)
    (then : ℕ) (new : List Breach) (met : Met) (octets : List ℕ) : Type 0 where
  pub onward : Onward mode os x at old ps y then new
  pub judges : Judges mode contents os x at ps y then old new met octets

-- ---- the whole walk

-- the pieces that were passed break no rule, and nothing was told; or something was told, and not without reason
pub data IsVerdict (mode : Mode) (contents : Bool) (octets : List ℕ) (passed : List Piece) (found : List Breach) : Type 0 where
  right : found ≡ [] → All (IsKept mode contents) passed → (contents ≡ true → ArePlaced mode [] passed)
      → IsVerdict mode contents octets passed found
  wrong : 0 < length found → (AreRight mode contents octets → ⊥) → IsVerdict mode contents octets passed found

-- pieces were passed, and the values around what comes are known; or a rule of headers or of ends is broken
pub data IsFollowed (mode : Mode) (contents : Bool) (octets : List ℕ) (os : List Open) (es : List Enclosing) (text : List ℕ)
    (whole : Bool) (x : List ℕ)
    (at : ℕ) (found : List Breach) : Type 0 where
  so_far : whole ≡ true → (passed : List Piece) → pieces_left mode [] octets ≡ before_all passed (pieces_left mode os x)
      → AreAround mode octets es text (open_behind [] passed) os x at → IsVerdict mode contents octets passed found
      → IsFollowed mode contents octets os es text whole x at found
  no_values : whole ≡ false → 0 < length found → (AreRight mode contents octets → ⊥)
      → IsFollowed mode contents octets os es text whole x at found

pub record InWalk (mode : Mode) (contents : Bool) (octets : List ℕ) (os : List Open) (es : List Enclosing) (text : List ℕ) (whole : Bool)
    (x : List ℕ) (at : ℕ)
    (found : List Breach) : Type 0 where
  pub comes : Comes octets os x at
  pub hold : All (Holds mode octets) found
  pub count : at + length (to_come os x) ≡ length octets
  pub followed : IsFollowed mode contents octets os es text whole x at found

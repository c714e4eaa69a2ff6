-- The open values while octets are listed, the innermost first, and what is still to be listed.
use Rattle.std.specs.Prelude.{◌≡◌, ◌≢◌, ℕ, ◌+◌, List, [], ◌∷◌, ◌++◌, length}
use Rattle.bcder.specs.declared.mode.Mode.{Mode}
use Rattle.bcder.specs.x690.Tree.{Trees}
use Rattle.bcder.specs.x690.Length.{IsEndOfContents}
use Rattle.bcder.specs.x690.Encoding.{AreEncodings}
use Rattle.berdump.specs.declared.heading.Heading.{Heading}
use Rattle.berdump.specs.declared.scope.Scope.{Scope}
use Rattle.berdump.specs.declared.opened.Open.{Open}
use Rattle.berdump.specs.declared.opened.Open.TheVariants.{Definite, Indefinite}
use Rattle.berdump.specs.Listing.{AreListed, IsList}

-- the octets behind the values that are open
abbrev pub behind_all : List Open → List ℕ
behind_all [] = []
behind_all (Definite behind ∷ es) = behind.now ++ behind_all es
behind_all (Indefinite ∷ es) = behind_all es

-- the octets at an offset end all open values, and hs are the headings that are met up to there
abbrev pub Completes : Scope → Mode → List Open → List ℕ → ℕ → List Heading → Type 0
Completes scope mode [] w at hs = AreListed scope mode w at 0 hs
Completes scope mode (Definite behind ∷ es) w at hs =
    (inside more : List Heading) × AreListed scope mode w at (length es + 1) inside
    × Completes scope mode es behind.now (at + length w) more
    × (hs ≡ inside ++ more)
Completes scope mode (Indefinite ∷ es) w at hs =
    (contents end others : List ℕ) × (inside more : List Heading) × AreListed scope mode contents at (length es + 1) inside
    × IsEndOfContents mode end × Completes scope mode es others (at + (length contents + length end)) more
    × (w ≡ contents ++ (end ++ others)) × (hs ≡ inside ++ more)

-- what completes the one state completes the other
abbrev pub Goes : Scope → Mode → List Open → List ℕ → ℕ → List Open → List ℕ → ℕ → Type 0
Goes scope mode es w at fs v behind = (hs : List Heading) → Completes scope mode fs v behind hs → Completes scope mode es w at hs

-- the octets may end all open values, whatever the headings
abbrev pub Fits : Mode → List Open → List ℕ → Type 0
Fits mode [] w = IsList mode w
Fits mode (Definite behind ∷ es) w = IsList mode w × Fits mode es behind.now
Fits mode (Indefinite ∷ es) w = (ts : Trees) × (contents end others : List ℕ) × AreEncodings mode ts contents × IsEndOfContents mode end
    × (w ≡ contents ++ (end ++ others)) × Fits mode es others

-- the innermost open value doesn't end here
abbrev pub GoesOn : Mode → List Open → List ℕ → Type 0
GoesOn mode [] w = Unit {0}
GoesOn mode (Definite behind ∷ es) w = w ≢ []
GoesOn mode (Indefinite ∷ es) w = (end others : List ℕ) → IsEndOfContents mode end → w ≡ end ++ others → ⊥

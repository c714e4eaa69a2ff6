-- Octets of identifiers that are made from text.
use Rattle.std.specs.Prelude.{◌≡◌, ◌≢◌, ◌⊎◌, ℕ, ◌<◌, ◌≤◌, List, [], ◌∷◌, ◌++◌, length, slice_index, Option, Some, None}
use Rattle.std.specs.Borrow.{Bor}
use Rattle.bcder.specs.x690.ObjectIdentifier.{subidentifier_number, IsSubidentifier, AreSubidentifiers}
use Rattle.bcder.specs.declared.oid.text.OidError.{OidError}
use Rattle.bcder.specs.declared.oid.text.OidError.TheVariants.{NotInteger, NoMemory}
use Rattle.bcder.specs.calls.Identifiers.{between_dots, AreComponentTexts, HasNoComponent}

-- the texts between the dots of a text, if there is one
abbrev pub texts_of : Option (Bor (List ℕ)) → List (List ℕ)
texts_of None = []
texts_of (Some text) = between_dots text.now

-- octets that have bit 8 set
abbrev pub AreMarked : List ℕ → Type 0
AreMarked [] = Unit {0}
AreMarked (b ∷ w) = (0x80 ≤ b) × (b < 0x100) × AreMarked w

-- the digits of a number in base 128, each with bit 8 set and the first not 0
pub record AreDigits (n : ℕ) (w : List ℕ) : Type 0 where
  pub marked : AreMarked w
  pub some : 0 < length w
  pub value : subidentifier_number w ≡ n
  pub fewest : slice_index w 0 ≢ 0x80

abbrev pub AppendsDigits : List ℕ → List ℕ → ℕ → Type 0
AppendsDigits old new n = (w : List ℕ) × AreDigits n w × (new ≡ old ++ w)

abbrev pub AppendsSubidentifier : List ℕ → List ℕ → ℕ → Type 0
AppendsSubidentifier old new n = (w : List ℕ) × IsSubidentifier n w × (new ≡ old ++ w)

-- the texts are components, and these are the octets of a subidentifier for each
abbrev pub AreSpelled : List (List ℕ) → List ℕ → Type 0
AreSpelled ts w = (ns : List ℕ) × AreComponentTexts ts ns × AreSubidentifiers ns w

abbrev pub AppendsTexts : List ℕ → List ℕ → List (List ℕ) → Type 0
AppendsTexts old new ts = (w : List ℕ) × AreSpelled ts w × (new ≡ old ++ w)

-- why the texts after the first two aren't appended: one of them is not a component, or all are and memory ran out
abbrev pub RefusesOthers : List (List ℕ) → OidError → Type 0
RefusesOthers ts e = ((e ≡ NotInteger) × HasNoComponent ts) ⊎ ((e ≡ NoMemory) × (ns : List ℕ) × AreComponentTexts ts ns)

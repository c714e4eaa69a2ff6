-- The text of object identifiers (ITU-T X.690, 8.19; X.680, 32).
use Rattle.std.specs.Prelude.{◌≡◌, ℕ, ◌^◌, ◌<◌, List, [], ◌∷◌, ◌++◌, map, length, decimal}
use Rattle.bcder.specs.x690.ObjectIdentifier.{IsWhole, IsComplete, subidentifier_number, subidentifiers, components}
use Rattle.bcder.specs.calls.Identifiers.{dotted}

-- the numbers are below a limit
abbrev pub AreBelow : ℕ → List ℕ → Type 0
AreBelow limit [] = Unit {0}
AreBelow limit (n ∷ ns) = (n < limit) × AreBelow limit ns

-- w are the contents octets of an object identifier, and t is its text: the components in decimal, joined by dots; X.690 has no
-- largest subidentifier and no longest identifier, this crate has both
pub record HasText (w t : List ℕ) : Type 0 where
  pub complete : IsComplete w
  pub size : length w < 2 ^ 58
  pub below : AreBelow (2 ^ 128) (map subidentifier_number (subidentifiers w))
  pub text : t ≡ dotted (map decimal (components w))

-- ---- reading it

-- w begins with the octets of a subidentifier, whose number is n, before the octets x
pub record BeginsWithNumber (w : List ℕ) (n : ℕ) (x : List ℕ) : Type 0 where
  pub octets : List ℕ
  pub whole : IsWhole octets
  pub is : w ≡ octets ++ x
  pub number : subidentifier_number octets ≡ n
  pub below : n < 2 ^ 128

-- w begins with no octets of such a subidentifier
abbrev pub BeginsWithNoNumber : List ℕ → Type 0
BeginsWithNoNumber w = (v x : List ℕ) → IsWhole v → w ≡ v ++ x → subidentifier_number v < 2 ^ 128 → ⊥

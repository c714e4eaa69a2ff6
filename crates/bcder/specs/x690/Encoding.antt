-- Values and their encodings (ITU-T X.690, 8.1.1, 8.1.3.2, 9.1, 10.1).
use Rattle.std.specs.Prelude.{◌≡◌, ◌⊎◌, ℕ, Bool, true, false, IsTrue, List, [], ◌++◌, length}
use Rattle.bcder.specs.declared.mode.Mode.{Mode}
use Rattle.bcder.specs.declared.mode.Mode.TheVariants.{Ber, Cer, Der}
use Rattle.bcder.specs.declared.length.Length.{Length}
use Rattle.bcder.specs.declared.length.Length.TheVariants.{Definite, Indefinite}
use Rattle.bcder.specs.x690.Identifier.{AreOctets, Tag, IsValueTag, identifier}
use Rattle.bcder.specs.x690.Length.{AreLengthOctets, IsEndOfContents}
use Rattle.bcder.specs.x690.Tree.{Tree, primitive, constructed, Trees, no_trees, ◌∷ₜ◌}

-- whether an encoding, constructed or not, may have such a length: 8.1.3.2 for primitive ones and for BER, 9.1 for CER, 10.1 for DER
abbrev pub may_have : Mode → Bool → Length → Bool
may_have mode false (Definite n) = true
may_have mode false Indefinite = false
may_have Ber true len = true
may_have Cer true (Definite n) = false
may_have Cer true Indefinite = true
may_have Der true (Definite n) = true
may_have Der true Indefinite = false

-- w is the identifier octets and the length octets of a value, constructed if form is true
pub record IsHeader (mode : Mode) (t : Tag) (form : Bool) (len : Length) (w : List ℕ) : Type 0 where
  pub is_value_tag : IsValueTag t
  pub allowed : IsTrue (may_have mode form len)
  pub length_octets : List ℕ
  pub tells : AreLengthOctets mode len length_octets
  pub is : w ≡ identifier t form ++ length_octets

-- 8.1.1.2: a header with the number of contents octets, and these
pub record IsDefinite (mode : Mode) (t : Tag) (form : Bool) (contents w : List ℕ) : Type 0 where
  pub header : List ℕ
  pub is_header : IsHeader mode t form (Definite (length contents)) header
  pub is : w ≡ header ++ contents

-- 8.1.1.1, 8.1.3.6: a header of the indefinite form, contents octets, and end-of-contents octets
pub record IsIndefinite (mode : Mode) (t : Tag) (contents w : List ℕ) : Type 0 where
  pub header : List ℕ
  pub is_header : IsHeader mode t true Indefinite header
  pub end : List ℕ
  pub is_end : IsEndOfContents mode end
  pub is : w ≡ header ++ (contents ++ end)

-- an encoding of a constructed value with these contents octets
abbrev pub IsFramed : Mode → Tag → List ℕ → List ℕ → Type 0
IsFramed mode t contents w = IsDefinite mode t true contents w ⊎ IsIndefinite mode t contents w

abbrev mutual
  -- w is an encoding of the value
  pub IsEncoding : Mode → Tree → List ℕ → Type 0
  IsEncoding mode (primitive t contents) w = AreOctets contents × IsDefinite mode t false contents w
  IsEncoding mode (constructed t ts) w = (contents : List ℕ) × AreEncodings mode ts contents × IsFramed mode t contents w

  -- w is the encodings of the values, one after the other
  pub AreEncodings : Mode → Trees → List ℕ → Type 0
  AreEncodings mode no_trees w = w ≡ []
  AreEncodings mode (t ∷ₜ ts) w = (first others : List ℕ) × IsEncoding mode t first × AreEncodings mode ts others × (w ≡ first ++ others)

-- what identifier octets and length octets say (8.1.2, 8.1.3), whatever follows them
pub record Header : Type 0 where
  pub tag : Tag
  pub form : Bool
  pub len : Length

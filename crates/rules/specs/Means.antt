-- Which contents octets mean a value (ITU-T X.690, 8.2 to 8.25, 9.2, 10.2, 11.1, 11.2.1, 11.3, 11.7, 11.8).
use Rattle.std.specs.Prelude.{◌≡◌, ◌≢◌, ℕ, ℤ, Bool, true, false, List, [], ⊤}
use Rattle.bcder.specs.declared.mode.Mode.{Mode}
use Rattle.bcder.specs.declared.mode.Mode.TheVariants.{Ber, Cer, Der}
use Rattle.bcder.specs.calls.Readers.{IsTruth}
use Rattle.bcder.specs.x690.BitString.{BitShape}
use Rattle.bcder.specs.x690.Encoding.{AreEncodings}
use Rattle.bcder.specs.x690.Identifier.{Tag}
use Rattle.bcder.specs.x690.Integer.{AreInteger}
use Rattle.bcder.specs.x690.ObjectIdentifier.{IsComplete, IsMinimal}
use Rattle.bcder.specs.x690.OctetString.{MayBeWhole}
use Rattle.bcder.specs.x690.Tree.{Tree, primitive, constructed, Trees, no_trees, ◌∷ₜ◌}
use Rattle.encodings.specs.Pieces.{Piece, value, begins, ends}
use Rattle.rules.specs.Kinds.{kind_of}
use Rattle.rules.specs.Placed.{AreInPlace}
use Rattle.rules.specs.Characters.{HasCharacters}
use Rattle.rules.specs.Reals.{IsReal, IsStrictReal}
use Rattle.rules.specs.declared.kind.Kind.{Kind}
use Rattle.rules.specs.declared.kind.Kind.TheVariants as k

-- 8.5, 11.3: REAL
abbrev pub IsRealIn : Mode → List ℕ → Type 0
IsRealIn Ber c = IsReal c
IsRealIn Cer c = IsStrictReal c
IsRealIn Der c = IsStrictReal c

-- contents octets of a primitive value of a kind mean one
abbrev pub MeansOne : Mode → Kind → List ℕ → Type 0
MeansOne mode k.Boolean c = (b : Bool) × IsTruth mode c b
MeansOne mode k.Integer c = (z : ℤ) × AreInteger z c
MeansOne mode k.Real c = IsRealIn mode c
MeansOne mode k.BitString c = BitShape mode c
MeansOne mode k.OctetString c = MayBeWhole mode c
MeansOne mode k.Utf8String c = MayBeWhole mode c × HasCharacters mode k.Utf8String c
MeansOne mode k.NumericString c = MayBeWhole mode c × HasCharacters mode k.NumericString c
MeansOne mode k.PrintableString c = MayBeWhole mode c × HasCharacters mode k.PrintableString c
MeansOne mode k.Ia5String c = MayBeWhole mode c × HasCharacters mode k.Ia5String c
MeansOne mode k.VisibleString c = MayBeWhole mode c × HasCharacters mode k.VisibleString c
MeansOne mode k.UniversalString c = MayBeWhole mode c × HasCharacters mode k.UniversalString c
MeansOne mode k.BmpString c = MayBeWhole mode c × HasCharacters mode k.BmpString c
MeansOne mode k.UtcTime c = MayBeWhole mode c × HasCharacters mode k.UtcTime c
MeansOne mode k.GeneralizedTime c = MayBeWhole mode c × HasCharacters mode k.GeneralizedTime c
MeansOne mode k.Null c = c ≡ []
MeansOne mode k.Identifier c = IsComplete c × IsMinimal c
MeansOne mode k.Structure c = ⊥
MeansOne mode k.Other c = ⊤

-- a value of a kind may be constructed: 8.2.1, 8.3.1, 8.5.1, 8.8.1, 8.19.1, 8.20.1; strings by 8.6.1, 8.7.1, and in DER by 10.2
abbrev pub MayBeConstructed : Mode → Kind → Type 0
MayBeConstructed mode k.Boolean = ⊥
MayBeConstructed mode k.Integer = ⊥
MayBeConstructed mode k.Real = ⊥
MayBeConstructed mode k.BitString = mode ≢ Der
MayBeConstructed mode k.OctetString = mode ≢ Der
MayBeConstructed mode k.Utf8String = mode ≢ Der
MayBeConstructed mode k.NumericString = mode ≢ Der
MayBeConstructed mode k.PrintableString = mode ≢ Der
MayBeConstructed mode k.Ia5String = mode ≢ Der
MayBeConstructed mode k.VisibleString = mode ≢ Der
MayBeConstructed mode k.UniversalString = mode ≢ Der
MayBeConstructed mode k.BmpString = mode ≢ Der
MayBeConstructed mode k.UtcTime = mode ≢ Der
MayBeConstructed mode k.GeneralizedTime = mode ≢ Der
MayBeConstructed mode k.Null = ⊥
MayBeConstructed mode k.Identifier = ⊥
MayBeConstructed mode k.Structure = ⊤
MayBeConstructed mode k.Other = ⊤

abbrev mutual
  -- the value and each value inside it means one of its type
  pub IsMeant : Mode → Tree → Type 0
  IsMeant mode (primitive t c) = MeansOne mode (kind_of t) c
  IsMeant mode (constructed t ts) = MayBeConstructed mode (kind_of t) × AreMeant mode ts

  pub AreMeant : Mode → Trees → Type 0
  AreMeant mode no_trees = ⊤
  AreMeant mode (t ∷ₜ ts) = IsMeant mode t × AreMeant mode ts

-- a value means something, whatever the values inside it are
abbrev pub IsMeantAlone : Mode → Tag → Bool → List ℕ → Type 0
IsMeantAlone mode t false c = MeansOne mode (kind_of t) c
IsMeantAlone mode t true c = MayBeConstructed mode (kind_of t)

abbrev pub IsPieceMeant : Mode → Piece → Type 0
IsPieceMeant mode (value t c) = MeansOne mode (kind_of t) c
IsPieceMeant mode (begins t) = MayBeConstructed mode (kind_of t)
IsPieceMeant mode ends = ⊤

-- octets are encodings of values, one after the other; if `contents`, each of them means one of its type, and may come behind the one
-- before it
pub record AreRight (mode : Mode) (contents : Bool) (w : List ℕ) : Type 0 where
  pub values : Trees
  pub encode : AreEncodings mode values w
  pub meant : contents ≡ true → AreMeant mode values
  pub placed : contents ≡ true → AreInPlace mode values

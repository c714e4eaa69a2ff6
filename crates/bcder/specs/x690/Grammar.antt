-- Laws of the encodings. Each is the contract of a function of `src/laws.rt`.
use Rattle.std.specs.Prelude.{◌≡◌, ◌≢◌, ◌↔◌, ◌≤◌, ◌*◌, ℕ, Bool, List, ◌++◌, length, take}
use Rattle.bcder.specs.declared.mode.Mode.{Mode}
use Rattle.bcder.specs.declared.mode.Mode.TheVariants.{Ber}
use Rattle.bcder.specs.declared.length.Length.{Length}
use Rattle.bcder.specs.x690.Identifier.{AreOctets, Tag, IsTag, identifier}
use Rattle.bcder.specs.x690.Length.{AreLengthOctets, IsEndOfContents}
use Rattle.bcder.specs.x690.Tree.{Tree, Trees}
use Rattle.bcder.specs.x690.Encoding.{IsEncoding, AreEncodings}
use Rattle.bcder.specs.x690.Preorder.{preorder, preorders}

-- no identifier octets are a prefix of others
abbrev pub OneIdentifier : Type 0
OneIdentifier = (t u : Tag) (f g : Bool) (x y : List ℕ) → IsTag t → IsTag u → identifier t f ++ x ≡ identifier u g ++ y
    → (t ≡ u) × (f ≡ g) × (x ≡ y)

-- no length octets are a prefix of others
abbrev pub OneLength : Type 0
OneLength = (mode : Mode) (l m : Length) (v w x y : List ℕ) → AreLengthOctets mode l v → AreLengthOctets mode m w
    → v ++ x ≡ w ++ y → (l ≡ m) × (x ≡ y)

-- no end-of-contents octets are a prefix of others
abbrev pub OneEnd : Type 0
OneEnd = (mode : Mode) (v w x y : List ℕ) → IsEndOfContents mode v → IsEndOfContents mode w → v ++ x ≡ w ++ y → x ≡ y

-- the octets begin with no other value than t, and with no other encoding than w
abbrev pub IsOnly : Mode → Tree → List ℕ → List ℕ → Type 0
IsOnly mode t w octets = (u : Tree) (v y : List ℕ) → IsEncoding mode u v → octets ≡ v ++ y → (u ≡ t) × (v ≡ w)

-- the first n octets are the encoding of a value
pub record BeginsWhole (mode : Mode) (octets : List ℕ) (n : ℕ) : Type 0 where
  pub tree : Tree
  pub encodes : IsEncoding mode tree (take n octets)
  pub fits : n ≤ length octets

-- a prefix of octets is at most one value, with at most one encoding
abbrev pub OneFront : Type 0
OneFront = (mode : Mode) (t : Tree) (w x : List ℕ) → IsEncoding mode t w → IsOnly mode t w (w ++ x)

-- octets are the encodings of at most one list of values
abbrev pub OneList : Type 0
OneList = (mode : Mode) (ts us : Trees) (w : List ℕ) → AreEncodings mode ts w → AreEncodings mode us w → ts ≡ us

-- in CER and DER a list of values has at most one list of octets that is its encodings
abbrev pub OneEncoding : Type 0
OneEncoding = (mode : Mode) → mode ≢ Ber → (ts : Trees) (v w : List ℕ) → AreEncodings mode ts v → AreEncodings mode ts w → v ≡ w

-- in CER and DER two lists that have encodings are equal exactly if these are
abbrev pub SameWhereEncodingsAre : Type 0
SameWhereEncodingsAre = (mode : Mode) → mode ≢ Ber → (ts us : Trees) (v w : List ℕ) → AreEncodings mode ts v
    → AreEncodings mode us w → (ts ≡ us) ↔ (v ≡ w)

-- what is an encoding in CER or DER is an encoding in BER
abbrev pub ValueInBer : Type 0
ValueInBer = (mode : Mode) (t : Tree) (w : List ℕ) → IsEncoding mode t w → IsEncoding Ber t w

abbrev pub ListInBer : Type 0
ListInBer = (mode : Mode) (ts : Trees) (w : List ℕ) → AreEncodings mode ts w → AreEncodings Ber ts w

-- each value, and each value inside it, has two octets of its own
abbrev pub ValueHasTwo : Type 0
ValueHasTwo = (mode : Mode) (t : Tree) (w : List ℕ) (depth : ℕ) → IsEncoding mode t w → 2 * length (preorder t depth) ≤ length w

abbrev pub ListHasTwo : Type 0
ListHasTwo = (mode : Mode) (ts : Trees) (w : List ℕ) (depth : ℕ) → AreEncodings mode ts w → 2 * length (preorders ts depth) ≤ length w

-- encodings are numbers below 256
abbrev pub ValueIsOctets : Type 0
ValueIsOctets = (mode : Mode) (t : Tree) (w : List ℕ) → IsEncoding mode t w → AreOctets w

abbrev pub ListIsOctets : Type 0
ListIsOctets = (mode : Mode) (ts : Trees) (w : List ℕ) → AreEncodings mode ts w → AreOctets w

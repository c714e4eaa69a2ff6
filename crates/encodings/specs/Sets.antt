-- The order of the values inside a SET in CER and DER (ITU-T X.690, 9.3, 10.3, 11.6; X.680, 8.6).
use Rattle.std.specs.Prelude.{◌≡◌, ◌≢◌, ℕ, ◌+◌, ◌*◌, ◌<◌, ◌⊎◌, ◌==◌, Bool, true, false, ⊤, List, [], ◌∷◌, IsPermutation}
use Rattle.bcder.specs.declared.mode.Mode.{Mode}
use Rattle.bcder.specs.declared.mode.Mode.TheVariants.{Ber}
use Rattle.bcder.specs.x690.Encoding.{IsEncoding, AreEncodings}
use Rattle.bcder.specs.x690.Identifier.{Class, universal, application, context_specific, private, Tag}
use Rattle.bcder.specs.x690.Tree.{Tree, primitive, constructed, Trees, no_trees, ◌∷ₜ◌}
use Rattle.bcder.specs.calls.Valued.{tag_of}
use Rattle.encodings.specs.Headings.{class_number}
use Rattle.encodings.specs.Status.{done, no_memory, absent, no_order}
use Rattle.encodings.specs.Values.{AreNoValues}

-- the place of a tag in the order of tags (X.680, 8.6): by class, and then by number, which is below 2 ^ 21
abbrev pub place : Tag → ℕ
place t = class_number t.class * 2097152 + t.number

-- the tag of SET and SET OF (X.680, 8.4)
abbrev pub is_set : Tag → Bool
is_set t = is_set_class t.class t.number
  where
    is_set_class : Class → ℕ → Bool
    is_set_class universal n = n == 17
    is_set_class application n = false
    is_set_class context_specific n = false
    is_set_class private n = false

-- octets do not come after others, the shorter ones padded with zeros at their end (X.690, 11.6)
abbrev pub IsNotAfter : List ℕ → List ℕ → Type 0
IsNotAfter [] w = ⊤
IsNotAfter (x ∷ v) [] = (x ≡ 0) × IsNotAfter v []
IsNotAfter (x ∷ v) (y ∷ w) = (x < y) ⊎ ((x ≡ y) × IsNotAfter v w)

-- a value may stand in front of another in a SET: its tag comes first (X.690, 9.3, 10.3), or has the same place, and its encoding
-- doesn't come after that of the other (11.6)
abbrev pub MayPrecede : Mode → Tree → Tree → Type 0
MayPrecede mode t u =
    (place (tag_of t) < place (tag_of u))
    ⊎ ((place (tag_of t) ≡ place (tag_of u)) × ((v w : List ℕ) → IsEncoding mode t v → IsEncoding mode u w → IsNotAfter v w))

abbrev pub MayPrecedeFirst : Mode → Tree → List Tree → Type 0
MayPrecedeFirst mode t [] = ⊤
MayPrecedeFirst mode t (u ∷ us) = MayPrecede mode t u

abbrev pub AreInOrder : Mode → List Tree → Type 0
AreInOrder mode [] = ⊤
AreInOrder mode (t ∷ ts) = MayPrecedeFirst mode t ts × AreInOrder mode ts

-- values, listed
abbrev pub each : Trees → List Tree
each no_trees = []
each (t ∷ₜ ts) = t ∷ each ts

-- the values inside a SET are rearranged, and in order; those inside another value stay
abbrev pub AreArranged : Mode → Bool → Trees → Trees → Type 0
AreArranged mode true ts us = IsPermutation (each ts) (each us) × AreInOrder mode (each us)
AreArranged mode false ts us = us ≡ ts

abbrev mutual
  -- two values differ at most in the order of the values inside each SET
  pub IsSorted : Mode → Tree → Tree → Type 0
  IsSorted mode (primitive t c) (primitive u d) = (u ≡ t) × (d ≡ c)
  IsSorted mode (primitive t c) (constructed u us) = ⊥
  IsSorted mode (constructed t ts) (primitive u d) = ⊥
  IsSorted mode (constructed t ts) (constructed u us) = (u ≡ t) × ((ms : Trees) × AreSorted mode ts ms × AreArranged mode (is_set t) ms us)

  pub AreSorted : Mode → Trees → Trees → Type 0
  AreSorted mode no_trees no_trees = ⊤
  AreSorted mode no_trees (u ∷ₜ us) = ⊥
  AreSorted mode (t ∷ₜ ts) no_trees = ⊥
  AreSorted mode (t ∷ₜ ts) (u ∷ₜ us) = IsSorted mode t u × AreSorted mode ts us

-- octets are encodings of values, and w those of the same values with the values inside each SET in order
pub record IsSorting (mode : Mode) (octets w : List ℕ) : Type 0 where
  pub read : Trees
  pub encode : AreEncodings mode read octets
  pub sorted : Trees
  pub same : AreSorted mode read sorted
  pub is : AreEncodings mode sorted w

-- the values were put in order; or the rules have no order for them; or the octets are no values; or memory ran out
pub data SortsSets (mode : Mode) (old : List ℕ) (status : ℕ) (new : List ℕ) : Type 0 where
  in_order : mode ≢ Ber → status ≡ done → IsSorting mode old new → SortsSets mode old status new
  unordered : mode ≡ Ber → status ≡ no_order → new ≡ old → SortsSets mode old status new
  no_values : mode ≢ Ber → status ≡ absent → AreNoValues mode old → new ≡ old → SortsSets mode old status new
  lacking : mode ≢ Ber → status ≡ no_memory → new ≡ old → SortsSets mode old status new

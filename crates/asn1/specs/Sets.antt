-- SET: values that are told apart by their tags (X.680, 27; X.690, 8.11, 9.3, 10.3).
use Rattle.std.specs.Prelude.{◌≡◌, ◌<◌, ◌≤◌, ◌+◌, ◌*◌, ◌⊎◌, ℕ, List, [], ◌∷◌, Option, Some, None, IsPermutation}
use Rattle.bcder.specs.declared.decode.error.DecodeError.{DecodeError}
use Rattle.bcder.specs.declared.mode.Mode.{Mode}
use Rattle.bcder.specs.declared.mode.Mode.TheVariants.{Cer, Der}
use Rattle.bcder.specs.x690.Identifier.{Class, universal, application, context_specific, private, Tag}
use Rattle.bcder.specs.x690.Tree.{Tree, Trees, no_trees, ◌∷ₜ◌}
use Rattle.bcder.specs.calls.Captured.{Kept}
use Rattle.bcder.specs.calls.Cause.{cause_of, of_memory, IsRefusal}
use Rattle.bcder.specs.calls.Valued.{tag_of}
use Rattle.asn1.specs.Anything.{kept_value}
use Rattle.asn1.specs.Decoded.{AreFields}
use Rattle.asn1.specs.Sorting.{Ascend}

-- the place of a class among the classes (X.680, 8.6)
abbrev pub class_place : Class → ℕ
class_place universal = 0
class_place application = 1
class_place context_specific = 2
class_place private = 3

-- the place of a tag in the order of tags (X.680, 8.6): by class, and then by number, which is below 2 ^ 21
abbrev pub place : Tag → ℕ
place t = class_place t.class * 2097152 + t.number

-- f of each is below f of the next one
abbrev pub Rise : {E : Type 0} → (E → ℕ) → List E → Type 0
Rise f es = Ascend (λ d e. f d < f e) es

-- f of the one is at most f of the other
abbrev pub IsUpTo : {E : Type 0} → (E → ℕ) → E → E → Type 0
IsUpTo f d e = f d ≤ f e

-- values, listed
abbrev pub each : Trees → List Tree
each no_trees = []
each (t ∷ₜ ts) = t ∷ each ts

-- the place of a value's tag
abbrev pub tag_place : Tree → ℕ
tag_place t = place (tag_of t)

-- the place of a value among those of a set, by the place that each tag has there
abbrev pub place_in : (ℕ → ℕ) → Tree → ℕ
place_in Place t = Place (tag_place t)

-- us are the values ts in the order of the fields, and each field has one: in BER ts may stand in any order (X.690, 8.11.3), in CER
-- they stand in this one (9.3), and in DER in that of their own tags (10.3)
pub record AreOrdered (mode : Mode) (Place : ℕ → ℕ) (ts us : Trees) : Type 0 where
  pub rearranged : IsPermutation (each ts) (each us)
  pub rise : Rise (place_in Place) (each us)
  pub in_place : mode ≡ Cer → us ≡ ts
  pub by_tag : mode ≡ Der → Rise tag_place (each ts)

-- all values, which in the order of the fields are the fields x
pub record AreSet {T : Type 0} (mode : Mode) (Place : ℕ → ℕ) (Takes : Trees → T → Trees → Type 0) (ts : Trees) (x : T)
    (us : Trees) : Type 0 where
  pub ordered : Trees
  pub order : AreOrdered mode Place ts ordered
  pub taken : Takes ordered x no_trees
  pub none_left : us ≡ no_trees

-- ---- as it is done

abbrev pub place_of_value : Option Tree → ℕ
place_of_value (Some t) = tag_place t
place_of_value None = 0

-- the place of the tag of a kept value
abbrev pub kept_place : Kept → ℕ
kept_place k = place_of_value (kept_value k)

-- the place of the tag of a kept value among those of a set
abbrev pub kept_place_in : (ℕ → ℕ) → Kept → ℕ
kept_place_in Place k = Place (kept_place k)

-- ls are the kept values ks in the order of the fields, and each field has one: in CER they stand in it
pub record AreKeptInOrder (mode : Mode) (Place : ℕ → ℕ) (ks ls : List Kept) : Type 0 where
  pub rearranged : IsPermutation ks ls
  pub rise : Rise (kept_place_in Place) ls
  pub in_place : mode ≡ Cer → ls ≡ ks

-- why octets were not read as fields, and e was returned: memory ran out, or they are none
abbrev pub RefusesMembers : {T X : Type 0} → Mode → (Trees → T → Trees → Type 0) → List ℕ → DecodeError X → Type 0
RefusesMembers mode Takes w e = (cause_of e ≡ of_memory) ⊎ (((x : _) → AreFields mode Takes w x → ⊥) × IsRefusal e)

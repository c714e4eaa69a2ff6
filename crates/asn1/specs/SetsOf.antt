-- SET OF: values without an order (X.680, 28; X.690, 8.12, 11.6).
use Rattle.std.specs.Prelude.{◌≡◌, ◌≢◌, ◌<◌, ◌⊎◌, ℕ, List, [], ◌∷◌, IsPermutation}
use Rattle.bcder.specs.declared.decode.error.DecodeError.{DecodeError}
use Rattle.bcder.specs.declared.mode.Mode.{Mode}
use Rattle.bcder.specs.declared.mode.Mode.TheVariants.{Ber}
use Rattle.bcder.specs.x690.Identifier.{Tag}
use Rattle.bcder.specs.x690.Tree.{Tree, Trees, no_trees, ◌∷ₜ◌}
use Rattle.bcder.specs.x690.Encoding.{IsEncoding}
use Rattle.bcder.specs.calls.Cause.{cause_of, of_memory, IsRefusal}
use Rattle.asn1.specs.Types.{AreList}
use Rattle.asn1.specs.Decoded.{IsValueOf}
use std.Quotient as quotient

-- octets do not come after others, the shorter ones padded with zeros at their end (X.690, 11.6)
abbrev pub IsNotAfter : List ℕ → List ℕ → Type 0
IsNotAfter [] w = Unit {0}
IsNotAfter (x ∷ v) [] = (x ≡ 0) × IsNotAfter v []
IsNotAfter (x ∷ v) (y ∷ w) = (x < y) ⊎ ((x ≡ y) × IsNotAfter v w)

-- the encoding of a value does not come after that of the first of these
abbrev pub IsNotAfterFirst : Mode → Tree → Trees → Type 0
IsNotAfterFirst mode t no_trees = Unit {0}
IsNotAfterFirst mode t (u ∷ₜ us) = (v w : List ℕ) → IsEncoding mode t v → IsEncoding mode u w → IsNotAfter v w

-- the encodings of the values ascend
abbrev pub AreAscending : Mode → Trees → Type 0
AreAscending mode no_trees = Unit {0}
AreAscending mode (t ∷ₜ ts) = IsNotAfterFirst mode t ts × AreAscending mode ts

-- all values, each with one of the tags: in BER in any order (X.690, 8.12.3), in CER and DER in ascending order (11.6)
abbrev pub AreSetOf : {T : Type 0} → Mode → (Tag → Type 0) → (Tree → T → Type 0) → Trees → List T → Trees → Type 0
AreSetOf mode Tags Means ts xs us = AreList Tags Means ts xs us × (us ≡ no_trees) × (mode ≢ Ber → AreAscending mode ts)

-- why octets were not read as a value with one of the tags, and e was returned: memory ran out, or they are none
abbrev pub RefusesOctets : {T X : Type 0} → Mode → (Tag → Type 0) → (Tree → T → Type 0) → List ℕ → DecodeError X → Type 0
RefusesOctets mode Tags Means w e = (cause_of e ≡ of_memory) ⊎ (((x : _) → IsValueOf mode Tags Means w x → ⊥) × IsRefusal e)

-- ---- what sets are told apart by

-- one is the other in some order
abbrev pub AreRearranged : {K : Type 0} → List K → List K → Type 0
AreRearranged ks ls = ∥ IsPermutation ks ls ∥₁

-- lists, of which those that are rearranged are the same
abbrev pub AnyOrder : Type 0 → Type 0
AnyOrder K = quotient.◌/◌ (List K) AreRearranged

abbrev pub in_any_order : {K : Type 0} → List K → AnyOrder K
in_any_order ks = quotient.cls ks

-- Values that are numbers of a type, as the items of an enumeration.
use Rattle.std.proofs.Common.{◌≡◌, ℕ, List, sym, ◌∙◌, subst}
use Rattle.std.proofs.Common.{to_z, of_z}
use Rattle.std.proofs.lemmas.Int.{to_z-of_z}
use Rattle.std.specs.Prelude.{ℤ}
use Rattle.std.specs.Int.{Width}
use Rattle.std.specs.Int.RustNames.{FitsSigned}
use Rattle.bcder.specs.x690.Identifier.{Tag, AreOctets}
use Rattle.bcder.specs.x690.Integer.{integer_octets}
use Rattle.bcder.specs.x690.Tree.{Tree, primitive, constructed}
use Rattle.bcder.specs.calls.Meaning.{Exactly, ValueMeans, primitive_meaning}
use Rattle.bcder.specs.calls.Readers.{IsSigned}
use Rattle.bcder.proofs.Lemmas.{signed_read}
use Rattle.asn1.specs.Types.{IsLeaf, Only}
use Rattle.asn1.specs.Writing.{IsReadAs}
use Rattle.asn1.proofs.Ones.{signed_once}
use Rattle.asn1.proofs.ReadingBack.{leaf_back}

-- a number that was read is one of the type, and stays the same where it is passed on
pub leaf_number : (width : Width) (t : Tree) (z : ℤ) → IsLeaf (IsSigned width) t z → to_z width (of_z width z) ≡ z
leaf_number width (primitive t w) z h = to_z-of_z width z h.fits
leaf_number width (constructed t ts) z h = absurd h

module _ {V : Type 0} (width : Width) (number : V → ℤ) where
  abbrev pub IsNumbered : List ℕ → V → Type 0
  IsNumbered w x = IsSigned width w (number x)

  pub number_of : (w : List ℕ) (x : V) → IsNumbered w x → (z : ℤ) × IsSigned width w z
  number_of w x k = (number x, k)

  pub is_numbered : (z : ℤ) (x : V) → number x ≡ z → (w : List ℕ) → IsSigned width w z → IsNumbered w x
  is_numbered z x e w k = subst (IsSigned width w) (sym e) k

  pub is_not_numbered : (z : ℤ) → ((x : V) → number x ≡ z → ⊥) → (w : List ℕ) (x : V) → IsSigned width w z → IsNumbered w x → ⊥
  is_not_numbered z n w x k l = n x (sym l.integer.is ∙ k.integer.is)

  pub numbered_one : (t : Tree) (x y : V) → IsLeaf IsNumbered t x → IsLeaf IsNumbered t y → number x ≡ number y
  numbered_one (primitive t w) x y h k = sym h.integer.is ∙ k.integer.is
  numbered_one (constructed t ts) x y h k = absurd h

  pub numbered_once : (x y : V) (v w : List ℕ) → AreOctets v → AreOctets w → IsNumbered v x → IsNumbered w y → number x ≡ number y → v ≡ w
  numbered_once x y v w a b h k q = signed_once width (number x) (number y) v w a b h k q

  pub numbered_back : (tag : Tag) (x : V) → FitsSigned width (number x)
      → IsReadAs (Only tag) (IsLeaf IsNumbered) number x (ValueMeans tag (primitive_meaning tag) (Exactly (integer_octets (number x))))
  numbered_back tag x k =
      let b = signed_read width (number x) k in
      leaf_back tag number x (Exactly (integer_octets (number x))) IsNumbered
      (λ w m. (
        subst (λ z. IsSigned width z (number x)) (sym (b.only w m)) b.read,
        λ y r. b.no_other (number y) (subst (λ z. IsSigned width z (number y)) (b.only w m) r),
      ))

-- Each encoder has at most one meaning, and its octets are an encoding.
use Rattle.std.specs.Prelude.{◌≡◌, ℕ, ◌^◌, ◌<◌, Bool, true, false, List, [], length, nat_lt, Ok, Err, refl, if◌then◌else◌}
use Rattle.std.proofs.Common.{inl, inr, sym, ap, ◌∙◌, subst, ltb-true, arith}
use Rattle.bcder.specs.declared.encode.error.EncodeError.{EncodeError}
use Rattle.bcder.specs.declared.encode.error.EncodeError.TheVariants.{LengthTooLarge}
use Rattle.bcder.specs.declared.mode.Mode.{Mode}
use Rattle.bcder.specs.x690.Identifier.{Tag, AreOctets, IsValueTag}
use Rattle.bcder.specs.x690.BitString.{Bits, contents_octets, as_written}
use Rattle.bcder.specs.x690.Octets.{definite, enclosed}
use Rattle.bcder.specs.x690.Tree.{primitive, constructed}
use Rattle.bcder.specs.x690.Encoding.{AreEncodings}
use Rattle.bcder.specs.calls.Meaning.{Encoded, Meaning, ContentsMeaning, IsOne, IsLawful, IsLawfulContents, Exactly, ExactlyOctets}
use Rattle.bcder.specs.calls.Meaning.{fits_primitive, PieceMeans, BitsMean, truth_octets, ValueMeans, primitive_encoded, primitive_meaning}
use Rattle.bcder.specs.calls.Meaning.{constructed_encoded, constructed_meaning, fits_enclosed, enclosed_refusal}
use Rattle.bcder.specs.laws.Octets.{AreOctets-nil, AreOctets-cons}
use Rattle.bcder.specs.laws.Lists.{AreEncodings-one}
use Rattle.bcder.specs.laws.Written.{primitive_written, constructed_written}

module _ {A : Type 0} (t : Tag) (f : A → Meaning) {P : A → Type 0} (one : IsOne P) where
  pub value_same : (m n : Meaning) → ValueMeans t f P m → ValueMeans t f P n → m ≡ n
  value_same m n (inl p) (inl q) = p.1 ∙ sym q.1
  value_same m n (inl p) (inr q) = absurd (q.0.no_end p.0)
  value_same m n (inr p) (inl q) = absurd (p.0.no_end q.0)
  value_same m n (inr p) (inr q) = p.1.2 ∙ ap f (one.same p.1.0 q.1.0 p.1.1 q.1.1) ∙ sym q.1.2

pub primitive_at : (t : Tag) (mode : Mode) (c : List ℕ) (e : Encoded) (b : Bool) → (b ≡ true → length c < 2 ^ 32)
    → IsValueTag t → AreOctets c
    → Ok e ≡ (if b then Ok (primitive_encoded t c) else Err LengthTooLarge) → AreEncodings mode e.values e.octets
primitive_at t mode c e false fits v o eq = cc
primitive_at t mode c e true fits v o eq =
    let same : e ≡ primitive_encoded t c = cc in
    subst (λ (x : Encoded). AreEncodings mode x.values x.octets) (sym same)
    (AreEncodings-one mode (primitive t c) (definite t false c) (primitive_written mode t c v o (fits refl)))

primitive_encodes : (t : Tag) (mode : Mode) (M : ContentsMeaning → Type 0) (octets : (c : List ℕ) → M (Ok c) → AreOctets c) (e : Encoded)
    → ValueMeans t (primitive_meaning t) M (Ok e) → AreEncodings mode e.values e.octets
primitive_encodes t mode M octets e (inl p) = cc
primitive_encodes t mode M octets e (inr (v, (Err d, _, eq))) = cc
primitive_encodes t mode M octets e (inr (v, (Ok c, m, eq))) =
    primitive_at t mode c e (nat_lt (length c) (2 ^ 32)) (ltb-true _ _) v (octets c m) eq

pub constructed_at : (t : Tag) (mode : Mode) (x e : Encoded) (b : Bool) → AreEncodings mode x.values x.octets
    → fits_enclosed mode t (length x.octets) ≡ b → IsValueTag t
    → Ok e ≡ (if b then Ok (constructed_encoded mode t x) else Err (enclosed_refusal mode)) → AreEncodings mode e.values e.octets
constructed_at t mode x e false inside fits v eq = cc
constructed_at t mode x e true inside fits v eq =
    let same : e ≡ constructed_encoded mode t x = cc in
    subst (λ (y : Encoded). AreEncodings mode y.values y.octets) (sym same) (AreEncodings-one mode (constructed t x.values)
    (enclosed mode t x.octets) (constructed_written mode t x.values x.octets v fits inside))

constructed_encodes : (t : Tag) (mode : Mode) (M : Meaning → Type 0) → ((x : Encoded) → M (Ok x) → AreEncodings mode x.values x.octets)
    → (e : Encoded) → ValueMeans t (constructed_meaning t mode) M (Ok e) → AreEncodings mode e.values e.octets
constructed_encodes t mode M inside e (inl p) = cc
constructed_encodes t mode M inside e (inr (v, (Err d, _, eq))) = cc
constructed_encodes t mode M inside e (inr (v, (Ok x, m, eq))) =
    constructed_at t mode x e (fits_enclosed mode t (length x.octets)) (inside x m) refl v eq

pub primitive_lawful : (t : Tag) (mode : Mode) {M : ContentsMeaning → Type 0} → IsLawfulContents M
    → IsLawful mode (ValueMeans t (primitive_meaning t) M)
primitive_lawful t mode {M} lawful =
    record { one = record { same = value_same t (primitive_meaning t) lawful.one }; encodes = primitive_encodes t mode M lawful.octets }

pub constructed_lawful : (t : Tag) {mode : Mode} {M : Meaning → Type 0} → IsLawful mode M
    → IsLawful mode (ValueMeans t (constructed_meaning t mode) M)
constructed_lawful t {mode} {M} lawful = record {
  one = record { same = value_same t (constructed_meaning t mode) lawful.one };
  encodes = constructed_encodes t mode M lawful.encodes;
}

pub Exactly_lawful : (w : List ℕ) → AreOctets w → IsLawfulContents (Exactly w)
Exactly_lawful w o =
    record { one = record { same = λ m n p q. p ∙ sym q }; octets = λ c p. let same : c ≡ w = cc in subst AreOctets (sym same) o }

pub ExactlyOctets_lawful : (w : List ℕ) → IsLawfulContents (ExactlyOctets w)
ExactlyOctets_lawful w =
    record { one = record { same = λ m n p q. p.0 ∙ sym q.0 }; octets = λ c p. let same : c ≡ w = cc in subst AreOctets (sym same) p.1 }

string_octets : (refusal : EncodeError) (w c : List ℕ) (b : Bool) → AreOctets w → Ok c ≡ (if b then Ok w else Err refusal) → AreOctets c
string_octets refusal w c true o e = (let same : c ≡ w = cc in subst AreOctets (sym same) o)
string_octets refusal w c false o e = cc

pub PieceMeans_lawful : (refusal : EncodeError) (mode : Mode) (w : List ℕ) → IsLawfulContents (PieceMeans refusal mode w)
PieceMeans_lawful refusal mode w = record {
  one = record { same = λ m n p q. p.0 ∙ sym q.0 };
  octets = λ c p. string_octets refusal w c (fits_primitive mode (length w)) p.1 p.0;
}

pub BitsMean_lawful : (refusal : EncodeError) (mode : Mode) (x : Bits) → IsLawfulContents (BitsMean refusal mode x)
BitsMean_lawful refusal mode x = PieceMeans_lawful refusal mode (contents_octets (as_written mode x))

pub truth_octets_are : (b : Bool) → AreOctets (truth_octets b)
truth_octets_are true = AreOctets-cons 0xFF [] (omega arith) AreOctets-nil
truth_octets_are false = AreOctets-cons 0x00 [] (omega arith) AreOctets-nil

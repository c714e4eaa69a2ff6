-- An octet string has at most one meaning, and its octets are an encoding.
use Rattle.std.specs.Prelude.{◌≡◌, ℕ, zero, suc, ◌+◌, ◌*◌, ◌≤◌, Bool, true, false, List, length, take, drop, Ok, Err, refl, if◌then◌else◌}
use Rattle.std.proofs.Common.{inl, inr, ap, subst, ltb-true, arith}
use Rattle.std.proofs.lemmas.List.{length-take, length-drop}
use Rattle.bcder.specs.declared.mode.Mode.{Mode}
use Rattle.bcder.specs.declared.mode.Mode.TheVariants.{Ber, Cer, Der}
use Rattle.bcder.specs.x690.Identifier.{Tag, AreOctets, IsValueTag}
use Rattle.bcder.specs.x690.Octets.{definite}
use Rattle.bcder.specs.x690.Tree.{primitive, no_trees, ◌∷ₜ◌}
use Rattle.bcder.specs.x690.Encoding.{AreEncodings}
use Rattle.bcder.specs.x690.OctetString.{octet_string_tag}
use Rattle.bcder.specs.calls.StringOctets.{StringOctets, whole, cut, octets_of}
use Rattle.bcder.specs.calls.Meaning.{Encoded, Meaning, ContentsMeaning, IsLawful, IsLawfulContents}
use Rattle.bcder.specs.calls.Meaning.{ValueMeans, primitive_meaning, constructed_meaning}
use Rattle.bcder.specs.calls.StringMeaning.{full_segments, segmented, segments_in_cer, is_cut, string_meaning}
use Rattle.bcder.specs.calls.StringMeaning.{OctetsMean, StringMeans, contents_of, WrappedMeans}
use Rattle.bcder.specs.laws.Lists.{AreEncodings-one, AreEncodings-join}
use Rattle.bcder.specs.laws.Octets.{AreOctets-encodings}
use Rattle.bcder.specs.laws.Written.{primitive_written}
use Rattle.bcder.specs.laws.Meanings.{value_same, primitive_at, constructed_at, constructed_lawful, ExactlyOctets_lawful}
use Rattle.bcder.specs.laws.Gathered.{kept_lawful}
use Rattle.bcder.specs.laws.Sound.{AreOctets-take}
use Rattle.bcder.specs.laws.Limits.{AreOctets-drop}

pub octet_string_value : IsValueTag octet_string_tag
octet_string_value = record { fits = omega arith; no_end = λ e. let n = ap (λ (t : Tag). t.number) e in omega arith }

-- ---- segments

pub segments_encode : (n : ℕ) (w : List ℕ) → AreOctets w → length w ≤ 1000 + 1000 * n
    → AreEncodings Cer (segmented n w).values (segmented n w).octets
segments_encode zero w o h = AreEncodings-one Cer (primitive octet_string_tag w) (definite octet_string_tag false w)
    (primitive_written Cer octet_string_tag w octet_string_value o (omega arith))
segments_encode (suc n) w o h =
    let first = take 1000 w in
    let few : length first ≤ 1000 = omega (arith, length-take 1000 w) in
    let rest = segmented n (drop 1000 w) in
    AreEncodings-join Cer (primitive octet_string_tag first ∷ₜ no_trees) rest.values (definite octet_string_tag false first) rest.octets
    (AreEncodings-one Cer (primitive octet_string_tag first) (definite octet_string_tag false first)
    (primitive_written Cer octet_string_tag first octet_string_value (AreOctets-take 1000 w o) (omega arith)))
    (segments_encode n (drop 1000 w) (AreOctets-drop 1000 w o) (omega (arith, length-drop 1000 w)))

-- ---- a string

string_at : (t : Tag) (mode : Mode) (c : List ℕ) (e : Encoded) (b : Bool) → is_cut mode (length c) ≡ b → IsValueTag t → AreOctets c
    → Ok e ≡ (if b then constructed_meaning t Cer (Ok (segments_in_cer c)) else primitive_meaning t (Ok c))
    → AreEncodings mode e.values e.octets
string_at t mode c e false is v o eq = primitive_at t mode c e _ (ltb-true _ _) v o eq
string_at t Ber c e true is v o eq = cc
string_at t Der c e true is v o eq = cc
string_at t Cer c e true is v o eq =
    constructed_at t Cer (segments_in_cer c) e _ (segments_encode (full_segments (length c)) c o (omega arith)) refl v eq

string_encodes : (t : Tag) (mode : Mode) (P : ContentsMeaning → Type 0) → ((c : List ℕ) → P (Ok c) → AreOctets c) → (e : Encoded)
    → ValueMeans t (string_meaning t mode) P (Ok e) → AreEncodings mode e.values e.octets
string_encodes t mode P octets e (inl p) = cc
string_encodes t mode P octets e (inr (v, (Err d, _, eq))) = cc
string_encodes t mode P octets e (inr (v, (Ok c, m, eq))) = string_at t mode c e (is_cut mode (length c)) refl v (octets c m) eq

pub string_lawful : (t : Tag) (mode : Mode) {P : ContentsMeaning → Type 0} → IsLawfulContents P
    → IsLawful mode (ValueMeans t (string_meaning t mode) P)
string_lawful t mode {P} lawful =
    record { one = record { same = value_same t (string_meaning t mode) lawful.one }; encodes = string_encodes t mode P lawful.octets }

pub OctetsMean_lawful : (t : Tag) (w : List ℕ) (mode : Mode) → IsLawful mode (OctetsMean t w mode)
OctetsMean_lawful t w mode = string_lawful t mode (ExactlyOctets_lawful w)

pub StringMeans_lawful : (t : Tag) (s : StringOctets) (mode : Mode) → IsLawful mode (StringMeans t s mode)
StringMeans_lawful t (whole w) Ber = OctetsMean_lawful t w Ber
StringMeans_lawful t (whole w) Cer = OctetsMean_lawful t w Cer
StringMeans_lawful t (whole w) Der = OctetsMean_lawful t w Der
StringMeans_lawful t (cut kept ps) Ber = constructed_lawful t (kept_lawful kept Ber)
StringMeans_lawful t (cut kept ps) Cer = OctetsMean_lawful t (octets_of (cut kept ps)) Cer
StringMeans_lawful t (cut kept ps) Der = OctetsMean_lawful t (octets_of (cut kept ps)) Der

-- ---- strings of wrapped values

wrapped_octets : (inner : Mode) (M : Meaning → Type 0) → IsLawful inner M → (m : Meaning) → M m → (w : List ℕ)
    → contents_of m ≡ Ok w → AreOctets w
wrapped_octets inner M lawful (Ok e) m w is =
    let same : e.octets ≡ w = cc in
    subst AreOctets same (AreOctets-encodings inner e.values e.octets (lawful.encodes e m))
wrapped_octets inner M lawful (Err e) m w is = cc

wrapped_at : (t : Tag) (mode : Mode) (c : ContentsMeaning) (e : Encoded) → ((w : List ℕ) → c ≡ Ok w → AreOctets w) → IsValueTag t
    → Ok e ≡ string_meaning t mode c → AreEncodings mode e.values e.octets
wrapped_at t mode (Ok c) e o v eq = string_at t mode c e (is_cut mode (length c)) refl v (o c refl) eq
wrapped_at t mode (Err d) e o v eq = cc

pub WrappedMeans_lawful : (t : Tag) (mode inner : Mode) {M : Meaning → Type 0} → IsLawful inner M → IsLawful mode (WrappedMeans t mode M)
WrappedMeans_lawful t mode inner {M} lawful = record {
  one = record { same = value_same t (λ x. string_meaning t mode (contents_of x)) lawful.one };
  encodes = wrapped_encodes;
}
  where
    wrapped_encodes : (e : Encoded) → WrappedMeans t mode M (Ok e) → AreEncodings mode e.values e.octets
    wrapped_encodes e (inl p) = cc
    wrapped_encodes e (inr (v, (m, holds, eq))) = wrapped_at t mode (contents_of m) e (wrapped_octets inner M lawful m holds) v eq

-- What is written of an octet string is read back as its octets.
use Rattle.std.proofs.Common.{◌≡◌, ℕ, false, List, length, refl, ap, sym, ◌∙◌, subst, inl, inr}
use Rattle.std.specs.Prelude.{Ok, Err}
use Rattle.bcder.specs.declared.mode.Mode.{Mode}
use Rattle.bcder.specs.declared.mode.Mode.TheVariants.{Ber, Cer, Der}
use Rattle.bcder.specs.x690.Identifier.{Tag}
use Rattle.bcder.specs.x690.Tree.{Tree, primitive, constructed, no_trees, ◌∷ₜ◌}
use Rattle.bcder.specs.x690.Encoding.{IsEncoding, AreEncodings}
use Rattle.bcder.specs.x690.OctetString.{octet_string_tag, segments_of, flat, IsOctetString}
use Rattle.bcder.specs.x690.CharSet.{Step, IsOfSet}
use Rattle.bcder.specs.calls.Gathered.{KeptMeans}
use Rattle.bcder.specs.calls.Meaning.{Encoded, Meaning, ContentsMeaning, ExactlyOctets, ValueMeans, primitive_meaning, constructed_encoded}
use Rattle.bcder.specs.calls.RestrictedString.{MeansRestricted}
use Rattle.bcder.specs.calls.StringMeaning.{OctetsMean, StringMeans, is_cut, string_meaning}
use Rattle.bcder.specs.calls.StringOctets.{StringOctets, whole, cut, octets_of, IsStringOf, MeansString}
use Rattle.bcder.specs.calls.Written.{IsWrittenString, WritesString}
use Rattle.bcder.specs.laws.StringMeanings.{StringMeans_lawful, octet_string_value}
use Rattle.bcder.proofs.Enclosing.{inside_of, constructed_given}
use Rattle.bcder.proofs.Lemmas.{means_flat}
use Rattle.bcder.proofs.WrittenStrings.{octets_written}
use Rattle.bcder.proofs.Writes.{one_of}
use Rattle.asn1.specs.Lent.{IsPiece, IsLent, IsLentOfSet}
use Rattle.asn1.specs.Strings.{IsWrittenAsString}
use Rattle.asn1.specs.Types.{Only, IsLeaf}
use Rattle.asn1.specs.Writing.{IsWritten, IsReadAs}
use Rattle.asn1.proofs.Members.{cons_first}
use Rattle.asn1.proofs.ReadingBack.{leaf_back}

-- what a value means as a string, of those that have encodings
some_string : (mode : Mode) (t : Tree) (w : List ℕ) → IsEncoding mode t w → (s : StringOctets) × IsStringOf mode t s
some_string mode (primitive t b) w k = (whole b, refl)
some_string mode (constructed t ts) w k =
    (cut (record { mode = mode; octets = k.0; start = 0 }) (segments_of ts), (record { mode = mode; octets = k.0; start = 0 }, refl, k.1, refl))

pub string_read_back : (tag : Tag) (mode : Mode) (x : StringOctets) (e : Encoded) → IsWrittenString tag mode (octets_of x) e
    → IsWritten (Only tag) (MeansString mode) octets_of (octets_of x) e
string_read_back tag mode x e v =
    let s = some_string mode v.value e.octets v.encodes in
    record {
      tree = v.value;
      is = v.alone;
      tagged = v.tag;
      some = s.0;
      means = (v.shape, s.1);
      only = λ y h. means_flat mode v.value y h.1 ∙ v.octets;
    }

-- a string of a set is read back as one of the set
pub restricted_read_back : (step : Step) (tag : Tag) (mode : Mode) (x : StringOctets) (e : Encoded) → IsOfSet step (octets_of x)
    → IsWrittenString tag mode (octets_of x) e → IsWritten (Only tag) (MeansRestricted step mode) octets_of (octets_of x) e
restricted_read_back step tag mode x e s v =
    let w = string_read_back tag mode x e v in
    record {
      tree = w.tree;
      is = w.is;
      tagged = w.tagged;
      some = w.some;
      means = (w.means, subst (IsOfSet step) (sym (w.only w.some w.means)) s);
      only = λ y h. w.only y h.0;
    }

-- octets that are not cut are written as one primitive value
in_one_piece : (tag : Tag) (mode : Mode) (w : List ℕ) (m : Meaning) → is_cut mode (length w) ≡ false → OctetsMean tag w mode m
    → ValueMeans tag (primitive_meaning tag) (ExactlyOctets w) m
in_one_piece tag mode w m n (inl p) = inl p
in_one_piece tag mode w m n (inr (v, (Err d, k, q))) = inr (v, (Err d, k, q))
in_one_piece tag mode w m n (inr (v, (Ok u, k, q))) = inr (v, (Ok u, k, q ∙ at u k.0))
  where
    at : (u : List ℕ) → ◌≡◌ {A = ContentsMeaning} (Ok u) (Ok w) → string_meaning tag mode (Ok u) ≡ primitive_meaning tag (Ok u)
    at u s = let same : u ≡ w = cc in rw (same, n) refl

module _ {L : Type 0} (items : L → List ℕ) (tag : Tag) (mode : Mode) (x : L) (n : IsPiece mode (items x)) where
  exactly : (w : List ℕ) → ◌≡◌ {A = ContentsMeaning} (Ok w) (Ok (items x)) → w ≡ items x
  exactly w k = cc

  lent : (w : List ℕ) → w ≡ items x → IsLent items mode w x
  lent w e = (sym e, subst (IsPiece mode) (sym e) n)

  -- what is written of octets in one piece is read back as them
  pub piece_read_back : IsReadAs (Only tag) (IsLeaf (IsLent items mode)) items x (OctetsMean tag (items x) mode)
  piece_read_back e m = leaf_back tag items x (ExactlyOctets (items x)) (IsLent items mode) read e (in_one_piece tag mode (items x) (Ok e) n m)
    where
      read : (w : List ℕ) → ExactlyOctets (items x) (Ok w) → IsLent items mode w x × ((y : L) → IsLent items mode w y → items y ≡ items x)
      read w k = let same = exactly w k.0 in (lent w same, λ y h. h.0 ∙ same)

  -- and so are those of a set
  pub characters_read_back : (step : Step) → IsOfSet step (items x)
      → IsReadAs (Only tag) (IsLeaf (IsLentOfSet items step mode)) items x (OctetsMean tag (items x) mode)
  characters_read_back step s e m =
      leaf_back tag items x (ExactlyOctets (items x)) (IsLentOfSet items step mode) read e (in_one_piece tag mode (items x) (Ok e) n m)
    where
      read : (w : List ℕ) → ExactlyOctets (items x) (Ok w)
          → IsLentOfSet items step mode w x × ((y : L) → IsLentOfSet items step mode w y → items y ≡ items x)
      read w k = let same = exactly w k.0 in ((lent w same, subst (IsOfSet step) (sym same) s), λ y h. h.0.0 ∙ same)

-- ---- with whatever tag

-- what is written of a string with one tag is an octet string, and so it is with each
pub with_each_tag : (mode : Mode) (s : StringOctets) → WritesString octet_string_tag mode (octets_of s) (StringMeans octet_string_tag s mode)
    → IsWrittenAsString mode s
with_each_tag Ber (whole w) h t e m = octets_written t Ber w e m
with_each_tag Cer (whole w) h t e m = octets_written t Cer w e m
with_each_tag Der (whole w) h t e m = octets_written t Der w e m
with_each_tag Cer (cut kept ps) h t e m = octets_written t Cer (octets_of (cut kept ps)) e m
with_each_tag Der (cut kept ps) h t e m = octets_written t Der (octets_of (cut kept ps)) e m
with_each_tag Ber (cut kept ps) h t e m =
    let M = KeptMeans kept Ber in
    let inside = inside_of t Ber M e m in
    let own = constructed_encoded Ber octet_string_tag inside.values in
    let w = h own (constructed_given octet_string_tag Ber M inside.values inside.meant inside.fits octet_string_value) in
    let old = constructed octet_string_tag inside.values.values in
    let new = constructed t inside.values.values in
    let is : old ≡ w.value = cons_first old w.value no_trees no_trees w.alone in
    let alone : e.values ≡ new ∷ₜ no_trees = ap (λ (x : Encoded). x.values) inside.is in
    let encodes = (StringMeans_lawful t (cut kept ps) Ber).encodes e m in
    let shape : IsOctetString Ber old = subst (IsOctetString Ber) (sym is) w.shape in
    record {
      value = new;
      alone = alone;
      encodes = one_of Ber new e.octets (subst (λ vs. AreEncodings Ber vs e.octets) alone encodes);
      tag = refl;
      shape = shape;
      octets = ap flat is ∙ w.octets;
    }

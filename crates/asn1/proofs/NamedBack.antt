-- Bit strings with named bits: they are one, and are read back.
use Rattle.std.proofs.Common.{◌≡◌, ◌≢◌, ℕ, suc, ◌+◌, Bool, true, false, List, length, refl, ap, sym, ◌∙◌, subst, inl, inr, arith}
use Rattle.std.specs.Prelude.{Ok, Err, ◌^◌, nat_lt, if◌then◌else◌}
use Rattle.bcder.specs.declared.mode.Mode.{Mode}
use Rattle.bcder.specs.declared.mode.Mode.TheVariants.{Ber, Cer, Der}
use Rattle.bcder.specs.declared.encode.error.EncodeError.{EncodeError}
use Rattle.bcder.specs.declared.encode.error.EncodeError.TheVariants.{LengthTooLarge}
use Rattle.bcder.specs.x690.BitString.{Bits, IsBits, bits, BitShape, IsBitString, contents_octets, as_written}
use Rattle.bcder.specs.x690.Identifier.{Tag, AreOctets}
use Rattle.bcder.specs.x690.Tree.{Tree, primitive, constructed}
use Rattle.bcder.specs.calls.Meaning.{Encoded, ContentsMeaning, BitsMean, ValueMeans, fits_primitive, primitive_encoded, primitive_meaning}
use Rattle.bcder.proofs.Bits.{as_many_octets}
use Rattle.bcder.proofs.WrittenBits.{written_same, written_alike, written_back, written_shape, same_contents}
use Rattle.asn1.specs.NamedBitLists.{named_bits, trimmed, IsTrimmed, MayEnd, AreNamedBits, without_zeros}
use Rattle.asn1.specs.Types.{IsLeaf, Only}
use Rattle.asn1.specs.Writing.{IsWritten, IsReadAs}
use Rattle.asn1.proofs.Trimmed.{trimmed_twice, bits_without_zeros, are_without_zeros}

-- ---- one value

pub named_one : (mode : Mode) (t : Tree) (x y : Bits) → IsLeaf (AreNamedBits mode) t x → IsLeaf (AreNamedBits mode) t y → named_bits x ≡ named_bits y
named_one mode (primitive t w) x y h k = ap named_bits (same_contents x y (h.0.0 ∙ sym k.0.0))
named_one mode (constructed t ts) x y h k = absurd h

is_trimmed : (mode : Mode) → mode ≢ Ber → (x : Bits) → MayEnd mode x → IsTrimmed x
is_trimmed Ber ne x h = absurd (ne refl)
is_trimmed Cer ne x h = h
is_trimmed Der ne x h = h

told : (mode : Mode) (w : List ℕ) (x : Bits) → IsBitString mode w x → IsBits x
told mode w x h = (subst (BitShape mode) (sym h.0) h.1).0

octets_told : (mode : Mode) (w : List ℕ) (x : Bits) → AreOctets w → IsBitString mode w x → AreOctets x.octets
octets_told mode w x o h = (let p : AreOctets (contents_octets x) = subst AreOctets (sym h.0) o in λ i. p (suc i))

pub named_once : (mode : Mode) → mode ≢ Ber → (x y : Bits) (v w : List ℕ) → AreOctets v → AreOctets w → AreNamedBits mode v x → AreNamedBits mode w y
    → named_bits x ≡ named_bits y → v ≡ w
named_once mode ne x y v w a b h k q =
    let same : bits x ≡ bits y = sym (is_trimmed mode ne x h.1) ∙ q ∙ is_trimmed mode ne y k.1 in
    let alike = written_alike mode x y ne (told mode v x h.0) (told mode w y k.0) (octets_told mode v x a h.0) (octets_told mode w y b k.0) same in
    sym (written_back mode v x h.0) ∙ ap contents_octets alike ∙ written_back mode w y k.0

-- ---- read

pub as_bits : (mode : Mode) (w : List ℕ) (x : Bits) → AreNamedBits mode w x → (a : Bits) × IsBitString mode w a
as_bits mode w x k = (x, k.0)

-- a bit string that may not end so in the mode
pub not_named : (mode : Mode) (x : Bits) (t : Bool) → t ≡ false → (MayEnd mode x → t ≡ true) → (w : List ℕ) (y : Bits) → IsBitString mode w x
    → AreNamedBits mode w y → ⊥
not_named mode x t e f w y h l =
    let may = f (subst (MayEnd mode) (same_contents y x (l.0.0 ∙ sym h.0)) l.1) in
    let z : true ≡ false = sym may ∙ e in absurd cc

-- ---- read back

given : (refusal : EncodeError) (v w : List ℕ) (b : Bool) → ◌≡◌ {A = ContentsMeaning} (Ok w) (if b then Ok v else Err refusal) → (w ≡ v) × (b ≡ true)
given refusal v w true q = (cc, refl)
given refusal v w false q = (cc, cc)

may_end : (mode : Mode) (x : Bits) → IsTrimmed x → MayEnd mode x
may_end Ber x h = tt
may_end Cer x h = h
may_end Der x h = h

leaf_at : {T K : Type 0} (tag : Tag) (key : T → K) (k : K) (Reads : List ℕ → T → Type 0) (s : T) (w : List ℕ) (e : Encoded) (b : Bool)
    → Ok e ≡ (if b then Ok (primitive_encoded tag w) else Err LengthTooLarge) → Reads w s → ((y : T) → Reads w y → key y ≡ k)
    → IsWritten (Only tag) (IsLeaf Reads) key k e
leaf_at tag key k Reads s w e false q r o = cc
leaf_at tag key k Reads s w e true q r o =
    let same : e ≡ primitive_encoded tag w = cc in
    record { tree = primitive tag w; is = ap (λ (z : Encoded). z.values) same; tagged = refl; some = s; means = r; only = o }

module _ (refusal : EncodeError) (mode : Mode) (x : Bits) (is : IsBits x) where
  abbrev written : Bits
  written = as_written mode (without_zeros x)

  -- it has no zero bits at its end, and the same bits before them
  written_bits : bits written ≡ named_bits x
  written_bits = written_same mode (without_zeros x) ∙ bits_without_zeros x

  written_named : named_bits written ≡ named_bits x
  written_named = ap trimmed written_bits ∙ trimmed_twice (bits x)

  read : (w : List ℕ) → BitsMean refusal mode (without_zeros x) (Ok w) → AreNamedBits mode w written
  read w m =
      let g = given refusal (contents_octets written) w (fits_primitive mode (length (contents_octets written))) m.0 in
      let n : length (contents_octets written) ≡ length (without_zeros x).octets + 1 = as_many_octets mode (without_zeros x) ∙ omega arith in
      let fits : fits_primitive mode (length (without_zeros x).octets + 1) ≡ true = ap (fits_primitive mode) (sym n) ∙ g.1 in
      let shape = written_shape mode (without_zeros x) (are_without_zeros x is) fits in
      ((sym g.0, subst (BitShape mode) (sym g.0) shape), may_end mode written (written_named ∙ sym written_bits))

  only : (w : List ℕ) → BitsMean refusal mode (without_zeros x) (Ok w) → (y : Bits) → AreNamedBits mode w y → named_bits y ≡ named_bits x
  only w m y h =
      let g = given refusal (contents_octets written) w (fits_primitive mode (length (contents_octets written))) m.0 in
      ap named_bits (same_contents y written (h.0.0 ∙ g.0)) ∙ written_named

  pub named_back : (tag : Tag)
      → IsReadAs (Only tag) (IsLeaf (AreNamedBits mode)) named_bits x (ValueMeans tag (primitive_meaning tag) (BitsMean refusal mode (without_zeros x)))
  named_back tag e (inl p) = cc
  named_back tag e (inr (v, (Err d, m, q))) = cc
  named_back tag e (inr (v, (Ok w, m, q))) =
      leaf_at tag named_bits (named_bits x) (AreNamedBits mode) written w e (nat_lt (length w) (2 ^ 32)) q (read w m) (only w m)

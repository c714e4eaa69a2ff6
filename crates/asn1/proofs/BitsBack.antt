-- What is written of a bit string is read back.
use Rattle.std.proofs.Common.{◌≡◌, ℕ, Bool, true, false, List, length, refl, ap, sym, ◌∙◌, subst}
use Rattle.std.specs.Prelude.{Ok, Err, if◌then◌else◌}
use Rattle.bcder.specs.declared.mode.Mode.{Mode}
use Rattle.bcder.specs.declared.mode.Mode.TheVariants.{Ber, Cer, Der}
use Rattle.bcder.specs.declared.encode.error.EncodeError.{EncodeError}
use Rattle.bcder.specs.x690.Identifier.{Tag}
use Rattle.bcder.specs.x690.BitString.{Bits, IsBits, MayHave, IsBitString, BitShape, contents_octets, as_written}
use Rattle.bcder.specs.calls.Meaning.{ContentsMeaning, BitsMean, ValueMeans, primitive_meaning, fits_primitive}
use Rattle.asn1.specs.Types.{Only, IsLeaf}
use Rattle.asn1.specs.Writing.{IsReadAs}
use Rattle.asn1.proofs.ReadingBack.{leaf_back}

-- what a mode may have is written as it is
as_it_is : (mode : Mode) (x : Bits) → MayHave mode x → as_written mode x ≡ x
as_it_is Ber x h = refl
as_it_is Cer x h = ap (λ (w : List ℕ). record { unused = x.unused; octets = w }) h.1
as_it_is Der x h = ap (λ (w : List ℕ). record { unused = x.unused; octets = w }) h

given : (refusal : EncodeError) (v w : List ℕ) (b : Bool) → ◌≡◌ {A = ContentsMeaning} (Ok w) (if b then Ok v else Err refusal) → w ≡ v
given refusal v w true q = cc
given refusal v w false q = cc

same_bits : (x y : Bits) → contents_octets y ≡ contents_octets x → y ≡ x
same_bits x y h =
    let u : y.unused ≡ x.unused = cc in
    let o : y.octets ≡ x.octets = cc in
    ap (λ (n : ℕ). record { unused = n; octets = y.octets }) u ∙ ap (λ (w : List ℕ). record { unused = x.unused; octets = w }) o

only_contents : (refusal : EncodeError) (mode : Mode) (x : Bits) → MayHave mode x → (w : List ℕ) → BitsMean refusal mode x (Ok w) → contents_octets x ≡ w
only_contents refusal mode x h w m =
    let v = contents_octets (as_written mode x) in
    sym (given refusal v w (fits_primitive mode (length v)) m.0 ∙ ap contents_octets (as_it_is mode x h))

pub bits_read_back : (refusal : EncodeError) (tag : Tag) (mode : Mode) (x : Bits) → IsBits x × MayHave mode x
    → IsReadAs (Only tag) (IsLeaf (IsBitString mode)) (λ y. y) x (ValueMeans tag (primitive_meaning tag) (BitsMean refusal mode x))
bits_read_back refusal tag mode x k =
    leaf_back tag (λ y. y) x (BitsMean refusal mode x) (IsBitString mode) (λ w m. read w (only_contents refusal mode x k.1 w m))
  where
    read : (w : List ℕ) → contents_octets x ≡ w → IsBitString mode w x × ((y : Bits) → IsBitString mode w y → y ≡ x)
    read w q = subst (λ v. IsBitString mode v x × ((y : Bits) → IsBitString mode v y → y ≡ x)) q ((refl, k), λ y h. same_bits x y h.0)

-- a bit string whose contents octets are told is one
pub told_bits : (x : Bits) (w : List ℕ) → IsBitString Ber w x → IsBits x
told_bits x w h = (subst (BitShape Ber) (sym h.0) h.1).0

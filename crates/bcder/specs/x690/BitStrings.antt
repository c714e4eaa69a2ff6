-- Laws of bit strings. Each is the contract of a function of `src/laws/bit_strings.rt`.
use Rattle.std.specs.Prelude.{◌≡◌, ◌≢◌, ℕ, List}
use Rattle.bcder.specs.declared.mode.Mode.{Mode}
use Rattle.bcder.specs.declared.mode.Mode.TheVariants.{Ber}
use Rattle.bcder.specs.x690.Identifier.{AreOctets}
use Rattle.bcder.specs.x690.BitString.{Bits, IsBits, bits, contents_octets, as_written, IsBitString}

-- a bit string as it is written has the same bits
abbrev pub WrittenBitsAreTheSame : Type 0
WrittenBitsAreTheSame = (mode : Mode) (x : Bits) → bits (as_written mode x) ≡ bits x

-- 11.2.1: in CER and DER bit strings with the same bits are written alike
abbrev pub SameBitsAreWrittenAlike : Type 0
SameBitsAreWrittenAlike = (mode : Mode) (x y : Bits) → mode ≢ Ber → IsBits x → IsBits y → AreOctets x.octets → AreOctets y.octets
    → bits x ≡ bits y → as_written mode x ≡ as_written mode y

-- contents octets that are read are written back unchanged
abbrev pub ReadIsWrittenBack : Type 0
ReadIsWrittenBack = (mode : Mode) (w : List ℕ) (x : Bits) → IsBitString mode w x → contents_octets (as_written mode x) ≡ w

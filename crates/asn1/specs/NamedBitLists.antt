-- Bit strings whose bits have names (ITU-T X.680, 22.7; X.690, 11.2.2).
use Rattle.std.specs.Prelude.{◌≡◌, ℕ, ◌+◌, ◌-◌, ◌*◌, ◌/◌, ⊤, Bool, false, List, [], ◌∷◌, length, take}
use Rattle.bcder.specs.declared.mode.Mode.{Mode}
use Rattle.bcder.specs.declared.mode.Mode.TheVariants.{Ber, Cer, Der}
use Rattle.bcder.specs.x690.BitString.{Bits, bits, IsBitString}

-- a bit before others, or none, if it is zero and no others are left
abbrev pub before_others : Bool → List Bool → List Bool
before_others false [] = []
before_others b bs = b ∷ bs

-- the bits without the zero bits at their end
abbrev pub trimmed : List Bool → List Bool
trimmed [] = []
trimmed (b ∷ bs) = before_others b (trimmed bs)

-- which bits are one, up to the last of these
abbrev pub named_bits : Bits → List Bool
named_bits x = trimmed (bits x)

-- 11.2.2: no zero bit is at the end
abbrev pub IsTrimmed : Bits → Type 0
IsTrimmed x = named_bits x ≡ bits x

-- what a mode requires of such a bit string
abbrev pub MayEnd : Mode → Bits → Type 0
MayEnd Ber x = ⊤
MayEnd Cer x = IsTrimmed x
MayEnd Der x = IsTrimmed x

-- octets are the contents octets of this bit string in a mode
abbrev pub AreNamedBits : Mode → List ℕ → Bits → Type 0
AreNamedBits mode w x = IsBitString mode w x × MayEnd mode x

-- the first n bits
abbrev pub first_bits : ℕ → Bits → Bits
first_bits n x = record { unused = 8 * ((n + 7) / 8) - n; octets = take ((n + 7) / 8) x.octets }

-- the bit string without the zero bits at its end
abbrev pub without_zeros : Bits → Bits
without_zeros x = first_bits (length (named_bits x)) x

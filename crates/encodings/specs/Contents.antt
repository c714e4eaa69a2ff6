-- What is said of contents octets.
use Rattle.std.specs.Prelude.{◌≡◌, ℕ, ◌<◌, ℤ, nat_abs, Bool, true, false, List, [], ◌∷◌}
use Rattle.std.specs.List.{concat}
use Rattle.bcder.specs.declared.mode.Mode.{Mode}
use Rattle.bcder.specs.x690.Identifier.{AreOctets}
use Rattle.bcder.specs.x690.Integer.{AreInteger, is_negative}
use Rattle.bcder.specs.x690.Length.{big_endian}
use Rattle.bcder.specs.x690.BitString.{Bits, IsBitString}
use Rattle.bcder.specs.x690.OctetString.{AreSegmented, MayBeWhole}

-- w are the contents octets of an integer, which is negative or not
pub record HasSign (w : List ℕ) (negative : Bool) : Type 0 where
  pub number : ℤ
  pub integer : AreInteger number w
  pub sign : negative ≡ is_negative w

-- w are the contents octets of a bit string, so many bits of whose last octet are unused
pub record HasUnused (mode : Mode) (w : List ℕ) (unused : ℕ) : Type 0 where
  pub bits : Bits
  pub string : IsBitString mode w bits
  pub count : unused ≡ bits.unused

-- the first octet, if there is one, is not zero
abbrev pub HasNoLeadingZero : List ℕ → Type 0
HasNoLeadingZero [] = Unit {0}
HasNoLeadingZero (b ∷ m) = 0 < b

-- w are the contents octets of an integer, and m the octets of the number without its sign: the most significant first, as few as
-- there can be, none for 0
pub record IsMagnitude (w m : List ℕ) : Type 0 where
  pub number : ℤ
  pub integer : AreInteger number w
  pub octets : AreOctets m
  pub magnitude : big_endian m ≡ nat_abs number
  pub fewest : HasNoLeadingZero m

-- w are the contents octets of an octet string, in one piece or, in a constructed value, in segments; s are the octets of the string
abbrev pub HoldsString : Mode → Bool → List ℕ → List ℕ → Type 0
HoldsString mode false w s = MayBeWhole mode w × (s ≡ w)
HoldsString mode true w s = (parts : List (List ℕ)) × AreSegmented mode w parts × (s ≡ concat parts)

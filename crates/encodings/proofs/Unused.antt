-- The unused bits that the first contents octet of a bit string tells.
use Rattle.std.proofs.Common.{◌≡◌, ℕ, List, [], ◌∷◌, refl}
use Rattle.std.specs.Prelude.{slice_index_or}
use Rattle.bcder.specs.declared.mode.Mode.{Mode}
use Rattle.bcder.specs.x690.BitString.{BitShape}
use Rattle.encodings.specs.Contents.{HasUnused}

pub unused_told : (mode : Mode) (w : List ℕ) (n : ℕ) → BitShape mode w → n ≡ slice_index_or w 0 0 → HasUnused mode w n
unused_told mode [] n s k = absurd s
unused_told mode (b ∷ w) n s k = record { bits = record { unused = b; octets = w }; string = (refl, s); count = k }

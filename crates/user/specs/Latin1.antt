-- Latin-1: each octet is the character of its number.
use Rattle.std.specs.Prelude.{◌≡◌, ℕ, Bool, true}
use Rattle.std.specs.Char.{IsScalar}
use Rattle.std.specs.Int.{is_in_range}
use Rattle.std.proofs.Common.{arith}
use Rattle.std.proofs.lemmas.Bool.Decides.{nat_tests}

abbrev pub is_octet : ℕ → Bool
is_octet b = is_in_range 0x00 0xFF b

pub octet_scalar : (b : ℕ) → is_octet b ≡ true → IsScalar b
octet_scalar b h = grind (arith, nat_tests)

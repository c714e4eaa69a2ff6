use Rattle.std.proofs.Common.{arith}
use Rattle.bcder.proofs.Bits.{bits_length}
use Rattle.bcder.proofs.string.bit.BitString.bit_len.Goals as goal

pub returns : goal.returns
returns c = rw (← c.self.view_is) (omega (arith, bits_length (record { unused = c.self.inside.unused; octets = c.self.inside.octets })))

use Rattle.std.proofs.Common.{refl, sym, arith, false}
use Rattle.std.proofs.lemmas.List.{get_or_past}
use Rattle.std.proofs.lemmas.Nat.Bits.{shr_and_one}
use Rattle.bcder.specs.x690.BitString.{bits}
use Rattle.bcder.proofs.Bits.{bit_is}
use Rattle.bcder.proofs.string.bit.BitString.bit.Goals as goal

pub returns : goal.returns
returns c = rw (shr_and_one, bit_is c.args.self.now c.args.bit (omega arith), ← c.self.view_is, c.deref.ensures) refl

pub returns-then-bit-bit_len : goal.returns-then-bit-bit_len
returns-then-bit-bit_len c = sym (get_or_past (bits c.args.self.now) c.args.bit false (omega arith))

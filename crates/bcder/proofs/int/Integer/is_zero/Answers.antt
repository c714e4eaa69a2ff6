use Rattle.std.proofs.Common.{◌≡◌, true, false, arith}
use Rattle.bcder.proofs.IntegerOctets.{zero_told}
use Rattle.bcder.proofs.int.Integer.is_zero.Goals as goal

pub returns-in_default-3 : goal.returns-in_default-3
returns-in_default-3 c = (
  λ t. absurd (let x : false ≡ true = t in cc),
  λ z. absurd (omega (arith, zero_told c.args.self.now c.as_slice.result.now c.as_slice.ensures.octets c.as_slice.ensures.integer z)),
)

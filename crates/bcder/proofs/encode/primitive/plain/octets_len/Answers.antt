use Rattle.std.proofs.Common.{refl, arith}
use Rattle.bcder.proofs.encode.primitive.plain.octets_len.Goals as goal

pub returns : goal.returns
returns c = (c.args.octets.now, (refl, λ i. omega (arith, c.type_inv.octets i)), refl)

use Rattle.std.proofs.Common.{refl, arith, inl}
use Rattle.bcder.proofs.encode.primitive.plain.write_octets.Goals as goal

pub returns : goal.returns
returns g c = record { went = inl (c.args.octets.now, (refl, λ i. omega (arith, c.type_inv.octets i)), c.write_all.ensures) }

use Rattle.std.proofs.Common.{length, ap, sym, arith, false}
use Rattle.bcder.specs.x690.BitString.{Bits}
use Rattle.bcder.specs.x690.Octets.{definite}
use Rattle.bcder.proofs.Bits.{as_many_octets}
use Rattle.bcder.proofs.WrittenBits.{bits_are}
use Rattle.bcder.proofs.Writing.{same_octets}
use Rattle.bcder.proofs.string.bit.write.put_meant.Goals as goal

pub put_value-requires-clause-contents : goal.put_value-requires-clause-contents
put_value-requires-clause-contents g c =
    let x : Bits = record { unused = c.args.unused; octets = c.args.octets.now } in
    let (w, meant, len_is) = c.requires.contents in
    let same = bits_are c.args.refusal c.args.mode x w meant in
    omega (arith, len_is, ap length same, as_many_octets c.args.mode x)

pub returns : goal.returns
returns g c = λ one w meant.
    let x : Bits = record { unused = c.args.unused; octets = c.args.octets.now } in
    same_octets (ap (definite c.args.tag false) (sym (bits_are c.args.refusal c.args.mode x w meant))) c.put_value.ensures

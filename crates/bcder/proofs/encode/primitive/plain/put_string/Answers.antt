use Rattle.std.proofs.Common.{false, length, ap, arith, sym}
use Rattle.bcder.specs.declared.encode.error.EncodeError.TheVariants.{LongCerPrimitive}
use Rattle.bcder.specs.x690.Octets.{definite}
use Rattle.bcder.proofs.WholeStrings.{string_is}
use Rattle.bcder.proofs.Writing.{same_octets}
use Rattle.bcder.proofs.encode.primitive.plain.put_string.Goals as goal

pub put_contents-requires : goal.put_contents-requires
put_contents-requires g c =
    let (w, meant, len_is) = c.requires.contents in
    let same = string_is LongCerPrimitive c.args._mode c.args.octets.now w meant in
    omega (arith, c.requires.fits, len_is, ap length same)

pub returns : goal.returns
returns g c = λ one w meant. same_octets
    (ap (definite c.args.tag false) (sym (string_is LongCerPrimitive c.args._mode c.args.octets.now w meant))) c.put_contents.ensures

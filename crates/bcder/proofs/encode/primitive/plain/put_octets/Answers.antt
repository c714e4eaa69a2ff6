use Rattle.std.proofs.Common.{◌≡◌, length, ap, arith, refl}
use Rattle.bcder.proofs.Writing.{exactly}
use Rattle.bcder.proofs.encode.primitive.plain.put_octets.Goals as goal

pub put_contents-requires : goal.put_contents-requires
put_contents-requires g c =
    let (w, (is, octets), len_is) = c.requires.contents in
    let same : w ≡ c.args.octets.now = cc in
    omega (arith, c.requires.fits, len_is, ap length same)

pub returns : goal.returns
returns g c = λ one w meant. exactly c.args.tag refl c.put_contents.ensures w meant.0

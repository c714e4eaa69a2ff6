use Rattle.std.proofs.Common.{rules, ◌≡◌, length, ap, arith}
use Rattle.bcder.specs.x690.Integer.{integer_octets}
use Rattle.bcder.proofs.Writing.{exactly}
use Rattle.bcder.proofs.encode.primitive.numbers.put_integer.Goals as goal

pub put_number-requires : goal.put_number-requires
put_number-requires g c =
    let (w, is, len_is) = c.requires.contents in
    let same : w ≡ integer_octets c.args.x.now = cc in
    let all : c.as_slice.result.now ≡ integer_octets c.args.x.now = search rules in
    omega (arith, c.requires.fits, len_is, ap length same, ap length all)

pub returns : goal.returns
returns g c =
    let all : c.as_slice.result.now ≡ integer_octets c.args.x.now = search rules in
    λ one. exactly c.args.tag all c.put_number.ensures

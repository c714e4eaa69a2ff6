use Rattle.std.proofs.Common.{◌<◌, length, sym, arith}
use Rattle.bcder.proofs.Enclosing.{short_definite}
use Rattle.bcder.proofs.Writing.{same_octets}
use Rattle.bcder.proofs.encode.short.put_number.Goals as goal

pub returns : goal.returns
returns g c =
    let w = c.args.contents.now in
    let few : length w < 128 = omega arith in
    same_octets (sym (short_definite c.args.tag c.in-Some.identifier w c.in-Some.ensures few)) c.put_array.ensures

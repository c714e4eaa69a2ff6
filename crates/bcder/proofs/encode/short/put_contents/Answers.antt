use Rattle.std.proofs.Common.{◌<◌, length, sym, arith}
use Rattle.bcder.proofs.Enclosing.{short_definite}
use Rattle.bcder.proofs.Writing.{same_octets}
use Rattle.bcder.proofs.encode.short.put_contents.Goals as goal

pub returns-then-len-gt8 : goal.returns-then-len-gt8
returns-then-len-gt8 g c =
    let w = c.args.contents.now in
    let few : length w < 128 = omega arith in
    same_octets (sym (short_definite c.args.tag c.in-Some.identifier w c.in-Some.ensures few)) c.put_together.ensures

pub returns : goal.returns
returns g c =
    let w = c.args.contents.now in
    let few : length w < 128 = omega arith in
    same_octets (sym (short_definite c.args.tag c.in-Some.identifier w c.in-Some.ensures few)) c.put_few.ensures

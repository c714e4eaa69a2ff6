use Rattle.std.proofs.Common.{rules, ◌≡◌, ◌<◌, length, drop, sym, arith}
use Rattle.bcder.specs.x690.Integer.{integer_octets}
use Rattle.bcder.proofs.Enclosing.{short_definite}
use Rattle.bcder.proofs.Writing.{exactly, same_octets}
use Rattle.bcder.proofs.encode.primitive.integers.put_signed.Goals as goal

pub returns : goal.returns
returns g c =
    let w = drop c.of_signed-contents.result.start c.of_signed-contents.result.buffer in
    let is : w ≡ integer_octets c.args.x = search rules in
    let few : length w < 128 = omega (arith, c.len-len.ensures.value, c.len-len.ensures.limit) in
    let all = same_octets (sym (short_definite c.args.tag c.in-Some.identifier w c.in-Some.ensures few)) c.put_five.ensures in
    λ one. exactly c.args.tag is all

use Rattle.std.proofs.Common.{rules, ◌≡◌, drop}
use Rattle.bcder.specs.x690.Integer.{integer_octets}
use Rattle.bcder.proofs.Writing.{exactly}
use Rattle.bcder.proofs.encode.primitive.integers.put_any_signed.Goals as goal

pub returns : goal.returns
returns g c =
    let is : drop c.of_signed.result.start c.of_signed.result.buffer ≡ integer_octets c.args.x = search rules in
    λ one. exactly c.args.tag is c.put_short.ensures

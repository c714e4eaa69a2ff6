use Rattle.std.proofs.Common.{◌<◌, ◌^◌, length, ap, arith, false}
use Rattle.bcder.specs.x690.Octets.{definite_length}
use Rattle.bcder.specs.calls.Meaning.{primitive_encoded}
use Rattle.bcder.proofs.Enclosing.{primitive_given, definite-length, short_length}
use Rattle.bcder.proofs.encode.primitive.value_len.Goals as goal

pub returns-then-len-lt128 : goal.returns-then-len-lt128
returns-then-len-lt128 g c =
    let (contents, meant, len_is) = c.in_ok-len.ensures in
    let (value, size, few) = c.in-Some.ensures.some in
    let t = c.args.tag in
    let short : length contents < 128 = omega (arith, len_is) in
    let fits : length contents < 2 ^ 32 = omega (arith, short) in
    let d = definite-length t false contents in
    let one = ap length (short_length (length contents) short) in
    (primitive_encoded t contents, primitive_given t _ contents meant fits value, omega (arith, d, one, len_is, size false))

pub returns : goal.returns
returns g c =
    let (contents, meant, len_is) = c.in_ok-len.ensures in
    let (value, size, few) = c.in-Some.ensures.some in
    let t = c.args.tag in
    let fits : length contents < 2 ^ 32 = omega (arith, len_is) in
    let d = definite-length t false contents in
    let same = ap (λ n. length (definite_length n)) len_is in
    (primitive_encoded t contents, primitive_given t _ contents meant fits value, omega (arith, d, same, len_is, size false))

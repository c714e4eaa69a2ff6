use Rattle.std.proofs.Common.{arith}
use Rattle.real.proofs.Numbers.{few_octets}
use Rattle.real.proofs.reading.unsigned_short.Goals as goal

pub overflow_mul-number : goal.overflow_mul-number
overflow_mul-number c =
    let i = c.loop-octet.invariant.1 in
    let f = few_octets c.loop-octet.octet-index (let h = c.requires in let t = c.loop-octet-test.true in omega arith) in
    omega arith

pub overflow_cast-result : goal.overflow_cast-result
overflow_cast-result c =
    let i = c.loop-octet.invariant.1 in
    let f = few_octets c.loop-octet.octet-index (let h = c.requires in let t = c.loop-octet.auto.octet-index-end in omega arith) in
    omega arith

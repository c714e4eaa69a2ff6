use Rattle.std.proofs.Common.{arith}
use Rattle.real.proofs.Texts.{all_digits, are_digits, exponent_is}
use Rattle.real.proofs.text.exponent.Goals as goal

pub returns-then-digits-octets : goal.returns-then-digits-octets
returns-then-digits-octets c = λ n h.
    let a = all_digits c.args.octets.now h.are_digits in
    let s = c.digits.ensures.same in
    let t = c.if-digits-octets.true in
    omega arith

pub returns : goal.returns
returns c =
    let s = c.digits.ensures.same in
    let t = c.if-digits-octets.false in
    exponent_is c.number.result c.args.octets.now (are_digits c.args.octets.now (omega arith)) (grind arith) c.number.ensures

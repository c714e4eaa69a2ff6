use Rattle.std.proofs.Common.{rules, ◌*◌, ◌^◌}
use Rattle.real.proofs.Texts.{front_large, all_large, all_zero, mantissa_made}
use Rattle.real.proofs.text.mantissa.Goals as goal

pub returns-in_default : goal.returns-in_default
returns-in_default c = λ m power h. front_large c.args.whole.now c.args.fraction.now m power c.requires.fraction c.in_default.ensures.same h

pub returns-in_default-with_digits : goal.returns-in_default-with_digits
returns-in_default-with_digits c = λ m power h.
    all_large c.args.whole.now c.args.fraction.now (c.in-Some.number * 10 ^ c.in-Some.zeros) m power c.in-Some.ensures.same.value
    c.in_default-with_digits.ensures.same h

pub returns-then-number-eq0 : goal.returns-then-number-eq0
returns-then-number-eq0 c = λ m power h.
    all_zero c.args.whole.now c.args.fraction.now (c.in-Some.number * 10 ^ c.in-Some.zeros) c.in-Some-with_digits.number c.in-Some-with_digits.zeros
    m power c.in-Some.ensures.same.value c.if-number-eq0.true c.in-Some-with_digits.ensures.same h

pub returns : goal.returns
returns c =
    mantissa_made c.args.whole.now c.args.fraction.now (c.in-Some.number * 10 ^ c.in-Some.zeros) c.in-Some-with_digits.number
    c.in-Some-with_digits.zeros c.in-Some.ensures.same.value c.if-number-eq0.false (search rules) c.in-Some-with_digits.ensures.same

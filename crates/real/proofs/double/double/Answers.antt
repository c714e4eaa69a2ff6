use Rattle.std.proofs.Common.{rules, ◌≡◌, ◌+◌, arith, pos, ◌+ℤ◌, ◌*◌, ◌^◌, ◌∙◌, ap, w32, SFits}
use Rattle.std.proofs.lemmas.Int.{ints}
use Rattle.real.proofs.Doubles.{not_large}
use Rattle.real.proofs.double.double.Goals as goal

pub returns-then-place-gt2045 : goal.returns-then-place-gt2045
returns-then-place-gt2045 c = λ bits h.
    let same = c.raised-significand.ensures.same in
    let most = c.raised-significand.ensures.most in
    let far = c.if-place-gt2045.true in
    let f : SFits w32 c.exponent.result = search rules in
    let x = c.exponent.ensures.0 in
    let m = c.mantissa-mantissa.ensures.0 in
    let two = same.2 in
    let e : c.args.number.now.exponent +ℤ pos 1074 ≡ pos (c.raised-significand.result.1 + same.0) = omega (arith, ints) in
    let s : c.raised-significand.result.0 ≡ c.args.number.now.mantissa * 2 ^ same.0 = same.1 ∙ ap (λ z. z * 2 ^ same.0) m in
    not_large bits c.args.number.now c.raised-significand.result.0 c.raised-significand.result.1 same.0 h e s (most (λ z. omega arith)) (omega arith)

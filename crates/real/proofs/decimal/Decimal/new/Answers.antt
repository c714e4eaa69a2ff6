use Rattle.std.proofs.Common.{arith, ◌∙◌, sym}
use Rattle.std.proofs.lemmas.Int.{ints}
use Rattle.real.proofs.Texts.{ten_one, no_zero}
use Rattle.real.proofs.decimal.Decimal.new.Goals as goal

pub returns-then-mantissa-eq0 : goal.returns-then-mantissa-eq0
returns-then-mantissa-eq0 c = λ x h. no_zero c.args.mantissa x.mantissa h.power c.if-mantissa-eq0.true h.mantissa_is h.held.last

pub returns-in_default : goal.returns-in_default
returns-in_default c = λ x h.
    let r = c.without_zeros-mantissa.result in
    let o = ten_one x.mantissa r.0 h.power r.1 h.held.last c.without_zeros-mantissa.ensures.last (sym h.mantissa_is ∙ c.without_zeros-mantissa.ensures.same) in
    let p = o.1 in
    let e = h.exponent_is in
    let f = c.from.ensures in
    c.in_default.ensures x.exponent h.held.exponent (omega (arith, ints))

use Rattle.std.proofs.Common.{arith, ◌∙◌, sym}
use Rattle.std.proofs.lemmas.Int.{ints}
use Rattle.real.proofs.Ones.{odd_one, no_odd}
use Rattle.real.proofs.binary.Binary.new.Goals as goal

pub returns-then-mantissa-eq0 : goal.returns-then-mantissa-eq0
returns-then-mantissa-eq0 c = λ x h. no_odd c.args.mantissa x.mantissa h.power c.if-mantissa-eq0.true h.mantissa_is h.held.odd

pub returns-in_default : goal.returns-in_default
returns-in_default c = λ x h.
    let r = c.odd_part-mantissa.result in
    let o = odd_one x.mantissa r.0 h.power r.1 h.held.odd c.odd_part-mantissa.ensures.odd (sym h.mantissa_is ∙ c.odd_part-mantissa.ensures.same) in
    let p = o.1 in
    let e = h.exponent_is in
    c.in_default.ensures x.exponent h.held.exponent (omega (arith, ints))

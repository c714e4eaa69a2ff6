use Rattle.std.proofs.Common.{arith}
use Rattle.real.proofs.Texts.{zero_behind, digit_behind, digit_large}
use Rattle.real.proofs.text.with_digit.Goals as goal

pub returns-then-digit-eq0-clause-same : goal.returns-then-digit-eq0-clause-same
returns-then-digit-eq0-clause-same c =
    zero_behind c.args.number c.args.zeros c.args.digit c.if-digit-eq0.true c.if-number-eq0.false c.requires.stripped

pub returns-in_default-clause-same : goal.returns-in_default-clause-same
returns-in_default-clause-same c =
    let l = c.in_default.ensures in
    digit_large c.args.number c.args.zeros c.args.digit c.if-digit-eq0.false c.requires.digit (omega arith)

pub returns-then-front-from-clause-same : goal.returns-then-front-from-clause-same
returns-then-front-from-clause-same c =
    let l = c.in-Some.ensures in
    let f = c.from-2.ensures in
    let t = c.if-front-from.true in
    digit_large c.args.number c.args.zeros c.args.digit c.if-digit-eq0.false c.requires.digit (omega arith)

pub returns-clause-same : goal.returns-clause-same
returns-clause-same c =
    digit_behind c.args.number c.args.zeros c.args.digit c.in-Some.front c.from-3.result c.if-digit-eq0.false c.requires.digit c.in-Some.ensures
    c.from-3.ensures

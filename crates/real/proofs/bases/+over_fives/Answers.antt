use Rattle.real.proofs.Fives.{not_over, over_is}
use Rattle.real.proofs.bases.+over_fives.Goals as goal

pub returns-then-number-ne0 : goal.returns-then-number-ne0
returns-then-number-ne0 t c = λ m h. not_over c.args.number c.args.count m c.if-count-eq0.false c.if-number-ne0.true h

pub returns : goal.returns
returns t c = over_is c.over_fives.result c.args.number c.args.count c.if-count-eq0.false c.if-number-ne0.false c.over_fives.ensures

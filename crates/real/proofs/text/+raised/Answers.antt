use Rattle.real.proofs.Texts.{raised_large, raised_step}
use Rattle.real.proofs.text.+raised.Goals as goal

pub returns-then-number-gt1844674407370955161 : goal.returns-then-number-gt1844674407370955161
returns-then-number-gt1844674407370955161 t c = raised_large c.args.number c.args.count c.if-count-eq0.false c.if-number-gt1844674407370955161.true

pub returns : goal.returns
returns t c = rw (raised_step c.args.number c.args.count c.if-count-eq0.false) at c.raised.ensures

use Rattle.real.proofs.Fives.{times_large, times_step}
use Rattle.real.proofs.bases.+times_fives.Goals as goal

pub returns-then-number-gt3689348814741910323 : goal.returns-then-number-gt3689348814741910323
returns-then-number-gt3689348814741910323 t c = times_large c.args.number c.args.count c.if-count-eq0.false c.if-number-gt3689348814741910323.true

pub returns : goal.returns
returns t c = rw (times_step c.args.number c.args.count c.if-count-eq0.false) at c.times_fives.ensures

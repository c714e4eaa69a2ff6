use Rattle.std.proofs.Common.{rules}
use Rattle.support.proofs.Counting.{nulls_fit, nulls_overflow}
use Rattle.support.proofs.encoders.nulls_len.Goals as goal

pub returns-in-Some : goal.returns-in-Some
returns-in-Some c = nulls_fit c.args.count c.in-Some.len (search rules) (search rules)

pub returns-in-None : goal.returns-in-None
returns-in-None c = nulls_overflow c.args.count (search rules)

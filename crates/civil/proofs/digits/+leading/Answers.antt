use Rattle.std.proofs.Common.{rules, arith}
use Rattle.std.proofs.lemmas.Grind.{common_steps}
use Rattle.civil.proofs.Leading.{leading_step, nothing_is_zero}
use Rattle.civil.proofs.digits.+leading.Goals as goal

pub returns-in-len1-up : goal.returns-in-len1-up
returns-in-len1-up t c n lt e =
    leading_step c.args.count n c.pow-unit.result c.from-digit.result c.leading-behind.result c.saturating_mul.result c.saturating_add.result
    c.args.octets.now _ (omega arith) c.requires c.in-len1-up.len_at_least (search rules) (search rules) c.leading-behind.ensures
    (grind (arith, common_steps)) (search rules) (search rules) lt e

pub returns-in_default : goal.returns-in_default
returns-in_default t c n lt e = nothing_is_zero c.args.count n c.args.octets.now c.in_default.len_below lt e

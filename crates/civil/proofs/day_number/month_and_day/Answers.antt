use Rattle.std.proofs.Common.{rules, arith}
use Rattle.civil.proofs.Days.{no_months, months_step, last_month}
use Rattle.civil.proofs.day_number.month_and_day.Goals as goal

pub loop-month-init : goal.loop-month-init
loop-month-init c = let n = no_months c.args.year in omega arith

pub loop-month-preserved : goal.loop-month-preserved
loop-month-preserved c =
    months_step c.args.year c.loop-month.month c.loop-month.rest c.from-days.result c.args.day (omega arith) (search rules) c.if-rest-days.false
    c.loop-month.invariant

pub overflow_cast-result-2 : goal.overflow_cast-result-2
overflow_cast-result-2 c =
    let l = last_month c.args.year c.loop-month.month c.loop-month.rest c.args.day (omega arith) c.loop-month.invariant c.requires in omega arith

pub overflow_add-result-2 : goal.overflow_add-result-2
overflow_add-result-2 c =
    let l = last_month c.args.year c.loop-month.month c.loop-month.rest c.args.day (omega arith) c.loop-month.invariant c.requires in omega arith

pub returns-clause-day : goal.returns-clause-day
returns-clause-day c =
    let l = last_month c.args.year c.loop-month.month c.loop-month.rest c.args.day (omega arith) c.loop-month.invariant c.requires in
    (omega arith, omega arith)

use Rattle.std.proofs.Common.{rules, ◌≡◌, ◌+◌, sym, arith}
use Rattle.civil.specs.Calendar.{days_in_month}
use Rattle.civil.proofs.Days.{no_months, next_month_at, days_in_month_bounds}
use Rattle.civil.proofs.day_number.days_of_months.Goals as goal

pub loop-month-init : goal.loop-month-init
loop-month-init c = record { sum = sym (no_months c.args.year); few = omega arith }

pub loop-month-preserved : goal.loop-month-preserved
loop-month-preserved c = record {
  sum = next_month_at c.args.year c.loop-month.month c.loop-month.days c.from-days.result c.loop-month.invariant.sum (search rules);
  few = (
      let b = days_in_month_bounds c.args.year (c.loop-month.month + 1) in
      let d : c.from-days.result ≡ days_in_month c.args.year (c.loop-month.month + 1) = search rules in
      let i = c.loop-month.invariant.few in
      omega arith);
}

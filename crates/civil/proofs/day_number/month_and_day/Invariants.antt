use Rattle.std.proofs.Common.{◌≡◌, ◌+◌, ◌-◌}
use Rattle.civil.specs.Calendar.{days_of_months}
use Rattle.civil.proofs.day_number.month_and_day.Given as goal

abbrev pub invariant-loop-month : goal.invariant-loop-month
invariant-loop-month l = days_of_months l.year (l.month - 1) + l.rest ≡ l.day

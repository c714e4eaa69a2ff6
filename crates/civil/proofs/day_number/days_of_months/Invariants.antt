use Rattle.std.proofs.Common.{◌≡◌, ◌*◌, ◌≤◌}
use Rattle.civil.specs.Calendar.{days_of_months}
use Rattle.civil.proofs.day_number.days_of_months.Given as goal

abbrev pub invariant-loop-month : goal.invariant-loop-month
invariant-loop-month l = record { sum : l.days ≡ days_of_months l.year l.month; few : l.days ≤ 31 * l.month }

use Rattle.std.proofs.Common.{rules, ◌+◌, ◌*◌, ◌/◌, ◌<◌, ap}
use Rattle.civil.specs.Calendar.{days_before_year}
use Rattle.civil.proofs.Days.{year_above, year_below, some_year, year_again}
use Rattle.civil.proofs.day_number.year_of.Goals as goal

pub overflow_sub-result : goal.overflow_sub-result
overflow_sub-result c = some_year c.args.day _ (search rules)

pub returns-then-day-days_before_year-clause-from : goal.returns-then-day-days_before_year-clause-from
returns-then-day-days_before_year-clause-from c =
    year_below c.args.day _ (ap (λ z. (400 * z + 396) / 146097) c.from.ensures) (some_year c.args.day _ (search rules))

pub returns-then-day-days_before_year-clause-until : goal.returns-then-day-days_before_year-clause-until
returns-then-day-days_before_year-clause-until c =
    let h : c.args.day < days_before_year ((400 * c.from.result + 396) / 146097) = search rules in
    year_again c.args.day _ (some_year c.args.day _ h) h

pub returns-else-day-days_before_year-clause-until : goal.returns-else-day-days_before_year-clause-until
returns-else-day-days_before_year-clause-until c = year_above c.args.day _ (ap (λ z. (400 * z + 396) / 146097) c.from.ensures)

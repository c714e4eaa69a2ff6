use Rattle.std.proofs.Common.{◌/◌, arith}
use Rattle.civil.proofs.Days.{year_few, year_room}
use Rattle.civil.proofs.date_time.unix.after.Goals as goal

pub overflow_cast-day-2 : goal.overflow_cast-day-2
overflow_cast-day-2 c =
    let r = year_room c.year_of-year.result (c.args.passed / 86400) c.year_of-year.ensures.until c.year_of-year.ensures.from in
    let b = year_few c.year_of-year.result in
    let s = c.days_before_year.ensures.sum in
    omega arith

pub month_and_day-month-requires : goal.month_and_day-month-requires
month_and_day-month-requires c =
    let r = year_room c.year_of-year.result (c.args.passed / 86400) c.year_of-year.ensures.until c.year_of-year.ensures.from in
    let s = c.days_before_year.ensures.sum in
    omega arith

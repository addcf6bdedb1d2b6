-- Each number that was read is the one that any reading has, and so is what follows it.
use Rattle.std.proofs.Common.{arith}
use Rattle.strings.specs.Time.{IsDate}
use Rattle.strings.proofs.TimeLemmas.{agree, follow, if_none, to_reading, from_reading, day_to_31, same_date, not_true}
use Rattle.strings.proofs.time.split_moment.Goals as goal

pub returns-in_err-month-clause-none : goal.returns-in_err-month-clause-none
returns-in_err-month-clause-none c =
    if_none c.from_residual-in_err-month.result (λ moment rest is e.
    let r = to_reading c.args.kind c.args.octets.now moment rest is e in
    c.in_err-month.ensures.none r.month r.after_month r.date.month_from r.date.month_to (follow c.in_ok-year.ensures.found r.year_is r.month_is))

pub returns-in_err-day-clause-none : goal.returns-in_err-day-clause-none
returns-in_err-day-clause-none c =
    if_none c.from_residual-in_err-day.result (λ moment rest is e.
    let r = to_reading c.args.kind c.args.octets.now moment rest is e in
    let month = follow c.in_ok-year.ensures.found r.year_is r.month_is in
    c.in_err-day.ensures.none r.day r.after_day r.date.day_from (day_to_31 r.date) (follow c.in_ok-month.ensures.found.2 month r.day_is))

pub returns-in_err-hour-clause-none : goal.returns-in_err-hour-clause-none
returns-in_err-hour-clause-none c =
    if_none c.from_residual-in_err-hour.result (λ moment rest is e.
    let r = to_reading c.args.kind c.args.octets.now moment rest is e in
    let month = follow c.in_ok-year.ensures.found r.year_is r.month_is in
    let day = follow c.in_ok-month.ensures.found.2 month r.day_is in
    c.in_err-hour.ensures.none r.hour r.after_hour (omega arith) r.time.0 (follow c.in_ok-day.ensures.found.2 day r.hour_is))

pub returns-in_err-minute-clause-none : goal.returns-in_err-minute-clause-none
returns-in_err-minute-clause-none c =
    if_none c.from_residual-in_err-minute.result (λ moment rest is e.
    let r = to_reading c.args.kind c.args.octets.now moment rest is e in
    let month = follow c.in_ok-year.ensures.found r.year_is r.month_is in
    let day = follow c.in_ok-month.ensures.found.2 month r.day_is in
    let hour = follow c.in_ok-day.ensures.found.2 day r.hour_is in
    c.in_err-minute.ensures.none r.minute r.after_minute (omega arith) r.time.1 (follow c.in_ok-hour.ensures.found.2 hour r.minute_is))

pub returns-in_err-second-clause-none : goal.returns-in_err-second-clause-none
returns-in_err-second-clause-none c =
    if_none c.from_residual-in_err-second.result (λ moment rest is e.
    let r = to_reading c.args.kind c.args.octets.now moment rest is e in
    let month = follow c.in_ok-year.ensures.found r.year_is r.month_is in
    let day = follow c.in_ok-month.ensures.found.2 month r.day_is in
    let hour = follow c.in_ok-day.ensures.found.2 day r.hour_is in
    let minute = follow c.in_ok-hour.ensures.found.2 hour r.minute_is in
    c.in_err-second.ensures.none r.second rest (omega arith) r.time.2 (follow c.in_ok-minute.ensures.found.2 minute r.second_is))

pub returns-then-is_date-clause-found : goal.returns-then-is_date-clause-found
returns-then-is_date-clause-found c =
    from_reading c.args.kind c.args.octets.now c.in_ok-second.rest.now
    (record {
      year = c.in_ok-year.year;
      month = c.in_ok-month.month;
      day = c.in_ok-day.day;
      hour = c.in_ok-hour.hour;
      minute = c.in_ok-minute.minute;
      second = c.in_ok-second.second;
      after_year = c.in_ok-year.rest.now;
      after_month = c.in_ok-month.rest.now;
      after_day = c.in_ok-day.rest.now;
      after_hour = c.in_ok-hour.rest.now;
      after_minute = c.in_ok-minute.rest.now;
      date = c.is_date.ensures.0 c.if-is_date.true;
      time = (c.in_ok-hour.ensures.found.1, c.in_ok-minute.ensures.found.1, c.in_ok-second.ensures.found.1);
      year_is = c.in_ok-year.ensures.found;
      month_is = c.in_ok-month.ensures.found.2;
      day_is = c.in_ok-day.ensures.found.2;
      hour_is = c.in_ok-hour.ensures.found.2;
      minute_is = c.in_ok-minute.ensures.found.2;
      second_is = c.in_ok-second.ensures.found.2;
    })

pub returns-else-is_date-clause-none : goal.returns-else-is_date-clause-none
returns-else-is_date-clause-none c moment rest is e =
    let r = to_reading c.args.kind c.args.octets.now moment rest is e in
    let month = follow c.in_ok-year.ensures.found r.year_is r.month_is in
    let day = follow c.in_ok-month.ensures.found.2 month r.day_is in
    let same_year = (agree c.in_ok-year.ensures.found r.year_is).0 in
    let same_month = (agree c.in_ok-month.ensures.found.2 month).0 in
    let same_day = (agree c.in_ok-day.ensures.found.2 day).0 in
    let date : IsDate c.args.kind c.in_ok-year.year c.in_ok-month.month c.in_ok-day.day =
    same_date same_year same_month same_day r.date in
    not_true c.is_date.result c.if-is_date.false (c.is_date.ensures.1 date)

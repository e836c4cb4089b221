-- "The clock counts seconds from 1.1.1970 00:00": the moment of a second, and the answer to a second.
use Rattle.std.specs.Prelude.{◌≡◌, true, ℕ, ◌+◌, ◌-◌, ◌*◌, ◌/◌, ◌%◌, ◌<◌, ◌≤◌, ltb, if◌then◌else◌, Option, Some, None}
use Rattle.laws.specs.Total.{total}
use Rattle.laws.specs.Spans.{span}
use Rattle.laws.specs.Answers.{Answer, given, refused}
use Rattle.calendar.specs.Dates.{day_exists, month_length, year_length, day_number, weekday_of}
use Rattle.calendar.specs.declared.Moment.{Moment}
use Rattle.calendar.specs.declared.YearDay.{YearDay}

-- a date of the clock's years exists
pub record DateExists (y m d : ℕ) : Type 0 where
  pub first_year : 1970 ≤ y
  pub last_year : y ≤ 2106
  pub in_month : day_exists d m y ≡ true

-- the day number of a moment's date
abbrev pub day_of : Moment → ℕ
day_of m = day_number m.year m.month m.day

-- m is the date, the weekday and the time of second t: they exist, and they count to t
pub record IsMoment (t : ℕ) (m : Moment) : Type 0 where
  pub date : DateExists m.year m.month m.day
  pub weekday : m.weekday ≡ weekday_of (day_of m)
  pub hour : m.hour < 24
  pub minute : m.minute < 60
  pub second : m.second < 60
  pub counts : ((day_of m * 24 + m.hour) * 60 + m.minute) * 60 + m.second ≡ t

-- the years from 1970 to the year that holds day n, and the days left of that year before it
unfoldable pub year_day : ℕ → YearDay
year_day n = let k = span 137 year_length n in record { years = k; left = n - total k year_length }

-- a date, with the weekday and the time of day of second t
abbrev pub moment_at : ℕ → ℕ → ℕ → ℕ → Moment
moment_at t y m d =
    record {
      year = y;
      month = m;
      day = d;
      weekday = weekday_of (t / 86_400);
      hour = t / 3_600 % 24;
      minute = t / 60 % 60;
      second = t % 60;
    }

-- the moment of second t: its day lies in a year, and there in a month; 9 NO DATE past 2106
unfoldable pub moment_of : ℕ → Answer Moment
moment_of t =
    let at = year_day (t / 86_400) in
    let year = 1970 + at.years in
    let month = span 13 (month_length year) at.left in
    if ltb year 2107 then given (moment_at t year month (at.left - total month (month_length year) + 1)) else refused 9 0

-- what the code's answer says, with document 01's number
abbrev pub dated_said : Option Moment → Answer Moment
dated_said (Some m) = given m
dated_said None = refused 9 0

-- another second of the same minute
abbrev pub at_second : Moment → ℕ → Moment
at_second m s = record { year = m.year; month = m.month; day = m.day; weekday = m.weekday; hour = m.hour; minute = m.minute; second = s }

-- the same time on another date, of the next weekday
abbrev pub on_date : Moment → ℕ → ℕ → ℕ → Moment
on_date m y mo d = record { year = y; month = mo; day = d; weekday = (m.weekday + 1) % 7; hour = m.hour; minute = m.minute; second = m.second }

-- the same time on the day after: the next day of the month, else the first of the next month, else 1 January of the next year
unfoldable pub day_after : Moment → Moment
day_after m =
    if ltb m.day (month_length m.year m.month) then on_date m m.year m.month (m.day + 1)
    else if ltb m.month 12 then on_date m m.year (m.month + 1) 1
    else on_date m (m.year + 1) 1 1

-- "A weekly rule uses the weekday's daily rule, on a holiday the holiday's one instead; 255 is inactive. The look through the holidays stops at the first that
-- fits."
use Rattle.std.specs.Prelude as code
use Rattle.std.specs.Prelude.{Bool, not, ◌&&◌, ◌||◌, List, ℕ, ◌+◌, ◌*◌, ltb, eqb, get_or, if◌then◌else◌, Some, None}
use Rattle.std.proofs.Math.Option.{Option, some, none}
use Rattle.laws.specs.First.{first}
use Rattle.laws.specs.Masks.{mask_of}
use Rattle.calendar.specs.declared.Moment.{Moment}
use Rattle.tariff.specs.Daily.{daily_active}
use Rattle.tariff.specs.declared.Holiday.{Holiday}
use Rattle.tariff.specs.declared.Program.{Program}

-- a holiday of zeros is unused
abbrev pub unused_holiday : Holiday → Bool
unused_holiday h = (eqb h.day 0 && eqb h.month 0) && eqb h.year 0

-- a holiday in use fits its day of its year; year 0 is each year
abbrev pub holiday_fits : Holiday → ℕ → ℕ → ℕ → Bool
holiday_fits h day month year =
    ((not (unused_holiday h) && eqb h.day day) && eqb h.month month) && (eqb h.year 0 || eqb h.year year)

-- a holiday of zeros, which stands past the end of the list
abbrev pub zero_holiday : Holiday
zero_holiday = record { day = 0; month = 0; year = 0 }

-- holiday k as an entry of the program
abbrev pub holiday_at : Program → ℕ → Holiday
holiday_at p k = get_or p.holidays k zero_holiday

-- the first of the 32 holidays that fits a day
unfoldable pub first_holiday : Program → ℕ → ℕ → ℕ → Option ℕ
first_holiday p day month year =
    let k = first 32 (λ i. holiday_fits (holiday_at p i) day month year) in
    if ltb k 32 then some k else none

-- what the code finds, in the definitions' `Option`
abbrev pub place_of : code.Option ℕ → Option ℕ
place_of (Some k) = some k
place_of None = none

-- the place of a day in a weekly rule: on a holiday the last, else its weekday's; 8 is no place
abbrev pub column_of : ℕ → Option ℕ → ℕ
column_of weekday (some k) = 7
column_of weekday none = if ltb weekday 7 then weekday else 8

-- the first holiday that fits the day of a moment
abbrev pub holiday_on : Program → Moment → Option ℕ
holiday_on p m = first_holiday p m.day m.month m.year

-- the place of a moment's day
unfoldable pub column_on : Program → Moment → ℕ
column_on p m = column_of m.weekday (holiday_on p m)

-- the daily rule that a weekly rule names at a place; 255, none, past the 16 rules and the 8 places
abbrev pub reference_in : List ℕ → ℕ → ℕ → ℕ
reference_in weeks week column = if ltb week 16 && ltb column 8 then get_or weeks (week * 8 + column) 0 else 255

-- the same of a program
unfoldable pub reference_at : Program → ℕ → ℕ → ℕ
reference_at p week column = reference_in p.weeks week column

-- the minute of the day
abbrev pub minute_of : Moment → ℕ
minute_of m = m.hour * 60 + m.minute

-- a weekly rule is active when the daily rule that it uses on the day is active in the minute
unfoldable pub weekly_active : Program → ℕ → Moment → Bool
weekly_active p week m = daily_active p (reference_at p week (column_on p m)) (minute_of m)

-- all 16: bit w is weekly rule w
unfoldable pub weekly_map : Program → Moment → ℕ
weekly_map p m = mask_of 16 (λ week. weekly_active p week m)

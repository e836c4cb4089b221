-- "Dates follow the Gregorian calendar": leap years, month lengths, days that exist, day numbers, weekdays.
use Rattle.std.specs.Prelude.{Bool, not, ◌&&◌, ◌||◌, List, [], ◌∷◌, ℕ, ◌+◌, ◌-◌, ◌%◌, leb, eqb, get_or, if◌then◌else◌}
use Rattle.laws.specs.Total.{total}

-- each fourth year is a leap year, of the full hundreds only each fourth
abbrev pub leap_year : ℕ → Bool
leap_year y = eqb (y % 4) 0 && (not (eqb (y % 100) 0) || eqb (y % 400) 0)

-- the month lengths of a year that is no leap year, January to December
abbrev pub common_lengths : List ℕ
common_lengths = 31 ∷ 28 ∷ 31 ∷ 30 ∷ 31 ∷ 30 ∷ 31 ∷ 31 ∷ 30 ∷ 31 ∷ 30 ∷ 31 ∷ []

-- the days of month m of year y, January being 1; 0 for a number that is no month's
unfoldable pub month_length : ℕ → ℕ → ℕ
month_length y m = if eqb m 2 && leap_year y then 29 else get_or (0 ∷ common_lengths) m 0

-- a day exists in its month of a year
abbrev pub day_exists : ℕ → ℕ → ℕ → Bool
day_exists d m y = leb 1 d && leb d (month_length y m)

-- a day exists in its month of some year, so in that of a leap year: 29.02 does
abbrev pub exists_in_some_year : ℕ → ℕ → Bool
exists_in_some_year d m = day_exists d m 2000

-- the days of the k-th year from 1970 on
unfoldable pub year_length : ℕ → ℕ
year_length k = if leap_year (1970 + k) then 366 else 365

-- the days from 1.1.1970 to a date: the years before it, the months before it, the days before it
unfoldable pub day_number : ℕ → ℕ → ℕ → ℕ
day_number y m d = total (y - 1970) year_length + total m (month_length y) + (d - 1)

-- the weekday of day n, Monday being 0; day 0 is a Thursday
abbrev pub weekday_of : ℕ → ℕ
weekday_of n = (n + 3) % 7

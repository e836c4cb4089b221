-- Lines 1 to 4 of document 01's table: seconds and their moments.
use Rattle.std.specs.Prelude.{◌≡◌, List, [], ◌∷◌, ℕ}
use Rattle.laws.specs.Answers.{given}
use Rattle.calendar.specs.Moments.{moment_of}
use Rattle.calendar.specs.declared.Moment.{Moment}

-- a case of the table: a second and its moment
pub data MomentCase : Type 0 where
  moment_case : ℕ → Moment → MomentCase

-- what a case claims
abbrev pub MomentClaim : MomentCase → Type 0
MomentClaim (moment_case t m) = moment_of t ≡ given m

-- weekdays as the moment has them
abbrev monday : ℕ
monday = 0

abbrev tuesday : ℕ
tuesday = 1

abbrev thursday : ℕ
thursday = 3

abbrev saturday : ℕ
saturday = 5

abbrev sunday : ℕ
sunday = 6

-- a moment, as weekday, day, month, year, hour, minute, second
abbrev moment : ℕ → ℕ → ℕ → ℕ → ℕ → ℕ → ℕ → Moment
moment w d m y h i s = record { year = y; month = m; day = d; weekday = w; hour = h; minute = i; second = s }

-- lines 1 to 4; of line 4 also the second before, which is on 28.02
abbrev pub moment_cases : List MomentCase
moment_cases =
    moment_case 0 (moment thursday 1 1 1970 0 0 0)
    ∷ moment_case 100_000_000 (moment saturday 3 3 1973 9 46 40)
    ∷ moment_case 951_782_400 (moment tuesday 29 2 2000 0 0 0)
    ∷ moment_case 4_107_542_400 (moment monday 1 3 2100 0 0 0)
    ∷ moment_case 4_107_542_399 (moment sunday 28 2 2100 23 59 59)
    ∷ []

-- What is proved of dates and moments (proofs/Moments.antt). The layers above build on these laws and not on how a moment is found; only worked examples compute it.
use Rattle.std.specs.Prelude.{◌≡◌, true, ◌⊎◌, ◌↔◌, ℕ, ◌+◌, ◌/◌, ◌%◌, ◌^◌, ◌<◌}
use Rattle.laws.specs.Answers.{given, refused}
use Rattle.calendar.specs.Dates.{day_exists, exists_in_some_year, day_number}
use Rattle.calendar.specs.Moments.{DateExists, IsMoment, moment_of, at_second, day_after}
use Rattle.calendar.specs.declared.Moment.{Moment}

-- the moment found exists, and its day number and time give the second back
abbrev pub FoundIsMoment : Type 0
FoundIsMoment = (t : ℕ) (m : Moment) → given m ≡ moment_of t → IsMoment t m

-- the moment of a second is found
abbrev pub MomentIsFound : Type 0
MomentIsFound = (t : ℕ) (m : Moment) → IsMoment t m → given m ≡ moment_of t

-- a second has at most one moment
abbrev pub OneMoment : Type 0
OneMoment = (t : ℕ) (m n : Moment) → IsMoment t m → IsMoment t n → m ≡ n

-- 9 NO DATE is given exactly when a second has no moment
abbrev pub NoDateExactly : Type 0
NoDateExactly = (t : ℕ) → (refused 9 0 ≡ moment_of t) ↔ ((m : Moment) → IsMoment t m → ⊥)

-- a second has a moment, or is refused with 9
abbrev pub DatedOrNot : Type 0
DatedOrNot = (t : ℕ) → ((m : Moment) × (moment_of t ≡ given m)) ⊎ (moment_of t ≡ refused 9 0)

-- each second of the clock has a moment
abbrev pub AlwaysDated : Type 0
AlwaysDated = (t : ℕ) → t < 2 ^ 32 → (m : Moment) × (given m ≡ moment_of t)

-- dates that exist and have one day number are the same date
abbrev pub OneDate : Type 0
OneDate =
    (y m d y' m' d' : ℕ) → DateExists y m d → DateExists y' m' d' → day_number y m d ≡ day_number y' m' d'
    → (y ≡ y') × (m ≡ m') × (d ≡ d')

-- 86,400 seconds later it is the same time on the day after
abbrev pub NextDay : Type 0
NextDay = (t : ℕ) (m : Moment) → IsMoment t m → t + 86_400 < 2 ^ 32 → IsMoment (t + 86_400) (day_after m)

-- another second of the same minute has the same moment, but for the second
abbrev pub SameMinute : Type 0
SameMinute = (t u : ℕ) (m : Moment) → IsMoment t m → t / 60 ≡ u / 60 → IsMoment u (at_second m (u % 60))

-- a day exists in some year exactly if there is a year in which it exists
abbrev pub SomeYear : Type 0
SomeYear = (d m : ℕ) → (exists_in_some_year d m ≡ true) ↔ ((y : ℕ) × (day_exists d m y ≡ true))

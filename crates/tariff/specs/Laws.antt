-- What is proved of the tariff program (proofs/Laws.antt), for the layers above.
use Rattle.std.specs.Prelude.{◌≡◌, true, false, ℕ, ◌/◌, ◌<◌, ◌≤◌}
use Rattle.std.proofs.Math.Option.{none}
use Rattle.laws.specs.Masks.{bit_at}
use Rattle.calendar.specs.Moments.{at_second}
use Rattle.calendar.specs.declared.Moment.{Moment}
use Rattle.tariff.specs.Daily.{daily_active, daily_map}
use Rattle.tariff.specs.Weekly.{unused_holiday, holiday_at, first_holiday, holiday_on, minute_of, weekly_active, weekly_map}
use Rattle.tariff.specs.Seasons.{unused_season, season_at, season_active}
use Rattle.tariff.specs.Rules.{rule_at, in_force, force_map, force_map_at}
use Rattle.tariff.specs.declared.Date.{Date}
use Rattle.tariff.specs.declared.Program.{Program}

-- bit i of the map is tariff rule i
abbrev pub BitIsRule : Type 0
BitIsRule = (p : Program) (m : Moment) (i : ℕ) → bit_at (force_map p m) i ≡ in_force p i m

-- bit r of the daily map is daily rule r
abbrev pub BitIsDaily : Type 0
BitIsDaily = (p : Program) (minute rule : ℕ) → bit_at (daily_map p minute) rule ≡ daily_active p rule minute

-- bit w of the weekly map is weekly rule w
abbrev pub BitIsWeekly : Type 0
BitIsWeekly = (p : Program) (m : Moment) (week : ℕ) → bit_at (weekly_map p m) week ≡ weekly_active p week m

-- an unused tariff rule, 255, 255, is never in force
abbrev pub UnusedRuleNever : Type 0
UnusedRuleNever = (p : Program) (i : ℕ) (m : Moment) → rule_at p i ≡ record { season = 255; week = 255 } → in_force p i m ≡ false

-- an unused season is never active
abbrev pub UnusedSeasonNever : Type 0
UnusedSeasonNever = (p : Program) (season : ℕ) (date : Date) → unused_season (season_at p season) ≡ true → season_active p season date ≡ false

-- 255 as a daily rule is never active, so a weekly reference of 255 is not
abbrev pub NoRuleNever : Type 0
NoRuleNever = (p : Program) (rule minute : ℕ) → 32 ≤ rule → daily_active p rule minute ≡ false

-- another second of the same minute has the same map
abbrev pub SameMinuteSameMap : Type 0
SameMinuteSameMap = (p : Program) (t u : ℕ) → t / 60 ≡ u / 60 → force_map_at p t ≡ force_map_at p u

-- so has a moment that differs in the second alone
abbrev pub SecondMakesNoDifference : Type 0
SecondMakesNoDifference = (p : Program) (m : Moment) (second : ℕ) → force_map p (at_second m second) ≡ force_map p m

-- on days that are no holidays a weekly rule depends on weekday and minute alone
abbrev pub WeekdayAndMinute : Type 0
WeekdayAndMinute =
    (p : Program) (week : ℕ) (m n : Moment) → holiday_on p m ≡ none → holiday_on p n ≡ none
    → m.weekday ≡ n.weekday → minute_of m ≡ minute_of n → weekly_active p week m ≡ weekly_active p week n

-- a program whose holidays are all unused has none
abbrev pub NoHolidays : Type 0
NoHolidays =
    (p : Program) → ((k : ℕ) → k < 32 → unused_holiday (holiday_at p k) ≡ true) → (day month year : ℕ) → first_holiday p day month year ≡ none

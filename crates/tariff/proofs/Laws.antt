-- The laws of specs/Laws.antt.
use mathlib.Core.Path.{◌≡◌, refl, sym}
use mathlib.Core.Bool.{false, and-false}
use mathlib.Core.Logic.{⊎_elim}
use Prim.Native.Nat.{ℕ, ◌+◌, ◌/◌, ◌%◌}
use native.Mathlib.Omega.{arith}
use borrow.Author.Tests.{le-ltb, eqb-false}
use lib.Dec.{eqb}
use Rattle.laws.specs.Answers.{given, refused}
use Rattle.calendar.specs.Moments.{moment_of, at_second}
use Rattle.calendar.specs.declared.Moment.{Moment}
use Rattle.calendar.proofs.Moments.{moment_is_found, found_is_moment, same_minute, dated_or_not}
use Rattle.tariff.specs.Daily.{daily_active}
use Rattle.tariff.specs.Weekly.{column_on, reference_at, weekly_active}
use Rattle.tariff.specs.Seasons.{season_active, in_season}
use Rattle.tariff.specs.Rules.{applies, in_force, force_map, force_of, force_map_at}
use Rattle.tariff.specs.Laws.{BitIsRule, BitIsDaily, BitIsWeekly, UnusedRuleNever, UnusedSeasonNever, NoRuleNever, SameMinuteSameMap, SecondMakesNoDifference, WeekdayAndMinute, NoHolidays}
use Rattle.tariff.specs.declared.Program.{Program}
use Rattle.tariff.proofs.Found.{holiday_none}
use Rattle.tariff.proofs.Maps.{daily_bit, weekly_bit, force_bit}

pub bit_is_rule : BitIsRule
bit_is_rule = force_bit

pub bit_is_daily : BitIsDaily
bit_is_daily = daily_bit

pub bit_is_weekly : BitIsWeekly
bit_is_weekly = weekly_bit

pub no_rule_never : NoRuleNever
unfolding daily_active
no_rule_never p rule minute h = rw (le-ltb rule 32 h)

pub unused_rule_never : UnusedRuleNever
unfolding in_force applies weekly_active reference_at daily_active
unused_rule_never p i m e = rw (e, and-false)

pub unused_season_never : UnusedSeasonNever
unfolding season_active in_season
unused_season_never p season date u = rw (u, and-false)

pub second_makes_no_difference : SecondMakesNoDifference
unfolding force_map in_force applies weekly_active column_on
second_makes_no_difference p m second = refl

-- a second that has a moment, and another of its minute
dated_map : (p : Program) (s t : ℕ) (m : Moment) → moment_of s ≡ given m → s / 60 ≡ t / 60 → force_map_at p s ≡ force_map_at p t
unfolding force_of
dated_map p s t m e same =
    let found = moment_is_found t (at_second m (t % 60)) (same_minute s t m (found_is_moment s m (sym e)) same) in
    rw (e, ← found) (sym (second_makes_no_difference p m (t % 60)))

pub same_minute_same_map : SameMinuteSameMap
same_minute_same_map p s t same =
    ⊎_elim (λ d. dated_map p s t d.0 d.1 same)
    (λ (none : moment_of s ≡ refused 9 0).
    ⊎_elim (λ d. sym (dated_map p t s d.0 d.1 (sym same))) (λ (neither : moment_of t ≡ refused 9 0). rw (none, neither)) (dated_or_not t))
    (dated_or_not s)

-- the map of a second is that of the second before, if no minute begins with it
pub next_same : (p : Program) (s : ℕ) → eqb ((s + 1) % 60) 0 ≡ false → force_map_at p (s + 1) ≡ force_map_at p s
next_same p s h = same_minute_same_map p (s + 1) s (omega (arith, eqb-false ((s + 1) % 60) 0 h))

pub weekday_and_minute : WeekdayAndMinute
unfolding weekly_active column_on
weekday_and_minute p week m n hm hn w i = rw (hm, hn, w, i)

pub no_holidays : NoHolidays
no_holidays p unused day month year = sym (holiday_none p day month year (λ j l. rw (unused j l)))

-- The maps of the rules: what a bit of each says, and what the loops that make them read off the others.
use mathlib.Core.Path.{◌≡◌, ◌∙◌}
use mathlib.Core.Bool.{Bool, false, ◌&&◌, ◌||◌, and_self_left}
use mathlib.Core.List.{List}
use Prim.Native.Nat.{ℕ}
use lib.Dec.{ltb, eqb}
use borrow.Author.Tests.{lt-ltb}
use Rattle.laws.proofs.Tests.{by_test}
use Rattle.laws.specs.Masks.{mask_of, bit_at}
use Rattle.laws.proofs.Masks.{bit_at_lem, mask_cong}
use Rattle.calendar.specs.declared.Moment.{Moment}
use Rattle.tariff.specs.Daily.{daily_active, daily_map}
use Rattle.tariff.specs.Weekly.{column_on, reference_in, reference_at, minute_of, weekly_active, weekly_map}
use Rattle.tariff.specs.Seasons.{date_of, season_at, in_season, season_active, season_map}
use Rattle.tariff.specs.Rules.{rule_at, applies, in_force, force_map}
use Rattle.tariff.specs.declared.Date.{Date}
use Rattle.tariff.specs.declared.Rule.{Rule}
use Rattle.tariff.specs.declared.Program.{Program}

-- bit r of the daily map is daily rule r
pub daily_bit : (p : Program) (minute rule : ℕ) → bit_at (daily_map p minute) rule ≡ daily_active p rule minute
unfolding daily_map daily_active
daily_bit p minute rule = bit_at_lem 32 (λ r. daily_active p r minute) rule ∙ and_self_left (ltb rule 32) _

-- bit s of the season map is season s
pub season_bit : (p : Program) (date : Date) (season : ℕ) → bit_at (season_map p date) season ≡ season_active p season date
unfolding season_map season_active
season_bit p date season = bit_at_lem 8 (λ s. in_season (season_at p s) date) season

-- a weekly rule past 15 is inactive
weekly_past : (p : Program) (week : ℕ) (m : Moment) → ltb week 16 ≡ false → weekly_active p week m ≡ false
unfolding weekly_active reference_at daily_active
weekly_past p week m g = rw g

-- bit w of the weekly map is weekly rule w
pub weekly_bit : (p : Program) (m : Moment) (week : ℕ) → bit_at (weekly_map p m) week ≡ weekly_active p week m
unfolding weekly_map
weekly_bit p m week =
    bit_at_lem 16 (λ w. weekly_active p w m) week
    ∙ by_test (ltb week 16) (λ l. rw l) (λ g. rw (g, weekly_past p week m g))

-- bit i of the force map is tariff rule i
pub force_bit : (p : Program) (m : Moment) (i : ℕ) → bit_at (force_map p m) i ≡ in_force p i m
unfolding force_map in_force
force_bit p m i = bit_at_lem 16 (λ k. in_force p k m) i ∙ and_self_left (ltb i 16) _

-- the test that the code puts into the weekly map: the bit of the daily rule that is used
abbrev pub used_at : List ℕ → ℕ → ℕ → ℕ → Bool
used_at weeks daily column week = bit_at daily (reference_in weeks week column)

-- it makes the weekly map
pub weekly_made : (p : Program) (m : Moment) (daily column minute : ℕ) → daily ≡ daily_map p minute → minute ≡ minute_of m → column ≡ column_on p m
    → mask_of 16 (used_at p.weeks daily column) ≡ weekly_map p m
unfolding weekly_map weekly_active reference_at
weekly_made p m daily column minute d i c =
    mask_cong 16 _ _ (λ week l. rw (d, i, c) (daily_bit p (minute_of m) (reference_at p week (column_on p m))))

-- the test that the code puts into the force map: the bits of the season and of the weekly rule
abbrev pub applies_by : ℕ → ℕ → Rule → Bool
applies_by weekly seasons r = (eqb r.season 255 || bit_at seasons r.season) && bit_at weekly r.week

-- it makes the force map
pub force_made : (p : Program) (m : Moment) (date : Date) (weekly seasons : ℕ) → weekly ≡ weekly_map p m → seasons ≡ season_map p date → date ≡ date_of m
    → mask_of 16 (λ i. applies_by weekly seasons (rule_at p i)) ≡ force_map p m
unfolding force_map in_force applies
force_made p m date weekly seasons w s d =
    mask_cong 16 _ _
    (λ i l.
    let r = rule_at p i in
    rw (lt-ltb i 16 l, w, s, d, weekly_bit p m r.week, season_bit p (date_of m) r.season))

-- `calendar::moment_of` meets its contract. The loop's invariant: the days before this month and those left are the year's.
use mathlib.Core.Path.{◌≡◌, ap, ◌∙◌}
use Prim.Native.Nat.{◌+◌, ◌/◌, ◌<◌}
use native.Mathlib.Omega.{arith}
use Rattle.laws.specs.Total.{total}
use Rattle.laws.proofs.Total.{total_more}
use Rattle.laws.specs.Answers.{given}
use Rattle.calendar.specs.Dates.{month_length}
use Rattle.calendar.proofs.Months.{year_below, left_below, month_is}
use Rattle.calendar.proofs.moment_of.Goals as goal

-- the year is one of the 137
small : (c : goal.After-struct_known-1) → c.year_day-at.result.years < 137
small c = rw c.year_day-at.ensures (year_below _ (omega arith))

pub overflow_add-year : goal.overflow_add-year
overflow_add-year c = omega (arith, small c)

pub overflow_cast-year : goal.overflow_cast-year
overflow_cast-year c = omega (arith, small c)

pub loop-month-init : goal.loop-month-init
unfolding total month_length
loop-month-init c = omega arith

pub returns-then-left-length : goal.returns-then-left-length
returns-then-left-length c =
    let d = c.before.before.before.before.before in
    ap given c.moment_at.ensures
    ∙ month_is _ _ _ _ d.year_day-at.ensures (small d) c.loop-month-test.true c.loop-month.invariant.2 (rw c.month_length-length.ensures at c.if-left-length.true)

pub loop-month-preserved : goal.loop-month-preserved
loop-month-preserved c =
    let y = 1970 + c.year_day-at.result.years in
    omega (arith, total_more c.loop-month.month (month_length y), c.month_length-length.ensures)

pub returns : goal.returns
returns c =
    let d = c.before.before in
    let a = d.year_day-at in
    let past : c.loop-month.month ≡ 13 = omega arith in
    absurd (omega (arith, ap (λ m. total m (month_length (1970 + a.result.years))) past, rw (← a.ensures) at (left_below (d.args.seconds / 86400) (omega arith))))

-- `calendar::moment_of` meets its contract. The loop's invariant: the days before this month and those left are the year's.
use mathlib.Core.Path.{◌≡◌}
use Prim.Native.Nat.{◌+◌, ◌-◌, ◌≤◌}
use Rattle.laws.specs.Total.{total}
use Rattle.calendar.specs.Dates.{month_length}
use Rattle.calendar.proofs.moment_of.Given as goal

abbrev pub invariant-loop-month : goal.invariant-loop-month
invariant-loop-month l = (1 ≤ l.month) × (l.month ≤ 13) × (total l.month (month_length l.year) + l.left ≡ l.initial.left)

abbrev pub decreases-loop-month : goal.decreases-loop-month
decreases-loop-month l = 13 - l.month

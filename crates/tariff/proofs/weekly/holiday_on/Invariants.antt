-- `tariff::weekly::holiday_on` meets its contract. The loop's invariant: no holiday before i fits.
use mathlib.Core.Path.{◌≡◌}
use mathlib.Core.Bool.{false}
use Prim.Native.Nat.{ℕ, ◌-◌, ◌<◌, ◌≤◌}
use Rattle.tariff.specs.Weekly.{holiday_fits, holiday_at}
use Rattle.tariff.proofs.weekly.holiday_on.Given as goal

abbrev pub invariant-loop-i : goal.invariant-loop-i
invariant-loop-i l = (l.i ≤ 32) × ((j : ℕ) → j < l.i → holiday_fits (holiday_at l.program j) l.day l.month l.year ≡ false)

abbrev pub decreases-loop-i : goal.decreases-loop-i
decreases-loop-i l = 32 - l.i

-- `tariff::daily::daily_active` meets its contract. The windows' invariant: none before this one is active.
use mathlib.Core.Path.{◌≡◌}
use mathlib.Core.Bool.{false}
use Prim.Native.Nat.{ℕ, ◌<◌}
use lib.ListN.{get_or}
use Rattle.tariff.specs.Daily.{in_window, zero_window}
use Rattle.tariff.proofs.daily.daily_active.Given as goal

abbrev pub invariant-loop-w : goal.invariant-loop-w
invariant-loop-w l = (j : ℕ) → j < l.w-index → in_window (get_or l.w-items j zero_window) l.minute ≡ false

-- `tariff::daily::daily_map` meets its contract. The rules' invariant: the mask of the rules before this one. The windows': and no window of it before this one is active.
use mathlib.Core.Path.{◌≡◌}
use mathlib.Core.Bool.{false}
use Prim.Native.Nat.{ℕ, ◌<◌}
use lib.ListN.{get_or}
use Rattle.laws.specs.Masks.{mask_of}
use Rattle.tariff.specs.Daily.{in_window, zero_window, daily_active}
use Rattle.tariff.proofs.daily.daily_map.Given as goal

abbrev pub invariant-loop-w : goal.invariant-loop-w
invariant-loop-w l = (l.map ≡ l.initial.map) × ((j : ℕ) → j < l.w-index → in_window (get_or l.w-items j zero_window) l.minute ≡ false)

abbrev pub invariant-rules : goal.invariant-rules
invariant-rules l = l.map ≡ mask_of l.rule (λ r. daily_active l.program r l.minute)

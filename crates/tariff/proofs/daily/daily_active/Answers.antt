-- `tariff::daily::daily_active` meets its contract. The windows' invariant: none before this one is active.
use mathlib.Core.Path.{sym, ◌∙◌}
use native.Mathlib.Omega.{arith}
use borrow.Author.Tests.{le-ltb}
use Rattle.tariff.specs.Daily.{daily_active}
use Rattle.tariff.proofs.Found.{daily_on, daily_off}
use Rattle.tariff.proofs.daily.daily_active.Goals as goal

pub returns-then-rule-ge32 : goal.returns-then-rule-ge32
unfolding daily_active
returns-then-rule-ge32 c = simp (le-ltb _ _ c.if-rule-ge32.true)

pub returns-then-in_window : goal.returns-then-in_window
returns-then-in_window c = daily_on _ _ _ c.if-rule-ge32.false (omega arith) _ c.loop-w-test.true (sym c.in_window.ensures ∙ c.if-in_window.true)

pub returns-after-loop-w : goal.returns-after-loop-w
returns-after-loop-w c = daily_off _ _ _ c.if-rule-ge32.false (omega arith) (λ j l. c.loop-w.invariant j (omega arith))

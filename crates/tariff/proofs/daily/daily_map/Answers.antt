-- `tariff::daily::daily_map` meets its contract. The rules' invariant: the mask of the rules before this one. The windows': and no window of it before this one is active.
use mathlib.Core.Path.{sym, ◌∙◌}
use native.Mathlib.Omega.{arith}
use Rattle.laws.proofs.Masks.{mask_none, mask_more, mask_clear, mask_done}
use Rattle.tariff.specs.Daily.{daily_map}
use Rattle.tariff.proofs.Found.{daily_on, daily_off}
use Rattle.tariff.proofs.daily.daily_map.Goals as goal

pub rules-init : goal.rules-init
rules-init c = mask_none _

pub rules-preserved-then-in_window : goal.rules-preserved-then-in_window
rules-preserved-then-in_window c =
    mask_more _ _ c.rules-test.true (c.loop-w.invariant.0 ∙ c.rules.invariant) c.with_bit-map.ensures
    (daily_on _ _ _ c.rules-test.true (omega arith) _ c.loop-w-test.true (sym c.in_window.ensures ∙ c.if-in_window.true))

pub rules-preserved : goal.rules-preserved
rules-preserved c =
    mask_clear _ _ (c.loop-w.invariant.0 ∙ c.rules.invariant)
    (daily_off _ _ _ c.rules-test.true (omega arith) (λ j l. c.loop-w.invariant.1 j (omega arith)))

pub returns : goal.returns
unfolding daily_map
returns c = mask_done 32 _ _ _ c.rules.invariant (omega arith) c.rules-test.false

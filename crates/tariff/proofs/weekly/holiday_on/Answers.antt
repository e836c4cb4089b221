-- `tariff::weekly::holiday_on` meets its contract. The loop's invariant: no holiday before i fits.
use mathlib.Core.Path.{sym, ◌∙◌}
use native.Mathlib.Omega.{arith}
use borrow.Author.Count.{below_more}
use Rattle.tariff.proofs.Found.{holiday_found, holiday_none}
use Rattle.tariff.proofs.weekly.holiday_on.Goals as goal

pub loop-i-preserved : goal.loop-i-preserved
loop-i-preserved c = (omega arith, below_more _ _ c.loop-i.invariant.1 (sym c.holiday_fits.ensures ∙ c.if-holiday_fits.false))

pub returns-then-i-ge32 : goal.returns-then-i-ge32
returns-then-i-ge32 c = holiday_none _ _ _ _ (λ j l. c.loop-i.invariant.1 j (omega arith))

pub returns-then-holiday_fits : goal.returns-then-holiday_fits
returns-then-holiday_fits c =
    holiday_found _ _ _ _ _ c.if-i-ge32.false (sym c.holiday_fits.ensures ∙ c.if-holiday_fits.true) c.loop-i.invariant.1

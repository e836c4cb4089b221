-- `counting::bills::amounts_of` meets its contract. The loop's invariant: the amounts of the bills before j.
use mathlib.Core.Path.{refl}
use Rattle.laws.proofs.Tables.{fill_none, fill_more, fill_done}
use Rattle.counting.specs.ByMask.{amounts_of}
use Rattle.counting.proofs.bills.amounts_of.Goals as goal

pub loop-j-init : goal.loop-j-init
loop-j-init c = fill_none _ _

pub loop-j-preserved : goal.loop-j-preserved
loop-j-preserved c = fill_more _ _ _ _ _ c.loop-j.invariant refl

pub returns : goal.returns
unfolding amounts_of
returns c = fill_done _ 16 _ _ _ c.loop-j.invariant c.loop-j.auto.j-end c.loop-j-test.false refl

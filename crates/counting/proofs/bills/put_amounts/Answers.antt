-- `counting::bills::put_amounts` meets its contract. The loop's invariant: the bills before j have their amounts.
use mathlib.Core.Path.{◌≡◌}
use native.Mathlib.Nat.{le_refl}
use borrow.Author.Rules.{rules}
use Rattle.laws.proofs.Arrays.{length_mapped}
use Rattle.laws.proofs.Tables.{fill_none, fill_more, fill_done, fill_rest}
use Rattle.counting.specs.Bills.{bill_at}
use Rattle.counting.specs.ByMask.{with_amounts}
use Rattle.counting.proofs.bills.put_amounts.Goals as goal

pub loop-j-init : goal.loop-j-init
loop-j-init c = fill_none _ _

pub loop-j-preserved : goal.loop-j-preserved
loop-j-preserved c =
    let h = c.loop-j.invariant in
    let kept : bill_at c.loop-j.bill-items c.loop-j.j ≡ bill_at c.args.bills c.loop-j.j = rw h (fill_rest _ _ _ _ _ (le_refl _)) in
    fill_more _ _ _ _ _ h (rw kept)

pub returns : goal.returns
unfolding with_amounts
returns c = fill_done _ 16 _ _ _ c.loop-j.invariant c.loop-j.auto.j-end c.loop-j-test.false (search (rules, length_mapped))

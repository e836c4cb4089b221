-- `counting::bills::add_units` meets its contract. The loop's invariant: the totals before k have the units added.
use mathlib.Core.Path.{◌≡◌}
use native.Mathlib.Nat.{le_refl}
use native.Mathlib.Omega.{arith}
use borrow.Author.Rules.{rules}
use Rattle.laws.proofs.Tables.{fill_none, fill_more, fill_done, fill_rest}
use Rattle.counting.specs.Bills.{unit_at}
use Rattle.counting.specs.ByMask.{added_units}
use Rattle.counting.proofs.bills.add_units.Goals as goal

pub loop-k-init : goal.loop-k-init
loop-k-init c = fill_none _ _

pub overflow_add-total : goal.overflow_add-total
overflow_add-total c =
    let kept : unit_at c.loop-k.totals c.loop-k.k ≡ unit_at c.args.totals.now c.loop-k.k = rw c.loop-k.invariant (fill_rest _ _ _ _ 0 (le_refl _)) in
    omega (arith, kept, c.requires c.loop-k.k, c.part.ensures.1)

pub loop-k-preserved : goal.loop-k-preserved
loop-k-preserved c =
    let kept : unit_at c.loop-k.totals c.loop-k.k ≡ unit_at c.args.totals.now c.loop-k.k = rw c.loop-k.invariant (fill_rest _ _ _ _ 0 (le_refl _)) in
    fill_more _ _ _ _ _ c.loop-k.invariant (rw (kept, c.part.ensures.0, c.bit_at.ensures))

pub returns : goal.returns
unfolding added_units
returns c = fill_done _ 8 _ _ _ c.loop-k.invariant c.loop-k.auto.k-end c.loop-k-test.false c.told-totals

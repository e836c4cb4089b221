-- `counting::bills::some_full` meets its contract. The loop's invariant: of the registers that are no more in `left` none would be full.
use mathlib.Core.Path.{sym, ◌∙◌}
use native.Mathlib.Omega.{arith}
use borrow.Author.Rules.{rules}
use lib.Count.{trailing_le}
use Rattle.laws.proofs.Sparse.{look_start, look_turn, look_found, look_done, lowest_below, drop_less}
use Rattle.counting.proofs.Full.{full_of_fed}
use Rattle.counting.proofs.bills.some_full.Goals as goal

pub loop-left-init : goal.loop-left-init
loop-left-init c = (omega arith, trailing_le 16 _, look_start _ _)

pub returns-then-would_fill : goal.returns-then-would_fill
returns-then-would_fill c =
    let h = c.loop-left.invariant in
    sym (look_found _ _ c.loop-left-test.true h.0 h.2 (sym (c.would_fill.ensures ∙ rw c.register_units.ensures) ∙ c.if-would_fill.true)) ∙ full_of_fed _ _ _ _

pub loop-left-smaller : goal.loop-left-smaller
loop-left-smaller c = drop_less _ c.loop-left-test.true

pub loop-left-preserved : goal.loop-left-preserved
loop-left-preserved c =
    let h = c.loop-left.invariant in
    let p = c.loop-left-test.true in
    (omega (arith, drop_less _ p), trailing_le 16 _, look_turn _ _ p h.0 h.2 (sym (c.would_fill.ensures ∙ rw c.register_units.ensures) ∙ c.if-would_fill.false))

pub returns : goal.returns
returns c = sym (look_done _ _ (omega arith) c.loop-left.invariant.2) ∙ full_of_fed _ _ _ _

pub bounds-amounts-j : goal.bounds-amounts-j
bounds-amounts-j c = search (rules, lowest_below)

pub bounds-registers-j : goal.bounds-registers-j
bounds-registers-j c = search (rules, lowest_below)

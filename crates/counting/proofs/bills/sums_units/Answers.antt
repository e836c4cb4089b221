-- `counting::bills::sums_units` meets its contract. The loop's invariant: the totals are the sums' units of the inputs of the mask that have been gone through.
use mathlib.Core.Path.{◌∙◌}
use borrow.Author.Rules.{rules}
use Rattle.counting.proofs.Sums.{sums_start, past_start, past_turn, sums_turn, sums_done, sums_below}
use Rattle.counting.proofs.bills.sums_units.Goals as goal

pub loop-i-init : goal.loop-i-init
loop-i-init c = let a = c.args in rw c.into_iter-i-iterator.ensures.into_iter_gives (past_start a.sums a.units a.mask, sums_start a.sums a.units a.mask)

pub add_units-requires : goal.add_units-requires
add_units-requires c = let a = c.args in sums_below a.sums a.units a.mask c.loop-i.i-iterator.0 _ c.loop-i.invariant.1 (λ j. search rules)

pub loop-i-preserved : goal.loop-i-preserved
loop-i-preserved c =
    let a = c.args in
    let h = c.loop-i.invariant in
    let step = c.in-Some.ensures.steps in
    (past_turn a.sums a.units a.mask step h.0, c.add_units.ensures ∙ sums_turn a.sums a.units a.mask step h.0 _ h.1)

pub returns : goal.returns
returns c = let a = c.args in let h = c.loop-i.invariant in sums_done a.sums a.units a.mask _ _ c.in-None.ensures.steps.0 h.0 h.1

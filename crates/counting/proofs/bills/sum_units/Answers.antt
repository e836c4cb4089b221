-- `counting::bills::sum_units` meets its contract. The loop's invariant: the units of the inputs before i that are named, each of 32 bits.
use native.Mathlib.Omega.{arith}
use borrow.Author.Rules.{rules}
use Rattle.laws.proofs.Total.{total_none, total_turn, total_done}
use Rattle.counting.specs.Bills.{sum_of}
use Rattle.counting.proofs.bills.sum_units.Goals as goal

pub loop-i-init : goal.loop-i-init
loop-i-init c = (search rules, total_none _, search rules)

pub overflow_add-all : goal.overflow_add-all
overflow_add-all c = omega (arith, c.part-all.ensures.1)

pub loop-i-preserved : goal.loop-i-preserved
loop-i-preserved c = (omega arith, total_turn _ _ c.loop-i.invariant.1 (rw (← c.bit_at.ensures) c.part-all.ensures.0), omega (arith, c.part-all.ensures.1))

pub returns : goal.returns
unfolding sum_of
returns c = (total_done 16 _ _ _ c.loop-i.invariant.1 c.loop-i.invariant.0 c.loop-i-test.false, omega arith)

-- `counting::filter::running_lines` meets its contract. The loop's invariant: the mask of the places before i.
use mathlib.Core.Path.{refl}
use native.Mathlib.Omega.{arith}
use borrow.Author.Rules.{rules}
use Rattle.laws.proofs.Masks.{mask_none, mask_more, mask_below, mask_done}
use Rattle.counting.specs.ByMask.{running_lines}
use Rattle.counting.proofs.filter.running_lines.Goals as goal

pub loop-i-init : goal.loop-i-init
loop-i-init c = (search rules, mask_none _)

pub loop-i-preserved : goal.loop-i-preserved
loop-i-preserved c = (omega arith, mask_more _ _ (omega arith) c.loop-i.invariant.1 c.with_bit-mask.ensures refl)

pub overflow_cast-result : goal.overflow_cast-result
overflow_cast-result c = record { fits = rw (mask_done 16 _ _ _ c.loop-i.invariant.1 c.loop-i.invariant.0 c.loop-i-test.false) (mask_below 16 _) }

pub returns : goal.returns
unfolding running_lines
returns c = mask_done 16 _ _ _ c.loop-i.invariant.1 c.loop-i.invariant.0 c.loop-i-test.false

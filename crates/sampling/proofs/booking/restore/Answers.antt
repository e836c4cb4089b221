-- `sampling::booking::restore` meets its contract. The loop's invariant: the lines of the mask that have been gone through are as they were.
use mathlib.Core.Path.{refl, sym}
use Rattle.laws.proofs.Tables.{table_self}
use Rattle.laws.proofs.Sparse.{half_start, half_done}
use Rattle.counting.proofs.Steps.{step_done}
use Rattle.sampling.specs.Kept.{restored_lines}
use Rattle.sampling.proofs.booking.restore.Goals as goal

pub loop-i-init : goal.loop-i-init
loop-i-init c = rw c.into_iter-i-iterator.ensures.into_iter_gives (half_start _ _ _ (sym (table_self 16 _ _ c.told-lines)))

pub loop-i-preserved : goal.loop-i-preserved
loop-i-preserved c = step_done c.in-Some.ensures.steps c.loop-i.invariant refl

pub returns : goal.returns
unfolding restored_lines
returns c = half_done _ _ _ c.in-None.ensures.steps.0 c.loop-i.invariant

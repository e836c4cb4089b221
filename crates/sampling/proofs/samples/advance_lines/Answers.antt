-- `sampling::samples::advance_lines` meets its contract. The loop's invariant: the runs of the lines that have been gone through have gone on.
use mathlib.Core.Path.{sym}
use Rattle.laws.proofs.Tables.{table_self}
use Rattle.laws.proofs.Sparse.{half_start, half_done}
use Rattle.counting.specs.ByMask.{advanced_lines}
use Rattle.counting.proofs.Steps.{step_old, step_done}
use Rattle.sampling.proofs.samples.advance_lines.Goals as goal

pub loop-i-init : goal.loop-i-init
loop-i-init c = rw c.into_iter-i-iterator.ensures.into_iter_gives (half_start _ _ _ (sym (table_self 16 _ _ c.told-lines)))

pub loop-i-preserved : goal.loop-i-preserved
loop-i-preserved c =
    let h = c.loop-i.invariant in
    let step = c.in-Some.ensures.steps in
    let n = step_old step h in
    step_done step h (rw (c.advance.ensures, n))

pub returns : goal.returns
unfolding advanced_lines
returns c = half_done _ _ _ c.in-None.ensures.steps.0 c.loop-i.invariant

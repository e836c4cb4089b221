-- `sampling::samples::advance_lines` meets its contract. The loop's invariant: the runs of the lines that have been gone through have gone on.
use mathlib.Core.Bool.{true}
use Rattle.counting.specs.Filter.{line_at, next_run}
use Rattle.counting.specs.ByMask.{with_run}
use Rattle.laws.proofs.Sparse.{Half}
use Rattle.sampling.proofs.samples.advance_lines.Given as goal

abbrev pub invariant-loop-i : goal.invariant-loop-i
invariant-loop-i l = let lines = l.initial.lines in Half l.active l.i-iterator.0 (λ i. with_run (line_at lines i) (next_run (line_at lines i).run true)) (line_at lines) l.lines

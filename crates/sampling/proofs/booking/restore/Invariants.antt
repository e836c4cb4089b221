-- `sampling::booking::restore` meets its contract. The loop's invariant: the lines of the mask that have been gone through are as they were.
use Rattle.counting.specs.Filter.{line_at}
use Rattle.laws.proofs.Sparse.{Half}
use Rattle.sampling.proofs.booking.restore.Given as goal

abbrev pub invariant-loop-i : goal.invariant-loop-i
invariant-loop-i l = Half l.mask l.i-iterator.0 (line_at l.before) (line_at l.initial.lines) l.lines

-- `hall::calls::Hall::sample` is safe and ends: what is left is at most the count.
use Prim.Native.Nat.{◌≤◌}
use Rattle.hall.proofs.calls.Hall.sample.Given as goal

abbrev pub invariant-loop-left : goal.invariant-loop-left
invariant-loop-left l = l.left ≤ l.count

abbrev pub decreases-loop-left : goal.decreases-loop-left
decreases-loop-left l = l.left

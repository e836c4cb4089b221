-- `counting::bills::some_full` meets its contract. The loop's invariant: of the registers that are no more in `left` none would be full.
use Prim.Native.Nat.{◌<◌, ◌≤◌, ◌^◌}
use lib.Count.{count_trailing_zeros}
use Rattle.laws.proofs.Sparse.{Looked}
use Rattle.counting.proofs.Full.{filled_at}
use Rattle.counting.proofs.bills.some_full.Given as goal

abbrev pub invariant-loop-left : goal.invariant-loop-left
invariant-loop-left l = (l.left < 2 ^ 16) × (count_trailing_zeros 16 l.left ≤ 16) × Looked l.fed l.left (filled_at l.registers l.amounts l.sums)

abbrev pub decreases-loop-left : goal.decreases-loop-left
decreases-loop-left l = l.left

-- `counting::levels::function_value` meets its contract. The loop's invariant: the value, read from its bits, is the sum of the terms before k, at most 2 ^ 44 from 0 for each.
use mathlib.Core.Path.{◌≡◌}
use Prim.Native.Nat.{◌+◌, ◌-◌, ◌*◌, ◌^◌, ◌≤◌}
use lib.IntN.{pos, nat_abs, ◌*ℤ◌}
use lib.ListN.{get_or}
use Rattle.laws.specs.SignedTotal.{totalℤ}
use Rattle.counting.specs.Bills.{sum_at}
use Rattle.counting.proofs.levels.function_value.Given as goal

abbrev pub invariant-loop-k : goal.invariant-loop-k
invariant-loop-k l = (l.k ≤ 8) × (l.value ≡ totalℤ l.k (λ j. get_or l.coefficients (l.function * 8 + j) (pos 0) *ℤ pos (sum_at l.sums l.units j))) × (nat_abs (l.value) ≤ l.k * 2 ^ 44)

abbrev pub decreases-loop-k : goal.decreases-loop-k
decreases-loop-k l = 8 - l.k

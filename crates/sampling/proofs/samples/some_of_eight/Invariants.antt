-- `sampling::samples::some_of_eight` meets its contract. The loop's invariant: where no bit is on yet, no line is active in the samples before j.
use mathlib.Core.Path.{◌≡◌}
use Prim.Native.Nat.{◌-◌, ◌≤◌}
use Rattle.sampling.specs.Kept.{Idle}
use Rattle.sampling.proofs.samples.some_of_eight.Given as goal

abbrev pub invariant-loop-j : goal.invariant-loop-j
invariant-loop-j l = (l.j ≤ 8) × (l.some ≡ 0 → Idle l.bits l.fitted l.s1r l.k l.j)

abbrev pub decreases-loop-j : goal.decreases-loop-j
decreases-loop-j l = 8 - l.j

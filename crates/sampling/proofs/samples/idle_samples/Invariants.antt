-- `sampling::samples::idle_samples` meets its contract. The invariant of both loops: no line is active in the samples from k to before `at`.
use mathlib.Core.Path.{◌≡◌}
use mathlib.Core.List.{List}
use Prim.Native.Nat.{ℕ, ◌+◌, ◌-◌, ◌<◌, ◌≤◌}
use lib.Bits.{bit_and, bit_xor}
use lib.ListN.{length, get_or}
use Rattle.sampling.proofs.samples.idle_samples.Given as goal

-- no line is active in the samples from k to before `at`
abbrev pub Passed : List ℕ → ℕ → ℕ → ℕ → ℕ → ℕ → ℕ → Type 0
Passed bits k room fitted s1r end at = (k ≤ at) × (at ≤ end) × (end ≤ length bits) × (end ≤ k + room) × ((x : ℕ) → k ≤ x → x < at → bit_and (bit_xor (get_or bits x 0) s1r) fitted ≡ 0)

abbrev pub invariant-loop-at : goal.invariant-loop-at
invariant-loop-at l = Passed l.bits l.k l.room l.fitted l.s1r l.end l.at

abbrev pub decreases-loop-at : goal.decreases-loop-at
decreases-loop-at l = l.end - l.at

abbrev pub invariant-loop-at-2 : goal.invariant-loop-at-2
invariant-loop-at-2 l = Passed l.bits l.k l.room l.fitted l.s1r l.end l.at

abbrev pub decreases-loop-at-2 : goal.decreases-loop-at-2
decreases-loop-at-2 l = l.end - l.at

-- `counting::filter::running_lines` meets its contract. The loop's invariant: the mask of the places before i.
use mathlib.Core.Path.{◌≡◌}
use Prim.Native.Nat.{◌-◌, ◌≤◌}
use lib.Dec.{ltb}
use Rattle.laws.specs.Masks.{mask_of}
use Rattle.counting.specs.Filter.{line_at}
use Rattle.counting.proofs.filter.running_lines.Given as goal

abbrev pub invariant-loop-i : goal.invariant-loop-i
invariant-loop-i l = (l.i ≤ 16) × (l.mask ≡ mask_of l.i (λ k. ltb 0 (line_at l.lines k).run))

abbrev pub decreases-loop-i : goal.decreases-loop-i
decreases-loop-i l = 16 - l.i

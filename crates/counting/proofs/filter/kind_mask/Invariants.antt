-- `counting::filter::kind_mask` meets its contract. The loop's invariant: the mask of the places before i.
use mathlib.Core.Path.{◌≡◌}
use Prim.Native.Nat.{◌-◌, ◌≤◌}
use lib.Dec.{eqb}
use Rattle.laws.specs.Masks.{mask_of}
use Rattle.counting.specs.Filter.{input_at}
use Rattle.counting.proofs.filter.kind_mask.Given as goal

abbrev pub invariant-loop-i : goal.invariant-loop-i
invariant-loop-i l = (l.i ≤ 16) × (l.mask ≡ mask_of l.i (λ k. eqb (input_at l.inputs k).kind l.kind))

abbrev pub decreases-loop-i : goal.decreases-loop-i
decreases-loop-i l = 16 - l.i

-- `counting::bills::fed_registers` meets its contract. The loop's invariant: the mask of the places before i.
use mathlib.Core.Path.{◌≡◌}
use mathlib.Core.Bool.{◌&&◌}
use Prim.Native.Nat.{◌-◌, ◌≤◌}
use lib.Dec.{ltb}
use Rattle.laws.specs.Masks.{mask_of}
use Rattle.counting.specs.Bills.{register_at, feeds}
use Rattle.counting.proofs.bills.fed_registers.Given as goal

abbrev pub invariant-loop-j : goal.invariant-loop-j
invariant-loop-j l = (l.j ≤ 16) × (l.mask ≡ mask_of l.j (λ j. ltb (register_at l.registers j).sum 8 && feeds (register_at l.registers j) l.map))

abbrev pub decreases-loop-j : goal.decreases-loop-j
decreases-loop-j l = 16 - l.j

-- `registers::fleet::fleet_of` meets its contract. The loop's invariant: the masks of the meters before i by their classes, and the sum of the awake values, at most 2 ^ 31 from 0 for each.
-- The ones of each mask are the count of its class, and the fitted meters are those of any class.
use mathlib.Core.Path.{◌≡◌}
use mathlib.Core.List.{List}
use Prim.Native.Nat.{ℕ, ◌-◌, ◌*◌, ◌^◌, ◌≤◌}
use lib.IntN.{nat_abs}
use Rattle.laws.specs.Tables.{table}
use Rattle.laws.specs.Masks.{mask_of}
use Rattle.laws.specs.SignedTotal.{totalℤ}
use Rattle.sampling.specs.declared.Meter.{Meter}
use Rattle.registers.specs.Fleet.{class_at, has_class, awake_value}
use Rattle.registers.proofs.fleet.fleet_of.Given as goal

-- the classes of all meters
abbrev pub classes : List ℕ → List Meter → ℕ → List ℕ
classes limits meters clock = table 32 (class_at limits meters clock)

abbrev pub invariant-loop-i : goal.invariant-loop-i
invariant-loop-i l =
    (l.i ≤ 32)
    × (l.awake ≡ mask_of l.i (has_class (classes l.limits l.meters l.clock) 0))
    × (l.stale ≡ mask_of l.i (has_class (classes l.limits l.meters l.clock) 1))
    × (l.invalid ≡ mask_of l.i (has_class (classes l.limits l.meters l.clock) 2))
    × (l.never ≡ mask_of l.i (has_class (classes l.limits l.meters l.clock) 3))
    × (l.sum ≡ totalℤ l.i (awake_value (classes l.limits l.meters l.clock) l.meters))
    × (nat_abs (l.sum) ≤ l.i * 2 ^ 31)

abbrev pub decreases-loop-i : goal.decreases-loop-i
decreases-loop-i l = 32 - l.i

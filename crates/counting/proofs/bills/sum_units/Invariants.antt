-- `counting::bills::sum_units` meets its contract. The loop's invariant: the units of the inputs before i that are named, each of 32 bits.
use Rattle.std.specs.Prelude.{if◌then◌else◌}
use mathlib.Core.Path.{◌≡◌}
use Prim.Native.Nat.{◌-◌, ◌*◌, ◌≤◌}
use Rattle.laws.specs.Masks.{bit_at}
use Rattle.laws.specs.Total.{total}
use Rattle.counting.specs.Bills.{unit_at}
use Rattle.counting.proofs.bills.sum_units.Given as goal

abbrev pub invariant-loop-i : goal.invariant-loop-i
invariant-loop-i l = (l.i ≤ 16) × (l.all ≡ total l.i (λ k. if bit_at l.sum k then unit_at l.units k else 0)) × (l.all ≤ l.i * 4_294_967_295)

abbrev pub decreases-loop-i : goal.decreases-loop-i
decreases-loop-i l = 16 - l.i

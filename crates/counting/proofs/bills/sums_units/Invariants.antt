-- `counting::bills::sums_units` meets its contract. The loop's invariant: the totals are the sums' units of the inputs of the mask that have been gone through.
use mathlib.Core.Path.{◌≡◌}
use Rattle.counting.specs.Bills.{unit_at, sums_of}
use Rattle.laws.proofs.Sparse.{Half}
use Rattle.counting.proofs.Sums.{units_past}
use Rattle.counting.proofs.bills.sums_units.Given as goal

abbrev pub invariant-loop-i : goal.invariant-loop-i
invariant-loop-i l =
    let left = l.i-iterator.0 in
    Half l.mask left (unit_at l.units) (λ i. 0) (units_past l.units l.mask left) × (l.totals ≡ sums_of l.sums (units_past l.units l.mask left))

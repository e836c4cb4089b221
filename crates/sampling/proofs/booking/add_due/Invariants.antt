-- `sampling::booking::add_due` meets its contract. The loop's invariant: the registers that have been gone through have their units booked.
use Prim.Native.Nat.{◌+◌}
use Rattle.counting.specs.Bills.{register_at, unit_at, register_units}
use Rattle.laws.proofs.Sparse.{Half}
use Rattle.sampling.proofs.booking.add_due.Given as goal

abbrev pub invariant-loop-j : goal.invariant-loop-j
invariant-loop-j l = Half l.fed l.j-iterator.0 (λ j. unit_at l.initial.amounts j + register_units (register_at l.registers j) l.sums) (unit_at l.initial.amounts) l.amounts

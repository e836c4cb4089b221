-- `counting::bills::amounts_of` meets its contract. The loop's invariant: the amounts of the bills before j.
use mathlib.Core.Path.{◌≡◌}
use Rattle.laws.proofs.Tables.{fill_to}
use Rattle.counting.specs.Bills.{bill_at}
use Rattle.counting.proofs.bills.amounts_of.Given as goal

abbrev pub invariant-loop-j : goal.invariant-loop-j
invariant-loop-j l = l.amounts ≡ fill_to (λ k. (bill_at l.bill-items k).amount) l.j l.initial.amounts

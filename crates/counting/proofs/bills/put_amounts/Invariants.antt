-- `counting::bills::put_amounts` meets its contract. The loop's invariant: the bills before j have their amounts.
use mathlib.Core.Path.{◌≡◌}
use Rattle.laws.proofs.Tables.{fill_to}
use Rattle.counting.specs.Bills.{bill_at, unit_at, with_amount}
use Rattle.counting.proofs.bills.put_amounts.Given as goal

abbrev pub invariant-loop-j : goal.invariant-loop-j
invariant-loop-j l = let bills = l.initial.bill-items in l.bill-items ≡ fill_to (λ k. with_amount (bill_at bills k) (unit_at l.amounts k)) l.j bills

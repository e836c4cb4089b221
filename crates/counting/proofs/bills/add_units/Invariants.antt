-- `counting::bills::add_units` meets its contract. The loop's invariant: the totals before k have the units added.
use Rattle.std.specs.Prelude.{if◌then◌else◌}
use mathlib.Core.Path.{◌≡◌}
use Prim.Native.Nat.{◌+◌}
use lib.ListN.{get_or}
use Rattle.laws.specs.Masks.{bit_at}
use Rattle.laws.proofs.Tables.{fill_to}
use Rattle.counting.specs.Bills.{unit_at}
use Rattle.counting.proofs.bills.add_units.Given as goal

abbrev pub invariant-loop-k : goal.invariant-loop-k
invariant-loop-k l =
    l.totals ≡ fill_to (λ k. unit_at l.initial.totals k + (if bit_at (get_or l.sums k 0) l.i then l.units else 0)) l.k l.initial.totals

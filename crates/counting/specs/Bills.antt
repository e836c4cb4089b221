-- "The units go to level 0 of the input, each sum that names it, and each bill register on such a sum that has no rule or whose rule is in force at the clock's present
-- second." And: "6 FULL: the sample would take a bill register past 999,999,999."
use Rattle.std.specs.Prelude.{Bool, false, ◌&&◌, ◌||◌, List, ℕ, ◌+◌, ltb, eqb, get_or, if◌then◌else◌}
use Rattle.laws.specs.Any.{any}
use Rattle.laws.specs.Total.{total}
use Rattle.laws.specs.Masks.{bit_at}
use Rattle.laws.specs.Tables.{table}
use Rattle.settings.specs.Rules.{zero_register}
use Rattle.settings.specs.declared.Register.{Register}
use Rattle.counting.specs.declared.Bill.{Bill}

-- bill register j of a configuration
abbrev pub register_at : List Register → ℕ → Register
register_at registers j = get_or registers j zero_register

-- bill j of a state
abbrev pub bill_at : List Bill → ℕ → Bill
bill_at bills j = get_or bills j (record { amount = 0; closed = 0; stamp = 0; reset = false })

-- the number at place i of a list
abbrev pub unit_at : List ℕ → ℕ → ℕ
unit_at units i = get_or units i 0

-- the units of the inputs that a sum names: bit i names input i
unfoldable pub sum_of : ℕ → (ℕ → ℕ) → ℕ
sum_of sum units = total 16 (λ i. if bit_at sum i then units i else 0)

-- the units of sum k
unfoldable pub sum_at : List ℕ → List ℕ → ℕ → ℕ
sum_at sums units k = sum_of (get_or sums k 0) (unit_at units)

-- the units of all 8 sums
unfoldable pub sums_of : List ℕ → List ℕ → List ℕ
sums_of sums units = table 8 (sum_at sums units)

-- the units of a register's sum; a register that is not in use has no sum
unfoldable pub register_units : Register → List ℕ → ℕ
register_units register sums = if ltb register.sum 8 then get_or sums register.sum 0 else 0

-- a register has no rule, or its rule is in force
abbrev pub feeds : Register → ℕ → Bool
feeds register map = eqb register.rule 255 || bit_at map register.rule

-- the units that a sample books to a register
unfoldable pub due_of : Register → ℕ → List ℕ → ℕ
due_of register map sums = if feeds register map then register_units register sums else 0

-- the units would take an amount past 999,999,999; one that gets none is not asked
abbrev pub fills_up : ℕ → ℕ → Bool
fills_up amount due = ltb 0 due && ltb 999_999_999 (amount + due)

-- a bill with another open amount
abbrev pub with_amount : Bill → ℕ → Bill
with_amount bill amount = record { amount = amount; closed = bill.closed; stamp = bill.stamp; reset = bill.reset }

-- the bill with the units booked; a full one is left as it is, since the whole sample is refused
unfoldable pub billed : Bill → ℕ → Bill
billed bill due = if fills_up bill.amount due then bill else with_amount bill (bill.amount + due)

-- what a sample books: FULL in any register, and all bills with their units
pub record Booked : Type 0 where
  pub full : Bool
  pub bills : List Bill

-- FULL in any register, and all bills with their units booked
unfoldable pub booked_of : List Register → List Bill → ℕ → List ℕ → Booked
booked_of registers bills map sums =
    let due : ℕ → ℕ = λ j. due_of (register_at registers j) map sums in
    record { full = any 16 (λ j. fills_up (bill_at bills j).amount (due j)); bills = table 16 (λ j. billed (bill_at bills j) (due j)) }

-- "Level 0 and level 1 are units of the period, level 2 the signed sum of coefficient times level 1, level 9 the chosen values of the last closed period."
use Rattle.std.specs.Prelude.{List, ℕ, ◌+◌, ◌*◌, ltb, eqb, ℤ, pos, ◌*ℤ◌, get_or, if◌then◌else◌}
use Rattle.laws.specs.Tables.{table}
use Rattle.laws.specs.SignedTotal.{totalℤ}
use Rattle.settings.specs.Rules.{zero_slot}
use Rattle.settings.specs.declared.Config.{Config}
use Rattle.settings.specs.declared.Slot.{Slot}
use Rattle.counting.specs.Filter.{line_at}
use Rattle.counting.specs.Bills.{unit_at, sum_at}
use Rattle.counting.specs.declared.Line.{Line}

-- level 0 of all inputs: their units of the period
unfoldable pub level0 : List Line → List ℕ
level0 lines = table 16 (λ i. (line_at lines i).units)

-- level 2 of a function: the signed sum of coefficient times level 1
unfoldable pub level2 : List ℤ → List ℕ → ℕ → List ℕ → ℤ
level2 coefficients sums function units = totalℤ 8 (λ k. get_or coefficients (function * 8 + k) (pos 0) *ℤ pos (sum_at sums units k))

-- level 0 of an input as a slot shows it; there are sixteen
unfoldable pub input_value : ℕ → List ℕ → ℤ
input_value input units = if ltb input 16 then pos (unit_at units input) else pos 0

-- level 1 of a sum as a slot shows it; there are eight
unfoldable pub sum_value : List ℕ → ℕ → List ℕ → ℤ
sum_value sums sum units = if ltb sum 8 then pos (sum_at sums units sum) else pos 0

-- level 2 of a function as a slot shows it; there are four
unfoldable pub function_value : List ℤ → List ℕ → ℕ → List ℕ → ℤ
function_value coefficients sums function units = if ltb function 4 then level2 coefficients sums function units else pos 0

-- the value of a level 9 slot: of level 0, 1 or 2; 0 of an empty one
unfoldable pub slot_value : Config → List ℕ → Slot → ℤ
slot_value c units slot =
    if eqb slot.level 0 then input_value slot.index units
    else if eqb slot.level 1 then sum_value c.sums slot.index units
    else if eqb slot.level 2 then function_value c.coefficients c.sums slot.index units
    else pos 0

-- the values of all 16 slots
unfoldable pub slot_values : Config → List ℕ → List ℤ
slot_values c units = table 16 (λ i. slot_value c units (get_or c.slots i zero_slot))

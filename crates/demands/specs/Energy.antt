-- Stretches and exact energies, in the words of document 01. "Energies, amounts and the units they may differ by are compared as whole numbers, each multiplied by the product of the feeding inputs'
-- denominators."
use Rattle.std.specs.Prelude.{Bool, false, not, ◌&&◌, List, [], ◌∷◌, ℕ, zero, suc, ◌+◌, ◌*◌, ◌/◌, if◌then◌else◌}
use Rattle.laws.specs.Masks.{bit, bit_at}
use Rattle.settings.specs.declared.Config.{Config}
use Rattle.counting.specs.Filter.{input_at}
use Rattle.counting.specs.Bills.{sum_of}
use Rattle.demands.specs.Account.{Sample, impulses_of, rounded_down}

-- the newest of the samples is one whose second is `on`
abbrev pub running : (ℕ → Bool) → List Sample → Bool
running on [] = false
running on (e ∷ earlier) = on e.second

-- "a longest run of accepted samples, one after another, each booked with the rule in force": how many, each counted at its first sample of the list
abbrev pub stretches_of : (ℕ → Bool) → List Sample → ℕ
stretches_of on [] = 0
stretches_of on (e ∷ earlier) = stretches_of on earlier + bit (on e.second && not (running on earlier))

-- how many inputs a mask names
abbrev pub inputs_in : ℕ → ℕ
inputs_in mask = sum_of mask (λ i. 1)

-- the denominators d i of the named inputs below n, multiplied up
unfoldable pub product_of : (ℕ → Bool) → (ℕ → ℕ) → ℕ → ℕ
product_of named d zero = 1
product_of named d (suc n) = product_of named d n * (if named n then d n else 1)

-- "the product of the feeding inputs' denominators"
abbrev pub scale_of : Config → ℕ → ℕ
scale_of c mask = product_of (bit_at mask) (λ i. (input_at c.inputs i).denominator) 16

-- "The exact energy of an impulse is numerator over denominator": that of the named inputs in the samples that are `on`, as a whole number, multiplied by the scale
abbrev pub energy_of : Config → (ℕ → Bool) → ℕ → List Sample → ℕ
energy_of c on mask samples =
    sum_of mask (λ i. impulses_of on i samples * (input_at c.inputs i).numerator * (scale_of c mask / (input_at c.inputs i).denominator))

-- the same, "rounded down once for each feeding input"
abbrev pub whole_units_of : Config → (ℕ → Bool) → ℕ → List Sample → ℕ
whole_units_of c on mask samples = sum_of mask (λ i. rounded_down c i (impulses_of on i samples))

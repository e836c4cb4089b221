-- How many places a test holds at.
use Rattle.std.specs.Prelude.{Bool, ℕ}
use Rattle.laws.specs.Masks.{bit}
use Rattle.laws.specs.Total.{total}

-- how many places below n the test p holds at
abbrev pub count_of : ℕ → (ℕ → Bool) → ℕ
count_of n p = total n (λ i. bit (p i))

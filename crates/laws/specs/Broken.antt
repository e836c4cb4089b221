-- The first place at which a rule is broken.
use Rattle.std.specs.Prelude.{Bool, not, ℕ}
use Rattle.laws.specs.First.{first}

-- the first place below n at which the rule is broken; n where it holds at each
abbrev pub first_broken : ℕ → (ℕ → Bool) → ℕ
first_broken n good = first n (λ i. not (good i))

-- Spans laid end to end, as the months of a year and the years of a calendar: the one in which a number lies.
use Rattle.std.specs.Prelude.{ℕ, suc, ltb}
use Rattle.laws.specs.First.{first}
use Rattle.laws.specs.Total.{total}

-- which of n spans of the lengths f 0, f 1, .. laid end to end holds x; n if none does
unfoldable pub span : ℕ → (ℕ → ℕ) → ℕ → ℕ
span n f x = first n (λ k. ltb x (total (suc k) f))

-- Sums of signed numbers over the places of a table.
use Rattle.std.specs.Prelude.{ℕ, zero, suc, ℤ, pos, ◌+ℤ◌}

-- f 0 + f 1 + .. + f (n - 1)
unfoldable pub totalℤ : ℕ → (ℕ → ℤ) → ℤ
totalℤ zero f = pos 0
totalℤ (suc n) f = totalℤ n f +ℤ f n

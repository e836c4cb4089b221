-- The sum over the places of an array or a table, as a loop `t += f(i)` makes it.
use Rattle.std.specs.Prelude.{ℕ, zero, suc, ◌+◌}

-- `f 0 + f 1 + .. + f (n - 1)`
unfoldable pub total : ℕ → (ℕ → ℕ) → ℕ
total zero f = 0
total (suc n) f = total n f + f n

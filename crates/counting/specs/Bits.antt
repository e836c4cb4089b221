-- The bits of a mask, one after another.
use Rattle.std.specs.Prelude.{◌≡◌, Option, None, Some, ℕ, ◌-◌, ◌^◌, ◌<◌}
use Rattle.std.specs.Int.Bits.{bit_and}
use lib.Count.{count_trailing_zeros}

-- one step through the bits that are left of a mask: the place of the lowest, and those that are left after it; none where none is left, and none is left then
abbrev pub NextBit : ℕ → Option ℕ → ℕ → Type 0
NextBit left None after = (left ≡ 0) × (after ≡ 0)
NextBit left (Some i) after = (0 < left) × (left < 2 ^ 16) × (i ≡ count_trailing_zeros 16 left) × (i < 16) × (after ≡ bit_and left (left - 1))

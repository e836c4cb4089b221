-- Masks: numbers whose bits say at which places a test holds.
use Rattle.std.specs.Prelude.{Bool, true, false, ◌&&◌, ℕ, zero, suc, ◌+◌, ◌*◌, ◌/◌, ◌%◌, ◌^◌, eqb, ltb, if◌then◌else◌}
use Rattle.std.specs.Int.Bits.{bit_or}

-- 1 for true, 0 for false
abbrev pub bit : Bool → ℕ
bit true = 1
bit false = 0

-- a mask below 2 ^ i, with bit i on or off
abbrev pub with_bit : ℕ → ℕ → Bool → ℕ
with_bit mask i on = bit on * 2 ^ i + mask

-- the mask of the places below n at which the test p holds
unfoldable pub mask_of : ℕ → (ℕ → Bool) → ℕ
mask_of zero p = 0
mask_of (suc n) p = with_bit (mask_of n p) n (p n)

-- bit i of a mask is on
unfoldable pub bit_at : ℕ → ℕ → Bool
bit_at mask i = eqb (mask / 2 ^ i % 2) 1

-- a mask of 32 bits with bit i on too, if it is to be; no mask has a bit past 31
unfoldable pub or_bit : ℕ → ℕ → Bool → ℕ
or_bit mask i on = if ltb i 32 && on then bit_or (2 ^ i) mask else mask

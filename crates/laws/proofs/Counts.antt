-- Counts of tests that hold; the ones of a mask are as many as the places at which its test holds.
use mathlib.Core.Path.{◌≡◌, refl, ap}
use mathlib.Core.Bool.{Bool, true, false, ◌||◌}
use Prim.Native.Nat.{ℕ, zero, suc, ◌<◌, ◌≤◌}
use native.Mathlib.Nat.{add_comm}
use lib.Bits.{bit_or, or_block, or_zero_l, or_zero_r, or_self}
use lib.Count.{ones, ones_cat, ones-le}
use Rattle.laws.specs.Masks.{bit, mask_of}
use Rattle.laws.proofs.Masks.{mask_below}
use Rattle.laws.proofs.Total.{total_cong}
use Rattle.laws.specs.Total.{total}
use Rattle.laws.specs.Counts.{count_of}

-- tests that agree hold as often
pub count_cong : (n : ℕ) (p q : ℕ → Bool) → ((i : ℕ) → i < n → p i ≡ q i) → count_of n p ≡ count_of n q
count_cong n p q same = total_cong n _ _ (λ i l. ap bit (same i l))

-- the ones of a bit
bit_ones : (b : Bool) → ones (bit b) ≡ bit b
unfolding ones
bit_ones true = refl
bit_ones false = refl

-- the ones of a mask are as many as the places at which its test holds
pub ones_mask : (n : ℕ) (p : ℕ → Bool) → ones (mask_of n p) ≡ count_of n p
unfolding mask_of total ones
ones_mask zero p = refl
ones_mask (suc n) p = rw (ones_cat n (bit (p n)) (mask_of n p) (mask_below n p), bit_ones, ones_mask n p) (add_comm (bit (p n)) (count_of n p))

-- there are at most n of them
pub ones_mask_le : (n : ℕ) (p : ℕ → Bool) → ones (mask_of n p) ≤ n
ones_mask_le n p = ones-le n (mask_of n p) (mask_below n p)

-- the code's `|` of two bits
bit_or_lem : (a b : Bool) → bit_or (bit a) (bit b) ≡ bit (a || b)
bit_or_lem true true = or_self 1
bit_or_lem true false = or_zero_r 1
bit_or_lem false b = or_zero_l (bit b)

-- the code's `|` of two masks
pub mask_or : (n : ℕ) (p q : ℕ → Bool) → bit_or (mask_of n p) (mask_of n q) ≡ mask_of n (λ i. p i || q i)
unfolding mask_of
mask_or zero p q = or_self 0
mask_or (suc n) p q = rw (or_block n (bit (p n)) (bit (q n)) (mask_of n p) (mask_of n q) (mask_below n p) (mask_below n q), bit_or_lem, mask_or n p q)

-- "signed ones are two's complement", over the width: `!` of the bits of a negative number is below the sign bit, and a second `!` gives the bits back.
use mathlib.Core.Path.{◌≡◌, refl}
use mathlib.Core.Bool.{true, false, true≢false}
use Prim.Native.Nat.{ℕ, zero, suc, ◌-◌, ◌^◌, ◌<◌, ◌≤◌}
use native.Mathlib.Nat.{lt_trans, not-suc-le-zero}
use native.Mathlib.Omega.{arith}
use borrow.Author.Tests.{ltb-true}
use lib.Dec.{lit<}
use lib.IntN.{ℤ, pos, negsuc, neg_ℤ}
use lib.Signed.{mag, lt_z}
use mir.Syntax.{Width, w8, w16, w32, w64, w128}
use mir.Val.{SFits, bits, hbits, to_z, of_z}
use mir.Facts.{to_z_pos, to_z-neg}

-- the sign bit is one of the bits
half : (w : Width) → 2 ^ hbits w < 2 ^ bits w
half w8 = lit< tt
half w16 = lit< tt
half w32 = lit< tt
half w64 = lit< tt
half w128 = lit< tt

-- what `!` makes of the bits of a negative number z
pub record Negative (w : Width) (z : ℤ) : Type 0 where
  pub small : mag z < 2 ^ hbits w
  pub flipped : to_z w (2 ^ bits w - 1 - of_z w z) ≡ pos (mag z)
  pub back : 2 ^ bits w - 1 - mag z ≡ of_z w z

-- it makes it of each negative number
pub negative : (w : Width) (z : ℤ) → SFits w z → lt_z z (pos 0) ≡ true → Negative w z
negative w (pos n) h t = absurd (not-suc-le-zero (ltb-true n 0 t))
negative w (negsuc n) h t =
    let s : n < 2 ^ hbits w = h.sfits in
    let m : n < 2 ^ bits w = lt_trans s (half w) in
    let f : 2 ^ bits w - 1 - (2 ^ bits w - suc n) ≡ n = omega arith in
    record { small = s; flipped = rw f (to_z_pos w s); back = omega arith }

-- the bits of a number that is not negative are the number
pub natural : (w : Width) (z : ℤ) → SFits w z → lt_z z (pos 0) ≡ false → to_z w (of_z w z) ≡ pos (of_z w z)
natural w (pos n) h t = to_z_pos w h.sfits
natural w (negsuc n) h t = absurd (true≢false t)

-- the bits of -n, as `!` of n - 1 makes them
pub negated : (n : ℕ) → (n ≡ 0 → ⊥) → n ≤ 2147483648 → to_z w32 (4294967295 - (n - 1)) ≡ neg_ℤ (pos n)
negated zero h g = absurd (h refl)
negated (suc m) h g = let e : 4294967295 - (suc m - 1) ≡ 4294967296 - suc m = omega arith in rw e (to_z-neg w32 m g)

-- they give it back
pub negated_back : (n : ℕ) → n ≤ 2147483648 → to_z w32 (of_z w32 (neg_ℤ (pos n))) ≡ neg_ℤ (pos n)
negated_back zero h = refl
negated_back (suc n) h = to_z-neg w32 n h

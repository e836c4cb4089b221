-- What the machine adds where a coefficient times the units of a sum is added to a value.
use mathlib.Core.Path.{◌≡◌}
use Prim.Native.Nat.{ℕ, ◌+◌, ◌^◌, ◌≤◌}
use native.Mathlib.Nat.{mul-le-mul}
use native.Mathlib.Omega.{arith}
use lib.IntN.{ℤ, pos, nat_abs, ◌+ℤ◌, ◌*ℤ◌}
use lib.Signed.{nat_abs-le}
use mir.Syntax.{w8, w64}
use mir.Val.{SFits, to_z, of_z}
use mir.Facts.{to_z-of_z, to_z_pos, sfits_widen}
use Rattle.laws.proofs.SignedTotal.{abs_add, abs_fits, abs_times}

module _ (value k : ℤ) (units : ℕ) (v : SFits w64 value) (f : SFits w8 k) (near : nat_abs value ≤ 2 ^ 60) (few : units ≤ 68_719_476_720) where
  -- the product is at most 2 ^ 44 from 0
  product_near : nat_abs (k *ℤ pos units) ≤ 2 ^ 44
  product_near = rw (abs_times k units) (omega (arith, mul-le-mul (nat_abs-le k f.sfits) few))

  -- so it fits 64 bits
  pub product_fits : SFits w64 (k *ℤ pos units)
  product_fits = abs_fits (k *ℤ pos units) (omega (arith, product_near))

  -- and so does the sum
  pub sum_fits : SFits w64 (value +ℤ (k *ℤ pos units))
  sum_fits = abs_fits (value +ℤ (k *ℤ pos units)) (omega (arith, abs_add value (k *ℤ pos units), product_near))

  -- which is at most 2 ^ 44 further from 0
  pub sum_near : nat_abs (value +ℤ (k *ℤ pos units)) ≤ nat_abs value + 2 ^ 44
  sum_near = omega (arith, abs_add value (k *ℤ pos units), product_near)

  -- what the machine multiplies are the numbers themselves
  pub times_is : to_z w64 (of_z w64 (to_z w8 (of_z w8 k))) *ℤ to_z w64 units ≡ k *ℤ pos units
  times_is = simp (to_z-of_z f, to_z-of_z (sfits_widen {w' = w64} tt f), to_z_pos w64 {n = units} (omega arith))

  -- and what it adds
  pub plus_is : to_z w64 (of_z w64 value) +ℤ to_z w64 (of_z w64 (to_z w64 (of_z w64 (to_z w8 (of_z w8 k))) *ℤ to_z w64 units)) ≡ value +ℤ (k *ℤ pos units)
  plus_is = simp (to_z-of_z v, times_is, to_z-of_z product_fits)

-- Sums of signed numbers, and how far they are from 0.
use mathlib.Core.Path.{◌≡◌, refl}
use mathlib.Core.Bool.{Bool, true, false, cond}
use Prim.Native.Nat.{ℕ, zero, suc, ◌+◌, ◌-◌, ◌*◌, ◌^◌, ◌<◌, ◌≤◌}
use native.Mathlib.Nat.{add_comm, le_antisymm, le_refl}
use native.Mathlib.Numerals.{add-one}
use native.Mathlib.Omega.{arith}
use lib.Dec.{ltb}
use lib.IntN.{ℤ, pos, negsuc, nat_abs, neg_ℤ, ◌+ℤ◌, ◌*ℤ◌}
use mir.Syntax.{Width}
use mir.Val.{SFits, hbits}
use borrow.Author.Tests.{ltb-true}
use Rattle.laws.specs.SignedTotal.{totalℤ}

-- before the first turn of a loop
pub totalℤ-none : (f : ℕ → ℤ) → pos 0 ≡ totalℤ 0 f
unfolding totalℤ
totalℤ-none f = refl

-- a turn
pub totalℤ-turn : (i : ℕ) (f : ℕ → ℤ) {t r : ℤ} → t ≡ totalℤ i f → r ≡ t +ℤ f i → r ≡ totalℤ (i + 1) f
unfolding totalℤ
totalℤ-turn i f e h = rw (h, e, add-one)

-- after the last turn
pub totalℤ-done : (n i : ℕ) (f : ℕ → ℤ) (t : ℤ) → t ≡ totalℤ i f → i ≤ n → n ≤ i → t ≡ totalℤ n f
totalℤ-done n i f t e l g = rw (e, le_antisymm l g)

-- sums of parts that agree
pub totalℤ-cong : (n : ℕ) (f g : ℕ → ℤ) → ((i : ℕ) → i < n → f i ≡ g i) → totalℤ n f ≡ totalℤ n g
unfolding totalℤ
totalℤ-cong zero f g h = refl
totalℤ-cong (suc n) f g h = rw (h n (le_refl (suc n)), totalℤ-cong n f g (λ i l. h i (omega arith)))

sub_abs : (b : Bool) (m n : ℕ) → ltb m n ≡ b → nat_abs (cond b (negsuc (n - suc m)) (pos (m - n))) ≤ m + n
sub_abs true m n e = omega (arith, ltb-true m n e)
sub_abs false m n e = omega arith

-- the absolute value of a sum is at most the sum of the absolute values
pub abs_add : (a b : ℤ) → nat_abs (a +ℤ b) ≤ nat_abs a + nat_abs b
abs_add (pos a) (pos b) = omega arith
abs_add (pos a) (negsuc b) = sub_abs (ltb a (suc b)) a (suc b) refl
abs_add (negsuc a) (pos b) = rw add_comm (sub_abs (ltb b (suc a)) b (suc a) refl)
abs_add (negsuc a) (negsuc b) = omega arith

-- a number nearer to 0 than half the width's power fits it
pub abs_fits : {w : Width} (z : ℤ) → nat_abs z < 2 ^ hbits w → SFits w z
abs_fits (pos n) h = record { sfits = h }
abs_fits (negsuc n) h = record { sfits = omega arith }

-- the absolute value of a negated number
neg_abs : (m : ℕ) → nat_abs (neg_ℤ (pos m)) ≡ m
neg_abs zero = refl
neg_abs (suc m) = refl

-- the absolute value of a product with a natural number
pub abs_times : (a : ℤ) (n : ℕ) → nat_abs (a *ℤ pos n) ≡ nat_abs a * n
abs_times (pos a) n = refl
abs_times (negsuc a) n = neg_abs (suc a * n)

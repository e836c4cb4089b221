-- One impulse more: what whole denominators leave of the numerators, and the units that leave them.
use Rattle.std.specs.Prelude.{if◌then◌else◌}
use mathlib.Core.Path.{◌≡◌, sym}
use mathlib.Core.Bool.{Bool, true, false}
use Prim.Native.Nat.{ℕ, ◌+◌, ◌-◌, ◌*◌, ◌/◌, ◌%◌, ◌<◌, ◌≤◌}
use native.Mathlib.Nat.{add-mul, one-mul, add-zero, div-zero, div-add-mod', mod-add-mod, mul-add-div_right}
use native.Mathlib.Omega.{arith}
use lib.Dec.{eqb}
use borrow.Author.Tests.{eqb-true, eqb-false}
use Rattle.laws.proofs.Tests.{by_test}
use Rattle.laws.specs.Masks.{bit}
use Rattle.settings.specs.declared.Input.{Input}
use Rattle.counting.specs.Units.{units_of, remainder_of}

-- what n impulses leave, none without a denominator
abbrev pub left_over : Input → ℕ → ℕ
left_over x n = if eqb x.denominator 0 then 0 else n * x.numerator % x.denominator

-- the energy of n impulses, rounded down
abbrev pub full_units : Input → ℕ → ℕ
full_units x n = n * x.numerator / x.denominator

-- with an impulse more, the energy is as before, and what is left and the numerator come to more units
more_units : (num den n : ℕ) → 0 < den → (n + 1) * num / den ≡ n * num / den + (n * num % den + num) / den
more_units num den n pos =
    let e : (n + 1) * num ≡ n * num / den * den + (n * num % den + num) = omega (arith, add-mul n 1 num, one-mul num, div-add-mod' (n * num) den) in
    rw e (mul-add-div_right pos (n * num / den) (n * num % den + num))

-- the units that leave the remainder of n impulses with one more, or without
pub paid_step : (num den n : ℕ) (p : Bool) → 0 < den → (n + bit p) * num / den - n * num / den ≡ (if p then (n * num % den + num) / den else 0)
paid_step num den n true pos = rw (more_units num den n pos) (omega arith)
paid_step num den n false pos = rw add-zero (omega arith)

-- the remainder of n impulses with one more, or without
pub rem_step : (num den n : ℕ) (p : Bool) → (n + bit p) * num % den ≡ (if p then (n * num % den + num) % den else n * num % den)
rem_step num den n true =
    let e : (n + 1) * num ≡ n * num + num = omega (arith, add-mul n 1 num, one-mul num) in
    rw e (sym (mod-add-mod (n * num) den num))
rem_step num den n false = rw add-zero

-- energy never falls
pub units_grow : (x : Input) (n : ℕ) (p : Bool) → full_units x n ≤ full_units x (n + bit p)
units_grow x n true =
    by_test (eqb x.denominator 0)
    (λ t. rw (eqb-true x.denominator 0 t, div-zero, div-zero) (omega arith))
    (λ f. let none = eqb-false x.denominator 0 f in rw (more_units x.numerator x.denominator n (omega arith)) (omega arith))
units_grow x n false = rw add-zero (omega arith)

-- the units that the recorder's remainder brings are the difference of the energies
pub units_step : (x : Input) (n : ℕ) (p : Bool) → (if p then units_of x (left_over x n) else 0) ≡ full_units x (n + bit p) - full_units x n
unfolding units_of
units_step x n true =
    by_test (eqb x.denominator 0)
    (λ t. rw t (rw (eqb-true x.denominator 0 t, div-zero, div-zero)))
    (λ f. let none = eqb-false x.denominator 0 f in rw f (sym (paid_step x.numerator x.denominator n true (omega arith))))
units_step x n false = rw add-zero (omega arith)

-- and the remainder is what they leave
pub left_step : (x : Input) (n : ℕ) (p : Bool) → (if p then remainder_of x (left_over x n) else left_over x n) ≡ left_over x (n + bit p)
unfolding remainder_of
left_step x n true =
    by_test (eqb x.denominator 0) (λ t. rw t) (λ f. rw f (sym (rem_step x.numerator x.denominator n true)))
left_step x n false = rw add-zero

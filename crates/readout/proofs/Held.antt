-- Laws of numbers that are held (specs/Held.antt): that one was held makes no difference to what comes of it.
use mathlib.Core.Path.{◌≡◌, refl, sym, ap, ◌∙◌}
use mathlib.Core.Bool.{Bool, true, false}
use mathlib.Core.List.{List, [], ◌∷◌}
use Prim.Native.Nat.{ℕ, zero, suc, ◌+◌, ◌-◌, ◌*◌, ◌^◌, ◌≤◌}
use native.Mathlib.Nat.{pow-suc, mul_assoc}
use native.Mathlib.Omega.{arith}
use borrow.Author.Tests.{leb-true, leb-false, lt-leb}
use lib.Dec.{leb}
use Rattle.laws.specs.Answers.{Answer, given, refused}
use Rattle.laws.specs.Decimals.{value_from}
use Rattle.laws.proofs.Tests.{by_test}
use Rattle.readout.specs.Numbers.{most, in32_bits}
use Rattle.readout.specs.Held.{held, held_answer}

-- digits behind a number that is held
pub held_digits : (n : ℕ) (l : List ℕ) → held (value_from (held n) l) ≡ held (value_from n l)
unfolding value_from
held_digits n [] = omega arith
held_digits n (b ∷ rest) =
    let e : held (held n * 10 + (b - 48)) ≡ held (n * 10 + (b - 48)) = omega arith in
    sym (held_digits (held n * 10 + (b - 48)) rest) ∙ ap (λ m. held (value_from m rest)) e ∙ held_digits (n * 10 + (b - 48)) rest

-- zeros behind a number that is held: any count of them
pub held_pow : (n j : ℕ) → held (held n * 10 ^ j) ≡ held (n * 10 ^ j)
held_pow n zero = omega arith
held_pow n (suc j) =
    let a : held (held n * (10 ^ j * 10)) ≡ held (held (held n * 10 ^ j) * 10) = rw (← mul_assoc (held n) (10 ^ j) 10) (omega arith) in
    let b : held (n * (10 ^ j * 10)) ≡ held (held (n * 10 ^ j) * 10) = rw (← mul_assoc n (10 ^ j) 10) (omega arith) in
    rw (pow-suc 10 j) (a ∙ ap (λ m. held (m * 10)) (held_pow n j) ∙ sym b)

-- the most that fits
most_small : (minus : Bool) → most minus ≤ 2147483648
most_small true = omega arith
most_small false = omega arith

-- what fits 32 bits
pub held_fits : (minus : Bool) (a : Answer ℕ) → in32_bits minus (held_answer a) ≡ in32_bits minus a
held_fits minus (refused n offset) = refl
held_fits minus (given n) =
    let m : most minus ≤ 2147483648 = most_small minus in
    by_test (leb n (most minus))
    (λ t. let l = leb-true n (most minus) t in let e : held n ≡ n = omega arith in rw e)
    (λ t. let l = leb-false n (most minus) t in rw (t, lt-leb (held n) (most minus) (omega arith)))

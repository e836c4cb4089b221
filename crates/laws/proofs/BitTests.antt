-- A bit of `a & b`, `a | b` and `a ^ b`, as a test.
use mathlib.Core.Path.{◌≡◌}
use mathlib.Core.Bool.{Bool, true, false, not, ◌&&◌, ◌||◌}
use mathlib.Core.Logic.{◌⊎◌, inl, inr, ⊎_elim}
use Prim.Native.Nat.{ℕ, ◌+◌, ◌*◌, ◌/◌, ◌%◌, ◌^◌, ◌<◌}
use native.Mathlib.Omega.{arith}
use lib.Dec.{eqb}
use lib.Bits.{bit_and, bit_or, bit_xor, and_shr, or_shr, xor_shr, and_step, or_step, xor_step, and_le_l, and_le_r, or_add_and}
use borrow.Author.Tests.{eqb-true, eqb-false}
use Rattle.laws.proofs.Tests.{by_test}
use Rattle.laws.specs.Masks.{bit_at}

-- a last digit is 0 or 1
pub digit : (x : ℕ) → (x % 2 ≡ 0) ⊎ (x % 2 ≡ 1)
digit x = by_test (eqb (x % 2) 1) (λ e. inr (eqb-true _ _ e)) (λ e. let n = eqb-false (x % 2) 1 e in inl (omega arith))

-- the last digit of a number that ends in the digit m
last : (n m : ℕ) → m < 2 → (n * 2 + m) % 2 ≡ m
last n m h = omega arith

-- both on
pub bit_and_lem : (a b i : ℕ) → bit_at (bit_and a b) i ≡ (bit_at a i && bit_at b i)
unfolding bit_at
bit_and_lem a b i =
    let x = a / 2 ^ i in
    let y = b / 2 ^ i in
    rw (and_shr a b i, and_step x y)
    (⊎_elim (λ p. ⊎_elim (λ q. rw (p, q, last _ 0 (omega arith))) (λ q. rw (p, q, last _ 0 (omega arith))) (digit y))
    (λ p. ⊎_elim (λ q. rw (p, q, last _ 0 (omega arith))) (λ q. rw (p, q, last _ 1 (omega arith))) (digit y))
    (digit x))

-- one of them on
pub bit_or_lem : (a b i : ℕ) → bit_at (bit_or a b) i ≡ (bit_at a i || bit_at b i)
unfolding bit_at
bit_or_lem a b i =
    let x = a / 2 ^ i in
    let y = b / 2 ^ i in
    rw (or_shr a b i, or_step x y)
    (⊎_elim (λ p. ⊎_elim (λ q. rw (p, q, last _ 0 (omega arith))) (λ q. rw (p, q, last _ 1 (omega arith))) (digit y))
    (λ p. ⊎_elim (λ q. rw (p, q, last _ 1 (omega arith))) (λ q. rw (p, q, last _ 1 (omega arith))) (digit y))
    (digit x))

-- one of two tests and not the other
abbrev pub either : Bool → Bool → Bool
either true b = not b
either false b = b

-- one on and the other off
pub bit_xor_lem : (a b i : ℕ) → bit_at (bit_xor a b) i ≡ either (bit_at a i) (bit_at b i)
unfolding bit_at
bit_xor_lem a b i =
    let x = a / 2 ^ i in
    let y = b / 2 ^ i in
    rw (xor_shr a b i, xor_step x y)
    (⊎_elim (λ p. ⊎_elim (λ q. rw (p, q, last _ 0 (omega arith))) (λ q. rw (p, q, last _ 1 (omega arith))) (digit y))
    (λ p. ⊎_elim (λ q. rw (p, q, last _ 1 (omega arith))) (λ q. rw (p, q, last _ 0 (omega arith))) (digit y))
    (digit x))

-- where the code's `|` of two numbers is 0, both are
pub or_none : (a b : ℕ) → bit_or a b ≡ 0 → (a ≡ 0) × (b ≡ 0)
or_none a b e = (omega (arith, or_add_and a b, and_le_r a b), omega (arith, or_add_and a b, and_le_l a b))

-- The exclusive or tells what was put in: two numbers that give the same with a third are the same.
use mathlib.Core.Path.{◌≡◌, sym, ◌∙◌}
use mathlib.Core.Logic.{◌⊎◌, inl, inr}
use Prim.Native.Nat.{ℕ, ◌+◌, ◌*◌, ◌/◌, ◌%◌}
use native.Mathlib.Omega.{arith}
use lib.Arith.{bin_ind}
use lib.Bits.{bit_xor, differ, xor_step, xor_zero_l}
use Rattle.laws.proofs.BitTests.{digit}

-- a last digit
abbrev Last : ℕ → Type 0
Last x = (x ≡ 0) ⊎ (x ≡ 1)

-- where the last digits x and y give the same as x and z, and so does what stands before them, y is z
same_last : (x y z m n : ℕ) → Last x → Last y → Last z → m * 2 + differ x y ≡ n * 2 + differ x z → (m ≡ n) × (y ≡ z)
same_last x y z m n (inl p) (inl q) (inl r) e = let g = rw (p, q, r) at e in (omega arith, omega arith)
same_last x y z m n (inl p) (inl q) (inr r) e = let g = rw (p, q, r) at e in absurd (omega arith)
same_last x y z m n (inl p) (inr q) (inl r) e = let g = rw (p, q, r) at e in absurd (omega arith)
same_last x y z m n (inl p) (inr q) (inr r) e = let g = rw (p, q, r) at e in (omega arith, omega arith)
same_last x y z m n (inr p) (inl q) (inl r) e = let g = rw (p, q, r) at e in (omega arith, omega arith)
same_last x y z m n (inr p) (inl q) (inr r) e = let g = rw (p, q, r) at e in absurd (omega arith)
same_last x y z m n (inr p) (inr q) (inl r) e = let g = rw (p, q, r) at e in absurd (omega arith)
same_last x y z m n (inr p) (inr q) (inr r) e = let g = rw (p, q, r) at e in (omega arith, omega arith)

pub xor_same : (a b c : ℕ) → bit_xor a b ≡ bit_xor a c → b ≡ c
xor_same =
    bin_ind (λ (a : ℕ). (b c : ℕ) → bit_xor a b ≡ bit_xor a c → b ≡ c) (λ b c e. sym (xor_zero_l b) ∙ e ∙ xor_zero_l c)
    (λ a ih b c e.
    let s = same_last (a % 2) (b % 2) (c % 2) (bit_xor (a / 2) (b / 2)) (bit_xor (a / 2) (c / 2)) (digit a) (digit b) (digit c) (sym (xor_step a b) ∙ e ∙ xor_step a c) in
    let h = ih (b / 2) (c / 2) s.0 in
    let l = s.1 in
    omega arith)

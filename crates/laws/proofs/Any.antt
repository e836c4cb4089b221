-- Laws of specs/Any.antt.
use mathlib.Core.Path.{◌≡◌, refl, sym, ◌∙◌}
use mathlib.Core.Bool.{Bool, true, false, ◌||◌, or-true, or-false, or_assoc}
use mathlib.Core.Logic.{⊎_elim}
use Prim.Native.Nat.{ℕ, zero, suc, ◌+◌, ◌<◌, ◌≤◌}
use native.Mathlib.Nat.{le_of_suc-le-suc, not-suc-le-zero, le_refl, le_antisymm, eq-or-lt_of_le}
use native.Mathlib.Numerals.{add-one}
use native.Mathlib.Omega.{arith}
use Rattle.laws.proofs.Tests.{by_test}
use Rattle.laws.specs.Any.{any}

-- before the first turn of a loop `found = found | p(i)`
pub any_start : (p : ℕ → Bool) → false ≡ any 0 p
unfolding any
any_start p = refl

-- a turn
pub any_turn : (i : ℕ) (p : ℕ → Bool) {found b : Bool} → found ≡ any i p → b ≡ p i → (found || b) ≡ any (i + 1) p
unfolding any
any_turn i p e h = rw (add-one, e, h)

-- after the last turn
pub any_done : (n i : ℕ) (p : ℕ → Bool) (found : Bool) → found ≡ any i p → i ≤ n → n ≤ i → found ≡ any n p
any_done n i p found e l g = rw (e, le_antisymm l g)

-- it does, if it holds at k
pub any_at : (n : ℕ) (p : ℕ → Bool) (k : ℕ) → k < n → p k ≡ true → any n p ≡ true
unfolding any
any_at zero p k l h = absurd (not-suc-le-zero l)
any_at (suc n) p k l h = ⊎_elim (λ e. rw (← e, h, or-true)) (λ m. rw (any_at n p k m h)) (eq-or-lt_of_le (le_of_suc-le-suc l))

-- it does not, if it holds nowhere below n
pub any_none : (n : ℕ) (p : ℕ → Bool) → ((j : ℕ) → j < n → p j ≡ false) → any n p ≡ false
unfolding any
any_none zero p none = refl
any_none (suc n) p none = rw (any_none n p (λ j l. none j (omega arith))) (none n (le_refl (suc n)))

-- where it holds nowhere, it does not hold at i
pub any_not : (n : ℕ) (p : ℕ → Bool) → any n p ≡ false → (i : ℕ) → i < n → p i ≡ false
any_not n p e i l =
    by_test (p i) (λ t. let f : true ≡ false = sym (any_at n p i l t) ∙ e in cc) (λ f. f)

-- tests that agree below n
pub any_cong : (n : ℕ) (p q : ℕ → Bool) → ((i : ℕ) → i < n → p i ≡ q i) → any n p ≡ any n q
unfolding any
any_cong zero p q h = refl
any_cong (suc n) p q h = rw (h n (le_refl (suc n)), any_cong n p q (λ i l. h i (omega arith)))

-- the lowest place first
pub any_low : (n : ℕ) (p : ℕ → Bool) → any (suc n) p ≡ (p 0 || any n (λ i. p (suc i)))
unfolding any
any_low zero p = sym (or-false (p 0))
any_low (suc n) p = rw (any_low n p) (or_assoc (p 0) _ _)

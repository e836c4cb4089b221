-- Laws of specs/Broken.antt.
use mathlib.Core.Path.{◌≡◌}
use mathlib.Core.Bool.{Bool, true, false, not}
use Prim.Native.Nat.{ℕ, ◌+◌, ◌<◌, ◌≤◌, zero-le}
use native.Mathlib.Omega.{arith}
use borrow.Author.Count.{below_none, below_more}
use Rattle.laws.proofs.First.{first_is, first_none}
use Rattle.laws.specs.Broken.{first_broken}

-- a loop looks for it and has come to i: the rule holds at each place before
pub record Kept (n : ℕ) (good : ℕ → Bool) (i : ℕ) : Type 0 where
  pub within : i ≤ n
  pub before : (j : ℕ) → j < i → not (good j) ≡ false

-- before the first turn
pub kept_none : (n : ℕ) (good : ℕ → Bool) → Kept n good 0
kept_none n good = record { within = zero-le; before = below_none _ }

module _ {n : ℕ} {good : ℕ → Bool} {i : ℕ} (k : Kept n good i) where
  -- the rule holds at i: on to the next place
  pub kept_more : i < n → good i ≡ true → Kept n good (i + 1)
  kept_more h e = record { within = omega arith; before = below_more _ _ k.before (rw e) }

  -- it is broken at i, and i is the first such place
  pub kept_broken : i < n → good i ≡ false → i ≡ first_broken n good
  kept_broken h e = rw (first_is n (λ j. not (good j)) i h (rw e) k.before)

  -- it holds at each place
  pub kept_all : n ≤ i → i ≡ first_broken n good
  kept_all h =
      let e : i ≡ n = omega arith in
      rw (first_none n (λ j. not (good j)) (λ j l. k.before j (omega arith))) e

-- a rule that holds at each place is broken nowhere
pub never_broken : (n : ℕ) (good : ℕ → Bool) → ((j : ℕ) → good j ≡ true) → first_broken n good ≡ n
never_broken n good holds = first_none n (λ j. not (good j)) (λ j l. rw (holds j))

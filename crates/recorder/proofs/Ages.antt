-- A class, whatever made it so.
use mathlib.Core.Path.{◌≡◌}
use mathlib.Core.Bool.{Bool, not, ◌||◌}
use Prim.Native.Nat.{ℕ, ◌+◌, ◌%◌}
use borrow.Author.Tests.{eqb-true, eqb-false}
use lib.Dec.{ltb, eqb}
use Rattle.laws.proofs.If.{if_cases}
use Rattle.recorder.specs.Meters.{class_of}

-- what holds of never, of stale, of invalid where IV is set and of awake where it is not, holds of the class
pub class_cases : (P : ℕ → Type 0) (limit : ℕ) (read : Bool) (stamp status clock : ℕ)
    → P 3 → P 1 → (status % 2 ≡ 1 → P 2) → ((status % 2 ≡ 1 → ⊥) → P 0) → P (class_of limit read stamp status clock)
unfolding class_of
class_cases P limit read stamp status clock never stale invalid awake =
    if_cases P (not read) (λ a. never)
    (λ a.
    if_cases P (ltb clock stamp || ltb (stamp + limit) clock) (λ b. stale)
    (λ b. if_cases P (eqb (status % 2) 1) (λ d. invalid (eqb-true _ _ d)) (λ d. awake (eqb-false _ _ d))))

-- `calendar::month_length` meets its contract: the formula gives the length of each month but February.
use mathlib.Core.Path.{◌≡◌, refl}
use mathlib.Core.Bool.{false, ◌||◌}
use mathlib.Core.List.{◌∷◌}
use Prim.Native.Nat.{ℕ, ◌+◌, ◌/◌, ◌%◌, ◌≤◌}
use native.Mathlib.Omega.{arith}
use borrow.Author.Tests.{ne_eqb, lt-leb, eqb-true}
use lib.Dec.{eqb, leb}
use lib.ListN.{get_or}
use Rattle.laws.specs.First.{first}
use Rattle.laws.proofs.First.{computed}
use Rattle.laws.proofs.Tests.{or_right}
use Rattle.calendar.specs.Dates.{common_lengths, month_length}
use Rattle.calendar.proofs.month_length.Goals as goal

-- any other month has the same length in every year
in_any_year : (y m : ℕ) → 1 ≤ m → m ≤ 12 → (m ≡ 2 → ⊥) → 30 + (m + m / 8) % 2 ≡ month_length y m
unfolding month_length first
in_any_year y m l h n =
    let known : (leb m 0 || eqb m 2) ≡ false = rw (lt-leb m 0 l, ne_eqb m 2 n) in
    rw (ne_eqb m 2 n)
    (eqb-true _ _
    (or_right _ _ known (computed 13 (λ k. (leb k 0 || eqb k 2) || eqb (30 + (k + k / 8) % 2) (get_or (0 ∷ common_lengths) k 0)) refl m (omega arith))))

pub returns-in_default : goal.returns-in_default
returns-in_default c = in_any_year _ _ (omega arith) (omega arith) (λ e. omega arith)

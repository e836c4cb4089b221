-- What does not fill a register.
use Rattle.std.specs.Prelude.{if◌then◌else◌}
use mathlib.Core.Path.{◌≡◌}
use mathlib.Core.Bool.{Bool, true, false, ◌&&◌}
use mathlib.Core.List.{List}
use Prim.Native.Nat.{ℕ, ◌+◌, ◌<◌, ◌≤◌, ◌^◌}
use native.Mathlib.Nat.{add-zero}
use native.Mathlib.Omega.{arith}
use lib.Dec.{ltb}
use borrow.Author.Tests.{lt-ltb, ltb-true, ltb-false}
use Rattle.laws.proofs.Tests.{by_test}
use Rattle.laws.specs.Any.{any}
use Rattle.laws.proofs.Any.{any_cong, any_not}
use Rattle.laws.specs.Masks.{bit_at}
use Rattle.laws.specs.Tables.{table}
use Rattle.laws.proofs.Tables.{table_cong}
use Rattle.settings.specs.declared.Register.{Register}
use Rattle.counting.specs.Bills.{register_at, unit_at, register_units, fills_up}
use Rattle.counting.specs.ByMask.{fed_at, some_full, amounts_booked}

-- units that do not fill an amount keep it within 999,999,999
pub not_full : (amount due : ℕ) → fills_up amount due ≡ false → 0 < due → amount + due ≤ 999_999_999
not_full amount due e h = ltb-false 999_999_999 (amount + due) (rw (lt-ltb 0 due h) at e)

-- with units that do not fill it, an amount of 32 bits stays one; also where there are none
pub stays_small : (amount due : ℕ) → amount < 2 ^ 32 → fills_up amount due ≡ false → amount + due < 2 ^ 32
stays_small amount due l e =
    by_test (ltb 0 due)
    (λ t. omega (arith, not_full amount due e (ltb-true 0 due t)))
    (λ f. omega (arith, ltb-false 0 due f))

-- the units of register j's sum would fill its amount
abbrev pub filled_at : List Register → List ℕ → List ℕ → ℕ → Bool
filled_at registers amounts sums j = fills_up (unit_at amounts j) (register_units (register_at registers j) sums)

module _ (registers : List Register) (amounts : List ℕ) (fed : ℕ) (sums : List ℕ) where
  -- one of the registers that are fed would be full
  pub full_of_fed : any 16 (λ j. bit_at fed j && filled_at registers amounts sums j) ≡ some_full registers amounts fed sums
  unfolding some_full fed_at
  full_of_fed = any_cong 16 _ _ (λ j l. by_test (bit_at fed j) (λ t. rw t) (λ f. rw f))

  module _ (none : some_full registers amounts fed sums ≡ false) where
    -- where none would be, one that is fed is not
    pub not_filled : (j : ℕ) → j < 16 → bit_at fed j ≡ true → filled_at registers amounts sums j ≡ false
    unfolding some_full fed_at
    not_filled j l on = let f = any_not 16 _ none j l in rw on at f

    -- and the registers that are fed are booked, the others as they were
    pub booked_of_fed : table 16 (λ j. if bit_at fed j then unit_at amounts j + register_units (register_at registers j) sums else unit_at amounts j) ≡ amounts_booked registers amounts fed sums
    unfolding amounts_booked fed_at
    booked_of_fed = rw none (table_cong 16 _ _ (λ j l. by_test (bit_at fed j) (λ t. rw t) (λ f. rw (f, add-zero))))

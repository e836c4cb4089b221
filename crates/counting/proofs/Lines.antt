-- What a sample does to one line: the filter, then the impulse that it may bring.
use Rattle.std.specs.Prelude.{if◌then◌else◌}
use mathlib.Core.Path.{◌≡◌, ◌∙◌}
use mathlib.Core.Bool.{Bool, not, ◌&&◌}
use mathlib.Core.List.{List}
use Prim.Native.Nat.{ℕ, ◌<◌}
use borrow.Author.Tests.{lt-ltb}
use Rattle.laws.proofs.Tests.{by_test}
use Rattle.laws.specs.Masks.{bit_at}
use Rattle.laws.proofs.Masks.{bit_at_lem}
use Rattle.laws.proofs.Tables.{table_at}
use Rattle.settings.specs.declared.Input.{Input}
use Rattle.counting.specs.Filter.{input_at, line_at, next_run, ends, fits, one_more, accepted, filtered, stepped_of}
use Rattle.counting.specs.Units.{units_of, remainder_of, held_sum, credited, credits_of}
use Rattle.counting.specs.Bills.{unit_at}
use Rattle.counting.specs.declared.Line.{Line}

-- a line after a sample
abbrev pub passed : Input → Line → Bool → Line
passed input line on = let l = filtered input line on in if accepted input line on then credited input l else l

-- the units that it brings
abbrev pub brings : Input → Line → Bool → ℕ
brings input line on = if accepted input line on then units_of input line.remainder else 0

module _ (input : Input) (line : Line) (on : Bool) where
  -- its run
  pub passed_run : (passed input line on).run ≡ next_run line.run on
  unfolding filtered credited
  passed_run = by_test (accepted input line on) (λ t. rw t) (λ f. rw f)

  -- its rejected impulses
  pub passed_rejected : (passed input line on).rejected ≡ (if ends line on && not (fits input line.run) then one_more line.rejected else line.rejected)
  unfolding filtered credited
  passed_rejected = by_test (accepted input line on) (λ t. rw t) (λ f. rw f)

  -- its remainder
  pub passed_remainder : (passed input line on).remainder ≡ (if accepted input line on then remainder_of input line.remainder else line.remainder)
  unfolding filtered credited
  passed_remainder = by_test (accepted input line on) (λ t. rw t) (λ f. rw f)

  -- and its level 0
  pub passed_units : (passed input line on).units ≡ (if accepted input line on then held_sum line.units (units_of input line.remainder) else line.units)
  unfolding filtered credited
  passed_units = by_test (accepted input line on) (λ t. rw t) (λ f. rw f)

module _ (inputs : List Input) (lines : List Line) (mask : ℕ) where
  -- line i after the filter
  pub filtered_at : (i : ℕ) → i < 16 → line_at (stepped_of inputs lines mask).lines i ≡ filtered (input_at inputs i) (line_at lines i) (bit_at mask i)
  unfolding stepped_of
  filtered_at i l = table_at 16 _ i _ l

  -- bit i of the impulses
  pub accepted_at : (i : ℕ) → i < 16 → bit_at (stepped_of inputs lines mask).impulses i ≡ accepted (input_at inputs i) (line_at lines i) (bit_at mask i)
  unfolding stepped_of
  accepted_at i l = bit_at_lem 16 _ i ∙ rw (lt-ltb i 16 l)

  -- line i of the whole
  pub line_after : (i : ℕ) → i < 16
      → line_at (credits_of inputs (stepped_of inputs lines mask).lines (stepped_of inputs lines mask).impulses).lines i ≡ passed (input_at inputs i) (line_at lines i) (bit_at mask i)
  unfolding credits_of
  line_after i l = table_at 16 _ i _ l ∙ rw (filtered_at i l, accepted_at i l)

  -- and its units
  pub unit_after : (i : ℕ) → i < 16
      → unit_at (credits_of inputs (stepped_of inputs lines mask).lines (stepped_of inputs lines mask).impulses).units i ≡ brings (input_at inputs i) (line_at lines i) (bit_at mask i)
  unfolding credits_of filtered
  unit_after i l = table_at 16 _ i _ l ∙ rw (filtered_at i l, accepted_at i l)

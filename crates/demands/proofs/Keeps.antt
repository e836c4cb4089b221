-- What a sample does to the recorder's lines and bills, place by place, from its definitions.
use Rattle.std.specs.Prelude.{if◌then◌else◌}
use mathlib.Core.Path.{◌≡◌, ap, ◌∙◌}
use mathlib.Core.Bool.{Bool, true, false}
use mathlib.Core.List.{List}
use Prim.Native.Nat.{ℕ, ◌+◌, ◌<◌}
use lib.ListN.{get_or}
use borrow.Author.Tests.{lt-ltb, ltb-true}
use Rattle.laws.proofs.If.{if_same}
use Rattle.laws.proofs.Any.{any_not}
use Rattle.laws.proofs.Total.{total_cong}
use Rattle.laws.specs.Masks.{bit_at}
use Rattle.laws.proofs.Masks.{bit_at_lem}
use Rattle.laws.proofs.Tables.{table_at}
use Rattle.tariff.specs.Rules.{force_map_at}
use Rattle.settings.specs.declared.Config.{Config}
use Rattle.settings.specs.declared.Input.{Input}
use Rattle.counting.specs.Filter.{input_at, line_at, stepped_of}
use Rattle.counting.specs.Units.{credits_of}
use Rattle.counting.specs.Bills.{feeds, register_at, bill_at, unit_at, sum_of, sum_at, sums_of, register_units, due_of, fills_up, with_amount, billed, booked_of}
use Rattle.sampling.specs.Samples.{booking_of, active_at, active_lines, booking_on, put_in}
use Rattle.sampling.specs.declared.State.{State}
use Rattle.counting.proofs.Lines.{passed, brings, line_after as one_line_after, unit_after as one_unit_after}
use Rattle.demands.specs.Account.{in_use, books_at, feeding}

-- bit i of the mask of active lines
active_bit : (inputs : List Input) (bits i : ℕ) → i < 16 → bit_at (active_lines inputs bits) i ≡ active_at inputs bits i
unfolding active_lines
active_bit inputs bits i l = bit_at_lem 16 (active_at inputs bits) i ∙ rw (lt-ltb i 16 l)

-- a sample with these line bits on a state
module _ (c : Config) (s : State) (bits : ℕ) where
  -- the units that input i brings
  abbrev pub brought_at : ℕ → ℕ
  brought_at i = brings (input_at c.inputs i) (line_at s.lines i) (active_at c.inputs bits i)

  -- the units that are booked to register j
  abbrev pub gets_at : ℕ → ℕ
  gets_at j = if books_at c j s.clock then sum_of (feeding c j) brought_at else 0

  -- the state with lines and bills booked
  abbrev pub booked_state : State
  booked_state = put_in s s.clock s.samples (booking_on c s bits).lines (booking_on c s bits).bills

  -- line i after the sample
  pub line_after : (i : ℕ) → i < 16 → line_at (booking_on c s bits).lines i ≡ passed (input_at c.inputs i) (line_at s.lines i) (active_at c.inputs bits i)
  unfolding booking_of
  line_after i l = one_line_after c.inputs s.lines (active_lines c.inputs bits) i l ∙ rw (active_bit c.inputs bits i l)

  -- the units that all lines bring
  abbrev units : List ℕ
  units = let stepped = stepped_of c.inputs s.lines (active_lines c.inputs bits) in (credits_of c.inputs stepped.lines stepped.impulses).units

  unit_after : (i : ℕ) → i < 16 → unit_at units i ≡ brought_at i
  unit_after i l = one_unit_after c.inputs s.lines (active_lines c.inputs bits) i l ∙ rw (active_bit c.inputs bits i l)

  -- what is due to register j
  abbrev pub due : ℕ → ℕ
  due j = due_of (register_at c.registers j) (force_map_at c.program s.clock) (sums_of c.sums units)

  pub due_is : (j : ℕ) → in_use c j ≡ true → due j ≡ gets_at j
  unfolding due_of books_at register_units sums_of sum_at sum_of feeding
  due_is j u =
      let k = (register_at c.registers j).sum in
      rw (u, table_at 8 (sum_at c.sums units) k 0 (ltb-true k 8 u))
      (ap (λ (n : ℕ). if feeds (register_at c.registers j) (force_map_at c.program s.clock) then n else 0)
      (total_cong 16 _ _ (λ i l. ap (λ (n : ℕ). if bit_at (get_or c.sums k 0) i then n else 0) (unit_after i l))))

  -- nothing, if it is not in use
  pub due_none : (j : ℕ) → in_use c j ≡ false → due j ≡ 0
  unfolding due_of register_units
  due_none j e = rw e (if_same (feeds (register_at c.registers j) (force_map_at c.program s.clock)) 0)

  -- whether register j would be full
  abbrev pub fills_on : ℕ → Bool
  fills_on j = fills_up (bill_at s.bills j).amount (due j)

  -- bill j after a sample that is not refused
  pub bill_after : (j : ℕ) → j < 16 → (booking_on c s bits).full ≡ false → bill_at (booking_on c s bits).bills j ≡ with_amount (bill_at s.bills j) ((bill_at s.bills j).amount + due j)
  unfolding booking_of booked_of billed
  bill_after j l e =
      table_at 16 _ j _ l ∙ rw (any_not 16 fills_on e j l)

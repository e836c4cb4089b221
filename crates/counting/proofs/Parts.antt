-- The laws of specs/Laws.antt: what a sample comes to, by its parts, runs that end and runs that go on, and the bills apart from their open amounts.
use Rattle.std.specs.Prelude.{if◌then◌else◌}
use mathlib.Core.Path.{◌≡◌, refl, sym, ◌∙◌}
use mathlib.Core.Bool.{Bool, true, false, ◌&&◌}
use mathlib.Core.List.{List}
use Prim.Native.Nat.{ℕ, ◌+◌, ◌<◌}
use native.Mathlib.Omega.{arith}
use lib.Dec.{ltb}
use lib.ListN.{length}
use borrow.Author.Tests.{lt-ltb, ltb-false}
use Rattle.laws.proofs.If.{if_same}
use Rattle.laws.proofs.Tests.{by_test}
use Rattle.laws.proofs.Any.{any_cong, any_not}
use Rattle.laws.specs.Masks.{bit_at}
use Rattle.laws.proofs.Masks.{bit_at_lem, bit_zero}
use Rattle.laws.proofs.Tables.{table_at, table_cong, table_self}
use Rattle.settings.specs.declared.Input.{Input}
use Rattle.settings.specs.declared.Register.{Register}
use Rattle.counting.specs.Filter.{input_at, line_at, next_run, ends, fits, accepted, filtered}
use Rattle.counting.specs.ByMask.{with_run, advanced_lines, settled, settled_units, settled_of, masked_units, fed_registers, fed_at, some_full, amounts_booked, amounts_of, with_amounts}
use Rattle.counting.specs.Units.{credited, credits_of}
use Rattle.counting.specs.Bills.{register_at, register_units, feeds, bill_at, unit_at, fills_up, with_amount, billed, due_of, booked_of}
use Rattle.counting.specs.Laws.{LinesByMask, FullByMask, BillsByMask, OwnAmounts}
use Rattle.counting.specs.declared.Line.{Line}
use Rattle.counting.specs.declared.Bill.{Bill}
use Rattle.counting.proofs.Lines.{passed, brings, filtered_at, accepted_at}

-- a line without a run is what it was
same_line : (line : Line) → line.run ≡ 0 → with_run line 0 ≡ line
same_line line e i = record { run = sym e i; rejected = line.rejected; remainder = line.remainder; units = line.units }

-- a line after a sample: where a run ends it is settled, and where the line is active its run goes on
abbrev after : Input → Line → Bool → Line
after input line on = let l = if ends line on then settled input line else line in if on then with_run l (next_run l.run true) else l

-- one line: filter and credit come to that
settled_line : (input : Input) (line : Line) (on : Bool) → passed input line on ≡ after input line on
unfolding credited filtered accepted settled
settled_line input line true = refl
settled_line input line false =
    by_test (ltb 0 line.run) (λ e. by_test (fits input line.run) (λ f. rw (e, f)) (λ f. rw (e, f)))
    (λ e. let none : line.run ≡ 0 = let n = ltb-false 0 line.run e in omega arith in rw e (same_line line none))

-- and the units that it brings
settled_units_lem : (input : Input) (line : Line) (on : Bool) → brings input line on ≡ (if ends line on then settled_units input line else 0)
unfolding accepted settled_units
settled_units_lem input line true = refl
settled_units_lem input line false =
    by_test (ltb 0 line.run) (λ e. by_test (fits input line.run) (λ f. rw (e, f)) (λ f. rw (e, f))) (λ e. rw e)

-- line by line and by masks, lines and units are the same
pub lines_by_mask : LinesByMask
unfolding credits_of filtered settled_of advanced_lines
lines_by_mask inputs lines mask ending ends-are =
    let settles : ℕ → Line = λ k. if bit_at ending k then settled (input_at inputs k) (line_at lines k) else line_at lines k in (
      table_cong 16 _ _
          (λ i l.
          rw (filtered_at inputs lines mask i l, accepted_at inputs lines mask i l, table_at 16 settles i _ l, ends-are i l)
          (settled_line (input_at inputs i) (line_at lines i) (bit_at mask i))),
      table_cong 16 _ _
          (λ i l.
          rw (filtered_at inputs lines mask i l, accepted_at inputs lines mask i l, ends-are i l)
          (settled_units_lem (input_at inputs i) (line_at lines i) (bit_at mask i))),
    )

-- where no run ends, the lines are settled as they are
pub none_settled : (inputs : List Input) (lines : List Line) → length lines ≡ 16 → (settled_of inputs lines 0).lines ≡ lines
unfolding settled_of
none_settled inputs lines size = table_cong 16 _ (line_at lines) (λ i l. rw (bit_zero i)) ∙ table_self 16 lines _ size

-- and bring no units
pub none_brought : (inputs : List Input) (lines : List Line) (i : ℕ) → i < 16 → unit_at (settled_of inputs lines 0).units i ≡ 0
unfolding settled_of
none_brought inputs lines i l = table_at 16 _ i 0 l ∙ rw (bit_zero i)

-- the bills with their own amounts
pub own_amounts : OwnAmounts
unfolding with_amounts amounts_of
own_amounts bills size =
    table_cong 16 _ (bill_at bills) (λ j l. rw (table_at 16 (λ i. (bill_at bills i).amount) j 0 l)) ∙ table_self 16 bills _ size

-- a bill that is not full, with its units booked, by its amount
booked_bill : (bill : Bill) (amount due : ℕ) → fills_up amount due ≡ false → billed (with_amount bill amount) due ≡ with_amount bill (amount + due)
unfolding billed
booked_bill bill amount due e = rw e

-- bill j of the whole
bill_at_lem : (bills : List Bill) (amounts : List ℕ) (j : ℕ) → j < 16 → bill_at (with_amounts bills amounts) j ≡ with_amount (bill_at bills j) (unit_at amounts j)
unfolding with_amounts
bill_at_lem bills amounts j l = table_at 16 _ j _ l

-- what is due to register j, by the mask of the registers that are fed
due_at : (registers : List Register) (map : ℕ) (sums : List ℕ) (j : ℕ) → j < 16 → fed_at registers (fed_registers registers map) sums j ≡ due_of (register_at registers j) map sums
unfolding fed_at fed_registers due_of register_units
due_at registers map sums j l =
    let r = register_at registers j in
    rw (bit_at_lem 16 (λ k. ltb (register_at registers k).sum 8 && feeds (register_at registers k) map) j, lt-ltb j 16 l)
    (by_test (ltb r.sum 8) (λ t. rw t) (λ f. rw f (sym (if_same (feeds r map) 0))))

-- whether a register would be full
pub full_by_mask : FullByMask
unfolding booked_of some_full
full_by_mask registers bills amounts map sums =
    any_cong 16 _ _ (λ j l. rw (bill_at_lem bills amounts j l, due_at registers map sums j l))

-- the bills with their units booked, where none would be
pub bills_by_mask : BillsByMask
unfolding booked_of amounts_booked some_full with_amounts
bills_by_mask registers bills amounts map sums none =
    let fed = fed_registers registers map in
    rw none
    (table_cong 16 _ _
    (λ j l.
    let due = due_at registers map sums j l in
    let f : fills_up (unit_at amounts j) (due_of (register_at registers j) map sums) ≡ false = let n = any_not 16 _ none j l in rw due at n in
    rw (bill_at_lem bills amounts j l, table_at 16 (λ k. unit_at amounts k + fed_at registers fed sums k) j 0 l, due)
    (booked_bill (bill_at bills j) (unit_at amounts j) (due_of (register_at registers j) map sums) f)))

-- units that only the inputs of a mask bring
pub own_units : (units : List ℕ) (mask : ℕ) → length units ≡ 16 → ((i : ℕ) → i < 16 → bit_at mask i ≡ false → unit_at units i ≡ 0) → masked_units units mask ≡ units
unfolding masked_units
own_units units mask size none =
    table_cong 16 _ (unit_at units) (λ i l. by_test (bit_at mask i) (λ t. rw t) (λ f. rw (f, none i l f))) ∙ table_self 16 units 0 size

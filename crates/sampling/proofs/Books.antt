-- Laws of what a sample books.
use Rattle.std.specs.Prelude.{Option, Some, Result, Ok, Err, if◌then◌else◌}
use Rattle.std.specs.Result.{is_err}
use mathlib.Core.Path.{◌≡◌, refl, sym, ap, ◌∙◌}
use mathlib.Core.Bool.{Bool, true, false, not, ◌&&◌}
use mathlib.Core.List.{List}
use Prim.Native.Nat.{ℕ, ◌^◌, ◌<◌}
use native.Mathlib.Nat.{add-zero, lt_of_le_of_lt}
use lib.Bits.{bit_and, bit_xor, and_le_l, xor_lt}
use lib.Dec.{ltb, eqb}
use lib.ListN.{length, get_or, set}
use lib.Seq.{get_or-set_same, get_or-set_other}
use borrow.Author.Tests.{ltb-true, lt-ltb, eqb-true, eqb-false}
use Rattle.laws.proofs.If.{if_same}
use Rattle.laws.proofs.Tests.{by_test}
use Rattle.laws.proofs.Any.{any_none}
use Rattle.laws.proofs.Total.{total_zero}
use Rattle.laws.specs.Masks.{bit_at}
use Rattle.laws.proofs.Masks.{bit_at_lem, bit_zero, mask_below}
use Rattle.laws.proofs.BitTests.{either, bit_and_lem, bit_xor_lem}
use Rattle.laws.specs.Tables.{table}
use Rattle.laws.proofs.Tables.{table_at, table_cong, table_self, length_table}
use Rattle.tariff.specs.Rules.{force_map_at}
use Rattle.settings.specs.declared.Config.{Config}
use Rattle.settings.specs.declared.Input.{Input}
use Rattle.settings.specs.declared.Register.{Register}
use Rattle.counting.specs.Filter.{input_at, line_at, filtered, stepped_of}
use Rattle.counting.specs.ByMask.{running_lines, advanced_lines, settled_of, fed_at, some_full, amounts_booked, with_amounts}
use Rattle.counting.specs.Units.{credits_of}
use Rattle.counting.specs.Bills.{register_at, bill_at, unit_at, sum_of, sum_at, sums_of, register_units, feeds, due_of, billed, booked_of}
use Rattle.counting.specs.Laws.{Ending}
use Rattle.counting.specs.declared.Line.{Line}
use Rattle.counting.specs.declared.Bill.{Bill}
use Rattle.counting.proofs.Parts.{lines_by_mask, none_settled, none_brought, full_by_mask, bills_by_mask}
use Rattle.sampling.specs.Samples.{booking_of}
use Rattle.sampling.specs.Kept.{InForce, fed_at_clock, restored_lines, Nothing, refused_full, Ended, ended_of, ended_said}
use Rattle.sampling.specs.declared.SampleError.{SampleError}
use Rattle.sampling.specs.declared.SampleError.TheVariants.{Full}

-- a register that gets nothing stays as it is
none_billed : (bill : Bill) → billed bill 0 ≡ bill
unfolding billed
none_billed bill = rw add-zero

-- without units no sum has any
no_sum : (sums units : List ℕ) → ((i : ℕ) → i < 16 → unit_at units i ≡ 0) → (k : ℕ) → sum_at sums units k ≡ 0
unfolding sum_at sum_of
no_sum sums units none k = total_zero 16 _ (λ i l. rw (none i l) (if_same (bit_at (get_or sums k 0) i) 0))

-- so no register has any
no_units : (register : Register) (sums units : List ℕ) → ((i : ℕ) → i < 16 → unit_at units i ≡ 0) → register_units register (sums_of sums units) ≡ 0
unfolding register_units sums_of
no_units register sums units none =
    by_test (ltb register.sum 8)
    (λ l. rw (l, table_at 8 (sum_at sums units) register.sum 0 (ltb-true _ _ l)) (no_sum sums units none register.sum))
    (λ g. rw g)

-- and nothing is due
no_due : (registers : List Register) (map : ℕ) (sums units : List ℕ) → ((i : ℕ) → i < 16 → unit_at units i ≡ 0) → (j : ℕ)
    → due_of (register_at registers j) map (sums_of sums units) ≡ 0
unfolding due_of
no_due registers map sums units none j = rw (no_units (register_at registers j) sums units none) (if_same (feeds (register_at registers j) map) 0)

-- a mask of no impulses credits no line
no_credit : (inputs : List Input) (lines : List Line) → length lines ≡ 16 → (credits_of inputs lines 0).lines ≡ lines
unfolding credits_of
no_credit inputs lines size = table_cong 16 _ (line_at lines) (λ i l. rw (bit_zero i)) ∙ table_self 16 lines _ size

-- and brings no units
no_credit_units : (inputs : List Input) (lines : List Line) (i : ℕ) → i < 16 → unit_at (credits_of inputs lines 0).units i ≡ 0
unfolding credits_of
no_credit_units inputs lines i l = table_at 16 _ i 0 l ∙ rw (bit_zero i)

-- without units no register is full, and the bills stay as they are
nothing_booked : (registers : List Register) (bills : List Bill) (map : ℕ) (sums units : List ℕ) → length bills ≡ 16
    → ((i : ℕ) → i < 16 → unit_at units i ≡ 0) → booked_of registers bills map (sums_of sums units) ≡ record { full = false; bills = bills }
unfolding booked_of
nothing_booked registers bills map sums units size none =
    let booked = booked_of registers bills map (sums_of sums units) in
    let full : booked.full ≡ false = any_none 16 _ (λ j l. rw (no_due registers map sums units none j)) in
    let same : booked.bills ≡ bills = table_cong 16 _ (bill_at bills) (λ j l. rw (no_due registers map sums units none j) (none_billed (bill_at bills j))) ∙ table_self 16 bills _ size in
    (λ i. record { full = full i; bills = same i })

-- a sample with no impulse changes the lines by the filter alone, and no bill
pub no_impulse : (c : Config) (clock : ℕ) (lines : List Line) (bills : List Bill) (mask : ℕ) → 0 ≡ (stepped_of c.inputs lines mask).impulses
    → length bills ≡ 16 → record { full = false; lines = (stepped_of c.inputs lines mask).lines; bills = bills } ≡ booking_of c clock lines bills mask
unfolding booking_of stepped_of
no_impulse c clock lines bills mask e size =
    let stepped = table 16 (λ i. filtered (input_at c.inputs i) (line_at lines i) (bit_at mask i)) in
    rw (← e, no_credit c.inputs stepped (length_table 16 _), nothing_booked c.registers bills (force_map_at c.program clock) c.sums _ size (no_credit_units c.inputs stepped))

-- no register gets any
no_fed : (registers : List Register) (fed : ℕ) (sums units : List ℕ) → ((i : ℕ) → i < 16 → unit_at units i ≡ 0) → (j : ℕ) → fed_at registers fed (sums_of sums units) j ≡ 0
unfolding fed_at
no_fed registers fed sums units none j = rw (no_units (register_at registers j) sums units none) (if_same (bit_at fed j) 0)

module _ (registers : List Register) (amounts : List ℕ) (fed : ℕ) (sums units : List ℕ) (none : (i : ℕ) → i < 16 → unit_at units i ≡ 0) where
  -- so none would be full
  pub none_full : some_full registers amounts fed (sums_of sums units) ≡ false
  unfolding some_full
  none_full = any_none 16 _ (λ j l. rw (no_fed registers fed sums units none j))

  -- and the amounts stay as they are
  pub same_amounts : length amounts ≡ 16 → amounts_booked registers amounts fed (sums_of sums units) ≡ amounts
  unfolding amounts_booked
  same_amounts size =
      rw none_full
      (table_cong 16 _ (unit_at amounts) (λ j l. rw (no_fed registers fed sums units none j) (add-zero (unit_at amounts j))) ∙ table_self 16 amounts 0 size)

-- a run that is there and a line that is not active
not_both : (r a : Bool) → either r (r && a) ≡ (not a && r)
not_both true true = refl
not_both true false = refl
not_both false true = refl
not_both false false = refl

-- a sample is refused where a register would be full
is_full : (b : Bool) → is_err (refused_full b) ≡ b
is_full true = refl
is_full false = refl

module _ (c : Config) (fed : ℕ) (lines : List Line) (amounts : List ℕ) (ending : ℕ) where
  -- where the lines whose runs end bring no units nothing is booked
  pub ended_nothing : Nothing (settled_of c.inputs lines ending).units → length amounts ≡ 16 → ended_said (Ok tt) (settled_of c.inputs lines ending).lines amounts ≡ ended_of c fed lines amounts ending
  unfolding ended_of
  ended_nothing none size =
      let units = (settled_of c.inputs lines ending).units in
      let full = none_full c.registers amounts fed c.sums units none in
      let kept = same_amounts c.registers amounts fed c.sums units none size in
      rw (full, kept)

  -- else what they bring is
  pub ended_booked : (units : List ℕ) (answer : Result (Unit {0}) SampleError) (more : List ℕ) → units ≡ (settled_of c.inputs lines ending).units
      → answer ≡ refused_full (some_full c.registers amounts fed (sums_of c.sums units)) → more ≡ amounts_booked c.registers amounts fed (sums_of c.sums units)
      → ended_said answer (if is_err answer then lines else (settled_of c.inputs lines ending).lines) more ≡ ended_of c fed lines amounts ending
  unfolding ended_of
  ended_booked units answer more u a m =
      let sums = sums_of c.sums (settled_of c.inputs lines ending).units in
      rw (a, m, u, is_full (some_full c.registers amounts fed sums))

-- some register that is fed would be full with what the runs of a mask bring
abbrev full_at : Config → ℕ → List Line → List ℕ → ℕ → Bool
full_at c fed lines amounts ending = some_full c.registers amounts fed (sums_of c.sums (settled_of c.inputs lines ending).units)

module _ (c : Config) (clock : ℕ) (lines : List Line) (bills : List Bill) (amounts : List ℕ) (mask running ending : ℕ)
    (runs_are : running ≡ running_lines lines) (ends_are : ending ≡ bit_xor running (bit_and running mask)) where
  -- a line with a run
  running_bit : (i : ℕ) → i < 16 → bit_at running i ≡ ltb 0 (line_at lines i).run
  unfolding running_lines
  running_bit i l = ap (λ m. bit_at m i) runs_are ∙ (bit_at_lem 16 _ i ∙ rw (lt-ltb i 16 l))

  -- a line whose run ends
  ending_bit : Ending lines mask ending
  ending_bit i l = rw (ends_are, bit_xor_lem running (bit_and running mask) i, bit_and_lem running mask i, running_bit i l) (not_both (ltb 0 (line_at lines i).run) (bit_at mask i))

  -- whether a sample would fill a register
  full_booking : (booking_of c clock lines (with_amounts bills amounts) mask).full ≡ full_at c (fed_at_clock c clock) lines amounts ending
  unfolding booking_of
  full_booking =
      rw (lines_by_mask c.inputs lines mask ending ending_bit).1
      (full_by_mask c.registers bills amounts (force_map_at c.program clock) (sums_of c.sums (settled_of c.inputs lines ending).units))

  -- what one that fills none books
  whole_booking : full_at c (fed_at_clock c clock) lines amounts ending ≡ false
      → record { full = false; lines = advanced_lines (settled_of c.inputs lines ending).lines mask; bills = with_amounts bills (amounts_booked c.registers amounts (fed_at_clock c clock) (sums_of c.sums (settled_of c.inputs lines ending).units)) }
      ≡ booking_of c clock lines (with_amounts bills amounts) mask
  unfolding booking_of
  whole_booking none =
      let map = force_map_at c.program clock in
      let sums = sums_of c.sums (settled_of c.inputs lines ending).units in
      let same = lines_by_mask c.inputs lines mask ending ending_bit in
      let full = full_by_mask c.registers bills amounts map sums ∙ none in
      let booked = bills_by_mask c.registers bills amounts map sums none in
      rw (same.1, same.0) (λ i. record { full = sym full i; lines = advanced_lines (settled_of c.inputs lines ending).lines mask; bills = sym booked i })

  module _ (now : List Line) (more : List ℕ) where
    -- a sample that fills no register
    taken_booking : ended_said (Ok tt) now more ≡ ended_of c (fed_at_clock c clock) lines amounts ending
        → record { full = false; lines = advanced_lines now mask; bills = with_amounts bills more } ≡ booking_of c clock lines (with_amounts bills amounts) mask
    unfolding ended_of
    taken_booking e =
        by_test (full_at c (fed_at_clock c clock) lines amounts ending)
        (λ t. let no : Ok tt ≡ refused_full true = rw t at (ap (λ (r : Ended). r.answer) e) in cc)
        (λ f.
        let fine = rw f at e in
        rw (ap (λ (r : Ended). r.lines) fine, ap (λ (r : Ended). r.amounts) fine) (whole_booking f))

    -- one that would fill some is refused, and all is as it was
    pub refused_booking : (error : SampleError) → ended_said (Err error) now more ≡ ended_of c (fed_at_clock c clock) lines amounts ending
        → (error ≡ Full) × (now ≡ lines) × (more ≡ amounts) × ((booking_of c clock lines (with_amounts bills amounts) mask).full ≡ true)
    unfolding ended_of amounts_booked
    refused_booking error e =
        by_test (full_at c (fed_at_clock c clock) lines amounts ending)
        (λ t.
        let full = rw t at e in
        let same : Err error ≡ Err Full = ap (λ (r : Ended). r.answer) full in
        (cc, ap (λ (r : Ended). r.lines) full, ap (λ (r : Ended). r.amounts) full, full_booking ∙ t))
        (λ f. let no : Err error ≡ Ok tt = rw f at (ap (λ (r : Ended). r.answer) e) in cc)

  -- what a sample that fills no register leaves before the runs go on
  pub record Left (now : List Line) (more : List ℕ) (tariffs : Option ℕ) : Type 0 where
    pub books : record { full = false; lines = advanced_lines now mask; bills = with_amounts bills more } ≡ booking_of c clock lines (with_amounts bills amounts) mask
    pub amounts_sixteen : length more ≡ 16
    pub in_force_lem : InForce c clock tariffs

  -- where no run ends, all is as it was
  pub unended : {now : List Line} {more : List ℕ} {tariffs known : Option ℕ} → ending ≡ 0 → length lines ≡ 16 → length amounts ≡ 16 → InForce c clock known
      → now ≡ lines → more ≡ amounts → tariffs ≡ known → Left now more tariffs
  unended none size sizes force l a t =
      let nothing : Nothing (settled_of c.inputs lines ending).units = rw none (none_brought c.inputs lines) in
      let same : (settled_of c.inputs lines ending).lines ≡ lines = rw none (none_settled c.inputs lines size) in
      let ended = rw same at (ended_nothing c (fed_at_clock c clock) lines amounts ending nothing sizes) in
      rw (l, a, t) (record { books = taken_booking lines amounts ended; amounts_sixteen = sizes; in_force_lem = force })

  -- where some end, what they bring is booked
  pub ended : {now : List Line} {more : List ℕ} {tariffs : Option ℕ} {fed : ℕ} → length more ≡ 16 → fed ≡ fed_at_clock c clock → ended_said (Ok tt) now more ≡ ended_of c fed lines amounts ending → tariffs ≡ Some fed → Left now more tariffs
  ended {now} {more} sizes force e t = rw t (record { books = taken_booking now more (rw force at e); amounts_sixteen = sizes; in_force_lem = force })

-- units of nothing, with nothing put in
pub still_none : (units : List ℕ) (i v : ℕ) → i < length units → v ≡ 0 → ((j : ℕ) → j < 16 → unit_at units j ≡ 0) → (j : ℕ) → j < 16 → unit_at (set units i v) j ≡ 0
still_none units i v here z none j l =
    by_test (eqb j i)
    (λ t. rw (eqb-true j i t, get_or-set_same units i v 0 here) z)
    (λ f. rw (get_or-set_other units i j v 0 (eqb-false j i f)) (none j l))

-- lines that do not stand in a mask, and those of it put back, are the lines as they were
pub put_back : (was lines old : List Line) (f : ℕ → Line) (blank : Line) (mask : ℕ) → length was ≡ 16 → lines ≡ table 16 (λ i. if bit_at mask i then f i else line_at was i)
    → old ≡ table 16 (λ i. if bit_at mask i then line_at was i else blank) → restored_lines lines old mask ≡ was
unfolding restored_lines
put_back was lines old f blank mask size settles keeps =
    table_cong 16 _ (line_at was)
    (λ i l.
    rw (settles, keeps, table_at 16 (λ i. if bit_at mask i then f i else line_at was i) i _ l, table_at 16 (λ i. if bit_at mask i then line_at was i else blank) i _ l)
    (by_test (bit_at mask i) (λ t. rw t) (λ t. rw t)))
    ∙ table_self 16 was _ size

-- only the lines whose runs end bring units
pub others_none : (inputs : List Input) (lines : List Line) (ending : ℕ) (i : ℕ) → i < 16 → bit_at ending i ≡ false → unit_at (settled_of inputs lines ending).units i ≡ 0
unfolding settled_of
others_none inputs lines ending i l e = table_at 16 _ i 0 l ∙ rw e

-- the mask of the runs that end has 16 bits
pub ending_below : (lines : List Line) (running mask : ℕ) → running ≡ running_lines lines → bit_xor running (bit_and running mask) < 2 ^ 16
unfolding running_lines
ending_below lines running mask e =
    let below : running < 2 ^ 16 = rw e (mask_below 16 _) in
    xor_lt 16 running (bit_and running mask) below (lt_of_le_of_lt (and_le_l running mask) below)

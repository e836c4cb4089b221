-- One turn of a run of samples: which lines are active, and what each way through a sample does.
use Rattle.std.specs.Prelude.{Option, None, Some}
use mathlib.Core.Path.{◌≡◌, refl, sym, ap, ◌∙◌}
use mathlib.Core.Bool.{Bool, true, false, not, ◌&&◌, ◌||◌, and-true, and-false}
use mathlib.Core.List.{List}
use Prim.Native.Nat.{ℕ, zero, suc, ◌+◌, ◌%◌, ◌^◌, ◌<◌, ◌≤◌}
use native.Mathlib.Nat.{add-zero, lt_of_le_of_lt}
use native.Mathlib.Omega.{arith}
use lib.Dec.{ltb, leb, eqb}
use lib.Bits.{bit_and, bit_or, bit_xor, and_le_r, or_lt}
use lib.ListN.{length, get_or, drop}
use borrow.Author.Tests.{lt-ltb, ltb-false, lt-leb, le-leb, eqb-true, eqb-false, ne_eqb}
use Rattle.laws.proofs.Tests.{by_test}
use Rattle.laws.specs.Answers.{given, refused}
use Rattle.laws.specs.Masks.{mask_of, bit_at}
use Rattle.laws.proofs.Masks.{bit_at_lem, bit_zero, mask_below, mask_cong, mask_ext, mask_zero}
use Rattle.laws.proofs.BitTests.{either, bit_and_lem, bit_or_lem, bit_xor_lem}
use Rattle.laws.proofs.Tables.{table_cong, table_self}
use Rattle.settings.specs.declared.Config.{Config}
use Rattle.settings.specs.declared.Input.{Input}
use Rattle.counting.specs.Filter.{input_at, line_at, active, next_run, accepted, filtered, stepped_of}
use Rattle.counting.specs.ByMask.{kind_mask, running_lines, fed_registers}
use Rattle.tariff.proofs.Laws.{next_same}
use Rattle.sampling.specs.Kept.{InForce, aged_to}
use Rattle.sampling.specs.Samples.{Booking, booking_of, active_at, active_lines, put_in}
use Rattle.sampling.specs.Laps.{counted_open, sample_open, closing, lap_of}
use Rattle.counting.specs.declared.Line.{Line}
use Rattle.counting.specs.declared.Bill.{Bill}
use Rattle.sampling.specs.declared.State.{State}
use Rattle.counting.proofs.Lines.{passed_run, line_after}
use Rattle.sampling.proofs.Books.{no_impulse}
use Rattle.sampling.proofs.Laps.{after, goes_on}

-- the test of an active line, by the two masks of kinds
by_kind : (kind : ℕ) (b : Bool) → (either b (eqb kind 2) && (eqb kind 1 || eqb kind 2)) ≡ active kind b
by_kind kind b =
    by_test (eqb kind 1)
    (λ e. rw (eqb-true kind 1 e) (at_one b))
    (λ e. by_test (eqb kind 2) (λ f. rw (e, f) (at_two b)) (λ f. rw (e, f) (at_none b)))
  where
    at_one : (b : Bool) → (either b false && true) ≡ (b || false)
    at_one true = refl
    at_one false = refl

    at_two : (b : Bool) → (either b true && true) ≡ not b
    at_two true = refl
    at_two false = refl

    at_none : (b : Bool) → (either b false && false) ≡ false
    at_none true = refl
    at_none false = refl

-- bit i of the inputs of a kind
kind_bit : (inputs : List Input) (kind i : ℕ) → i < 16 → bit_at (kind_mask inputs kind) i ≡ eqb (input_at inputs i).kind kind
unfolding kind_mask
kind_bit inputs kind i l = bit_at_lem 16 _ i ∙ rw (lt-ltb i 16 l)

-- a mask of kinds has 16 bits
kind_below : (inputs : List Input) (kind : ℕ) → kind_mask inputs kind < 2 ^ 16
unfolding kind_mask
kind_below inputs kind = mask_below 16 _

-- the code's mask of active lines is the definition's
pub active_mask : (inputs : List Input) (bits s1a s1r fitted : ℕ) → s1a ≡ kind_mask inputs 1 → s1r ≡ kind_mask inputs 2 → fitted ≡ bit_or s1a s1r
    → bit_and (bit_xor bits s1r) fitted ≡ active_lines inputs bits
unfolding active_lines active_at
active_mask inputs bits s1a s1r fitted a r f =
    let below : fitted < 2 ^ 16 = rw (f, a, r) (or_lt 16 (kind_mask inputs 1) (kind_mask inputs 2) (kind_below inputs 1) (kind_below inputs 2)) in
    mask_ext 16 _ (active_at inputs bits) (lt_of_le_of_lt (and_le_r (bit_xor bits s1r) fitted) below)
    (λ i l.
    rw (bit_and_lem (bit_xor bits s1r) fitted i, bit_xor_lem bits s1r i, f, bit_or_lem s1a s1r i, a, r, kind_bit inputs 1 i l, kind_bit inputs 2 i l)
    (by_kind (input_at inputs i).kind (bit_at bits i)))

-- a line that is not active and has no run passes the filter as it is
filter_idle : (input : Input) (line : Line) → line.run ≡ 0 → filtered input line false ≡ line
unfolding filtered
filter_idle input line e =
    let same : (filtered input line false).rejected ≡ line.rejected = rw e in
    (λ i. record { run = sym e i; rejected = same i; remainder = line.remainder; units = line.units })

-- and brings no impulse
accept_idle : (input : Input) (line : Line) → line.run ≡ 0 → accepted input line false ≡ false
unfolding accepted
accept_idle input line e = rw e

-- where no line has a run, none has
no_run : (lines : List Line) → running_lines lines ≡ 0 → (i : ℕ) → i < 16 → (line_at lines i).run ≡ 0
unfolding running_lines
no_run lines e i l = let none = ltb-false 0 (line_at lines i).run (mask_zero 16 _ e i l) in omega arith

-- a booking of nothing
abbrev quietly : List Bill → List Line → Booking
quietly bills lines = record { full = false; lines = lines; bills = bills }

module _ (c : Config) (clock : ℕ) (lines : List Line) (bills : List Bill) (e : running_lines lines ≡ 0) where
  -- with no line active and no run there is no impulse
  idle_impulses : 0 ≡ (stepped_of c.inputs lines 0).impulses
  unfolding stepped_of
  idle_impulses =
      mask_ext 16 0 _ (omega arith)
      (λ i l. rw (bit_zero i) (sym (accept_idle (input_at c.inputs i) (line_at lines i) (no_run lines e i l))))

  -- and the filter changes no line
  idle_lines : length lines ≡ 16 → (stepped_of c.inputs lines 0).lines ≡ lines
  unfolding stepped_of
  idle_lines size =
      table_cong 16 _ (line_at lines)
      (λ i l. rw (bit_zero i) (filter_idle (input_at c.inputs i) (line_at lines i) (no_run lines e i l)))
      ∙ table_self 16 lines _ size

  -- so the sample books nothing and changes no line
  pub idle_booking : length lines ≡ 16 → length bills ≡ 16 → booking_of c clock lines bills 0 ≡ record { full = false; lines = lines; bills = bills }
  idle_booking size sizes =
      sym (no_impulse c clock lines bills 0 idle_impulses sizes)
      ∙ ap (quietly bills) (idle_lines size)

-- an active line has a run after the filter, and no other has
run_after : (run : ℕ) (on : Bool) → ltb 0 (next_run run on) ≡ on
run_after run true = by_test (ltb run 256) (λ e. rw e (lt-ltb 0 (run + 1) (omega arith))) (λ e. rw e)
run_after run false = refl

-- the lines with a run after a sample are the active ones
pub runs_after : (c : Config) (clock : ℕ) (lines : List Line) (bills : List Bill) (bits : ℕ)
    → running_lines (booking_of c clock lines bills (active_lines c.inputs bits)).lines ≡ active_lines c.inputs bits
unfolding running_lines booking_of active_lines
runs_after c clock lines bills bits =
    let mask = mask_of 16 (active_at c.inputs bits) in
    mask_cong 16 _ (active_at c.inputs bits)
    (λ i l.
    rw (line_after c.inputs lines mask i l, passed_run (input_at c.inputs i) (line_at lines i) (bit_at mask i))
    (run_after (line_at lines i).run (bit_at mask i) ∙ (bit_at_lem 16 (active_at c.inputs bits) i ∙ rw (lt-ltb i 16 l))))

-- a sample that does not step the clock brings no closing
pub counts_on : (c : Config) (rest : State) (clock count : ℕ) (lines : List Line) (bills : List Bill) → closing c (put_in rest clock (count + 1) lines bills) ≡ false
counts_on c rest clock count lines bills = rw (ne_eqb (count + 1) 0 (λ z. omega arith))

module _ (c : Config) (rest : State) (clock count : ℕ) (lines : List Line) (bills : List Bill) (bits : ℕ) where
  -- a sample with no line active and no run to end only counts
  pub sample_idle : count < 99 → 0 ≡ active_lines c.inputs bits → running_lines lines ≡ 0 → length lines ≡ 16 → length bills ≡ 16
      → sample_open c (put_in rest clock count lines bills) bits ≡ given (put_in rest clock (count + 1) lines bills)
  unfolding sample_open counted_open
  sample_idle h a r size sizes = rw (lt-leb 99 count h, and-false, ← a, idle_booking c clock lines bills r size sizes)

  -- the hundredth sample in the last second is refused
  pub sample_end : (eqb clock 4_294_967_295 && leb 99 count) ≡ true → sample_open c (put_in rest clock count lines bills) bits ≡ refused 5 0
  unfolding sample_open
  sample_end e = rw e

  -- a sample that would fill a register is refused
  pub sample_full : (mask : ℕ) → mask ≡ active_lines c.inputs bits → (eqb clock 4_294_967_295 && leb 99 count) ≡ false → (booking_of c clock lines bills mask).full ≡ true
      → sample_open c (put_in rest clock count lines bills) bits ≡ refused 6 0
  unfolding sample_open
  sample_full mask on e f = rw (e, ← on, f)

  module _ (b : Booking) (mask : ℕ) (on : mask ≡ active_lines c.inputs bits) (booked : b ≡ booking_of c clock lines bills mask) where
    -- another is booked and counted
    pub sample_counted : count < 99 → b.full ≡ false
        → sample_open c (put_in rest clock count lines bills) bits ≡ given (put_in rest clock (count + 1) b.lines b.bills)
    unfolding sample_open counted_open
    sample_counted h f = rw (lt-leb 99 count h, and-false, ← on, ← booked, f)

    -- and after the hundredth the clock steps
    pub sample_ticked : (eqb clock 4_294_967_295 && leb 99 count) ≡ false → 99 ≤ count → b.full ≡ false
        → sample_open c (put_in rest clock count lines bills) bits ≡ given (put_in rest (clock + 1) 0 b.lines b.bills)
    unfolding sample_open counted_open
    sample_ticked e h f = rw (e, ← on, ← booked, f, le-leb 99 count h)

    -- the active lines are those with a run after the sample
    pub running_after : mask ≡ running_lines b.lines
    running_after = rw (booked, on) (sym (runs_after c clock lines bills bits))

-- tariffs that are known at a second are those of the next one, but for a new minute
pub aged_in_force : (c : Config) (clock : ℕ) (tariffs : Option ℕ) → InForce c clock tariffs → InForce c (clock + 1) (aged_to (clock + 1) tariffs)
aged_in_force c clock None known = by_test (eqb ((clock + 1) % 60) 0) (λ e. rw e tt) (λ e. rw e tt)
aged_in_force c clock (Some fed) known =
    by_test (eqb ((clock + 1) % 60) 0) (λ e. rw e tt) (λ e. rw e (known ∙ ap (fed_registers c.registers) (sym (next_same c.program clock e))))

-- where the second is full and the clock not at its end, it can step
pub not_at_end : (clock count : ℕ) → (eqb clock 4_294_967_295 && leb 99 count) ≡ false → 99 ≤ count → clock ≤ 4_294_967_295 → clock < 4_294_967_295
not_at_end clock count e h l = let n = eqb-false clock 4_294_967_295 (sym (and-true _) ∙ rw (le-leb 99 count h) at e) in omega arith

-- samples with no line active and no run to end only count
pub idle_on : (c : Config) (start rest : State) (clock count : ℕ) (lines : List Line) (bills : List Bill) (bits : List ℕ) (k n : ℕ)
    → lap_of c start bits ≡ after k (lap_of c (put_in rest clock count lines bills) (drop k bits))
    → k + n ≤ length bits → count + n ≤ 99 → ((j : ℕ) → j < n → 0 ≡ active_lines c.inputs (get_or bits (k + j) 0)) → running_lines lines ≡ 0 → length lines ≡ 16 → length bills ≡ 16
    → lap_of c start bits ≡ after (k + n) (lap_of c (put_in rest clock (count + n) lines bills) (drop (k + n) bits))
idle_on c start rest clock count lines bills bits k zero so_far h room idle none size sizes = rw (add-zero k, add-zero count) so_far
idle_on c start rest clock count lines bills bits k (suc n) so_far h room idle none size sizes =
    let before = idle_on c start rest clock count lines bills bits k n so_far (omega arith) (omega arith) (λ j l. idle j (omega arith)) none size sizes in
    let one = sample_idle c rest clock (count + n) lines bills (get_or bits (k + n) 0) (omega arith) (idle n (omega arith)) none size sizes in
    let next = goes_on c start (put_in rest clock (count + n) lines bills) bits (k + n) before _ (omega arith) one (counts_on c rest clock (count + n) lines bills) in
    let there : k + n + 1 ≡ k + suc n = omega arith in
    let counted : count + n + 1 ≡ count + suc n = omega arith in
    rw (there, counted) at next

-- Every state that calls can reach is sound: by induction over the calls.
use mathlib.Core.Path.{◌≡◌, refl, ◌∙◌}
use mathlib.Core.Bool.{Bool, true, false}
use mathlib.Core.List.{List, [], ◌∷◌}
use Prim.Native.Nat.{ℕ, ◌+◌, ◌<◌, ◌≤◌}
use native.Mathlib.Nat.{mod-lt, zero-lt-suc}
use native.Mathlib.Omega.{arith}
use lib.Dec.{leb}
use lib.IntN.{ℤ}
use lib.ListN.{length-set, length-replicate, get_or-replicate}
use borrow.Author.Tests.{leb-false}
use Rattle.laws.proofs.If.{if_cases}
use Rattle.std.proofs.lemmas.Bool.Decides.{nat_tests}
use Rattle.laws.specs.Answers.{Answer, given, refused, reply_to}
use Rattle.laws.proofs.Any.{any_not}
use Rattle.laws.specs.Masks.{bit_at}
use Rattle.laws.proofs.Tables.{table_at, length_table}
use Rattle.calendar.specs.Moments.{moment_of}
use Rattle.calendar.specs.declared.Moment.{Moment}
use Rattle.tariff.specs.Rules.{force_map_at}
use Rattle.settings.specs.declared.Config.{Config}
use Rattle.settings.specs.declared.Input.{Input}
use Rattle.settings.specs.declared.Register.{Register}
use Rattle.counting.specs.Filter.{input_at, line_at, next_run, accepted}
use Rattle.counting.specs.Units.{remainder_of, credits_of}
use Rattle.counting.specs.Bills.{register_at, bill_at, fills_up, due_of, billed, booked_of}
use Rattle.sampling.specs.Periods.{multiple, begun_anew, cleared_lines, tick_of}
use Rattle.sampling.specs.Samples.{booking_of, active_lines, booking_on, put_in, counted_of, clock_end, sample_of}
use Rattle.recorder.specs.Clock.{set_to, set_dated, set_of, closed_bill, reset_of}
use Rattle.recorder.specs.Meters.{Stamping, reading_answer, after_reading}
use Rattle.recorder.specs.Calls.{fresh_state, fresh_start}
use Rattle.recorder.specs.History.{Call, sample, set as set_call, reading, reset, after, after_all}
use Rattle.recorder.specs.Laws.{SoundLines, SoundBills, Sound, ReachedIsSound, StartStays}
use Rattle.counting.specs.declared.Line.{Line}
use Rattle.counting.specs.declared.Bill.{Bill}
use Rattle.sampling.specs.declared.State.{State}
use Rattle.profile.proofs.Puts.{same_length}
use Rattle.sampling.specs.Closed.{closed_by}
use Rattle.recorder.specs.Profile.{records_of, closed_by_set}
use Rattle.recorder.specs.declared.Recorder.{Recorder}
use Rattle.recorder.specs.declared.Setup.{Setup}
use Rattle.counting.proofs.Full.{not_full}
use Rattle.counting.proofs.Lines.{passed_run, passed_remainder, line_after}

-- a run after the filter is at most 256
run_held : (run : ℕ) (on : Bool) → next_run run on ≤ 256
run_held run true = grind (arith, nat_tests)
run_held run false = omega arith

-- what is left of a denominator is below it
remainder_below : (input : Input) (remainder : ℕ) → 0 < input.denominator → remainder_of input remainder < input.denominator
unfolding remainder_of
remainder_below input remainder h = grind (arith, nat_tests, mod-lt)

-- lines after a sample
booked_lines : (c : Config) (clock : ℕ) (lines : List Line) (bills : List Bill) (mask : ℕ) → SoundLines c.inputs lines
    → SoundLines c.inputs (booking_of c clock lines bills mask).lines
unfolding booking_of credits_of
booked_lines c clock lines bills mask h =
    let input : ℕ → Input = input_at c.inputs in
    record {
      sixteen = length_table 16 _;
      runs = λ i l. rw (line_after c.inputs lines mask i l, passed_run (input i) (line_at lines i) (bit_at mask i)) (run_held (line_at lines i).run (bit_at mask i));
      remainders = λ i l d.
          rw (line_after c.inputs lines mask i l, passed_remainder (input i) (line_at lines i) (bit_at mask i))
          (if_cases (λ n. n < (input i).denominator) (accepted (input i) (line_at lines i) (bit_at mask i)) (λ t. remainder_below (input i) (line_at lines i).remainder d) (λ f. h.remainders i l d));
    }

-- line i at the start of a period
pub cleared_at : (lines : List Line) (i : ℕ) → i < 16 → line_at (cleared_lines lines) i ≡ begun_anew (line_at lines i)
unfolding cleared_lines
cleared_at lines i l = table_at 16 _ i _ l

-- all lines
cleared_lines_lem : (inputs : List Input) (lines : List Line) → SoundLines inputs lines → SoundLines inputs (cleared_lines lines)
unfolding cleared_lines begun_anew
cleared_lines_lem inputs lines h =
    record {
      sixteen = length_table 16 _;
      runs = λ i l. rw (cleared_at lines i l) (h.runs i l);
      remainders = λ i l d. rw (cleared_at lines i l) (h.remainders i l d);
    }

-- a bill that is booked without being full
billed_within : (bill : Bill) (due : ℕ) → fills_up bill.amount due ≡ false → bill.amount ≤ 999_999_999 → (billed bill due).amount ≤ 999_999_999
unfolding billed
billed_within bill due e h = rw e (grind (arith, nat_tests, not_full))

-- a bill after a billing reset
closed_within : (register : Register) (bill : Bill) (clock : ℕ) → bill.amount ≤ 999_999_999 → (closed_bill register bill clock).amount ≤ 999_999_999
unfolding closed_bill
closed_within register bill clock h = grind (arith, nat_tests)

-- bills after a sample that was not refused
booked_bills : (registers : List Register) (bills : List Bill) (map : ℕ) (sums : List ℕ) → (booked_of registers bills map sums).full ≡ false
    → SoundBills bills → SoundBills (booked_of registers bills map sums).bills
unfolding booked_of
booked_bills registers bills map sums e h =
    record {
      sixteen = length_table 16 _;
      amounts = λ j l.
          let due : ℕ → ℕ = λ k. due_of (register_at registers k) map sums in
          rw (table_at 16 (λ k. billed (bill_at bills k) (due k)) j _ l) (billed_within (bill_at bills j) (due j) (any_not 16 _ e j l) (h.amounts j l));
    }

module _ (c : Config) (s : State) (h : Sound c s) where
  -- a state after the step
  ticked_sound : Sound c (tick_of c s)
  unfolding tick_of
  ticked_sound =
      if_cases (Sound c) (multiple c.period (s.clock + 1))
      (λ e. record { lines = cleared_lines_lem c.inputs s.lines h.lines; bills = h.bills; meters = h.meters; samples = zero-lt-suc 99 })
      (λ e. record { lines = h.lines; bills = h.bills; meters = h.meters; samples = zero-lt-suc 99 })

  -- a state with one more sample counted
  counted_sound : Sound c (counted_of c s)
  unfolding counted_of
  counted_sound =
      if_cases (Sound c) (leb 99 s.samples) (λ e. ticked_sound)
      (λ e. let few = leb-false 99 s.samples e in record { lines = h.lines; bills = h.bills; meters = h.meters; samples = omega arith })

  -- a state after a clock set
  set_sound : (time : ℕ) → Sound c (set_to c s time)
  unfolding set_to
  set_sound time = record { lines = cleared_lines_lem c.inputs s.lines h.lines; bills = h.bills; meters = h.meters; samples = zero-lt-suc 99 }

  -- a state after a billing reset
  reset_sound : Sound c (reset_of c s)
  unfolding reset_of
  reset_sound =
      let fresh : ℕ → Bill = λ j. closed_bill (register_at c.registers j) (bill_at s.bills j) s.clock in
      record {
        lines = h.lines;
        bills = record {
          sixteen = length_table 16 fresh;
          amounts = λ j l. rw (table_at 16 fresh j _ l) (closed_within (register_at c.registers j) (bill_at s.bills j) s.clock (h.bills.amounts j l));
        };
        meters = h.meters;
        samples = h.samples;
      }

module _ (c : Config) (s : State) (h : Sound c s) where
  -- a state with a sample booked that was not refused
  booked_sound : (mask : ℕ) → (booking_of c s.clock s.lines s.bills mask).full ≡ false
      → Sound c (put_in s s.clock s.samples (booking_of c s.clock s.lines s.bills mask).lines (booking_of c s.clock s.lines s.bills mask).bills)
  unfolding booking_of
  booked_sound mask e =
      record {
        lines = booked_lines c s.clock s.lines s.bills mask h.lines;
        bills = booked_bills c.registers s.bills (force_map_at c.program s.clock) _ e h.bills;
        meters = h.meters;
        samples = h.samples;
      }

  -- the state after a sample, taken or refused
  sample_sound : (bits : ℕ) → Sound c (reply_to s (sample_of c s bits)).after
  unfolding sample_of
  sample_sound bits =
      let b = booking_on c s bits in
      if_cases (λ a. Sound c (reply_to s a).after) (clock_end s) (λ e. h)
      (λ e.
      if_cases (λ a. Sound c (reply_to s a).after) b.full (λ f. h)
      (λ f. counted_sound c (put_in s s.clock s.samples b.lines b.bills) (booked_sound (active_lines c.inputs bits) f)))

  -- the state after a clock set
  dated_sound : (time : ℕ) (a : Answer Moment) → Sound c (reply_to s (set_dated a (set_to c s time))).after
  dated_sound time (given m) = set_sound c s h time
  dated_sound time (refused n offset) = h

  -- the state after a reading, taken or refused
  reading_sound : (meter : ℕ) (value : ℤ) (status seq : ℕ) (a : Answer Stamping) → Sound c (after_reading s meter value status seq a)
  reading_sound meter value status seq (given x) = record { lines = h.lines; bills = h.bills; meters = simp length-set h.meters; samples = h.samples }
  reading_sound meter value status seq (refused n offset) = h

-- the state after a call
after_sound : (r : Recorder) (call : Call) → Sound r.config r.state → Sound r.config (after r call).state
unfolding set_of
after_sound r (sample bits) h = sample_sound r.config r.state h bits
after_sound r (set_call time) h = dated_sound r.config r.state h time (moment_of time)
after_sound r (reading meter value status seq) h =
    reading_sound r.config r.state h meter value status seq (reading_answer r.config r.state meter status seq)
after_sound r reset h = reset_sound r.config r.state h

-- what a call leaves as the start had it
abbrev Stays : Recorder → Recorder → Type 0
Stays x y = (x.config ≡ y.config) × (x.setup ≡ y.setup) × (x.profile.length ≡ y.profile.length)

after_stays : (r : Recorder) (call : Call) → Stays (after r call) r
after_stays r (sample bits) = (refl, refl, same_length r.profile (records_of r.setup (closed_by r.config (sample_of r.config r.state bits))))
after_stays r (set_call time) = (refl, refl, same_length r.profile (records_of r.setup (closed_by_set (set_of r.config r.state time))))
after_stays r (reading meter value status seq) = (refl, refl, refl)
after_stays r reset = (refl, refl, refl)

pub start_stays : StartStays
unfolding after_all
start_stays setup length c time [] = (refl, refl, refl)
start_stays setup length c time (call ∷ earlier) =
    let now = after_stays (after_all (fresh_start setup length c time) earlier) call in
    let before = start_stays setup length c time earlier in
    (now.0 ∙ before.0, now.1 ∙ before.1, now.2 ∙ before.2)

-- the configuration
pub config_stays : (setup : Setup) (length : ℕ) (c : Config) (time : ℕ) (calls : List Call) → (after_all (fresh_start setup length c time) calls).config ≡ c
config_stays setup length c time calls = (start_stays setup length c time calls).0

-- a line with nothing on it
abbrev pub no_line : Line
no_line = record { run = 0; rejected = 0; remainder = 0; units = 0 }

-- a bill with nothing on it
abbrev no_bill : Bill
no_bill = record { amount = 0; closed = 0; stamp = 0; reset = false }

-- a fresh state is sound
fresh_sound : (c : Config) (time : ℕ) → Sound c (fresh_state time)
unfolding fresh_state
fresh_sound c time =
    record {
      lines = record {
        sixteen = length-replicate 16 no_line;
        runs = λ i l. rw (get_or-replicate 16 i no_line no_line l) (omega arith);
        remainders = λ i l d. rw (get_or-replicate 16 i no_line no_line l) d;
      };
      bills = record { sixteen = length-replicate 16 no_bill; amounts = λ j l. rw (get_or-replicate 16 j no_bill no_bill l) (omega arith) };
      meters = refl;
      samples = zero-lt-suc 99;
    }

pub reached_is_sound : ReachedIsSound
unfolding after_all
reached_is_sound setup length c time [] = fresh_sound c time
reached_is_sound setup length c time (call ∷ earlier) =
    let r = after_all (fresh_start setup length c time) earlier in
    let fixed = config_stays setup length c time earlier in
    rw fixed at (after_sound r call (rw fixed (reached_is_sound setup length c time earlier)))

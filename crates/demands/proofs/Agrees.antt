-- The recorder and the account agree after any calls, under any configuration: clock, runs, rejected impulses, remainders, bills and meters, and the number of each answer.
use Rattle.std.specs.Prelude.{if◌then◌else◌}
use mathlib.Core.Path.{◌≡◌, refl, sym, ap, ap₂, subst, ◌∙◌}
use mathlib.Core.Bool.{Bool, true, false, not, ◌&&◌, ◌||◌}
use mathlib.Core.List.{List, [], ◌∷◌}
use mathlib.Core.Logic.{◌⊎◌, inl, inr, ⊎_elim}
use Prim.Native.Nat.{ℕ, ◌+◌, ◌<◌, min}
use native.Mathlib.Nat.{zero-mul, zero-mod}
use native.Mathlib.Omega.{arith}
use lib.Dec.{ltb, leb, eqb}
use lib.IntN.{ℤ}
use lib.ListN.{length, get_or, set as set_list, length-set, length-replicate, get_or-replicate}
use lib.Seq.{get_or-set_same, get_or-set_other}
use borrow.Author.Tests.{ltb-true, ltb-false, leb-true, leb-false, eq-eqb, ne_eqb, eqb-true, eqb-false}
use Rattle.laws.specs.Answers.{number_in, reply_to}
use Rattle.laws.proofs.Tests.{by_test}
use Rattle.laws.specs.Any.{any}
use Rattle.laws.proofs.Any.{any_cong}
use Rattle.laws.proofs.Total.{total_cong}
use Rattle.laws.specs.Masks.{bit, bit_at}
use Rattle.laws.proofs.Tables.{table_at}
use Rattle.calendar.specs.Moments.{moment_of}
use Rattle.settings.specs.declared.Config.{Config}
use Rattle.settings.specs.declared.Input.{Input}
use Rattle.counting.specs.Filter.{input_at, line_at, next_run, accepted, one_more}
use Rattle.counting.specs.Bills.{bill_at, sum_of, booked_of}
use Rattle.sampling.specs.Periods.{multiple, begun_anew, tick_of}
use Rattle.sampling.specs.Samples.{active_at, booking_of, booking_on, counted_of, clock_end, sample_of}
use Rattle.recorder.specs.Clock.{set_to, set_of, closed_bill, reset_of}
use Rattle.recorder.specs.Meters.{renewed, kept, meter_at, stamping_of, reading_answer, stamp_as, reading_of}
use Rattle.recorder.specs.Calls.{fresh_state}
use Rattle.recorder.specs.History.{Call, sample, set as set_call, reading, reset, after_all}
use Rattle.recorder.specs.declared.Setup.{Setup}
use Rattle.counting.specs.declared.Line.{Line}
use Rattle.counting.specs.declared.Bill.{Bill}
use Rattle.sampling.specs.declared.State.{State}
use Rattle.calendar.proofs.Moments.{dated_or_not}
use Rattle.counting.proofs.Lines.{passed, brings, passed_run, passed_rejected, passed_remainder}
use Rattle.recorder.proofs.Sound.{cleared_at, config_stays}
use Rattle.demands.specs.Account.{Entry, took, ended, cleared as cleared_entry, heard, Heard, readings_of, renews, left_by, Sample, Account, run_of, ends_run, in_range, sample_on, always, impulses_of, rejected_in, whole, in_use, books_at, feeding, amount_of, last_reading, next_sample, due_to, overfull, number_of_sample, number_of_reading, stepped, counted, with_call, account_of}
use Rattle.demands.specs.State.{bill_in, meter_in}
use Rattle.demands.specs.Demand2.{reached, AnswersOfHistory}
use Rattle.demands.proofs.Units.{left_over, units_step, left_step}
use Rattle.demands.proofs.Keeps.{booked_state, due, due_is, due_none, fills_on, line_after, bill_after}

-- a line has the run, the rejected impulses and the remainder of its input's journal
pub record LineAgrees (c : Config) (journal : List Entry) (i : ℕ) (line : Line) : Type 0 where
  pub run : line.run ≡ run_of c i journal
  pub rejected : line.rejected ≡ min 65_535 (rejected_in i (whole c journal))
  pub remainder : line.remainder ≡ left_over (input_at c.inputs i) (impulses_of always i (whole c journal))

-- a state and an account agree
pub record Agrees (c : Config) (s : State) (a : Account) : Type 0 where
  pub clock : s.clock ≡ a.time.second
  pub samples : s.samples ≡ a.time.samples
  pub few : s.samples < 100
  pub first : s.first ≡ a.time.first
  pub lines : (i : ℕ) → i < 16 → LineAgrees c a.journal i (line_at s.lines i)
  pub bills : (j : ℕ) → j < 16 → bill_at s.bills j ≡ bill_in c a.journal j
  pub meters : (i : ℕ) → i < 32 → meter_at s.meters i ≡ meter_in (last_reading a.journal i)
  pub all_meters : length s.meters ≡ 32

-- Lines

next_run_lem : (run : ℕ) (on : Bool) → next_run run on ≡ (if on then min 256 (run + 1) else 0)
next_run_lem run true = by_test (ltb run 256) (λ t. rw t (omega (arith, ltb-true run 256 t))) (λ f. rw f (omega (arith, ltb-false run 256 f)))
next_run_lem run false = refl

next_rejected : (n : ℕ) (on : Bool) → (if on then one_more (min 65_535 n) else min 65_535 n) ≡ min 65_535 (n + bit on)
next_rejected n true =
    by_test (ltb (min 65_535 n) 65_535) (λ t. rw t (omega (arith, ltb-true (min 65_535 n) 65_535 t))) (λ f. rw f (omega (arith, ltb-false (min 65_535 n) 65_535 f)))
next_rejected n false = omega arith

-- a sample after a journal
module _ (c : Config) (journal : List Entry) (bits second i : ℕ) (line : Line) (old : LineAgrees c journal i line) where
  -- the recorder accepts the account's impulses
  pub same_impulse : accepted (input_at c.inputs i) line (active_at c.inputs bits i) ≡ (ends_run c bits journal i && in_range c i (run_of c i journal))
  unfolding accepted
  same_impulse = rw old.run

  -- and each of them brings the account's units
  pub same_units : brings (input_at c.inputs i) line (active_at c.inputs bits i)
      ≡ (sample_on c bits second journal (whole c journal)).units i
  same_units = rw (same_impulse, old.remainder) (units_step (input_at c.inputs i) (impulses_of always i (whole c journal)) (ends_run c bits journal i && in_range c i (run_of c i journal)))

  line_agrees : LineAgrees c (took bits second ∷ journal) i (passed (input_at c.inputs i) line (active_at c.inputs bits i))
  line_agrees =
      let x = input_at c.inputs i in
      let on = active_at c.inputs bits i in
      record {
        run = passed_run x line on ∙ (next_run_lem line.run on ∙ ap (λ (n : ℕ). if on then min 256 (n + 1) else 0) old.run);
        rejected = passed_rejected x line on ∙ rw (old.rejected, old.run) (next_rejected (rejected_in i (whole c journal)) (ends_run c bits journal i && not (in_range c i (run_of c i journal))));
        remainder = passed_remainder x line on
            ∙ rw (same_impulse, old.remainder) (left_step x (impulses_of always i (whole c journal)) (ends_run c bits journal i && in_range c i (run_of c i journal)));
      }

-- A sample

-- the hundredth sample
pub hundredth : (c : Config) (s : State) (a : Account) → Agrees c s a → leb 99 s.samples ≡ eqb a.time.samples 99
hundredth c s a old =
    by_test (leb 99 s.samples)
    (λ t. t ∙ sym (eq-eqb a.time.samples 99 (omega (arith, leb-true 99 s.samples t, old.samples, old.few))))
    (λ f. f ∙ sym (ne_eqb a.time.samples 99 (λ e. omega (arith, leb-false 99 s.samples f, old.samples))))

-- the journal with a sample
abbrev pub longer : Account → ℕ → List Entry
longer a bits = took bits a.time.second ∷ a.journal

module _ (c : Config) (s : State) (a : Account) (bits : ℕ) (old : Agrees c s a) where
  -- the sample that the account sees
  abbrev now : Sample
  now = next_sample c a bits

  -- register j gets the account's units
  due_same : (j : ℕ) → in_use c j ≡ true → due c s bits j ≡ due_to c j now
  unfolding sum_of
  due_same j u =
      due_is c s bits j u
      ∙ ap₂ (λ (second units : ℕ). if books_at c j second then units else 0) old.clock
      (total_cong 16 _ _ (λ i l. ap (λ (n : ℕ). if bit_at (feeding c j) i then n else 0) (same_units c a.journal bits a.time.second i (line_at s.lines i) (old.lines i l))))

  -- its open amount is the account's
  amount_same : (j : ℕ) → j < 16 → in_use c j ≡ true → (bill_at s.bills j).amount ≡ amount_of c j a.journal
  unfolding bill_in
  amount_same j l u = ap (λ (b : Bill). b.amount) (old.bills j l) ∙ rw u

  fills_same : (j : ℕ) → j < 16 → fills_on c s bits j ≡ overfull c a.journal now j
  unfolding overfull
  fills_same j l =
      by_test (in_use c j)
      (λ u. ap₂ (λ (amount n : ℕ). ltb 0 n && ltb 999_999_999 (amount + n)) (amount_same j l u) (due_same j u) ∙ sym (rw u))
      (λ f. rw (due_none c s bits j f, f))

  pub full_same : (booking_on c s bits).full ≡ any 16 (overfull c a.journal now)
  unfolding booking_of booked_of
  full_same = any_cong 16 (fills_on c s bits) (overfull c a.journal now) fills_same

  pub end_same : clock_end s ≡ (eqb a.time.second 4_294_967_295 && eqb a.time.samples 99)
  end_same = ap₂ ◌&&◌ (ap (λ (n : ℕ). eqb n 4_294_967_295) old.clock) (hundredth c s a old)

  -- bill j with its units
  bill_agrees : (j : ℕ) → j < 16 → (booking_on c s bits).full ≡ false → bill_at (booking_on c s bits).bills j ≡ bill_in c (longer a bits) j
  unfolding bill_in amount_of
  bill_agrees j l e =
      bill_after c s bits j l e
      ∙ by_test (in_use c j)
      (λ u. rw (due_same j u, old.bills j l, u))
      (λ f. rw (due_none c s bits j f, old.bills j l, f))

  -- the booked state agrees with the longer journal
  pub booked_agrees : (booking_on c s bits).full ≡ false → Agrees c (booked_state c s bits) (record { time = a.time; journal = longer a bits })
  booked_agrees e =
      record {
        clock = old.clock;
        samples = old.samples;
        few = old.few;
        first = old.first;
        lines = λ i l.
            rw (line_after c s bits i l) (line_agrees c a.journal bits a.time.second i (line_at s.lines i) (old.lines i l));
        bills = λ j l. bill_agrees j l e;
        meters = old.meters;
        all_meters = old.all_meters;
      }

-- Counting the sample

-- a line at the start of a period has the same run, count and remainder
cleared_agrees : (c : Config) (journal : List Entry) (state stamp i : ℕ) (line : Line) → LineAgrees c journal i line → LineAgrees c (ended state stamp ∷ journal) i (begun_anew line)
unfolding begun_anew
cleared_agrees c journal state stamp i line old = record { run = old.run; rejected = old.rejected; remainder = old.remainder }

-- the end of a period moves no bill
ended_bill : (c : Config) (journal : List Entry) (state stamp j : ℕ) → bill_in c (ended state stamp ∷ journal) j ≡ bill_in c journal j
unfolding bill_in amount_of
ended_bill c journal state stamp j = refl

tick_agrees : (c : Config) (s : State) (a : Account) → Agrees c s a → Agrees c (tick_of c s) (stepped c a.time a.journal)
unfolding tick_of stepped
tick_agrees c s a old =
    by_test (multiple c.period (a.time.second + 1))
    (λ t.
    rw (old.clock, t)
    (record {
      clock = refl;
      samples = refl;
      few = omega arith;
      first = refl;
      lines = λ i l. rw (cleared_at s.lines i l) (cleared_agrees c a.journal _ (a.time.second + 1) i (line_at s.lines i) (old.lines i l));
      bills = λ j l. old.bills j l ∙ sym (ended_bill c a.journal _ (a.time.second + 1) j);
      meters = old.meters;
      all_meters = old.all_meters;
    }))
    (λ f.
    rw (old.clock, f)
    (record {
      clock = refl;
      samples = refl;
      few = omega arith;
      first = old.first;
      lines = old.lines;
      bills = old.bills;
      meters = old.meters;
      all_meters = old.all_meters;
    }))

pub counted_agrees : (c : Config) (s : State) (a : Account) → Agrees c s a → Agrees c (counted_of c s) (counted c a.time a.journal)
unfolding counted_of counted
counted_agrees c s a old =
    by_test (leb 99 s.samples)
    (λ t. rw (t, sym (hundredth c s a old) ∙ t) (tick_agrees c s a old))
    (λ f.
    rw (f, sym (hundredth c s a old) ∙ f)
    (record {
      clock = old.clock;
      samples = ap (λ (n : ℕ). n + 1) old.samples;
      few = omega (arith, leb-false 99 s.samples f);
      first = old.first;
      lines = old.lines;
      bills = old.bills;
      meters = old.meters;
      all_meters = old.all_meters;
    }))

-- a sample is refused and changes neither, or booked by both
abbrev pub SampleCase : Config → State → Account → ℕ → State → Account → Type 0
SampleCase c s a bits s' a' =
    ((s' ≡ s) × (a' ≡ a))
    ⊎ (((booking_on c s bits).full ≡ false) × (s' ≡ counted_of c (booked_state c s bits)) × (a' ≡ counted c a.time (longer a bits)))

pub sample_case : (c : Config) (s : State) (a : Account) (bits : ℕ) → Agrees c s a
    → ((reply_to s (sample_of c s bits)).number ≡ number_of_sample c a bits) × SampleCase c s a bits (reply_to s (sample_of c s bits)).after (with_call c a (sample bits))
unfolding sample_of number_of_sample with_call
sample_case c s a bits old =
    by_test (clock_end s)
    (λ t. rw (t, sym (end_same c s a bits old) ∙ t) (refl, inl (refl, refl)))
    (λ f.
    let g = sym (end_same c s a bits old) ∙ f in
    by_test (booking_on c s bits).full
    (λ t. rw (f, g, t, sym (full_same c s a bits old) ∙ t) (refl, inl (refl, refl)))
    (λ h. rw (f, g, h, sym (full_same c s a bits old) ∙ h) (refl, inr (refl, refl, refl))))

-- so they agree after it
sample_agrees : (c : Config) (s : State) (a : Account) (bits : ℕ) → Agrees c s a → Agrees c (reply_to s (sample_of c s bits)).after (with_call c a (sample bits))
sample_agrees c s a bits old =
    ⊎_elim (λ e. rw (e.0, e.1) old)
    (λ e. rw (e.1, e.2) (counted_agrees c (booked_state c s bits) (record { time = a.time; journal = longer a bits }) (booked_agrees c s a bits old e.0)))
    (sample_case c s a bits old).1

-- A clock set

pub set_number_lem : (c : Config) (s : State) (seconds : ℕ) → (reply_to s (set_of c s seconds)).number ≡ number_in (moment_of seconds)
unfolding set_of
set_number_lem c s seconds = ⊎_elim (λ d. rw d.1) (λ e. rw e) (dated_or_not seconds)

set_agrees : (c : Config) (s : State) (a : Account) (seconds : ℕ) → Agrees c s a → Agrees c (reply_to s (set_of c s seconds)).after (with_call c a (set_call seconds))
unfolding set_of set_to with_call
set_agrees c s a seconds old =
    ⊎_elim
    (λ d.
    rw d.1
    (record {
      clock = refl;
      samples = refl;
      few = omega arith;
      first = refl;
      lines = λ i l. rw (cleared_at s.lines i l) (cleared_agrees c a.journal 1 a.time.second i (line_at s.lines i) (old.lines i l));
      bills = λ j l. old.bills j l ∙ sym (ended_bill c a.journal 1 a.time.second j);
      meters = old.meters;
      all_meters = old.all_meters;
    }))
    (λ e. rw e old)
    (dated_or_not seconds)

-- A reading

pub reading_number_lem : (c : Config) (s : State) (meter : ℕ) (v : ℤ) (status seq : ℕ) → number_in (reading_of c s meter v status seq).answer ≡ number_of_reading c meter status seq
unfolding reading_answer number_of_reading
reading_number_lem c s meter v status seq =
    by_test (ltb 31 meter) (λ t. rw t)
    (λ f.
    by_test (eqb (get_or c.limits meter 0) 0) (λ t. rw (f, t))
    (λ g. by_test (ltb 7 status || ltb 31 seq) (λ t. rw (f, g, t)) (λ h. rw (f, g, h))))

-- what becomes of the stamp: the stored SEQ is that of the reading before
pub stamping_is : (h : List Heard) (seq : ℕ) → stamping_of (meter_in (left_by h)) seq ≡ (if renews seq h then renewed else kept)
unfolding stamping_of
stamping_is [] seq = refl
stamping_is (last ∷ earlier) seq = by_test (eqb last.seq seq) (λ t. rw t) (λ f. rw f)

-- and the meter after it
left_is : (h : List Heard) (second : ℕ) (v : ℤ) (status seq : ℕ)
    → record { read = true; stamp = stamp_as (stamping_of (meter_in (left_by h)) seq) (meter_in (left_by h)) second; value = v; status = status; seq = seq }
    ≡ meter_in (left_by (record { second = second; value = v; status = status; seq = seq } ∷ h))
left_is [] second v status seq = rw (stamping_is [] seq)
left_is (last ∷ earlier) second v status seq = rw (stamping_is (last ∷ earlier) seq) (by_test (eqb last.seq seq) (λ t. rw t) (λ f. rw f))

-- the meters with a reading
heard_meter : (c : Config) (s : State) (a : Account) (meter : ℕ) (v : ℤ) (status seq i : ℕ) → Agrees c s a → meter < 32 → i < 32
    → let m = meter_at s.meters meter in
    meter_at (set_list s.meters meter (record { read = true; stamp = stamp_as (stamping_of m seq) m s.clock; value = v; status = status; seq = seq })) i
    ≡ meter_in (last_reading (heard a.time.second meter v status seq ∷ a.journal) i)
heard_meter c s a meter v status seq i old m l =
    by_test (eqb meter i)
    (λ t.
    let there : meter < length s.meters = omega (arith, old.all_meters) in
    rw (t, ← eqb-true meter i t, ← old.clock)
    (get_or-set_same s.meters meter _ _ there ∙ rw (old.meters meter m) (left_is (readings_of a.journal meter) s.clock v status seq)))
    (λ f. rw f (get_or-set_other s.meters meter i _ _ (λ e. eqb-false meter i f (sym e)) ∙ old.meters i l))

heard_bill : (c : Config) (journal : List Entry) (stamp meter : ℕ) (v : ℤ) (status seq j : ℕ) → bill_in c (heard stamp meter v status seq ∷ journal) j ≡ bill_in c journal j
unfolding bill_in amount_of
heard_bill c journal stamp meter v status seq j = refl

reading_agrees : (c : Config) (s : State) (a : Account) (meter : ℕ) (v : ℤ) (status seq : ℕ) → Agrees c s a
    → Agrees c (reading_of c s meter v status seq).after (with_call c a (reading meter v status seq))
unfolding reading_answer number_of_reading with_call
reading_agrees c s a meter v status seq old =
    by_test (ltb 31 meter) (λ t. rw t old)
    (λ f.
    by_test (eqb (get_or c.limits meter 0) 0) (λ t. rw (f, t) old)
    (λ g.
    by_test (ltb 7 status || ltb 31 seq) (λ t. rw (f, g, t) old)
    (λ h.
    rw (f, g, h)
    (record {
      clock = old.clock;
      samples = old.samples;
      few = old.few;
      first = old.first;
      lines = λ i l. record { run = (old.lines i l).run; rejected = (old.lines i l).rejected; remainder = (old.lines i l).remainder };
      bills = λ j l. old.bills j l ∙ sym (heard_bill c a.journal a.time.second meter v status seq j);
      meters = λ i l. heard_meter c s a meter v status seq i old (omega (arith, ltb-false 31 meter f)) l;
      all_meters = length-set s.meters meter _ ∙ old.all_meters;
    }))))

-- A billing reset

reset_bill : (c : Config) (s : State) (a : Account) (j : ℕ) → Agrees c s a → j < 16
    → bill_at (reset_of c s).bills j ≡ bill_in c (cleared_entry a.time.second ∷ a.journal) j
unfolding reset_of closed_bill bill_in amount_of
reset_bill c s a j old l =
    table_at 16 _ j _ l
    ∙ by_test (in_use c j) (λ u. rw (u, old.bills j l, u, old.clock)) (λ f. rw (f, old.bills j l, f))

reset_agrees : (c : Config) (s : State) (a : Account) → Agrees c s a → Agrees c (reset_of c s) (with_call c a reset)
unfolding reset_of with_call
reset_agrees c s a old =
    record {
      clock = old.clock;
      samples = old.samples;
      few = old.few;
      first = old.first;
      lines = λ i l. record { run = (old.lines i l).run; rejected = (old.lines i l).rejected; remainder = (old.lines i l).remainder };
      bills = λ j l. reset_bill c s a j old l;
      meters = old.meters;
      all_meters = old.all_meters;
    }

-- A fresh start

fresh_remainder : (x : Input) → 0 ≡ left_over x 0
fresh_remainder x = by_test (eqb x.denominator 0) (λ t. rw t) (λ f. rw (f, zero-mul, zero-mod))

fresh_bill : (c : Config) (j : ℕ) → record { amount = 0; closed = 0; stamp = 0; reset = false } ≡ bill_in c [] j
unfolding bill_in amount_of
fresh_bill c j = by_test (in_use c j) (λ u. rw u) (λ f. rw f)

fresh_agrees : (c : Config) (time : ℕ) → Agrees c (fresh_state time) (account_of c time [])
unfolding fresh_state account_of
fresh_agrees c time =
    record {
      clock = refl;
      samples = refl;
      few = omega arith;
      first = refl;
      lines = λ i l. rw (get_or-replicate 16 i _ _ l) (record { run = refl; rejected = omega arith; remainder = fresh_remainder (input_at c.inputs i) });
      bills = λ j l. get_or-replicate 16 j _ _ l ∙ fresh_bill c j;
      meters = λ i l. get_or-replicate 32 i _ _ l;
      all_meters = simp length-replicate;
    }

-- All calls

-- a call on a state, under the configuration that the start gave
abbrev pub state_after : Config → State → Call → State
state_after c s (sample bits) = (reply_to s (sample_of c s bits)).after
state_after c s (set_call seconds) = (reply_to s (set_of c s seconds)).after
state_after c s (reading meter v status seq) = (reading_of c s meter v status seq).after
state_after c s reset = reset_of c s

call_agrees : (c : Config) (s : State) (a : Account) (call : Call) → Agrees c s a → Agrees c (state_after c s call) (with_call c a call)
call_agrees c s a (sample bits) = sample_agrees c s a bits
call_agrees c s a (set_call seconds) = set_agrees c s a seconds
call_agrees c s a (reading meter v status seq) = reading_agrees c s a meter v status seq
call_agrees c s a reset = reset_agrees c s a

-- A start with any chosen slots and a buffer of any length
module _ (setup : Setup) (lent : ℕ) where
  -- the state after one call more
  pub state_after_lem : (c : Config) (time : ℕ) (earlier : List Call) (call : Call) → (reached setup lent c time (call ∷ earlier)).state ≡ state_after c (reached setup lent c time earlier).state call
  unfolding after_all
  state_after_lem c time earlier (sample bits) = ap (λ (k : Config). state_after k (reached setup lent c time earlier).state (sample bits)) (config_stays setup lent c time earlier)
  state_after_lem c time earlier (set_call seconds) = ap (λ (k : Config). state_after k (reached setup lent c time earlier).state (set_call seconds)) (config_stays setup lent c time earlier)
  state_after_lem c time earlier (reading meter v status seq) = ap (λ (k : Config). state_after k (reached setup lent c time earlier).state (reading meter v status seq)) (config_stays setup lent c time earlier)
  state_after_lem c time earlier reset = ap (λ (k : Config). state_after k (reached setup lent c time earlier).state reset) (config_stays setup lent c time earlier)

  -- induction over the calls: a fresh start, and one call more
  pub by_calls : (c : Config) (time : ℕ) (P : State → Account → Type 0) → P (fresh_state time) (account_of c time [])
      → ((earlier : List Call) (call : Call) → P (reached setup lent c time earlier).state (account_of c time earlier)
      → P (state_after c (reached setup lent c time earlier).state call) (with_call c (account_of c time earlier) call))
      → (calls : List Call) → P (reached setup lent c time calls).state (account_of c time calls)
  unfolding after_all account_of
  by_calls c time P start step [] = start
  by_calls c time P start step (call ∷ earlier) =
      subst (λ (s : State). P s (with_call c (account_of c time earlier) call)) (sym (state_after_lem c time earlier call)) (step earlier call (by_calls c time P start step earlier))

  pub agrees : (c : Config) (time : ℕ) (calls : List Call) → Agrees c (reached setup lent c time calls).state (account_of c time calls)
  agrees c time = by_calls c time (Agrees c) (fresh_agrees c time) (λ earlier call. call_agrees c (reached setup lent c time earlier).state (account_of c time earlier) call)

  pub answers_of_history : AnswersOfHistory setup lent
  answers_of_history c time calls (sample bits) =
      let s = (reached setup lent c time calls).state in
      subst (λ (k : Config). (reply_to s (sample_of k s bits)).number ≡ number_of_sample c (account_of c time calls) bits) (sym (config_stays setup lent c time calls))
      (sample_case c s (account_of c time calls) bits (agrees c time calls)).0
  answers_of_history c time calls (set_call seconds) = set_number_lem (reached setup lent c time calls).config (reached setup lent c time calls).state seconds
  answers_of_history c time calls (reading meter v status seq) =
      let s = (reached setup lent c time calls).state in
      subst (λ (k : Config). number_in (reading_of k s meter v status seq).answer ≡ number_of_reading c meter status seq) (sym (config_stays setup lent c time calls))
      (reading_number_lem c s meter v status seq)
  answers_of_history c time calls reset = refl

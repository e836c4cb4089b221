-- Level 0 keeps its bound in every state that calls can reach with a good configuration: by induction over the calls. So its hold never acts.
use mathlib.Core.Path.{◌≡◌, refl}
use mathlib.Core.Bool.{Bool, true, false}
use mathlib.Core.List.{List, [], ◌∷◌}
use Prim.Native.Nat.{ℕ, suc, ◌+◌, ◌*◌, ◌-◌, ◌%◌, ◌<◌, ◌≤◌}
use native.Mathlib.Nat.{mod-lt, mod_self, mul-one, suc-mul, add-mul-mod_self_left, div-add-mod, div-lt_iff_lt-mul, add-sub_of_le, le_of_eq, le_of_suc-le-suc, mul-le-mul_left}
use native.Mathlib.Omega.{arith}
use lib.Dec.{leb, eqb}
use lib.IntN.{ℤ}
use lib.ListN.{get_or-replicate}
use borrow.Author.Tests.{leb-true, eqb-false}
use Rattle.laws.proofs.If.{if_cases}
use Rattle.std.proofs.lemmas.Bool.Decides.{nat_tests}
use Rattle.laws.specs.Answers.{Answer, given, refused, reply_to}
use Rattle.laws.specs.Masks.{bit_at}
use Rattle.calendar.specs.Moments.{moment_of}
use Rattle.calendar.specs.declared.Moment.{Moment}
use Rattle.settings.specs.Rules.{period_good, input_good}
use Rattle.settings.specs.Check.{sections}
use Rattle.settings.specs.declared.Config.{Config}
use Rattle.settings.specs.declared.Input.{Input}
use Rattle.counting.specs.Filter.{input_at, line_at}
use Rattle.counting.specs.Units.{units_of, held_sum}
use Rattle.sampling.specs.Periods.{multiple, begun_anew, cleared_lines, tick_of}
use Rattle.sampling.specs.Samples.{booking_of, active_lines, booking_on, put_in, counted_of, clock_end, sample_of}
use Rattle.recorder.specs.Clock.{set_to, set_dated, set_of, reset_of}
use Rattle.recorder.specs.Meters.{Stamping, reading_answer, after_reading}
use Rattle.recorder.specs.Calls.{fresh_state, fresh_start}
use Rattle.recorder.specs.History.{Call, sample, set as set_call, reading, reset, after, after_all}
use Rattle.recorder.specs.Laws.{Sound, Good, Bounded, ReachedIsBounded, HoldNeverActs}
use Rattle.counting.specs.declared.Line.{Line}
use Rattle.sampling.specs.declared.State.{State}
use Rattle.recorder.specs.declared.Recorder.{Recorder}
use Rattle.recorder.specs.declared.Setup.{Setup}
use Rattle.counting.proofs.Lines.{passed, passed_units, line_after}
use Rattle.recorder.proofs.Sound.{cleared_at, no_line, config_stays, reached_is_sound}

-- a good period is 1 to 60 minutes
good_period : (p : ℕ) → period_good p ≡ true → (0 < p) × (p ≤ 60)
good_period p e = grind (arith, nat_tests)

-- the numerator of a good input is at most 10,000
good_numerator : (x : Input) → input_good x ≡ true → x.numerator ≤ 10_000
good_numerator x e = grind (arith, nat_tests)

-- an impulse brings no more units than the numerator
few_units : (input : Input) (remainder : ℕ) → (0 < input.denominator → remainder < input.denominator) → units_of input remainder ≤ input.numerator
unfolding units_of
few_units input remainder below =
    if_cases (λ n. n ≤ input.numerator) (eqb input.denominator 0) (λ e. omega arith)
    (λ e.
    let d = input.denominator in
    let n = input.numerator in
    let some : 0 < d = (let ne = eqb-false d 0 e in omega arith) in
    let l = below some in
    let more : n * 1 ≤ n * d = mul-le-mul_left n some in
    let short : remainder + n < suc n * d = rw (suc-mul n d) (omega (arith, mul-one n)) in
    le_of_suc-le-suc ((div-lt_iff_lt-mul some).1 short))

-- a second within the period, whose next second is no multiple, is followed by one within the period
next_within : (P first clock : ℕ) → 0 < P → clock + first % P < first + P → ((clock + 1) % P ≡ 0 → ⊥) → (clock + 1) + first % P < first + P
next_within P first clock some h none = grind (arith, div-add-mod, add-mul-mod_self_left, mod_self)

-- the samples counted so far in a period that began on time, each with at most 10,000 units
record Filled (c : Config) (s : State) (samples : ℕ) : Type 0 where
  began : s.first ≤ s.clock
  within : s.clock + s.first % (c.period * 60) < s.first + c.period * 60
  filled : (i : ℕ) → i < 16 → (line_at s.lines i).units + 1_000_000 * s.first ≤ 1_000_000 * s.clock + 10_000 * samples

-- what is asked of a configuration
record Within (c : Config) : Type 0 where
  some : 0 < c.period
  most : c.period ≤ 60
  numerators : (i : ℕ) → i < 16 → (input_at c.inputs i).numerator ≤ 10_000

good_within : (c : Config) → Good c → Within c
unfolding sections
good_within c h =
    let period = good_period c.period (h.0 0 (omega arith)) in
    record { some = period.0; most = period.1; numerators = λ i l. good_numerator (input_at c.inputs i) (h.1.0 i l) }

-- a period that begins now, with nothing on its lines
begun : (c : Config) (s : State) → Within c → s.first ≡ s.clock → ((i : ℕ) → i < 16 → (line_at s.lines i).units ≡ 0) → Filled c s 0
begun c s w e none =
    let some : 0 < c.period * 60 = let p = w.some in omega arith in
    let m = mod-lt s.first some in
    record { began = le_of_eq e; within = omega arith; filled = λ i l. let z = none i l in omega arith }

-- lines at the start of a period have no units
cleared_none : (lines : List Line) (i : ℕ) → i < 16 → (line_at (cleared_lines lines) i).units ≡ 0
unfolding begun_anew
cleared_none lines i l = rw (cleared_at lines i l) refl

-- a time that is no multiple of the period's seconds
no_multiple : (period time : ℕ) → 0 < period → multiple period time ≡ false → time % (period * 60) ≡ 0 → ⊥
unfolding multiple
no_multiple period time some e = grind (arith, nat_tests)

-- a held sum is no more than the sum
held_most : (units more : ℕ) → held_sum units more ≤ units + more
held_most units more = grind (arith, nat_tests)

-- a sample brings at most 10,000 units to level 0 of a line
passed_most : (input : Input) (line : Line) (on : Bool) → (0 < input.denominator → line.remainder < input.denominator)
    → input.numerator ≤ 10_000 → (passed input line on).units ≤ line.units + 10_000
passed_most input line on below h =
    rw (passed_units input line on) (grind (arith, nat_tests, held_most, few_units))

module _ (c : Config) (w : Within c) where
  -- a state with a sample booked and not yet counted
  booked_filled : (s : State) → Sound c s → (mask : ℕ) → Filled c s s.samples
      → Filled c (put_in s s.clock s.samples (booking_of c s.clock s.lines s.bills mask).lines (booking_of c s.clock s.lines s.bills mask).bills) (s.samples + 1)
  unfolding booking_of
  booked_filled s h mask f =
      record {
        began = f.began;
        within = f.within;
        filled = λ i l.
            let line = line_at s.lines i in
            rw (line_after c.inputs s.lines mask i l)
            (omega (arith, f.filled i l, passed_most (input_at c.inputs i) line (bit_at mask i) (h.lines.remainders i l) (w.numerators i l)));
      }

  -- the state after the step, when the hundredth sample was booked
  ticked_filled : (s : State) → Filled c s 100 → Filled c (tick_of c s) 0
  unfolding tick_of
  ticked_filled s f =
      if_cases (λ t. Filled c t 0) (multiple c.period (s.clock + 1))
      (λ e. begun c _ w refl (cleared_none s.lines))
      (λ e.
      let some : 0 < c.period * 60 = let p = w.some in omega arith in
      record {
        began = let b = f.began in omega arith;
        within = next_within (c.period * 60) s.first s.clock some f.within (no_multiple c.period (s.clock + 1) w.some e);
        filled = λ i l. let u = f.filled i l in omega arith;
      })

  -- after the step the second has no sample
  ticked_samples : (s : State) → Filled c (tick_of c s) 0 → Filled c (tick_of c s) (tick_of c s).samples
  unfolding tick_of
  ticked_samples s = if_cases (λ t. Filled c t 0 → Filled c t t.samples) (multiple c.period (s.clock + 1)) (λ e f. f) (λ e f. f)

  -- the state with the sample counted
  counted_filled : (s : State) → s.samples < 100 → Filled c s (s.samples + 1) → Filled c (counted_of c s) (counted_of c s).samples
  unfolding counted_of
  counted_filled s few f =
      if_cases (λ t. Filled c t t.samples) (leb 99 s.samples)
      (λ e.
      let last : s.samples + 1 ≡ 100 = let l = leb-true 99 s.samples e in omega arith in
      ticked_samples s (ticked_filled s (rw last at f)))
      (λ e. record { began = f.began; within = f.within; filled = f.filled })

  -- the state after a clock set
  set_filled : (s : State) (time : ℕ) → Filled c (set_to c s time) 0
  unfolding set_to
  set_filled s time = begun c _ w refl (cleared_none s.lines)

  -- the state after a sample, taken or refused
  sample_filled : (s : State) → Sound c s → Filled c s s.samples → (bits : ℕ)
      → Filled c (reply_to s (sample_of c s bits)).after (reply_to s (sample_of c s bits)).after.samples
  unfolding sample_of
  sample_filled s h f bits =
      let b = booking_on c s bits in
      let kept : Answer State → Type 0 = λ a. Filled c (reply_to s a).after (reply_to s a).after.samples in
      if_cases kept (clock_end s) (λ e. f)
      (λ e.
      if_cases kept b.full (λ g. f)
      (λ g.
      counted_filled (put_in s s.clock s.samples b.lines b.bills) h.samples
      (booked_filled s h (active_lines c.inputs bits) f)))

  -- the state after a clock set, taken or refused
  dated_filled : (s : State) (time : ℕ) (a : Answer Moment) → Filled c s s.samples
      → Filled c (reply_to s (set_dated a (set_to c s time))).after (reply_to s (set_dated a (set_to c s time))).after.samples
  unfolding set_to
  dated_filled s time (given m) f = set_filled s time
  dated_filled s time (refused n offset) f = f

  -- the state after a reading, taken or refused
  reading_filled : (s : State) → Filled c s s.samples → (meter : ℕ) (value : ℤ) (status seq : ℕ) (a : Answer Stamping)
      → Filled c (after_reading s meter value status seq a) (after_reading s meter value status seq a).samples
  reading_filled s f meter value status seq (given x) = record { began = f.began; within = f.within; filled = f.filled }
  reading_filled s f meter value status seq (refused n offset) = f

  -- the state after a billing reset
  reset_filled : (s : State) → Filled c s s.samples → Filled c (reset_of c s) (reset_of c s).samples
  unfolding reset_of
  reset_filled s f = record { began = f.began; within = f.within; filled = f.filled }

-- the state after a call
after_filled : (r : Recorder) (call : Call) → Within r.config → Sound r.config r.state → Filled r.config r.state r.state.samples
    → Filled r.config (after r call).state (after r call).state.samples
unfolding set_of
after_filled r (sample bits) w h f = sample_filled r.config w r.state h f bits
after_filled r (set_call time) w h f = dated_filled r.config w r.state time (moment_of time) f
after_filled r (reading meter value status seq) w h f =
    reading_filled r.config w r.state f meter value status seq (reading_answer r.config r.state meter status seq)
after_filled r reset w h f = reset_filled r.config w r.state f

-- a fresh state
fresh_filled : (c : Config) → Within c → (time : ℕ) → Filled c (fresh_state time) 0
unfolding fresh_state
fresh_filled c w time = begun c _ w refl (λ i l. rw (get_or-replicate 16 i no_line no_line l) refl)

-- every state that calls can reach
reached_filled : (setup : Setup) (length : ℕ) (c : Config) → Within c → (time : ℕ) (calls : List Call)
    → Filled c (after_all (fresh_start setup length c time) calls).state (after_all (fresh_start setup length c time) calls).state.samples
unfolding after_all fresh_state
reached_filled setup length c w time [] = fresh_filled c w time
reached_filled setup length c w time (call ∷ earlier) =
    let r = after_all (fresh_start setup length c time) earlier in
    let fixed = config_stays setup length c time earlier in
    rw fixed at (after_filled r call (rw fixed w) (rw fixed (reached_is_sound setup length c time earlier)) (rw fixed (reached_filled setup length c w time earlier)))

-- the bound in the words of the law
bounded : (c : Config) (s : State) → Within c → Sound c s → Filled c s s.samples → Bounded s
bounded c s w h f =
    let most = w.most in
    let m = f.within in
    let b = f.began in
    let span : s.first + (s.clock - s.first) ≡ s.clock = add-sub_of_le b in
    let few = h.samples in
    record {
      began = b;
      few = let short : s.clock - s.first < 3_600 = omega arith in omega arith;
      units = λ i l. let u = f.filled i l in omega arith;
    }

pub reached_is_bounded : ReachedIsBounded
reached_is_bounded setup length c good time calls =
    let w = good_within c good in
    bounded c (after_all (fresh_start setup length c time) calls).state w (reached_is_sound setup length c time calls) (reached_filled setup length c w time calls)

pub hold_never_acts : HoldNeverActs
hold_never_acts setup length c good time calls i l =
    let s = (after_all (fresh_start setup length c time) calls).state in
    let w = good_within c good in
    let b = reached_is_bounded setup length c good time calls in
    let few = b.few in
    let units = b.units i l in
    let more = few_units (input_at c.inputs i) (line_at s.lines i).remainder ((reached_is_sound setup length c time calls).lines.remainders i l) in
    let numerator = w.numerators i l in
    grind (arith, nat_tests)

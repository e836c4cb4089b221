-- The units of the running period and the last closed period are what the history says, under a configuration that the image check accepts; and with them the whole state.
use mathlib.Core.Path.{◌≡◌, refl, sym, ap, ◌∙◌}
use mathlib.Core.Bool.{Bool, true, false, ◌&&◌, ◌||◌}
use mathlib.Core.List.{List, [], ◌∷◌}
use mathlib.Core.Logic.{⊎_elim}
use Prim.Native.Nat.{ℕ, ◌+◌, ◌*◌, ◌%◌, ◌<◌}
use native.Mathlib.Nat.{add-zero, mul-zero}
use borrow.Author.Tests.{eqb-true}
use lib.Dec.{eqb, ltb, leb}
use lib.IntN.{ℤ}
use lib.ListN.{length, get_or, get_or-replicate}
use Rattle.laws.specs.Answers.{reply_to}
use Rattle.laws.proofs.Tests.{by_test, and_left}
use Rattle.laws.specs.Tables.{table}
use Rattle.laws.proofs.Tables.{table_cong, table_self}
use Rattle.settings.specs.Rules.{input_good, fitted_in, slot_good, zero_slot}
use Rattle.settings.specs.Check.{sections}
use Rattle.settings.specs.declared.Config.{Config}
use Rattle.settings.specs.declared.Input.{Input}
use Rattle.settings.specs.declared.Slot.{Slot}
use Rattle.counting.specs.Filter.{input_at, line_at, accepted}
use Rattle.counting.specs.Units.{units_of, held_sum}
use Rattle.counting.specs.Bills.{sum_at}
use Rattle.counting.specs.Levels.{level0, level2, input_value, sum_value, function_value, slot_value, slot_values}
use Rattle.sampling.specs.Periods.{multiple, begun_anew, cleared_lines, closed_as, state_of as state_as, tick_of}
use Rattle.sampling.specs.Samples.{active_at, booking_on, counted_of, sample_of}
use Rattle.recorder.specs.Clock.{set_to, set_of, reset_of}
use Rattle.recorder.specs.Meters.{reading_answer, reading_of}
use Rattle.recorder.specs.Calls.{fresh_state}
use Rattle.recorder.specs.History.{Call, sample, set as set_call, reading, reset}
use Rattle.recorder.specs.Laws.{Good}
use Rattle.profile.specs.declared.Profile.{Profile}
use Rattle.recorder.specs.declared.Setup.{Setup}
use Rattle.counting.specs.declared.Line.{Line}
use Rattle.counting.specs.declared.Bill.{Bill}
use Rattle.sampling.specs.declared.Meter.{Meter}
use Rattle.sampling.specs.declared.Period.{Period}
use Rattle.sampling.specs.declared.State.{State}
use Rattle.calendar.proofs.Moments.{dated_or_not}
use Rattle.counting.proofs.Lines.{passed, brings, passed_units}
use Rattle.recorder.proofs.Sound.{cleared_at, start_stays, reached_is_sound}
use Rattle.recorder.proofs.Bounded.{hold_never_acts}
use Rattle.demands.specs.Account.{Entry, ended, Account, always, impulses_of, units_in, whole, in_period, periods_of, last_reading, stepped, counted, with_call, number_of_reading, account_of}
use Rattle.demands.specs.State.{line_in, bill_in, meter_in, value_of, last_period, state_in}
use Rattle.demands.specs.Demand2.{reached, StateOfHistory}
use Rattle.demands.proofs.Inputs.{no_numerator}
use Rattle.demands.proofs.Units.{left_over}
use Rattle.demands.proofs.Keeps.{booked_state, line_after}
use Rattle.demands.proofs.Closings.{profile_is}
use Rattle.demands.proofs.Agrees.{Agrees, same_units, longer, booked_agrees, hundredth, sample_case, state_after, by_calls, agrees}

-- units of the running period, and the last closed period
record Closes (c : Config) (s : State) (a : Account) : Type 0 where
  units : (i : ℕ) → i < 16 → (line_at s.lines i).units ≡ units_in i (in_period c a.journal)
  closed : s.closed ≡ last_period c (periods_of c a.journal)

-- the hold of level 0 does not act at the next impulse
abbrev Free : Config → State → Type 0
Free c s =
    (i : ℕ) → i < 16 → let line = line_at s.lines i in
    let more = units_of (input_at c.inputs i) line.remainder in held_sum line.units more ≡ line.units + more

-- Slots

-- a good slot of level 0 is of one of the sixteen inputs, one of level 1 of one of the eight sums, one of level 2 of one of the four functions
first_part_lem : (a b d f : Bool) → (((a || (false && b)) || (false && d)) || (false && f)) ≡ true → a ≡ true
first_part_lem true b d f e = refl
first_part_lem false b d f e = e

second_part : (a b d f : Bool) → (((false && a) || b) || (false && d)) || (false && f) ≡ true → b ≡ true
second_part a true d f e = refl
second_part a false d f e = e

third_part : (a b d f : Bool) → ((((false && a) || (false && b)) || d) || (false && f)) ≡ true → d ≡ true
third_part a b true f e = refl
third_part a b false f e = e

-- the recorder's value of a good slot is the account's
slot_same : (c : Config) (units : List ℕ) (slot : Slot) → slot_good (fitted_in c.inputs) slot ≡ true → slot_value c units slot ≡ value_of c units slot
unfolding slot_value input_value sum_value function_value level2 sum_at value_of fitted_in
slot_same c units slot good =
    by_test (eqb slot.level 0)
    (λ t.
    let below : fitted_in c.inputs slot.index ≡ true = first_part_lem (fitted_in c.inputs slot.index) (ltb slot.index 8) (ltb slot.index 4) (eqb slot.index 0) (rw (eqb-true slot.level 0 t) at good) in
    rw (t, and_left (ltb slot.index 16) _ below))
    (λ f.
    by_test (eqb slot.level 1)
    (λ t.
    let below : ltb slot.index 8 ≡ true = second_part (fitted_in c.inputs slot.index) (ltb slot.index 8) (ltb slot.index 4) (eqb slot.index 0) (rw (eqb-true slot.level 1 t) at good) in
    rw (f, t, below))
    (λ g.
    by_test (eqb slot.level 2)
    (λ t.
    let below : ltb slot.index 4 ≡ true = third_part (fitted_in c.inputs slot.index) (ltb slot.index 8) (ltb slot.index 4) (eqb slot.index 0) (rw (eqb-true slot.level 2 t) at good) in
    rw (f, g, t, below))
    (λ h. rw (f, g, h))))

-- so a period closes with the account's values
closed_same : (c : Config) → Good c → (journal : List Entry) (lines : List Line) → ((i : ℕ) → i < 16 → (line_at lines i).units ≡ units_in i (in_period c journal)) → (state stamp : ℕ)
    → closed_as c state stamp lines ≡ last_period c (periods_of c (ended state stamp ∷ journal))
unfolding closed_as slot_values level0 sections
closed_same c good journal lines same state stamp =
    let units = table 16 (λ i. units_in i (in_period c journal)) in
    let level : table 16 (λ i. (line_at lines i).units) ≡ units = table_cong 16 _ _ same in
    ap (λ (values : List ℤ). record { state = state; stamp = stamp; values = values })
    (ap (λ (level : List ℕ). table 16 (λ i. slot_value c level (get_or c.slots i zero_slot))) level
    ∙ table_cong 16 _ _ (λ i l. slot_same c units (get_or c.slots i zero_slot) (good.1.1.1.1.0 i l)))

-- A sample

passed_level : (x : Input) (line : Line) (on : Bool) → held_sum line.units (units_of x line.remainder) ≡ line.units + units_of x line.remainder
    → (passed x line on).units ≡ line.units + brings x line on
passed_level x line on free =
    passed_units x line on ∙ by_test (accepted x line on) (λ t. rw t free) (λ f. rw f (sym (add-zero line.units)))

module _ (c : Config) (s : State) (a : Account) (bits : ℕ) (both : Agrees c s a) (old : Closes c s a) (free : Free c s) where
  booked_level : (i : ℕ) → i < 16 → (line_at (booking_on c s bits).lines i).units ≡ units_in i (in_period c (longer a bits))
  booked_level i l =
      let x = input_at c.inputs i in
      let line = line_at s.lines i in
      ap (λ (y : Line). y.units) (line_after c s bits i l)
      ∙ (passed_level x line (active_at c.inputs bits i) (free i l)
      ∙ rw (old.units i l, same_units c a.journal bits a.time.second i line (both.lines i l)))

  booked_closes : Closes c (booked_state c s bits) (record { time = a.time; journal = longer a bits })
  booked_closes = record { units = booked_level; closed = old.closed }

-- the start of a period has no units
cleared_units : (lines : List Line) (i : ℕ) → i < 16 → (line_at (cleared_lines lines) i).units ≡ 0
unfolding begun_anew
cleared_units lines i l = ap (λ (y : Line). y.units) (cleared_at lines i l)

tick_closes : (c : Config) (s : State) (a : Account) → Good c → Agrees c s a → Closes c s a → Closes c (tick_of c s) (stepped c a.time a.journal)
unfolding tick_of stepped
tick_closes c s a good both old =
    by_test (multiple c.period (a.time.second + 1))
    (λ t.
    rw (both.clock, t)
    (record {
      units = cleared_units s.lines;
      closed = rw both.first (closed_same c good a.journal s.lines old.units (state_as c.period a.time.first) (a.time.second + 1));
    }))
    (λ f. rw (both.clock, f) (record { units = old.units; closed = old.closed }))

counted_closes : (c : Config) (s : State) (a : Account) → Good c → Agrees c s a → Closes c s a → Closes c (counted_of c s) (counted c a.time a.journal)
unfolding counted_of counted
counted_closes c s a good both old =
    by_test (leb 99 s.samples)
    (λ t. rw (t, sym (hundredth c s a both) ∙ t) (tick_closes c s a good both old))
    (λ f. rw (f, sym (hundredth c s a both) ∙ f) (record { units = old.units; closed = old.closed }))

sample_closes : (c : Config) (s : State) (a : Account) (bits : ℕ) → Good c → Agrees c s a → Closes c s a → Free c s
    → Closes c (reply_to s (sample_of c s bits)).after (with_call c a (sample bits))
sample_closes c s a bits good both old free =
    ⊎_elim (λ e. rw (e.0, e.1) old)
    (λ e.
    rw (e.1, e.2)
    (counted_closes c (booked_state c s bits) (record { time = a.time; journal = longer a bits }) good (booked_agrees c s a bits both e.0) (booked_closes c s a bits both old free)))
    (sample_case c s a bits both).1

-- The other calls

set_closes : (c : Config) (s : State) (a : Account) (seconds : ℕ) → Good c → Agrees c s a → Closes c s a → Closes c (reply_to s (set_of c s seconds)).after (with_call c a (set_call seconds))
unfolding set_of set_to with_call
set_closes c s a seconds good both old =
    ⊎_elim
    (λ d.
    rw d.1
    (record {
      units = cleared_units s.lines;
      closed = rw both.clock (closed_same c good a.journal s.lines old.units 1 a.time.second);
    }))
    (λ e. rw e old)
    (dated_or_not seconds)

reading_closes : (c : Config) (s : State) (a : Account) (meter : ℕ) (v : ℤ) (status seq : ℕ) → Closes c s a
    → Closes c (reading_of c s meter v status seq).after (with_call c a (reading meter v status seq))
unfolding reading_answer number_of_reading with_call
reading_closes c s a meter v status seq old =
    by_test (ltb 31 meter) (λ t. rw t old)
    (λ f.
    by_test (eqb (get_or c.limits meter 0) 0) (λ t. rw (f, t) old)
    (λ g.
    by_test (ltb 7 status || ltb 31 seq) (λ t. rw (f, g, t) old)
    (λ h. rw (f, g, h) (record { units = old.units; closed = old.closed }))))

reset_closes : (c : Config) (s : State) (a : Account) → Closes c s a → Closes c (reset_of c s) (with_call c a reset)
unfolding reset_of with_call
reset_closes c s a old = record { units = old.units; closed = old.closed }

fresh_closes : (c : Config) (time : ℕ) → Closes c (fresh_state time) (account_of c time [])
unfolding fresh_state account_of
fresh_closes c time = record { units = λ i l. ap (λ (y : Line). y.units) (get_or-replicate 16 i _ _ l); closed = refl }

call_closes : (c : Config) (s : State) (a : Account) (call : Call) → Good c → Agrees c s a → Free c s → Closes c s a → Closes c (state_after c s call) (with_call c a call)
call_closes c s a (sample bits) good both free old = sample_closes c s a bits good both old free
call_closes c s a (set_call seconds) good both free old = set_closes c s a seconds good both old
call_closes c s a (reading meter v status seq) good both free old = reading_closes c s a meter v status seq old
call_closes c s a reset good both free old = reset_closes c s a old

-- The whole state

-- what whole denominators leave, also of an input that is not fitted: it has six zeros
left_good : (x : Input) (n : ℕ) → input_good x ≡ true → left_over x n ≡ n * x.numerator % x.denominator
left_good x n good =
    by_test (eqb x.denominator 0)
    (λ t.
    let none : x.denominator ≡ 0 = eqb-true x.denominator 0 t in
    let empty : x.numerator ≡ 0 = no_numerator x good none in
    rw (t, none, empty, mul-zero))
    (λ f. rw f)

-- a line, and a state, by its fields
line_by : (x : Line) (run rejected remainder units : ℕ) → x.run ≡ run → x.rejected ≡ rejected → x.remainder ≡ remainder → x.units ≡ units
    → x ≡ record { run = run; rejected = rejected; remainder = remainder; units = units }
line_by x run rejected remainder units a b d e = rw (← a, ← b, ← d, ← e)

state_by : (s : State) (clock samples first : ℕ) (lines : List Line) (bills : List Bill) (meters : List Meter) (closed : Period)
    → s.clock ≡ clock → s.samples ≡ samples → s.first ≡ first → s.lines ≡ lines → s.bills ≡ bills → s.meters ≡ meters → s.closed ≡ closed
    → s ≡ record { clock = clock; samples = samples; first = first; lines = lines; bills = bills; meters = meters; closed = closed }
state_by s clock samples first lines bills meters closed a b d e f g h = rw (← a, ← b, ← d, ← e, ← f, ← g, ← h)

line_is : (c : Config) → Good c → (s : State) (a : Account) → Agrees c s a → Closes c s a → (i : ℕ) → i < 16 → line_at s.lines i ≡ line_in c a.journal i
unfolding line_in sections
line_is c good s a both old i l =
    let y = both.lines i l in
    let left : (line_at s.lines i).remainder ≡ impulses_of always i (whole c a.journal) * (input_at c.inputs i).numerator % (input_at c.inputs i).denominator =
    y.remainder ∙ left_good (input_at c.inputs i) _ (good.1.0 i l) in
    line_by (line_at s.lines i) _ _ _ _ y.run y.rejected left (old.units i l)

-- a list of n entries, each of which is known
list_is : {A : Type 0} (n : ℕ) (xs : List A) (d : A) (f : ℕ → A) → length xs ≡ n → ((i : ℕ) → i < n → get_or xs i d ≡ f i) → xs ≡ table n f
list_is n xs d f long each = sym (table_self n xs d long) ∙ table_cong n _ f each

-- A start with any chosen slots and a buffer of any length
module _ (setup : Setup) (lent : ℕ) where
  closes : (c : Config) → Good c → (time : ℕ) (calls : List Call) → Closes c (reached setup lent c time calls).state (account_of c time calls)
  closes c good time =
      by_calls setup lent c time (Closes c) (fresh_closes c time)
      (λ earlier call. call_closes c (reached setup lent c time earlier).state (account_of c time earlier) call good (agrees setup lent c time earlier) (hold_never_acts setup lent c good time earlier))

  pub state_is : (c : Config) → Good c → (time : ℕ) (calls : List Call) → (reached setup lent c time calls).state ≡ state_in c (account_of c time calls)
  unfolding state_in
  state_is c good time calls =
      let s = (reached setup lent c time calls).state in
      let a = account_of c time calls in
      let both = agrees setup lent c time calls in
      let old = closes c good time calls in
      let sound = reached_is_sound setup lent c time calls in
      let lines : s.lines ≡ table 16 (line_in c a.journal) = list_is 16 s.lines _ _ sound.lines.sixteen (line_is c good s a both old) in
      let bills : s.bills ≡ table 16 (bill_in c a.journal) = list_is 16 s.bills _ _ sound.bills.sixteen both.bills in
      let meters : s.meters ≡ table 32 (λ i. meter_in (last_reading a.journal i)) = list_is 32 s.meters _ _ sound.meters both.meters in
      state_by s _ _ _ _ _ _ _ both.clock both.samples both.first lines bills meters old.closed

  -- the whole recorder, but for where its records stand
  pub recorder_is : (c : Config) → Good c → (time : ℕ) (calls : List Call)
      → reached setup lent c time calls ≡ record { config = c; setup = setup; state = state_in c (account_of c time calls); profile = (reached setup lent c time calls).profile }
  recorder_is c good time calls =
      let stays = start_stays setup lent c time calls in
      (λ i. record { config = stays.0 i; setup = stays.1 i; state = state_is c good time calls i; profile = (reached setup lent c time calls).profile })

  pub state_of_history : StateOfHistory setup lent
  state_of_history c good some time calls =
      recorder_is c good.good time calls
      ∙ ap (λ (p : Profile). record { config = c; setup = setup; state = state_in c (account_of c time calls); profile = p }) (profile_is setup lent c some time calls)

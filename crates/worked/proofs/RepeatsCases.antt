-- The gateway's day: quiet samples are all accepted and bring the clock on by a hundredth of a second each; the readings are those of the account. The single readings are computed.
use mathlib.Core.Path.{◌≡◌, refl, sym, ap, subst, ◌∙◌}
use mathlib.Core.Bool.{true, false, true≢false, ◌&&◌}
use mathlib.Core.List.{List, [], ◌∷◌, ◌++◌}
use Prim.Native.Nat.{ℕ, zero, suc, ◌+◌, ◌*◌, ◌/◌, ◌<◌, ◌≤◌}
use native.Mathlib.Nat.{add-zero}
use native.Mathlib.Omega.{arith}
use borrow.Author.Tests.{lt-ltb, le-ltb, eq-eqb, ne_eqb, eqb-true, eqb-false}
use lib.Dec.{ltb, eqb}
use lib.IntN.{ℤ, pos, ◌+ℤ◌, +ℤ_idl, +ℤ_idr}
use lib.ListN.{drop, replicate}
use Rattle.laws.specs.Answers.{given}
use Rattle.laws.specs.Any.{any}
use Rattle.laws.specs.Bytes.{bytes_of}
use Rattle.laws.specs.Each.{Each}
use Rattle.laws.specs.First.{first}
use Rattle.laws.specs.Masks.{bit_at}
use Rattle.laws.specs.SignedTotal.{totalℤ}
use Rattle.laws.specs.Spans.{span}
use Rattle.laws.specs.Tables.{table}
use Rattle.laws.specs.Total.{total}
use Rattle.laws.proofs.Any.{any_none}
use Rattle.laws.proofs.Each.{each_so}
use Rattle.laws.proofs.Tests.{by_test}
use Rattle.calendar.specs.Dates.{month_length, year_length}
use Rattle.calendar.specs.Moments.{year_day, moment_of}
use Rattle.settings.specs.Rules.{zero_input}
use Rattle.counting.specs.Filter.{input_at}
use Rattle.sampling.specs.Periods.{multiple}
use Rattle.sampling.specs.Samples.{active_at}
use Rattle.sampling.specs.declared.State.{State}
use Rattle.recorder.specs.Meters.{meter_at, renewed, kept}
use Rattle.recorder.specs.History.{Call, sample, reading, after_all}
use Rattle.recorder.specs.declared.Recorder.{Recorder}
use Rattle.recorder.specs.declared.Setup.{Setup}
use Rattle.registers.specs.Registers.{groups, look_up, register_reply}
use Rattle.demands.specs.Account.{Entry, took, heard, Heard, Reading, readings_of, renews, left_by, last_reading, Account, run_of, ends_run, in_use, books_at, feeding, next_sample, due_to, overfull, number_of_sample, number_of_reading, answer_of_reading, stepped, counted, with_call, account_of, journal_of}
use Rattle.demands.specs.Demand2.{reached, with_samples}
use Rattle.worked.specs.Example.{two_makers, start}
use Rattle.worked.specs.RepeatsCases.{quiet, gateway, sent_for, of_one, serial, EveryMinute, Try, TryClaim, tries, RepeatsCases}
use Rattle.demands.specs.Shown.{awake_in, fleet_in, shown}
use Rattle.demands.specs.State.{meter_in, state_in}
use Rattle.demands.proofs.ClockBack.{hundredths, entered_is, later}
use Rattle.worked.proofs.ClockBackCases.{same_fleet}
use Rattle.worked.proofs.Example.{two_accepted}
use Rattle.demands.proofs.Levels.{state_is, recorder_is}
use Rattle.demands.proofs.Repeats.{kept_left, answers_of_readings}
use Rattle.demands.proofs.Shown.{fleet_of_history, registers_of_history}
use Rattle.demands.proofs.Sums.{sum_added, added_zero}

-- Samples in which no line is active

no_line_lem : (i : ℕ) → active_at two_makers.inputs 2 i ≡ false
unfolding active_at bit_at
no_line_lem zero = refl
no_line_lem (suc zero) = refl
no_line_lem (suc (suc zero)) = refl
no_line_lem (suc (suc (suc i))) = rw (unused 13 i)
  where
    unused : (n i : ℕ) → input_at (replicate n zero_input) i ≡ zero_input
    unused zero i = refl
    unused (suc n) zero = refl
    unused (suc n) (suc i) = unused n i

-- an account in which no run is on, n hundredths of a second after noon
record Passed (n : ℕ) (a : Account) : Type 0 where
  runs : (i : ℕ) → run_of two_makers i a.journal ≡ 0
  clock : hundredths a.time ≡ 4_320_000 + n
  few : a.time.samples < 100

module _ (a : Account) (runs : (i : ℕ) → run_of two_makers i a.journal ≡ 0) where
  -- such a sample brings nothing, and is accepted
  no_units : (i : ℕ) → (next_sample two_makers a 2).units i ≡ 0
  no_units i = let none : ends_run two_makers 2 a.journal i ≡ false = rw (no_line_lem i, runs i) in rw (none, add-zero) (omega arith)

  none_due : (j : ℕ) → due_to two_makers j (next_sample two_makers a 2) ≡ 0
  none_due j =
      by_test (books_at two_makers j a.time.second)
      (λ t. rw t (sum_added (feeding two_makers j) _ ∙ added_zero (bit_at (feeding two_makers j)) _ 16 (λ i l e. no_units i)))
      (λ f. rw f)

  accepted : a.time.second < 4_294_967_295 → number_of_sample two_makers a 2 ≡ 0
  unfolding number_of_sample overfull
  accepted early =
      let on : (eqb a.time.second 4_294_967_295 && eqb a.time.samples 99) ≡ false = rw (ne_eqb a.time.second 4_294_967_295 (λ e. omega (arith, e))) in
      let none : any 16 (overfull two_makers a.journal (next_sample two_makers a 2)) ≡ false = any_none 16 _ (λ j l. nothing j) in
      rw (on, none)
    where
      nothing : (j : ℕ) → overfull two_makers a.journal (next_sample two_makers a 2) j ≡ false
      nothing j = rw (none_due j) (by_test (in_use two_makers j) (λ t. rw t) (λ f. rw f))

-- one more
next_quiet : (n : ℕ) (a : Account) → n ≤ 9_000_000 → Passed n a → Passed (suc n) (with_call two_makers a (sample 2))
unfolding with_call counted stepped
next_quiet n a l p =
    rw (accepted a p.runs (omega (arith, p.clock)))
    (by_test (eqb a.time.samples 99)
    (λ last.
    rw last
    (by_test (multiple two_makers.period (a.time.second + 1))
    (λ t. rw t (record { runs = runs; clock = omega (arith, p.clock, eqb-true a.time.samples 99 last); few = omega arith }))
    (λ f. rw f (record { runs = runs; clock = omega (arith, p.clock, eqb-true a.time.samples 99 last); few = omega arith }))))
    (λ more. rw more (record { runs = runs; clock = omega (arith, p.clock); few = omega (arith, p.few, eqb-false a.time.samples 99 more) })))
  where
    runs : (i : ℕ) → run_of two_makers i (took 2 a.time.second ∷ a.journal) ≡ 0
    runs i = rw (no_line_lem i)

many_quiet : (k n : ℕ) (calls : List Call) → n + k ≤ 9_000_000 → Passed n (account_of two_makers start calls) → Passed (n + k) (account_of two_makers start (with_samples (quiet k) calls))
unfolding quiet account_of
many_quiet zero n calls l p = rw add-zero p
many_quiet (suc k) n calls l p =
    subst (λ (m : ℕ). Passed m (account_of two_makers start (with_samples (quiet k) (sample 2 ∷ calls)))) (omega arith)
    (many_quiet k (suc n) (sample 2 ∷ calls) (omega arith) (next_quiet n _ (omega arith) p))

-- The gateway's readings

-- what the readings of meter 1 leave, and that no other meter was read
record Sends (v : ℤ) (journal : List Entry) : Type 0 where
  one : last_reading journal 1 ≡ record { read = true; stamp = 43_200; value = v; status = 0; seq = 5 }
  others : (i : ℕ) → eqb 1 i ≡ false → readings_of journal i ≡ []

-- SEQ 5 again is no sign of life, SEQ 6 is one
repeated : (h : List Heard) → (left_by h).read ≡ true → (left_by h).seq ≡ 5 → renews 5 h ≡ false
repeated [] r e = absurd (true≢false (sym r))
repeated (last ∷ earlier) r e = rw (eq-eqb last.seq 5 e)

another : (h : List Heard) → (left_by h).seq ≡ 5 → renews 6 h ≡ true
another [] e = refl
another (last ∷ earlier) e = rw (ne_eqb last.seq 6 (λ f. omega (arith, e, f)))

module _ {v : ℤ} {journal : List Entry} (s : Sends v journal) where
  same_seq : renews 5 (readings_of journal 1) ≡ false
  same_seq = repeated (readings_of journal 1) (ap (λ (m : Reading). m.read) s.one) (ap (λ (m : Reading). m.seq) s.one)

  other_seq : renews 6 (readings_of journal 1) ≡ true
  other_seq = another (readings_of journal 1) (ap (λ (m : Reading). m.seq) s.one)

  -- one reading more
  sends_next : (now : ℕ) (w : ℤ) → Sends w (heard now 1 w 0 5 ∷ journal)
  sends_next now w =
      record {
        one = kept_left 5 (readings_of journal 1) now w 0 same_seq ∙ ap (λ (m : Reading). record { read = true; stamp = m.stamp; value = w; status = 0; seq = 5 }) s.one;
        others = λ i f. rw f (s.others i f);
      }

-- and samples more
sends_on : (v : ℤ) (calls : List Call) (run : List ℕ) → Sends v (journal_of two_makers start calls) → Sends v (journal_of two_makers start (with_samples run calls))
sends_on v calls run s =
    let same = (later two_makers start calls run).readings in
    record { one = ap left_by (same 1) ∙ s.one; others = λ i f. same i ∙ s.others i f }

-- a reading of meter 1 is taken
taken : (seq : ℕ) → ltb 31 seq ≡ false → number_of_reading two_makers 1 0 seq ≡ 0
unfolding number_of_reading
taken seq few = rw few

-- the account n hundredths of a second after noon, with the last value sent
record At (n : ℕ) (v : ℤ) (a : Account) : Type 0 where
  passed : Passed n a
  sends : Sends v a.journal

reading_on : (n : ℕ) (v w : ℤ) (a : Account) → At n v a → At n w (with_call two_makers a (reading 1 w 0 5))
reading_on n v w a at =
    rw (entered_is two_makers a 1 w 0 5 (taken 5 refl))
    (record {
      passed = record { runs = at.passed.runs; clock = at.passed.clock; few = at.passed.few };
      sends = sends_next at.sends a.time.second w;
    })

samples_on : (k n : ℕ) (v : ℤ) (calls : List Call) → n + k ≤ 9_000_000 → At n v (account_of two_makers start calls) → At (n + k) v (account_of two_makers start (with_samples (quiet k) calls))
samples_on k n v calls l at = record { passed = many_quiet k n calls l at.passed; sends = sends_on v calls (quiet k) at.sends }

module _ (value : ℕ → ℤ) where
  at_minute : (n : ℕ) → n ≤ 1_440 → At (6_000 * n) (value n) (account_of two_makers start (gateway value n))
  unfolding gateway account_of
  at_minute zero l =
      rw (entered_is two_makers _ 1 (value 0) 0 5 (taken 5 refl))
      (record {
        passed = record { runs = λ i. refl; clock = omega arith; few = omega arith };
        sends = record { one = refl; others = λ i f. rw f };
      })
  at_minute (suc n) l =
      let minute = samples_on 6_000 (6_000 * n) (value n) (gateway value n) (omega arith) (at_minute n (omega arith)) in
      subst (λ (m : ℕ). At m (value (suc n)) (with_call two_makers (account_of two_makers start (with_samples (quiet 6_000) (gateway value n))) (reading 1 (value (suc n)) 0 5))) (omega arith)
      (reading_on (6_000 * n + 6_000) (value n) (value (suc n)) _ minute)

  -- and some samples after the reading
  at : (n k : ℕ) → n ≤ 1_440 → k ≤ 6_000 → At (6_000 * n + k) (value n) (account_of two_makers start (sent_for value n k))
  at n k l m = samples_on k (6_000 * n) (value n) (gateway value n) (omega arith) (at_minute n l)

-- What is shown

-- the second of the clock
second_is : (n k : ℕ) (v : ℤ) (a : Account) → At (6_000 * n + k) v a → a.time.second ≡ 43_200 + 60 * n + k / 100
second_is n k v a at = omega (arith, at.passed.clock, at.passed.few)

-- an account with one reading of meter 1
abbrev one_at : ℕ → ℕ → ℕ → ℤ → Account
one_at now stamp seq v = record { time = record { second = now; samples = 0; first = now }; journal = heard stamp 1 v 0 seq ∷ [] }

-- a value with the zeros of n meters that are not awake
abbrev plus_zeros : ℕ → ℤ → ℤ
plus_zeros zero v = v
plus_zeros (suc n) v = plus_zeros n v +ℤ pos 0

with_zeros : (n : ℕ) (v : ℤ) → plus_zeros n v ≡ v
with_zeros zero v = refl
with_zeros (suc n) v = +ℤ_idr (plus_zeros n v) ∙ with_zeros n v

-- its fleet
awake_one : (now stamp seq : ℕ) (v : ℤ) → stamp ≤ now → now ≤ stamp + 900 → fleet_in two_makers (one_at now stamp seq v) ≡ of_one 1 0 v
unfolding total totalℤ fleet_in awake_in
awake_one now stamp seq v early late = rw (le-ltb now stamp early, le-ltb (stamp + 900) now late, +ℤ_idl v) (ap (of_one 1 0) (with_zeros 30 v))

stale_one : (now stamp seq : ℕ) (v : ℤ) → stamp + 900 < now → fleet_in two_makers (one_at now stamp seq v) ≡ of_one 0 1 (pos 0)
unfolding total totalℤ fleet_in awake_in
stale_one now stamp seq v late = rw (le-ltb now stamp (omega arith), lt-ltb (stamp + 900) now late)

-- the fleet goes by the last reading
fleet_is : (now stamp seq : ℕ) (v : ℤ) (a : Account) → a.time.second ≡ now → last_reading a.journal 1 ≡ record { read = true; stamp = stamp; value = v; status = 0; seq = seq }
    → ((i : ℕ) → eqb 1 i ≡ false → readings_of a.journal i ≡ []) → fleet_in two_makers a ≡ fleet_in two_makers (one_at now stamp seq v)
fleet_is now stamp seq v a clock one others =
    same_fleet a (one_at now stamp seq v) clock (λ i. by_test (eqb 1 i) (λ t. rw (t, ← eqb-true 1 i t) one) (λ f. rw (f, others i f)))

-- register 1 of group 82, awake or not
shown_awake : (now : ℕ) (v : ℤ) (a : Account) → a.time.second ≡ now → Sends v a.journal → now ≤ 44_100 → 43_200 ≤ now → shown two_makers a 82 1 ++ drop 10 (replicate 10 0) ≡ serial v 0
unfolding bytes_of awake_in shown
shown_awake now v a clock s late early = rw (s.one, clock, le-ltb now 43_200 early, le-ltb 44_100 now late)

shown_stale : (now : ℕ) (v : ℤ) (a : Account) → a.time.second ≡ now → Sends v a.journal → 44_100 < now → shown two_makers a 82 1 ++ drop 10 (replicate 10 0) ≡ serial v 1
unfolding bytes_of awake_in shown
shown_stale now v a clock s late = rw (s.one, clock, le-ltb now 43_200 (omega arith), lt-ltb 44_100 now late)

-- what the readings are answered
first_renews : answer_of_reading two_makers (journal_of two_makers start []) 1 0 5 ≡ given renewed
unfolding number_of_reading answer_of_reading account_of
first_renews = refl

again_keeps : (v : ℤ) (journal : List Entry) → Sends v journal → answer_of_reading two_makers journal 1 0 5 ≡ given kept
unfolding answer_of_reading
again_keeps v journal s = rw (taken 5 refl, same_seq s)

-- another SEQ makes the meter awake
awake_again : (v w : ℤ) (a : Account) → Sends w a.journal → fleet_in two_makers (with_call two_makers a (reading 1 v 0 6)) ≡ of_one 1 0 v
awake_again v w a s =
    let now = a.time.second in
    rw (entered_is two_makers a 1 v 0 6 (taken 6 refl))
    (fleet_is now now 6 v _ refl (rw (other_seq s)) (λ i f. rw f (s.others i f)) ∙ awake_one now now 6 v (omega arith) (omega arith))

-- parts of the state
clock_of : (a : Account) → (state_in two_makers a).clock ≡ a.time.second
unfolding state_in
clock_of a = refl

second_meter : (a : Account) → meter_at (state_in two_makers a).meters 1 ≡ meter_in (last_reading a.journal 1)
unfolding state_in table
second_meter a = refl

-- a single reading, by the account
abbrev InAccount : Try → Type 0
InAccount t =
    (answer_of_reading two_makers (journal_of two_makers start t.before) 1 2 t.seq ≡ given t.said)
    × (meter_in (last_reading (journal_of two_makers start (reading 1 (pos 9) 2 t.seq ∷ t.before)) 1) ≡ record { read = true; stamp = t.stamp; value = pos 9; status = 2; seq = t.seq })

tries_hold : Each InAccount tries
unfolding total first span month_length year_length year_day moment_of number_of_reading answer_of_reading with_call account_of
tries_hold =
    ((refl, refl), ((refl, refl), ((refl, refl), ((refl, refl), ((refl, refl), ((refl, refl), ((refl, refl), ((refl, refl), ((refl, refl), ((refl, refl), ((refl, refl), ((refl, refl), tt))))))))))))

module _ (setup : Setup) (lent : ℕ) where
  -- it can be read
  readable : (calls : List Call) → (register_reply (reached setup lent two_makers start calls) 82 1 (replicate 10 0)).answer ≡ given 10
  unfolding groups look_up register_reply
  readable calls = ap (λ (r : Recorder). (register_reply r 82 1 (replicate 10 0)).answer) (recorder_is setup lent two_makers two_accepted.good start calls)

  register_is : (calls : List Call) (bytes : List ℕ) → shown two_makers (account_of two_makers start calls) 82 1 ++ drop 10 (replicate 10 0) ≡ bytes
      → register_reply (reached setup lent two_makers start calls) 82 1 (replicate 10 0) ≡ record { answer = given 10; buffer = bytes }
  register_is calls bytes e =
      let answer = readable calls in
      let buffer = registers_of_history setup lent two_makers two_accepted start calls 82 1 (replicate 10 0) 10 answer ∙ e in
      (λ i. record { answer = answer i; buffer = buffer i })

  every_minute : (value : ℕ → ℤ) → EveryMinute setup lent value
  unfolding account_of
  every_minute value =
      let fleet = fleet_of_history setup lent two_makers two_accepted start in
      let day : (n k : ℕ) → n ≤ 1_440 → k ≤ 6_000 → At (6_000 * n + k) (value n) (account_of two_makers start (sent_for value n k)) = at value in
      let now : (n k : ℕ) (l : n ≤ 1_440) (m : k ≤ 6_000) → (account_of two_makers start (sent_for value n k)).time.second ≡ 43_200 + 60 * n + k / 100 = λ n k l m. second_is n k (value n) _ (day n k l m) in
      record {
        clock = λ n k l m. ap (λ (s : State). s.clock) (state_is setup lent two_makers two_accepted.good start (sent_for value n k)) ∙ clock_of _ ∙ now n k l m;
        first = answers_of_readings setup lent two_makers start [] 1 (value 0) 0 5 ∙ first_renews;
        others = λ n l.
            answers_of_readings setup lent two_makers start (sent_for value n 6_000) 1 (value (suc n)) 0 5 ∙ again_keeps (value n) _ (day n 6_000 (omega arith) (omega arith)).sends;
        awake = λ n k m e.
            let l : n ≤ 1_440 = omega arith in
            fleet (sent_for value n k) ∙ fleet_is _ 43_200 5 (value n) _ (now n k l m) (day n k l m).sends.one (day n k l m).sends.others ∙ awake_one _ 43_200 5 (value n) (omega arith) (omega arith);
        unmarked = λ n k m e.
            let l : n ≤ 1_440 = omega arith in
            register_is (sent_for value n k) _ (shown_awake _ (value n) _ (now n k l m) (day n k l m).sends (omega arith) (omega arith));
        stale = λ n k l m e.
            fleet (sent_for value n k) ∙ fleet_is _ 43_200 5 (value n) _ (now n k l m) (day n k l m).sends.one (day n k l m).sends.others ∙ stale_one _ 43_200 5 (value n) (omega arith);
        marked = λ n k l m e. register_is (sent_for value n k) _ (shown_stale _ (value n) _ (now n k l m) (day n k l m).sends (omega arith));
        alive = λ v. fleet (reading 1 v 0 6 ∷ sent_for value 1_440 6_000) ∙ awake_again v (value 1_440) _ (day 1_440 6_000 (omega arith) (omega arith)).sends;
      }

  -- what is so of the account is so of the recorder
  try_holds : (t : Try) → InAccount t → TryClaim setup lent t
  unfolding after_all
  try_holds t h =
      let call = reading 1 (pos 9) 2 t.seq in (
        answers_of_readings setup lent two_makers start t.before 1 (pos 9) 2 t.seq ∙ h.0,
        ap (λ (s : State). meter_at s.meters 1) (state_is setup lent two_makers two_accepted.good start (call ∷ t.before)) ∙ second_meter _ ∙ h.1,
      )

  pub repeats_cases : RepeatsCases setup lent
  repeats_cases = record { day = every_minute; each = each_so InAccount (TryClaim setup lent) try_holds tries tries_hold }

-- Quiet meters after the clock went back: what the classes, the registers and the samples do to a stamp that is ahead.
use mathlib.Core.Path.{◌≡◌, refl, sym, ap, fun_ext, ◌∙◌}
use mathlib.Core.Bool.{Bool, true, false, true≢false, not, ◌&&◌, ◌||◌, cond}
use mathlib.Core.List.{List, [], ◌∷◌, ◌++◌}
use Prim.Native.Nat.{ℕ, ◌+◌, ◌*◌, ◌/◌, ◌%◌, ◌<◌, ◌≤◌}
use native.Mathlib.Omega.{arith}
use borrow.Author.Tests.{lt-ltb, le-ltb, eq-eqb, ne_eqb, ltb-true, ltb-false, eqb-true}
use lib.Dec.{ltb, eqb}
use lib.IntN.{ℤ, pos}
use lib.ListN.{length, get_or, drop}
use mir.Syntax.{w32}
use mir.Val.{of_z}
use Rattle.laws.proofs.Tests.{by_test}
use Rattle.laws.specs.Answers.{Answer, given, refused}
use Rattle.laws.specs.Bytes.{bytes_of}
use Rattle.laws.specs.Counts.{count_of}
use Rattle.laws.specs.Masks.{bit}
use Rattle.laws.specs.SignedTotal.{totalℤ}
use Rattle.laws.specs.Total.{total}
use Rattle.laws.proofs.Total.{total_cong, total_plus, total_one}
use Rattle.settings.specs.declared.Config.{Config}
use Rattle.sampling.specs.Periods.{multiple}
use Rattle.recorder.specs.History.{Call, sample, reading}
use Rattle.recorder.specs.Meters.{class_of, age_of, meter_at, Stamping, renewed, kept}
use Rattle.recorder.specs.declared.Setup.{Setup}
use Rattle.registers.specs.Fleet.{fleet_of}
use Rattle.registers.specs.declared.fleet.Fleet.{Fleet}
use Rattle.demands.specs.Account.{Time, Entry, Account, heard, readings_of, renews, last_reading, number_of_sample, number_of_reading, answer_of_reading, answer_of, stepped, counted, with_call, account_of}
use Rattle.demands.specs.Shown.{awake_in, fleet_in, serial_shown, shown}
use Rattle.demands.specs.Starts.{Accepted}
use Rattle.demands.specs.Demand2.{reached, with_samples}
use Rattle.demands.specs.ClockBack.{AheadIsStale, AheadIsMarked, read_in, ahead_in, past_in, fresh_in, SetBackIsAhead, StaysAhead, AheadIsShown, AheadIsCounted, ReadAgain, ClockBack}
use Rattle.demands.proofs.Shown.{invalid_mark, registers_of_history, fleet_of_history}

pub ahead_is_stale : AheadIsStale
unfolding class_of age_of
ahead_is_stale =
    record {
      class = λ limit stamp status clock ahead. rw (lt-ltb clock stamp ahead);
      answer = λ limit stamp status clock some low ahead. rw (ne_eqb limit 0 (λ e. omega arith), le-ltb 7 status low, lt-ltb clock stamp ahead);
    }

-- a meter that is ahead is not awake, whatever else is said of it
asleep : (none read past marked : Bool) → ((not none && (read && not (not none && (read && (true || past))))) && not marked) ≡ false
asleep true read past marked = refl
asleep false true past marked = refl
asleep false false past marked = refl

pub ahead_is_marked : AheadIsMarked
ahead_is_marked r meter buffer n e ahead =
    let m = meter_at r.state.meters meter in
    let limit = get_or r.config.limits meter 0 in
    invalid_mark r meter buffer n e
    (rw (lt-ltb r.state.clock m.stamp ahead) (asleep (eqb limit 0) m.read (ltb (m.stamp + limit) r.state.clock) (eqb (m.status % 2) 1)))

-- the awake are the fresh
pub fresh_awake : (c : Config) (a : Account) (i : ℕ) → awake_in c a i ≡ fresh_in c a i
unfolding awake_in fresh_in ahead_in past_in
fresh_awake c a i =
    let m = last_reading a.journal i in
    let limit = get_or c.limits i 0 in
    same (not (eqb limit 0)) m.read (ltb a.time.second m.stamp) (ltb (m.stamp + limit) a.time.second) (eqb (m.status % 2) 1)
  where
    same : (fitted read ahead past marked : Bool)
        → ((fitted && (read && not (fitted && (read && (ahead || past))))) && not marked) ≡ ((fitted && read) && (not ((fitted && read) && ahead) && (not ((fitted && read) && past) && not marked)))
    same false read ahead past marked = refl
    same true false ahead past marked = refl
    same true true true past marked = refl
    same true true false true marked = refl
    same true true false false marked = refl

-- so none that is ahead is awake
ahead_asleep : (c : Config) (a : Account) (i : ℕ) → ahead_in c a i ≡ true → awake_in c a i ≡ false
unfolding fresh_in
ahead_asleep c a i e = fresh_awake c a i ∙ rw e (by_test (read_in c a i) (λ t. rw t) (λ f. rw f))

pub set_back_is_ahead : SetBackIsAhead
unfolding ahead_in account_of with_call
set_back_is_ahead c time calls seconds i e read before = rw (e, read) (lt-ltb seconds (last_reading (account_of c time calls).journal i).stamp before)

-- Samples move the clock by at most one hundredth of a second each, and no reading

abbrev pub hundredths : Time → ℕ
hundredths t = 100 * t.second + t.samples

pub record Later (n : ℕ) (a b : Account) : Type 0 where
  pub clock : hundredths b.time ≤ hundredths a.time + n
  pub readings : (i : ℕ) → readings_of b.journal i ≡ readings_of a.journal i

pub one_later : (c : Config) (a : Account) (bits : ℕ) → Later 1 a (with_call c a (sample bits))
unfolding with_call counted stepped
one_later c a bits =
    by_test (eqb (number_of_sample c a bits) 0)
    (λ taken.
    rw taken
    (by_test (eqb a.time.samples 99)
    (λ last.
    rw last
    (by_test (multiple c.period (a.time.second + 1))
    (λ t. rw t (record { clock = omega (arith, eqb-true a.time.samples 99 last); readings = λ i. refl }))
    (λ f. rw f (record { clock = omega (arith, eqb-true a.time.samples 99 last); readings = λ i. refl }))))
    (λ more. rw more (record { clock = omega arith; readings = λ i. refl }))))
    (λ refused. rw refused (record { clock = omega arith; readings = λ i. refl }))

pub later : (c : Config) (time : ℕ) (calls : List Call) (run : List ℕ) → Later (length run) (account_of c time calls) (account_of c time (with_samples run calls))
unfolding account_of
later c time calls [] = record { clock = omega arith; readings = λ i. refl }
later c time calls (bits ∷ run) =
    let first = one_later c (account_of c time calls) bits in
    let rest = later c time (sample bits ∷ calls) run in
    record { clock = omega (arith, first.clock, rest.clock); readings = λ i. rest.readings i ∙ first.readings i }

pub stays_ahead : StaysAhead
unfolding ahead_in
stays_ahead c time calls run i read few =
    let a = account_of c time calls in
    let b = account_of c time (with_samples run calls) in
    let after = later c time calls run in
    rw (after.readings i, read) (lt-ltb b.time.second (last_reading a.journal i).stamp (omega (arith, after.clock)))

-- each of the stale is ahead or past, and none is both
either : (fitted read ahead past : Bool) → (ahead ≡ true → past ≡ false) → bit (fitted && (read && (ahead || past))) ≡ bit ((fitted && read) && ahead) + bit ((fitted && read) && past)
either false read ahead past h = refl
either true false ahead past h = refl
either true true true past h = rw (h refl)
either true true false true h = refl
either true true false false h = refl

-- how many are stale
abbrev pub stale_count : Config → Account → ℕ
stale_count c a = total 32 (λ i. bit (ahead_in c a i) + bit (past_in c a i))

-- answers told apart
abbrev pub is_given : Answer Stamping → Bool
is_given (given x) = true
is_given (refused n offset) = false

abbrev pub is_kept : Answer Stamping → Bool
is_kept (given renewed) = false
is_kept (given kept) = true
is_kept (refused n offset) = false

-- a reading that is taken is one of a meter that is there and fitted
pub record Taken (c : Config) (meter : ℕ) : Type 0 where
  pub there : meter < 32
  pub fitted : eqb (get_or c.limits meter 0) 0 ≡ false

pub taken_is : (c : Config) (meter status seq : ℕ) → number_of_reading c meter status seq ≡ 0 → Taken c meter
unfolding number_of_reading
taken_is c meter status seq e =
    by_test (ltb 31 meter) (λ t. absurd (omega (arith, rw t at e)))
    (λ f.
    by_test (eqb (get_or c.limits meter 0) 0) (λ t. absurd (omega (arith, rw (f, t) at e)))
    (λ g. record { there = omega (arith, ltb-false 31 meter f); fitted = g }))

-- one that renews the stamp, or keeps it, is taken
renewed_is : (c : Config) (journal : List Entry) (meter status seq : ℕ) → answer_of_reading c journal meter status seq ≡ given renewed
    → (number_of_reading c meter status seq ≡ 0) × (renews seq (readings_of journal meter) ≡ true)
unfolding answer_of_reading
renewed_is c journal meter status seq e =
    by_test (eqb (number_of_reading c meter status seq) 0)
    (λ t.
    by_test (renews seq (readings_of journal meter)) (λ fresh. (eqb-true _ _ t, fresh)) (λ f. absurd (true≢false (ap is_kept (rw (t, f) at e)))))
    (λ f. absurd (true≢false (sym (ap is_given (rw f at e)))))

pub kept_is : (c : Config) (journal : List Entry) (meter status seq : ℕ) → answer_of_reading c journal meter status seq ≡ given kept
    → (number_of_reading c meter status seq ≡ 0) × (renews seq (readings_of journal meter) ≡ false)
unfolding answer_of_reading
kept_is c journal meter status seq e =
    by_test (eqb (number_of_reading c meter status seq) 0)
    (λ t.
    by_test (renews seq (readings_of journal meter)) (λ r. absurd (true≢false (sym (ap is_kept (rw (t, r) at e))))) (λ f. (eqb-true _ _ t, f)))
    (λ f. absurd (true≢false (sym (ap is_given (rw f at e)))))

-- and is entered
pub entered_is : (c : Config) (a : Account) (meter : ℕ) (value : ℤ) (status seq : ℕ) → answer_of c a (reading meter value status seq) ≡ 0
    → with_call c a (reading meter value status seq) ≡ record { time = a.time; journal = heard a.time.second meter value status seq ∷ a.journal }
unfolding with_call
entered_is c a meter value status seq e = rw e

module _ (c : Config) (a : Account) (meter : ℕ) (value : ℤ) (status seq : ℕ) where
  -- the account with the reading entered
  abbrev pub read : Account
  read = record { time = a.time; journal = heard a.time.second meter value status seq ∷ a.journal }

  -- all other meters are as they were
  pub others_read : (j : ℕ) → (j ≡ meter → ⊥) → (ahead_in c a j ≡ ahead_in c read j) × (past_in c a j ≡ past_in c read j)
  unfolding ahead_in past_in
  others_read j other = let no = ne_eqb meter j (λ e. other (sym e)) in (rw no, rw no)

-- one that renewed the stamp
module _ (c : Config) (a : Account) (meter : ℕ) (value : ℤ) (status seq : ℕ) (taken : Taken c meter) (fresh : renews seq (readings_of a.journal meter) ≡ true) where
  -- the account with it
  abbrev renewing : Account
  renewing = read c a meter value status seq

  abbrev now : ℕ
  now = a.time.second

  -- a stamp at the clock is neither ahead nor past
  no_ahead : ltb now now ≡ false
  no_ahead = le-ltb now now (omega arith)

  no_past : ltb (now + get_or c.limits meter 0) now ≡ false
  no_past = le-ltb (now + get_or c.limits meter 0) now (omega arith)

  ahead_read : ahead_in c renewing meter ≡ false
  unfolding ahead_in
  ahead_read = rw (eq-eqb meter meter refl, fresh, taken.fitted, no_ahead)

  past_read : past_in c renewing meter ≡ false
  unfolding past_in
  past_read = rw (eq-eqb meter meter refl, fresh, taken.fitted, no_past)

  awake_read : awake_in c renewing meter ≡ not (eqb (status % 2) 1)
  unfolding awake_in
  awake_read = rw (eq-eqb meter meter refl, fresh, taken.fitted, no_ahead, no_past)

  stale_read : stale_count c a ≡ stale_count c renewing + (bit (ahead_in c a meter) + bit (past_in c a meter))
  stale_read = total_one 32 _ _ meter _ taken.there (rw (ahead_read, past_read) (omega arith)) (λ j l other. rw ((others_read c a meter value status seq j other).0, (others_read c a meter value status seq j other).1))

  -- IV is shown where it was sent
  shown_read : shown c renewing 82 meter ≡ bytes_of 4 now ++ (bytes_of 4 (of_z w32 value) ++ (bytes_of 1 status ++ bytes_of 1 seq))
  unfolding shown
  shown_read =
      rw (eq-eqb meter meter refl, awake_read, fresh)
      (by_test (eqb (status % 2) 1)
      (λ marked. let same : status / 2 * 2 + 1 ≡ status = omega (arith, eqb-true (status % 2) 1 marked) in rw (marked, same))
      (λ clear. rw clear))

module _ (setup : Setup) (lent : ℕ) where
  pub ahead_is_shown : AheadIsShown setup lent
  unfolding shown
  ahead_is_shown c accepted time calls meter buffer n ahead answered =
      let a = account_of c time calls in
      registers_of_history setup lent c accepted time calls 82 meter buffer n answered
      ∙ ap (λ (awake : Bool). serial_shown (last_reading a.journal meter) awake ++ drop n buffer) (ahead_asleep c a meter ahead)

  pub stale_is : (c : Config) → Accepted c → (time : ℕ) (calls : List Call) → (fleet_of (reached setup lent c time calls)).stale ≡ stale_count c (account_of c time calls)
  unfolding fleet_in ahead_in past_in
  stale_is c accepted time calls =
      let a = account_of c time calls in
      ap (λ (f : Fleet). f.stale) (fleet_of_history setup lent c accepted time calls)
      ∙ total_cong 32 _ _
      (λ i l.
      let stamp = (last_reading a.journal i).stamp in
      let limit = get_or c.limits i 0 in
      either (not (eqb limit 0)) (last_reading a.journal i).read (ltb a.time.second stamp) (ltb (stamp + limit) a.time.second)
      (λ ahead. le-ltb (stamp + limit) a.time.second (omega (arith, ltb-true a.time.second stamp ahead))))

  pub ahead_is_counted : AheadIsCounted setup lent
  unfolding fleet_in
  ahead_is_counted c accepted time calls =
      let a = account_of c time calls in
      let fleet = fleet_of_history setup lent c accepted time calls in
      let fresh : ◌≡◌ {A = ℕ → Bool} (λ i. awake_in c a i) (λ i. fresh_in c a i) = fun_ext (fresh_awake c a) in (
        stale_is c accepted time calls ∙ total_plus 32 _ _,
        ap (λ (f : Fleet). f.awake) fleet ∙ ap (λ (p : ℕ → Bool). count_of 32 p) fresh,
        ap (λ (f : Fleet). f.sum) fleet ∙ ap (λ (p : ℕ → Bool). totalℤ 32 (λ i. cond (p i) (last_reading a.journal i).value (pos 0))) fresh,
      )

  pub read_again : ReadAgain setup lent
  unfolding account_of
  read_again c accepted time calls meter value status seq e =
      let call = reading meter value status seq in
      let a = account_of c time calls in
      let (number, fresh) = renewed_is c a.journal meter status seq e in
      let taken = taken_is c meter status seq number in
      let is : account_of c time (call ∷ calls) ≡ read c a meter value status seq = entered_is c a meter value status seq number in
      record {
        not_ahead = ap (λ (x : Account). ahead_in c x meter) is ∙ ahead_read c a meter value status seq taken fresh;
        not_past = ap (λ (x : Account). past_in c x meter) is ∙ past_read c a meter value status seq taken fresh;
        fresh = ap (λ (x : Account). fresh_in c x meter) is ∙ sym (fresh_awake c (read c a meter value status seq) meter) ∙ awake_read c a meter value status seq taken fresh;
        one_less =
            stale_is c accepted time calls ∙ stale_read c a meter value status seq taken fresh
            ∙ ap (λ (n : ℕ). n + (bit (ahead_in c a meter) + bit (past_in c a meter))) (ap (λ (x : Account). stale_count c x) (sym is) ∙ sym (stale_is c accepted time (call ∷ calls)));
        register = λ buffer n answered.
            registers_of_history setup lent c accepted time (call ∷ calls) 82 meter buffer n answered
            ∙ ap (λ (bytes : List ℕ). bytes ++ drop n buffer) (ap (λ (x : Account). shown c x 82 meter) is ∙ shown_read c a meter value status seq taken fresh);
      }

  pub clock_back : ClockBack setup lent
  clock_back =
      record {
        stale = ahead_is_stale;
        marked = ahead_is_marked;
        set_back = set_back_is_ahead;
        stays = stays_ahead;
        shown = ahead_is_shown;
        counted = ahead_is_counted;
        read_again = read_again;
      }

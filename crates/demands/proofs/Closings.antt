-- Which periods a call closes, in the recorder and in the account, and so where the records stand.
use mathlib.Core.Path.{◌≡◌, refl, sym, ap₂, ◌∙◌}
use mathlib.Core.List.{List, [], ◌∷◌}
use mathlib.Core.Logic.{◌⊎◌, inl, inr, ⊎_elim}
use Prim.Native.Nat.{ℕ, ◌+◌, ◌/◌, ◌%◌, ◌≤◌, min}
use native.Mathlib.Nat.{zero-mod}
use native.Mathlib.Omega.{arith}
use borrow.Author.Tests.{ne_eqb}
use lib.Dec.{eqb, leb}
use lib.IntN.{ℤ}
use lib.ListN.{length}
use Rattle.laws.specs.Answers.{given, reply_to}
use Rattle.laws.proofs.Tests.{by_test}
use Rattle.settings.specs.declared.Config.{Config}
use Rattle.profile.specs.Room.{moved_by}
use Rattle.profile.specs.declared.Profile.{Profile}
use Rattle.profile.proofs.Ring.{moves_on}
use Rattle.sampling.specs.Periods.{multiple, tick_of}
use Rattle.sampling.specs.Samples.{booking_on, counted_of, clock_end, sample_of}
use Rattle.sampling.specs.Closed.{closed_by}
use Rattle.sampling.specs.declared.Period.{Period}
use Rattle.sampling.specs.declared.State.{State}
use Rattle.recorder.specs.Clock.{set_of}
use Rattle.recorder.specs.Profile.{records_of, closed_by_set}
use Rattle.recorder.specs.History.{Call, sample, set, reading, reset, after_all}
use Rattle.recorder.specs.declared.Setup.{Setup}
use Rattle.recorder.proofs.Sound.{start_stays}
use Rattle.calendar.proofs.Moments.{dated_or_not}
use Rattle.demands.specs.Account.{Entry, Ended, Account, periods_of, number_of_sample, number_of_reading, stepped, counted, with_call, account_of, journal_of}
use Rattle.demands.specs.State.{profile_in}
use Rattle.demands.specs.Demand2.{reached}
use Rattle.demands.proofs.Keeps.{booked_state}
use Rattle.demands.proofs.Agrees.{Agrees, longer, hundredth, end_same, full_same, booked_agrees, state_after, agrees}

-- the periods that a call closes
abbrev pub closed_with : Config → State → Call → List Period
closed_with c s (sample bits) = closed_by c (sample_of c s bits)
closed_with c s (set seconds) = closed_by_set (set_of c s seconds)
closed_with c s (reading meter v status seq) = []
closed_with c s reset = []

-- a call closes no period, in the recorder and in the account; or one, which is then the recorder's last
abbrev pub CallCloses : List Period → State → List Ended → List Ended → Type 0
CallCloses closed next before after =
    ((closed ≡ []) × (after ≡ before)) ⊎ ((e : Ended) × (closed ≡ next.closed ∷ []) × (after ≡ e ∷ before))

-- a sample that was booked
counted_periods : (c : Config) (s : State) (a : Account) → Agrees c s a → (journal : List Entry)
    → CallCloses (closed_by c (given (counted_of c s))) (counted_of c s) (periods_of c journal) (periods_of c (counted c a.time journal).journal)
unfolding counted_of counted stepped tick_of
counted_periods c s a old journal =
    by_test (leb 99 s.samples)
    (λ t.
    by_test (multiple c.period (a.time.second + 1))
    (λ m. rw (t, sym (hundredth c s a old) ∙ t, old.clock, m, m) (inr (_, refl, refl)))
    (λ m. rw (t, sym (hundredth c s a old) ∙ t, old.clock, m, m) (inl (refl, refl))))
    (λ f. rw (f, sym (hundredth c s a old) ∙ f, ne_eqb (s.samples + 1) 0 (λ z. omega arith)) (inl (refl, refl)))

sample_periods : (c : Config) (s : State) (a : Account) (bits : ℕ) → Agrees c s a
    → CallCloses (closed_by c (sample_of c s bits)) (reply_to s (sample_of c s bits)).after (periods_of c a.journal) (periods_of c (with_call c a (sample bits)).journal)
unfolding sample_of number_of_sample with_call
sample_periods c s a bits old =
    by_test (clock_end s)
    (λ t. rw (t, sym (end_same c s a bits old) ∙ t) (inl (refl, refl)))
    (λ f.
    let g = sym (end_same c s a bits old) ∙ f in
    by_test (booking_on c s bits).full
    (λ t. rw (f, g, t, sym (full_same c s a bits old) ∙ t) (inl (refl, refl)))
    (λ h.
    rw (f, g, h, sym (full_same c s a bits old) ∙ h)
    (counted_periods c (booked_state c s bits) (record { time = a.time; journal = longer a bits }) (booked_agrees c s a bits old h) (longer a bits))))

set_periods : (c : Config) (s : State) (a : Account) (seconds : ℕ)
    → CallCloses (closed_by_set (set_of c s seconds)) (reply_to s (set_of c s seconds)).after (periods_of c a.journal) (periods_of c (with_call c a (set seconds)).journal)
unfolding set_of with_call
set_periods c s a seconds = ⊎_elim (λ d. rw d.1 (inr (_, refl, refl))) (λ e. rw e (inl (refl, refl))) (dated_or_not seconds)

reading_periods : (c : Config) (a : Account) (meter : ℕ) (v : ℤ) (status seq : ℕ) → periods_of c (with_call c a (reading meter v status seq)).journal ≡ periods_of c a.journal
unfolding with_call
reading_periods c a meter v status seq = by_test (eqb (number_of_reading c meter status seq) 0) (λ t. rw t) (λ f. rw f)

reset_periods : (c : Config) (a : Account) → periods_of c (with_call c a reset).journal ≡ periods_of c a.journal
unfolding with_call
reset_periods c a = refl

pub call_periods : (c : Config) (s : State) (a : Account) (call : Call) → Agrees c s a
    → CallCloses (closed_with c s call) (state_after c s call) (periods_of c a.journal) (periods_of c (with_call c a call).journal)
call_periods c s a (sample bits) old = sample_periods c s a bits old
call_periods c s a (set seconds) old = set_periods c s a seconds
call_periods c s a (reading meter v status seq) old = inl (refl, reading_periods c a meter v status seq)
call_periods c s a reset old = inl (refl, reset_periods c a)

-- A start with any chosen slots and a buffer of any length
module _ (setup : Setup) (lent : ℕ) where
  -- the profile after one call more
  pub profile_after_lem : (c : Config) (time : ℕ) (earlier : List Call) (call : Call)
      → (reached setup lent c time (call ∷ earlier)).profile ≡ moved_by (reached setup lent c time earlier).profile (records_of setup (closed_with c (reached setup lent c time earlier).state call))
  unfolding after_all
  profile_after_lem c time earlier call = go call
    where
      r : Profile
      r = (reached setup lent c time earlier).profile

      s : State
      s = (reached setup lent c time earlier).state

      go : (call : Call) → (reached setup lent c time (call ∷ earlier)).profile ≡ moved_by r (records_of setup (closed_with c s call))
      go (sample bits) = let stays = start_stays setup lent c time earlier in ap₂ (λ (k : Config) (u : Setup). moved_by r (records_of u (closed_with k s (sample bits)))) stays.0 stays.1
      go (set seconds) = let stays = start_stays setup lent c time earlier in ap₂ (λ (k : Config) (u : Setup). moved_by r (records_of u (closed_with k s (set seconds)))) stays.0 stays.1
      go (reading meter v status seq) = refl
      go reset = refl

  -- where the records stand after a history
  pub profile_is : (c : Config) → 69 ≤ lent → (time : ℕ) (calls : List Call) → (reached setup lent c time calls).profile ≡ profile_in lent (periods_of c (journal_of c time calls))
  unfolding after_all account_of
  profile_is c some time [] =
      let next : 0 ≡ 0 % (lent / 69) = sym (zero-mod (lent / 69)) in
      let held : 0 ≡ min 0 (lent / 69) = omega arith in
      (λ i. record { length = lent; next = next i; held = held i })
  profile_is c some time (call ∷ earlier) =
      let s = (reached setup lent c time earlier).state in
      let a = account_of c time earlier in
      profile_after_lem c time earlier call
      ∙ ⊎_elim
      (λ quiet. rw (quiet.0, quiet.1) (profile_is c some time earlier))
      (λ closes. rw (closes.1, closes.2, profile_is c some time earlier) (moves_on lent (length (periods_of c a.journal)) some))
      (call_periods c s a call (agrees setup lent c time earlier))

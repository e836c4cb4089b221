-- Demand 2: runs of samples over histories, tariffs, and the demand in one.
use mathlib.Core.Path.{◌≡◌, refl, sym, ap, ap₂, subst, ◌∙◌}
use mathlib.Core.List.{List, [], ◌∷◌, ◌++◌, map-append}
use Prim.Native.Nat.{ℕ, suc}
use borrow.Author.Tests.{ne_eqb}
use lib.ListN.{take}
use Rattle.laws.specs.Answers.{Answer, given, refused, reply_to, RunReply}
use Rattle.tariff.specs.Rules.{force_of}
use Rattle.calendar.proofs.Moments.{always_dated, found_is_moment, one_moment}
use Rattle.tariff.proofs.Laws.{bit_is_rule}
use Rattle.image.proofs.Laws.{written_is_read, read_is_written}
use Rattle.settings.specs.declared.Config.{Config}
use Rattle.sampling.specs.Samples.{sample_of, samples_of}
use Rattle.sampling.specs.Closed.{closed_by, closed_on, closed_in}
use Rattle.sampling.specs.declared.State.{State}
use Rattle.profile.specs.Room.{moved_by}
use Rattle.profile.specs.declared.records.Record.{Record}
use Rattle.profile.proofs.Puts.{moved_append}
use Rattle.recorder.specs.Profile.{record_of, records_of}
use Rattle.recorder.specs.declared.Setup.{Setup}
use Rattle.recorder.specs.History.{Call, sample, after_all}
use Rattle.recorder.proofs.Sound.{config_stays, start_stays}
use Rattle.registers.proofs.Laws.{bytes_as_table, given_first}
use Rattle.demands.specs.Account.{Account, number_of_sample, with_call, account_of}
use Rattle.demands.specs.Demand2.{reached, taken_in, end_of, with_samples, RunsOfHistory, TariffOfMoment, Demand2}
use Rattle.demands.proofs.Starts.{start_is_fresh}
use Rattle.demands.proofs.Agrees.{answers_of_history}
use Rattle.demands.proofs.Closings.{profile_after_lem}
use Rattle.demands.proofs.Levels.{state_of_history}
use Rattle.demands.proofs.Shown.{invalid_mark, awake_unmarked, registers_of_history, fleet_of_history}
use Rattle.demands.proofs.Demand1.{refused_some}

-- A start with any chosen slots and a buffer of any length
module _ (setup : Setup) (lent : ℕ) where
  -- what is said of a run on a state, which the calls have reached
  abbrev Says : Config → ℕ → List Call → List ℕ → RunReply State → Type 0
  Says c time calls run reply =
      let a = account_of c time calls in
      (reply.taken ≡ taken_in c a run) × (reply.number ≡ end_of c a run)
      × (reply.after ≡ (reached setup lent c time (with_samples (take (taken_in c a run) run) calls)).state)

  -- the state that one sample more leads to
  after_one : (c : Config) (time : ℕ) (calls : List Call) (bits : ℕ)
      → (reply_to (reached setup lent c time calls).state (sample_of c (reached setup lent c time calls).state bits)).after ≡ (reached setup lent c time (sample bits ∷ calls)).state
  unfolding after_all
  after_one c time calls bits =
      let s = (reached setup lent c time calls).state in
      subst (λ (k : Config). (reply_to s (sample_of k s bits)).after ≡ (reached setup lent c time (sample bits ∷ calls)).state) (config_stays setup lent c time calls) refl

  -- and the number of its answer
  number_one : (c : Config) (time : ℕ) (calls : List Call) (bits : ℕ)
      → (reply_to (reached setup lent c time calls).state (sample_of c (reached setup lent c time calls).state bits)).number ≡ number_of_sample c (account_of c time calls) bits
  number_one c time calls bits =
      let s = (reached setup lent c time calls).state in
      subst (λ (k : Config). (reply_to s (sample_of k s bits)).number ≡ number_of_sample c (account_of c time calls) bits) (config_stays setup lent c time calls) (answers_of_history setup lent c time calls (sample bits))

  run_says : (c : Config) (time : ℕ) (calls : List Call) (run : List ℕ) → Says c time calls run (samples_of c (reached setup lent c time calls).state run)
  unfolding samples_of account_of
  run_says c time calls [] = (refl, refl, refl)
  run_says c time calls (bits ∷ more) = go (sample_of c s bits) refl (run_says c time (sample bits ∷ calls) more)
    where
      s : State
      s = (reached setup lent c time calls).state

      a : Account
      a = account_of c time calls

      go : (x : Answer State) → sample_of c s bits ≡ x → Says c time (sample bits ∷ calls) more (samples_of c (reached setup lent c time (sample bits ∷ calls)).state more)
          → Says c time calls (bits ∷ more) (samples_of c s (bits ∷ more))
      go (given later) e rest =
          let none : number_of_sample c a bits ≡ 0 = sym (number_one c time calls bits) ∙ rw e in
          let there : later ≡ (reached setup lent c time (sample bits ∷ calls)).state = sym (rw e) ∙ after_one c time calls bits in
          rw (none, e, there) (ap suc rest.0, rest.1, rest.2)
      go (refused n o) e rest =
          let some : number_of_sample c a bits ≡ n = sym (number_one c time calls bits) ∙ rw e in
          rw (e, some, ne_eqb n 0 (refused_some c s bits n o e)) (refl, refl, refl)

  -- what is carried from sample to sample with the periods that each closes is, after a run, what its samples one by one lead to
  pub by_samples : {A : Type 0} (put_records : A → List Record → A) → ((x : A) → put_records x [] ≡ x)
      → ((x : A) (rs later : List Record) → put_records x (rs ++ later) ≡ put_records (put_records x rs) later)
      → (c : Config) (time : ℕ) (reaches : List Call → A)
      → ((calls : List Call) (bits : ℕ) → put_records (reaches calls) (records_of setup (closed_by c (sample_of c (reached setup lent c time calls).state bits))) ≡ reaches (sample bits ∷ calls))
      → (calls : List Call) (run : List ℕ)
      → put_records (reaches calls) (records_of setup (closed_in c (reached setup lent c time calls).state run)) ≡ reaches (with_samples (take (taken_in c (account_of c time calls) run) run) calls)
  unfolding closed_in account_of
  by_samples put_records none both c time reaches step calls [] = none (reaches calls)
  by_samples {A} put_records none both c time reaches step calls (bits ∷ more) =
      go (sample_of c s bits) refl (by_samples put_records none both c time reaches step (sample bits ∷ calls) more)
    where
      s : State
      s = (reached setup lent c time calls).state

      a : Account
      a = account_of c time calls

      go : (x : Answer State) → sample_of c s bits ≡ x
          → put_records (reaches (sample bits ∷ calls)) (records_of setup (closed_in c (reached setup lent c time (sample bits ∷ calls)).state more))
          ≡ reaches (with_samples (take (taken_in c (with_call c a (sample bits)) more) more) (sample bits ∷ calls))
          → put_records (reaches calls) (records_of setup (closed_by c (sample_of c s bits) ++ closed_on (sample_of c s bits) (λ next. closed_in c next more)))
          ≡ reaches (with_samples (take (taken_in c a (bits ∷ more)) (bits ∷ more)) calls)
      go (given later) e rest =
          let taken : number_of_sample c a bits ≡ 0 = sym (number_one c time calls bits) ∙ rw e in
          let there : later ≡ (reached setup lent c time (sample bits ∷ calls)).state = sym (rw e) ∙ after_one c time calls bits in
          let one : put_records (reaches calls) (records_of setup (closed_by c (given later))) ≡ reaches (sample bits ∷ calls) = rw e at (step calls bits) in
          rw (taken, e)
          (ap (put_records (reaches calls)) (map-append (record_of setup) (closed_by c (given later)) (closed_in c later more))
          ∙ both (reaches calls) (records_of setup (closed_by c (given later))) (records_of setup (closed_in c later more))
          ∙ ap (λ (x : A). put_records x (records_of setup (closed_in c later more))) one
          ∙ rw there rest)
      go (refused n o) e rest =
          let some : number_of_sample c a bits ≡ n = sym (number_one c time calls bits) ∙ rw e in
          rw (e, some, ne_eqb n 0 (refused_some c s bits n o e)) (none (reaches calls))

  -- the profile after a run
  run_profile : (c : Config) (time : ℕ) (calls : List Call) (run : List ℕ)
      → moved_by (reached setup lent c time calls).profile (records_of setup (closed_in c (reached setup lent c time calls).state run))
      ≡ (reached setup lent c time (with_samples (take (taken_in c (account_of c time calls) run) run) calls)).profile
  run_profile c time =
      by_samples moved_by (λ p. refl) moved_append c time (λ calls. (reached setup lent c time calls).profile) (λ calls bits. sym (profile_after_lem setup lent c time calls (sample bits)))

  pub runs_of_history : RunsOfHistory setup lent
  runs_of_history c time calls run =
      let r = reached setup lent c time calls in
      let after = with_samples (take (taken_in c (account_of c time calls) run) run) calls in
      let stays = start_stays setup lent c time calls in
      let then = start_stays setup lent c time after in
      let q : Says c time calls run (samples_of r.config r.state run) =
      subst (λ (k : Config). Says c time calls run (samples_of k r.state run)) (sym stays.0) (run_says c time calls run) in
      let profile : moved_by r.profile (records_of r.setup (closed_in r.config r.state run)) ≡ (reached setup lent c time after).profile =
      ap₂ (λ (k : Config) (u : Setup). moved_by r.profile (records_of u (closed_in k r.state run))) stays.0 stays.1 ∙ run_profile c time calls run in (
        q.0,
        q.1,
        (λ i. record { config = (stays.0 ∙ sym then.0) i; setup = (stays.1 ∙ sym then.1) i; state = q.2 i; profile = profile i }),
      )

pub tariff_of_moment : TariffOfMoment
unfolding force_of
tariff_of_moment p t m e i = rw e (bit_is_rule p m i)

pub demand_2 : (setup : Setup) (lent : ℕ) → Demand2 setup lent
demand_2 setup lent =
    record {
      written_is_read = written_is_read;
      read_is_written = read_is_written;
      invalid_mark = invalid_mark;
      awake_unmarked = awake_unmarked;
      start_is_fresh = start_is_fresh;
      answers = answers_of_history setup lent;
      state = state_of_history setup lent;
      runs = runs_of_history setup lent;
      registers = registers_of_history setup lent;
      fleet = fleet_of_history setup lent;
      tariffs = tariff_of_moment;
      dated = always_dated;
      calendar = found_is_moment;
      one_moment = one_moment;
      bytes = bytes_as_table;
      given_first = given_first;
    }

-- CR 1 over histories: after any sequence the recorder is the one that the calls that count reach, and its buffer the one into which the records of the account's periods were put.
use mathlib.Core.Path.{◌≡◌, refl, sym, ap, ap₂, ◌∙◌}
use mathlib.Core.Bool.{true, false}
use mathlib.Core.List.{List, [], ◌∷◌, map, reverse}
use mathlib.Core.Logic.{⊎_elim}
use Prim.Native.Nat.{ℕ, ◌/◌, ◌<◌, min}
use native.Mathlib.Omega.{arith}
use borrow.Author.Tests.{le-leb, lt-leb, le-ltb}
use lib.IntN.{ℤ, pos}
use lib.ListN.{length, get_or, take, length-map, length-take, length-reverse}
use Rattle.laws.specs.Each.{Each}
use Rattle.laws.proofs.Answers.{by_answer}
use Rattle.laws.proofs.Tests.{by_test}
use Rattle.laws.proofs.Cycles.{take_map, reverse_map, at_map}
use Rattle.laws.specs.Tables.{table}
use Rattle.laws.proofs.Tables.{length_table, table_at, table_cong}
use Rattle.settings.specs.Rules.{zero_slot}
use Rattle.settings.specs.declared.Config.{Config}
use Rattle.profile.specs.Records.{chosen_values, record_bytes}
use Rattle.profile.specs.Room.{legal_length, as_at_start, Kept, kept, with_records}
use Rattle.profile.specs.Reading.{held_in, record_at, place_at, record_reply}
use Rattle.profile.specs.Laws.{profile_after, put_all, last_of, EightValues, HoldsLast}
use Rattle.profile.specs.declared.Profile.{Profile}
use Rattle.profile.specs.declared.records.Record.{Record}
use Rattle.profile.proofs.Puts.{records_append}
use Rattle.profile.proofs.Ring.{room_alone, last_records}
use Rattle.sampling.specs.Samples.{sample_of}
use Rattle.sampling.specs.Closed.{closed_by, closed_in}
use Rattle.sampling.specs.declared.Period.{Period}
use Rattle.sampling.specs.declared.State.{State}
use Rattle.readout.specs.Answers.{line_number}
use Rattle.readout.specs.Blocks.{is_block}
use Rattle.recorder.specs.Readout.{readout_reply, block_readout_reply}
use Rattle.recorder.specs.Clock.{set_of}
use Rattle.recorder.specs.Profile.{record_of, records_of, closed_by_set, lent_to}
use Rattle.recorder.specs.Calls.{profile_buffer, sample_reply, samples_reply, set_reply, sample_lent, samples_lent, set_lent}
use Rattle.recorder.specs.History.{Call, sample, set, reading, reset, after_all}
use Rattle.recorder.specs.declared.Recorder.{Recorder}
use Rattle.recorder.specs.declared.Setup.{Setup}
use Rattle.recorder.proofs.Sound.{start_stays}
use Rattle.demands.specs.Account.{Account, Ended, periods_of, account_of, journal_of}
use Rattle.demands.specs.Starts.{Accepted, LegalLength, AsAtStart, SlotsFit}
use Rattle.demands.specs.State.{value_of, last_period, state_in}
use Rattle.demands.specs.Demand2.{reached, taken_in, with_samples}
use Rattle.demands.specs.Profile.{Made, call, run, sample_with, run_with, set_with, readout, block_readout, Hall, after_made, after_sequence, OwnBuffer, heard_by, calls_of, record_shown, last_periods, no_period, ProfileKept, ProfileOfHistory, RecorderOfSequence, Answered, AnswersOfSequence, OtherLength, RestKept, PastTheRoom, LoadProfile}
use Rattle.demands.proofs.Agrees.{state_after, state_after_lem, agrees, answers_of_history}
use Rattle.demands.proofs.Closings.{closed_with, call_periods, profile_is}
use Rattle.demands.proofs.Levels.{state_is, state_of_history}
use Rattle.demands.proofs.Starts.{legal_test, start_test, as_at_start_lem, blank_refuses}
use Rattle.demands.proofs.Demand2.{by_samples, runs_of_history}

-- Another length

-- a length that is not that of the start
not_right : (p : Profile) (n : ℕ) → (AsAtStart p n → ⊥) → as_at_start p n ≡ false
not_right p n other = by_test (as_at_start p n) (λ t. absurd (other (as_at_start_lem p n t))) (λ f. f)

pub other_length : OtherLength
unfolding sample_lent samples_lent set_lent record_reply
other_length =
    record {
      samples = λ r buffer other bits. rw (not_right r.profile (length buffer) other);
      runs = λ r buffer other bits. rw (not_right r.profile (length buffer) other);
      sets = λ r buffer other seconds. rw (not_right r.profile (length buffer) other);
      records = λ r buffer other index result. rw (not_right r.profile (length buffer) other);
    }

-- Past the room

eight_values : (setup : Setup) (periods : List Period) → Each EightValues (records_of setup periods)
unfolding chosen_values
eight_values setup [] = tt
eight_values setup (p ∷ l) = (length_table 8 _, eight_values setup l)

-- what a call that is lent a buffer leaves of it
rest_kept : {Reply : Type 0} (r : Recorder) (buffer : List ℕ) (refusal reply : Reply) (periods : List Period) → RestKept buffer (lent_to r buffer refusal reply periods).buffer
rest_kept r buffer refusal reply periods =
    let alone = room_alone (kept r.profile buffer) (records_of r.setup periods) (eight_values r.setup periods) in
    by_test (as_at_start r.profile (length buffer)) (λ t. rw t (alone.1, alone.0)) (λ f. rw f (refl, refl))

pub past_the_room : PastTheRoom
unfolding sample_lent samples_lent set_lent
past_the_room =
    record {
      samples = λ r buffer bits. rest_kept r buffer (profile_buffer r) (sample_reply r bits) (closed_by r.config (sample_of r.config r.state bits));
      runs = λ r buffer bits. rest_kept r buffer (record { taken = 0; number = 14; after = r }) (samples_reply r bits) (closed_in r.config r.state bits);
      sets = λ r buffer seconds. rest_kept r buffer (profile_buffer r) (set_reply r seconds) (closed_by_set (set_of r.config r.state seconds));
    }

-- Records of the account

-- the record of a closed period
abbrev record_in : Setup → Config → Ended → Record
record_in setup c p =
    record { stamp = p.stamp; state = p.state; values = table 8 (λ k. value_of c p.units (get_or c.slots (get_or setup.slots k 0) zero_slot)) }

record_shown_lem : (setup : Setup) (c : Config) (p : Ended) → record_bytes (record_in setup c p) ≡ record_shown c setup p
unfolding record_bytes record_shown
record_shown_lem setup c p = refl

-- the recorder's last period has that record
closed_record : (setup : Setup) → SlotsFit setup → (c : Config) (e : Ended) (earlier : List Ended) → record_of setup (last_period c (e ∷ earlier)) ≡ record_in setup c e
unfolding chosen_values
closed_record setup fit c e earlier =
    ap (λ (values : List ℤ). record { stamp = e.stamp; state = e.state; values = values })
    (table_cong 8 _ _ (λ k l. table_at 16 (λ i. value_of c e.units (get_or c.slots i zero_slot)) (get_or setup.slots k 0) (pos 0) (fit k l)))

-- the last period of the state that the account spells out
closed_in_lem : (c : Config) (a : Account) → (state_in c a).closed ≡ last_period c (periods_of c a.journal)
unfolding state_in
closed_in_lem c a = refl

module _ (setup : Setup) (fit : SlotsFit setup) (c : Config) (accepted : Accepted c) (time : ℕ) (buffer : List ℕ) (limits : LegalLength (length buffer)) where
  legal : legal_length (length buffer) ≡ true
  legal = legal_test (length buffer) limits

  -- the recorder that calls reach, and the records of the periods that they closed
  abbrev at : List Call → Recorder
  at calls = reached setup (length buffer) c time calls

  abbrev periods : List Call → List Ended
  periods calls = periods_of c (journal_of c time calls)

  abbrev all : List Call → List Record
  all calls = map (record_in setup c) (periods calls)

  -- the profile and the buffer into which they were put
  abbrev put : List Call → Kept
  put calls = put_all buffer (all calls)

  eight : (l : List Ended) → Each EightValues (map (record_in setup c) l)
  eight [] = tt
  eight (p ∷ l) = (length_table 8 _, eight l)

  holds : (calls : List Call) → HoldsLast buffer (all calls) (put calls)
  holds calls = last_records buffer legal (all calls) (eight (periods calls))

  -- the profile is the recorder's
  same_profile : (calls : List Call) → (put calls).profile ≡ (at calls).profile
  same_profile calls =
      (holds calls).profile
      ∙ ap (profile_after (length buffer)) (length-map (periods calls) (record_in setup c))
      ∙ sym (profile_is setup (length buffer) c limits.0 time calls)

  pair : (calls : List Call) → kept (at calls).profile (put calls).buffer ≡ put calls
  pair calls = ap (λ (p : Profile). kept p (put calls).buffer) (sym (same_profile calls))

  -- the buffer is as long as at the start
  right : (calls : List Call) → as_at_start (at calls).profile (length (put calls).buffer) ≡ true
  right calls =
      let long = (holds calls).same in
      start_test (at calls).profile (length (put calls).buffer) (rw long limits, long ∙ sym (start_stays setup (length buffer) c time calls).2)

  -- a call puts the records of the periods that it closes
  one_call : (calls : List Call) (x : Call) → with_records (put calls) (records_of setup (closed_with c (at calls).state x)) ≡ put (x ∷ calls)
  unfolding account_of
  one_call calls x =
      let s = (at calls).state in
      let a = account_of c time calls in
      ⊎_elim
      (λ quiet. rw (quiet.0, quiet.1))
      (λ closes.
      let last : (state_after c s x).closed ≡ last_period c (periods (x ∷ calls)) =
      ap (λ (t : State). t.closed) (sym (state_after_lem setup (length buffer) c time calls x) ∙ state_is setup (length buffer) c accepted.good time (x ∷ calls)) ∙ closed_in_lem c (account_of c time (x ∷ calls)) in
      rw (closes.1, last, closes.2, closed_record setup fit c closes.0 (periods calls)))
      (call_periods c s a x (agrees setup (length buffer) c time calls))

  -- the recorder and the buffer
  abbrev hall : List Call → Hall
  hall calls = record { recorder = at calls; buffer = (put calls).buffer }

  -- what the records of a call leave in the buffer, where the recorder says which they are
  left : (calls : List Call) (closes : Config → List Period) (after : List Call) → with_records (put calls) (records_of setup (closes c)) ≡ put after
      → (with_records (kept (at calls).profile (put calls).buffer) (records_of (at calls).setup (closes (at calls).config))).buffer ≡ (put after).buffer
  left calls closes after e =
      let stays = start_stays setup (length buffer) c time calls in
      ap₂ (λ (k : Config) (u : Setup). (with_records (kept (at calls).profile (put calls).buffer) (records_of u (closes k))).buffer) stays.0 stays.1
      ∙ ap (λ (p : Kept). (with_records p (records_of setup (closes c))).buffer) (pair calls)
      ∙ ap (λ (p : Kept). p.buffer) e

  -- a run puts those of all its samples
  one_run : (calls : List Call) (bits : List ℕ) → with_records (put calls) (records_of setup (closed_in c (at calls).state bits)) ≡ put (with_samples (take (taken_in c (account_of c time calls) bits) bits) calls)
  one_run = by_samples setup (length buffer) with_records (λ k. refl) records_append c time put (λ calls bits. one_call calls (sample bits))

  -- a call that is lent another length leaves the recorder
  stays_put : (calls : List Call) (other : List ℕ) → (length other ≡ length buffer → ⊥) → AsAtStart (at calls).profile (length other) → ⊥
  stays_put calls other differs right = differs (right.1 ∙ (start_stays setup (length buffer) c time calls).2)

  made : (calls : List Call) (x : Call) → after_made (hall calls) (call x) ≡ hall (x ∷ calls)
  unfolding sample_lent set_lent after_all
  made calls (sample bits) =
      let r = at calls in
      rw (right calls) (ap (λ (b : List ℕ). record { recorder = at (sample bits ∷ calls); buffer = b })
      (left calls (λ k. closed_by k (sample_of k r.state bits)) (sample bits ∷ calls) (one_call calls (sample bits))))
  made calls (set seconds) =
      let r = at calls in
      rw (right calls) (ap (λ (b : List ℕ). record { recorder = at (set seconds ∷ calls); buffer = b })
      (left calls (λ k. closed_by_set (set_of k r.state seconds)) (set seconds ∷ calls) (one_call calls (set seconds))))
  made calls (reading meter v status seq) =
      ap (λ (p : Kept). record { recorder = at (reading meter v status seq ∷ calls); buffer = p.buffer }) (one_call calls (reading meter v status seq))
  made calls reset = ap (λ (p : Kept). record { recorder = at (reset ∷ calls); buffer = p.buffer }) (one_call calls reset)

  made_run : (calls : List Call) (bits : List ℕ) → after_made (hall calls) (run bits) ≡ hall (with_samples (take (taken_in c (account_of c time calls) bits) bits) calls)
  unfolding samples_lent
  made_run calls bits =
      let r = at calls in
      let after = with_samples (take (taken_in c (account_of c time calls) bits) bits) calls in
      rw (right calls) (ap₂ (λ (x : Recorder) (b : List ℕ). record { recorder = x; buffer = b })
      (runs_of_history setup (length buffer) c time calls bits).2
      (left calls (λ k. closed_in k r.state bits) after (one_run calls bits)))

  -- a data set is the reading of its number, or nothing
  made_readout : (calls : List Call) (meter status seq decimals : ℕ) (line : List ℕ)
      → after_made (hall calls) (readout meter status seq decimals line) ≡ hall (heard_by meter status seq (line_number line decimals) calls)
  unfolding readout_reply
  made_readout calls meter status seq decimals line =
      by_answer (line_number line decimals) (λ z e. rw e (made calls (reading meter z status seq))) (λ n offset e. rw e)

  -- after a sequence
  pub reaches : (sequence : List Made) → Each (OwnBuffer (length buffer)) sequence → after_sequence setup c time buffer sequence ≡ hall (calls_of c time sequence)
  unfolding after_sequence after_all account_of block_readout_reply
  reaches [] own = refl
  reaches (call x ∷ earlier) own = ap (λ (h : Hall). after_made h (call x)) (reaches earlier own.1) ∙ made (calls_of c time earlier) x
  reaches (run bits ∷ earlier) own = ap (λ (h : Hall). after_made h (run bits)) (reaches earlier own.1) ∙ made_run (calls_of c time earlier) bits
  reaches (sample_with other bits ∷ earlier) own =
      let calls = calls_of c time earlier in
      ap (λ (h : Hall). after_made h (sample_with other bits)) (reaches earlier own.1) ∙ rw (other_length.samples (at calls) other (stays_put calls other own.0) bits)
  reaches (run_with other bits ∷ earlier) own =
      let calls = calls_of c time earlier in
      ap (λ (h : Hall). after_made h (run_with other bits)) (reaches earlier own.1) ∙ rw (other_length.runs (at calls) other (stays_put calls other own.0) bits)
  reaches (set_with other seconds ∷ earlier) own =
      let calls = calls_of c time earlier in
      ap (λ (h : Hall). after_made h (set_with other seconds)) (reaches earlier own.1) ∙ rw (other_length.sets (at calls) other (stays_put calls other own.0) seconds)
  reaches (readout meter status seq decimals line ∷ earlier) own =
      ap (λ (h : Hall). after_made h (readout meter status seq decimals line)) (reaches earlier own.1) ∙ made_readout (calls_of c time earlier) meter status seq decimals line
  reaches (block_readout meter status seq decimals block line ∷ earlier) own =
      let calls = calls_of c time earlier in
      ap (λ (h : Hall). after_made h (block_readout meter status seq decimals block line)) (reaches earlier own.1)
      ∙ by_test (is_block block) (λ t. rw t (made_readout calls meter status seq decimals line)) (λ t. rw t)

  -- how many records are held
  last_long : (calls : List Call) → length (last_periods (length buffer) (periods calls)) ≡ min (length (periods calls)) (length buffer / 69)
  last_long calls = length-reverse (take (length buffer / 69) (periods calls)) ∙ length-take (length buffer / 69) (periods calls) ∙ omega arith

  held_is : (calls : List Call) → held_in (at calls).profile ≡ length (last_periods (length buffer) (periods calls))
  held_is calls = ap held_in (profile_is setup (length buffer) c limits.0 time calls) ∙ sym (last_long calls ∙ omega arith)

  -- the last records are those of the last periods
  last_records_of : (calls : List Call) → last_of (length buffer) (all calls) ≡ map (record_in setup c) (last_periods (length buffer) (periods calls))
  last_records_of calls =
      ap reverse (take_map (record_in setup c) (length buffer / 69) (periods calls)) ∙ reverse_map (record_in setup c) (take (length buffer / 69) (periods calls))

  shown_at : (calls : List Call) (i : ℕ) → i < length (last_periods (length buffer) (periods calls))
      → record_at (put calls).buffer (place_at (at calls).profile i) ≡ record_shown c setup (get_or (last_periods (length buffer) (periods calls)) i no_period)
  shown_at calls i l =
      let last = last_periods (length buffer) (periods calls) in
      let few : i < length (last_of (length buffer) (all calls)) = rw (last_records_of calls, length-map last (record_in setup c)) l in
      ap (λ (p : Profile). record_at (put calls).buffer (place_at p i)) (sym (same_profile calls))
      ∙ (holds calls).each (record_in setup c no_period) i few
      ∙ ap (λ (l : List Record). record_bytes (get_or l i (record_in setup c no_period))) (last_records_of calls)
      ∙ ap record_bytes (at_map (record_in setup c) last i no_period)
      ∙ record_shown_lem setup c (get_or last i no_period)

  -- what is kept after calls
  pub keeps : (calls : List Call) → ProfileKept setup c buffer (periods calls) (hall calls)
  unfolding record_reply
  keeps calls =
      record {
        held = ap (λ (p : Profile). p.held) (profile_is setup (length buffer) c limits.0 time calls);
        records = λ i l result enough. rw (right calls, lt-leb (held_in (at calls).profile) i (rw (held_is calls) l), le-ltb (length result) 69 enough, shown_at calls i l);
        no_record = λ i l result. rw (right calls, le-leb (held_in (at calls).profile) i (rw (held_is calls) l));
        rest = rw (length-map (periods calls) (record_in setup c)) at (holds calls).rest;
        same_length = (holds calls).same;
      }

  -- what calls are answered after them
  pub answers : (calls : List Call) → Answered c (account_of c time calls) (hall calls)
  unfolding sample_lent samples_lent set_lent
  answers calls =
      record {
        samples = λ bits. rw (right calls) (answers_of_history setup (length buffer) c time calls (sample bits));
        sets = λ seconds. rw (right calls) (answers_of_history setup (length buffer) c time calls (set seconds));
        runs = λ bits. let same = runs_of_history setup (length buffer) c time calls bits in rw (right calls) (same.0, same.1);
      }

pub profile_of_history : ProfileOfHistory
profile_of_history setup fit c accepted time buffer limits sequence own =
    rw (reaches setup fit c accepted time buffer limits sequence own) (keeps setup fit c accepted time buffer limits (calls_of c time sequence))

pub recorder_of_sequence : RecorderOfSequence
recorder_of_sequence setup fit c accepted time buffer limits sequence own =
    rw (reaches setup fit c accepted time buffer limits sequence own) (state_of_history setup (length buffer) c accepted limits.0 time (calls_of c time sequence))

pub answers_of_sequence : AnswersOfSequence
answers_of_sequence setup fit c accepted time buffer limits sequence own =
    rw (reaches setup fit c accepted time buffer limits sequence own) (answers setup fit c accepted time buffer limits (calls_of c time sequence))

pub cr_1 : LoadProfile
cr_1 =
    record {
      profile = profile_of_history;
      recorder = recorder_of_sequence;
      answers = answers_of_sequence;
      other_length = other_length;
      blank_refuses = blank_refuses;
      past_the_room = past_the_room;
    }

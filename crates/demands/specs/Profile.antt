-- CR 1 over histories: "After any sequence in which only the recorder writes to it, the buffer holds the last records, as many as fit." Which periods were closed, and with which values, is the account's (Account.antt).
use Rattle.std.specs.Prelude.{◌≡◌, List, [], ◌∷◌, ◌++◌, reverse, ℕ, ◌*◌, ◌/◌, ◌<◌, ◌≤◌, min, ℤ, length, get_or, take, drop, if◌then◌else◌}
use Rattle.std.specs.Int.{w64}
use Rattle.std.proofs.Common.{of_z}
use Rattle.laws.specs.Answers.{Answer, given, refused}
use Rattle.laws.specs.Bytes.{bytes_of}
use Rattle.laws.specs.Each.{Each}
use Rattle.laws.specs.Runs.{joined}
use Rattle.laws.specs.Tables.{table}
use Rattle.settings.specs.Rules.{zero_slot}
use Rattle.settings.specs.declared.Config.{Config}
use Rattle.profile.specs.Reading.{record_reply}
use Rattle.readout.specs.Answers.{line_number}
use Rattle.readout.specs.Blocks.{is_block}
use Rattle.recorder.specs.Readout.{readout_reply, block_readout_reply}
use Rattle.recorder.specs.Profile.{with_buffer}
use Rattle.recorder.specs.Calls.{fresh_start, blank_recorder, start_reply, reading_reply, reset_reply, sample_lent, samples_lent, set_lent}
use Rattle.recorder.specs.History.{Call, sample, set, reading, reset}
use Rattle.recorder.specs.declared.Recorder.{Recorder}
use Rattle.recorder.specs.declared.Setup.{Setup}
use Rattle.demands.specs.Account.{Account, Ended, periods_of, answer_of, account_of, journal_of}
use Rattle.demands.specs.Starts.{Accepted, LegalLength, AsAtStart, SlotsFit}
use Rattle.demands.specs.State.{value_of, state_in, profile_in}
use Rattle.demands.specs.Demand2.{taken_in, end_of, with_samples}

-- A sequence of calls, and the buffer that is lent to them

-- a call as it is made. A call or a run of samples is lent the buffer as the one before left it; or a sample, a run or a clock set is lent another buffer; or a data set is to be booked as a reading:
-- meter, STATUS, SEQ, decimals and its line, with a block around it or without
pub data Made : Type 0 where
  call : Call → Made
  run : List ℕ → Made
  sample_with : List ℕ → ℕ → Made
  run_with : List ℕ → List ℕ → Made
  set_with : List ℕ → ℕ → Made
  readout : ℕ → ℕ → ℕ → ℕ → List ℕ → Made
  block_readout : ℕ → ℕ → ℕ → ℕ → List ℕ → List ℕ → Made

-- the recorder, and the buffer as the last call left it
pub record Hall : Type 0 where
  pub recorder : Recorder
  pub buffer : List ℕ

-- after a call; another buffer that is lent is not this one
abbrev pub after_made : Hall → Made → Hall
after_made x (call (sample bits)) =
    let done = sample_lent x.recorder bits x.buffer in record { recorder = done.reply.after; buffer = done.buffer }
after_made x (call (set seconds)) =
    let done = set_lent x.recorder seconds x.buffer in record { recorder = done.reply.after; buffer = done.buffer }
after_made x (call (reading meter value status seq)) =
    record { recorder = (reading_reply x.recorder meter value status seq).after; buffer = x.buffer }
after_made x (call reset) = record { recorder = reset_reply x.recorder; buffer = x.buffer }
after_made x (run bits) =
    let done = samples_lent x.recorder bits x.buffer in record { recorder = done.reply.after; buffer = done.buffer }
after_made x (sample_with other bits) = record { recorder = (sample_lent x.recorder bits other).reply.after; buffer = x.buffer }
after_made x (run_with other bits) = record { recorder = (samples_lent x.recorder bits other).reply.after; buffer = x.buffer }
after_made x (set_with other seconds) = record { recorder = (set_lent x.recorder seconds other).reply.after; buffer = x.buffer }
after_made x (readout meter status seq decimals line) =
    record { recorder = (readout_reply x.recorder meter status seq decimals line).after; buffer = x.buffer }
after_made x (block_readout meter status seq decimals block line) =
    record { recorder = (block_readout_reply x.recorder meter status seq decimals block line).after; buffer = x.buffer }

-- after a sequence, the newest call first, from a fresh start with a buffer on: "Start writes nothing into it"
unfoldable pub after_sequence : Setup → Config → ℕ → List ℕ → List Made → Hall
after_sequence setup c time buffer [] = record { recorder = fresh_start setup (length buffer) c time; buffer = buffer }
after_sequence setup c time buffer (made ∷ earlier) = after_made (after_sequence setup c time buffer earlier) made

-- "only the recorder writes to it": another buffer that is lent has another length
abbrev pub OwnBuffer : ℕ → Made → Type 0
OwnBuffer n (call c) = Unit
OwnBuffer n (run bits) = Unit
OwnBuffer n (sample_with other bits) = length other ≡ n → ⊥
OwnBuffer n (run_with other bits) = length other ≡ n → ⊥
OwnBuffer n (set_with other seconds) = length other ≡ n → ⊥
OwnBuffer n (readout meter status seq decimals line) = Unit
OwnBuffer n (block_readout meter status seq decimals block line) = Unit

-- a number that is to be booked is a reading of the history; what is none is no call
abbrev pub heard_by : ℕ → ℕ → ℕ → Answer ℤ → List Call → List Call
heard_by meter status seq (given value) calls = reading meter value status seq ∷ calls
heard_by meter status seq (refused n offset) calls = calls

-- the calls of a sequence that count, the newest first: of a run the samples that the account takes; a call that was lent another length none; of a data set the reading of its number, if it has one
abbrev pub calls_of : Config → ℕ → List Made → List Call
calls_of c time [] = []
calls_of c time (call x ∷ earlier) = x ∷ calls_of c time earlier
calls_of c time (run bits ∷ earlier) =
    let calls = calls_of c time earlier in
    with_samples (take (taken_in c (account_of c time calls) bits) bits) calls
calls_of c time (sample_with other bits ∷ earlier) = calls_of c time earlier
calls_of c time (run_with other bits ∷ earlier) = calls_of c time earlier
calls_of c time (set_with other seconds ∷ earlier) = calls_of c time earlier
calls_of c time (readout meter status seq decimals line ∷ earlier) = heard_by meter status seq (line_number line decimals) (calls_of c time earlier)
calls_of c time (block_readout meter status seq decimals block line ∷ earlier) =
    let calls = calls_of c time earlier in
    let heard = heard_by meter status seq (line_number line decimals) calls in
    if is_block block then heard else calls

-- The records

-- "stamp 4, state 1, eight values of 8 bytes; an empty slot gives 0": the record of a closed period of the account
unfoldable pub record_shown : Config → Setup → Ended → List ℕ
record_shown c setup p =
    bytes_of 4 p.stamp
    ++ (bytes_of 1 p.state
    ++ joined (λ (v : ℤ). bytes_of 8 (of_z w64 v)) (table 8 (λ k. value_of c p.units (get_or c.slots (get_or setup.slots k 0) zero_slot))))

-- the last closed periods, as many as a buffer of this length has room for, oldest first
abbrev pub last_periods : ℕ → List Ended → List Ended
last_periods n periods = reverse (take (n / 69) periods)

-- no period, which stands past the end of a list
abbrev pub no_period : Ended
no_period = record { state = 0; stamp = 0; units = [] }

-- what the recorder and its buffer are where these periods were closed since the start
pub record ProfileKept (setup : Setup) (c : Config) (buffer : List ℕ) (periods : List Ended) (x : Hall) : Type 0 where
  -- as many are held as fit
  pub held : x.recorder.profile.held ≡ min (length periods) (length buffer / 69)
  -- "Reading goes in writing order, oldest first (index 0)": each index that is held gives its record in the first 69 bytes of a result that has them
  pub records : (i : ℕ) → i < length (last_periods (length buffer) periods) → (result : List ℕ) → 69 ≤ length result
      → record_reply x.recorder.profile i x.buffer result
      ≡ record { answer = given tt; result = record_shown c setup (get_or (last_periods (length buffer) periods) i no_period) ++ drop 69 result }
  -- "15 NO RECORD, for an index not held"
  pub no_record : (i : ℕ) → length (last_periods (length buffer) periods) ≤ i → (result : List ℕ)
      → record_reply x.recorder.profile i x.buffer result ≡ record { answer = refused 15 0; result = result }
  -- what stands behind the records is as it was at the start: the places that none has taken yet, and the bytes past the last whole record's room
  pub rest : let held = min (length periods) (length buffer / 69) in drop (69 * held) x.buffer ≡ drop (69 * held) buffer
  pub same_length : length x.buffer ≡ length buffer

-- what is so of each start in the field and after each sequence of calls, where only the recorder writes to the buffer
abbrev pub AfterAnySequence : (Setup → Config → ℕ → List ℕ → List Made → Type 0) → Type 0
AfterAnySequence Claim =
    (setup : Setup) → SlotsFit setup → (c : Config) → Accepted c → (time : ℕ) (buffer : List ℕ) → LegalLength (length buffer)
    → (sequence : List Made) → Each (OwnBuffer (length buffer)) sequence → Claim setup c time buffer sequence

-- "the buffer holds the last records, as many as fit"
abbrev pub ProfileOfHistory : Type 0
ProfileOfHistory =
    AfterAnySequence (λ setup c time buffer sequence.
    ProfileKept setup c buffer (periods_of c (journal_of c time (calls_of c time sequence))) (after_sequence setup c time buffer sequence))

-- and the recorder is what the calls that count say, as in demand 2
abbrev pub RecorderOfSequence : Type 0
RecorderOfSequence =
    AfterAnySequence (λ setup c time buffer sequence.
    let a = account_of c time (calls_of c time sequence) in
    (after_sequence setup c time buffer sequence).recorder
    ≡ record { config = c; setup = setup; state = state_in c a; profile = profile_in (length buffer) (periods_of c a.journal) })

-- what calls that are lent the buffer are answered, and of a run how many samples are taken, where this is the account
pub record Answered (c : Config) (a : Account) (x : Hall) : Type 0 where
  pub samples : (bits : ℕ) → (sample_lent x.recorder bits x.buffer).reply.number ≡ answer_of c a (sample bits)
  pub sets : (seconds : ℕ) → (set_lent x.recorder seconds x.buffer).reply.number ≡ answer_of c a (set seconds)
  pub runs : (bits : List ℕ) →
      let reply = (samples_lent x.recorder bits x.buffer).reply in (reply.taken ≡ taken_in c a bits) × (reply.number ≡ end_of c a bits)

-- and each is answered as the account says
abbrev pub AnswersOfSequence : Type 0
AnswersOfSequence =
    AfterAnySequence (λ setup c time buffer sequence.
    Answered c (account_of c time (calls_of c time sequence)) (after_sequence setup c time buffer sequence))

-- Every recorder, whatever is in it, and every buffer

-- a call that is lent another length is refused with 14 and changes nothing
pub record OtherLength : Type 0 where
  pub samples : (r : Recorder) (buffer : List ℕ) → (AsAtStart r.profile (length buffer) → ⊥) → (bits : ℕ)
      → sample_lent r bits buffer ≡ with_buffer (record { number = 14; after = r }) buffer
  pub runs : (r : Recorder) (buffer : List ℕ) → (AsAtStart r.profile (length buffer) → ⊥) → (bits : List ℕ)
      → samples_lent r bits buffer ≡ with_buffer (record { taken = 0; number = 14; after = r }) buffer
  pub sets : (r : Recorder) (buffer : List ℕ) → (AsAtStart r.profile (length buffer) → ⊥) → (seconds : ℕ)
      → set_lent r seconds buffer ≡ with_buffer (record { number = 14; after = r }) buffer
  pub records : (r : Recorder) (buffer : List ℕ) → (AsAtStart r.profile (length buffer) → ⊥) → (index : ℕ) (result : List ℕ)
      → record_reply r.profile index buffer result ≡ record { answer = refused 14 0; result = result }

-- a refused start hands back the blank recorder, and no length is that of its start: so every call that lends it a buffer is refused with 14
pub record BlankRefuses : Type 0 where
  pub start_refused : (setup : Setup) (lent : ℕ) (image : List ℕ) (time n offset : ℕ)
      → (start_reply setup lent image time).answer ≡ refused n offset → (start_reply setup lent image time).recorder ≡ blank_recorder
  pub no_length : (n : ℕ) → AsAtStart blank_recorder.profile n → ⊥

-- the buffer after a call is as long as before, and the bytes past the last whole record's room are the same
abbrev pub RestKept : List ℕ → List ℕ → Type 0
RestKept before after = (length after ≡ length before) × (let past = 69 * (length before / 69) in drop past after ≡ drop past before)

-- "Bytes past the last whole record's room are never written", by no call
pub record PastTheRoom : Type 0 where
  pub samples : (r : Recorder) (buffer : List ℕ) (bits : ℕ) → RestKept buffer (sample_lent r bits buffer).buffer
  pub runs : (r : Recorder) (buffer : List ℕ) (bits : List ℕ) → RestKept buffer (samples_lent r bits buffer).buffer
  pub sets : (r : Recorder) (buffer : List ℕ) (seconds : ℕ) → RestKept buffer (set_lent r seconds buffer).buffer

-- CR 1, in one
pub record LoadProfile : Type 0 where
  pub profile : ProfileOfHistory
  pub recorder : RecorderOfSequence
  pub answers : AnswersOfSequence
  pub other_length : OtherLength
  pub blank_refuses : BlankRefuses
  pub past_the_room : PastTheRoom

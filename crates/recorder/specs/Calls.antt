-- The calls on a recorder, and what the answers of the code say in document 01's numbers. "Order: start 1, 2, 3, 4, 9; sample 5, 6; reading 7, 8, 10. .. Clock sets can give only 9, billing resets
-- nothing." CR 1 puts 14 before these, and a start's 8 next.
use Rattle.std.specs.Prelude.{Result, Ok, Err, false, not, List, [], ℕ, ℤ, pos, replicate, if◌then◌else◌}
use Rattle.laws.specs.Answers.{Answer, given, refused, Reply, RunReply, reply_to}
use Rattle.calendar.specs.Moments.{moment_of}
use Rattle.calendar.specs.declared.Moment.{Moment}
use Rattle.image.specs.Image.{blank_config}
use Rattle.image.specs.Answers.{image_said, image_answer, image_config}
use Rattle.settings.specs.declared.Config.{Config}
use Rattle.profile.specs.Records.{slots_fit}
use Rattle.profile.specs.Room.{legal_length, fresh_profile}
use Rattle.sampling.specs.Samples.{sample_number, sample_of, samples_of}
use Rattle.sampling.specs.Closed.{closed_by, closed_in}
use Rattle.recorder.specs.Lists.{empty_list}
use Rattle.recorder.specs.Meters.{Stamping, renewed, kept, ReadingReply, reading_of}
use Rattle.recorder.specs.Clock.{set_of, reset_of}
use Rattle.recorder.specs.Profile.{closed_by_set, moved, WithBuffer, lent_to}
use Rattle.sampling.specs.declared.SampleError.{SampleError}
use Rattle.sampling.specs.declared.Period.{Period}
use Rattle.sampling.specs.declared.State.{State}
use Rattle.recorder.specs.declared.Recorder.{Recorder}
use Rattle.recorder.specs.declared.Setup.{Setup}
use Rattle.recorder.specs.declared.Answered.{Answered}
use Rattle.recorder.specs.declared.errors.StartError.{StartError}
use Rattle.recorder.specs.declared.errors.StartError.TheVariants as start
use Rattle.recorder.specs.declared.SampleRun.{SampleRun}
use Rattle.recorder.specs.declared.errors.SetError.{SetError}
use Rattle.recorder.specs.declared.errors.SetError.TheVariants as set
use Rattle.recorder.specs.declared.errors.Stamp.{Stamp}
use Rattle.recorder.specs.declared.errors.Stamp.TheVariants.{Renewed, Kept}
use Rattle.recorder.specs.declared.errors.ReadingError.{ReadingError}
use Rattle.recorder.specs.declared.errors.ReadingError.TheVariants.{NoMeter, NotFitted, BadReading}

-- "At the fresh start runs, counts and remainders are 0"; no period is closed, no bill reset, no meter read
unfoldable pub fresh_state : ℕ → State
fresh_state time =
    record {
      clock = time;
      samples = 0;
      first = time;
      lines = replicate 16 (record { run = 0; rejected = 0; remainder = 0; units = 0 });
      bills = replicate 16 (record { amount = 0; closed = 0; stamp = 0; reset = false });
      meters = replicate 32 (record { read = false; stamp = 0; value = pos 0; status = 0; seq = 0 });
      closed = record { state = 0; stamp = 0; values = replicate 16 (pos 0) };
    }

-- the blank recorder: all numbers 0, nothing fitted, nothing on a list; its profile has length 0, so each call that lends it a buffer is refused with 14
unfoldable pub blank_recorder : Recorder
blank_recorder =
    record {
      config = blank_config;
      setup = record { slots = replicate 8 0; lists = replicate 3 empty_list };
      state = fresh_state 0;
      profile = fresh_profile 0;
    }

-- the reply to a start: given, or refused with number and offset, and the recorder beside it
pub record StartAnswered : Type 0 where
  pub answer : Answer (Unit {0})
  pub recorder : Recorder

-- what the answer to a start says
abbrev pub start_number : Result (Unit {0}) StartError → Answer (Unit {0})
start_number (Ok u) = given tt
start_number (Err start.ProfileBuffer) = refused 14 0
start_number (Err start.NotFitted) = refused 8 0
start_number (Err (start.Image e)) = image_said (Err e)
start_number (Err start.NoDate) = refused 9 0

-- what the code's answer to a start says
abbrev pub start_said : Answered (Unit {0}) StartError → StartAnswered
start_said r = record { answer = start_number r.answer; recorder = r.recorder }

-- a refused start hands back the blank recorder
abbrev pub refused_start : StartError → Answered (Unit {0}) StartError
refused_start error = record { answer = Err error; recorder = blank_recorder }

-- what a recorder that has started, or why none has, says
abbrev pub started_said : Result Recorder StartError → StartAnswered
started_said (Ok r) = record { answer = given tt; recorder = r }
started_said (Err error) = start_said (refused_start error)

-- a fresh start with a configuration at a time: what else it was given, and how long the lent buffer is
abbrev pub fresh_start : Setup → ℕ → Config → ℕ → Recorder
fresh_start setup length c time = record { config = c; setup = setup; state = fresh_state time; profile = fresh_profile length }

-- a start that is refused, with number and offset
abbrev pub no_start : ℕ → ℕ → StartAnswered
no_start n offset = record { answer = refused n offset; recorder = blank_recorder }

-- a start with a configuration: 9 where the time has no date, else a fresh one at the time
abbrev pub start_dated : Answer Moment → Setup → ℕ → Config → ℕ → StartAnswered
start_dated (given m) setup length c time = record { answer = given tt; recorder = fresh_start setup length c time }
start_dated (refused n offset) setup length c time = no_start n offset

-- a start from an image: its refusals, then that of the time
abbrev pub start_from : Answer (Unit {0}) → Setup → ℕ → Config → ℕ → StartAnswered
start_from (given u) setup length c time = start_dated (moment_of time) setup length c time
start_from (refused n offset) setup length c time = no_start n offset

-- the reply to a start with an image at a time: 14 for the length of the lent buffer, then 8 for a chosen slot above 15, then the image's own
unfoldable pub start_reply : Setup → ℕ → List ℕ → ℕ → StartAnswered
start_reply setup length bytes time =
    if not (legal_length length) then no_start 14 0
    else if not (slots_fit setup.slots) then no_start 8 0
    else start_from (image_answer bytes) setup length (image_config bytes) time

-- a clock set: 0, 14 PROFILE BUFFER or 9 NO DATE
abbrev pub set_number : Result (Unit {0}) SetError → ℕ
set_number (Ok u) = 0
set_number (Err set.ProfileBuffer) = 14
set_number (Err set.NoDate) = 9

-- a reading: the stamp was renewed or kept; 7 NO METER, 8 NOT FITTED or 10 READING
abbrev pub reading_number : Result Stamp ReadingError → Answer Stamping
reading_number (Ok Renewed) = given renewed
reading_number (Ok Kept) = given kept
reading_number (Err NoMeter) = refused 7 0
reading_number (Err NotFitted) = refused 8 0
reading_number (Err BadReading) = refused 10 0

-- a reply of the state as one of the whole recorder, with the periods that the call closed
abbrev pub beside : Recorder → Reply State → List Period → Reply Recorder
beside r reply periods = record { number = reply.number; after = moved r reply.after periods }

-- the same of a run of samples
abbrev pub run_beside : Recorder → RunReply State → List Period → RunReply Recorder
run_beside r run periods = record { taken = run.taken; number = run.number; after = moved r run.after periods }

-- the same of a reading, which closes no period
abbrev pub reading_beside : Recorder → ReadingReply State → ReadingReply Recorder
reading_beside r reply = record { answer = reply.answer; after = moved r reply.after [] }

-- the reply to a sample that is lent a buffer as long as at the start
abbrev pub sample_reply : Recorder → ℕ → Reply Recorder
sample_reply r bits =
    let answer = sample_of r.config r.state bits in
    beside r (reply_to r.state answer) (closed_by r.config answer)

-- to samples one after another, up to the first refusal
abbrev pub samples_reply : Recorder → List ℕ → RunReply Recorder
samples_reply r bits = run_beside r (samples_of r.config r.state bits) (closed_in r.config r.state bits)

-- to a clock set
abbrev pub set_reply : Recorder → ℕ → Reply Recorder
set_reply r time =
    let answer = set_of r.config r.state time in
    beside r (reply_to r.state answer) (closed_by_set answer)

-- the reply to a reading, which is lent nothing
abbrev pub reading_reply : Recorder → ℕ → ℤ → ℕ → ℕ → ReadingReply Recorder
reading_reply r meter value status seq = reading_beside r (reading_of r.config r.state meter value status seq)

-- the recorder after a billing reset
abbrev pub reset_reply : Recorder → Recorder
reset_reply r = moved r (reset_of r.config r.state) []

-- a call that was refused with 14
abbrev pub profile_buffer : Recorder → Reply Recorder
profile_buffer r = record { number = 14; after = r }

-- the reply to a sample with any buffer, and the buffer after it
unfoldable pub sample_lent : Recorder → ℕ → List ℕ → WithBuffer (Reply Recorder)
sample_lent r bits buffer = lent_to r buffer (profile_buffer r) (sample_reply r bits) (closed_by r.config (sample_of r.config r.state bits))

-- to a run of samples
unfoldable pub samples_lent : Recorder → List ℕ → List ℕ → WithBuffer (RunReply Recorder)
samples_lent r bits buffer = lent_to r buffer (record { taken = 0; number = 14; after = r }) (samples_reply r bits) (closed_in r.config r.state bits)

-- to a clock set
unfoldable pub set_lent : Recorder → ℕ → List ℕ → WithBuffer (Reply Recorder)
set_lent r time buffer = lent_to r buffer (profile_buffer r) (set_reply r time) (closed_by_set (set_of r.config r.state time))

-- what the code's answer to a sample says
abbrev pub sampled_said : Answered (Unit {0}) SampleError → Reply Recorder
sampled_said r = record { number = sample_number r.answer; after = r.recorder }

-- to a run of samples
abbrev pub run_said : SampleRun → RunReply Recorder
run_said r = record { taken = r.taken; number = sample_number r.answer; after = r.recorder }

-- to a clock set
abbrev pub clock_set_said : Answered (Unit {0}) SetError → Reply Recorder
clock_set_said r = record { number = set_number r.answer; after = r.recorder }

-- to a reading
abbrev pub meter_read_said : Answered Stamp ReadingError → ReadingReply Recorder
meter_read_said r = record { answer = reading_number r.answer; after = r.recorder }

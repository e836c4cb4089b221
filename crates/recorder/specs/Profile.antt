-- CR 1 for the recorder: the record of a closed period, and calls that are lent the buffer for records.
use Rattle.std.specs.Prelude.{List, [], ◌∷◌, map, ℕ, length, if◌then◌else◌}
use Rattle.laws.specs.Answers.{Answer, given, refused}
use Rattle.profile.specs.Records.{chosen_values}
use Rattle.profile.specs.Room.{as_at_start, kept, with_records, moved_by}
use Rattle.profile.specs.declared.records.Record.{Record}
use Rattle.sampling.specs.declared.Period.{Period}
use Rattle.sampling.specs.declared.State.{State}
use Rattle.recorder.specs.declared.Recorder.{Recorder}
use Rattle.recorder.specs.declared.Setup.{Setup}

-- the record of a closed period: its stamp, its state, and the values of the chosen slots
abbrev pub record_of : Setup → Period → Record
record_of setup p = record { stamp = p.stamp; state = p.state; values = chosen_values setup.slots p.values }

-- those of several periods
abbrev pub records_of : Setup → List Period → List Record
records_of setup periods = map (record_of setup) periods

-- the period that a clock set closed
abbrev pub closed_by_set : Answer State → List Period
closed_by_set (given s) = s.closed ∷ []
closed_by_set (refused n offset) = []

-- a recorder with a state put in, and a record for each period that closed
abbrev pub moved : Recorder → State → List Period → Recorder
moved r s periods = record { config = r.config; setup = r.setup; state = s; profile = moved_by r.profile (records_of r.setup periods) }

-- a reply, and the lent buffer after the call
pub record WithBuffer (Reply : Type 0) : Type 0 where
  pub reply : Reply
  pub buffer : List ℕ

-- the two together
abbrev pub with_buffer : {Reply : Type 0} → Reply → List ℕ → WithBuffer Reply
with_buffer reply buffer = record { reply = reply; buffer = buffer }

-- a call that is lent a buffer: where its length is not that of the start, the refusal and no byte changed; else the reply, and the records of the periods that closed in the buffer
abbrev pub lent_to : {Reply : Type 0} → Recorder → List ℕ → Reply → Reply → List Period → WithBuffer Reply
lent_to r buffer refusal reply periods =
    if as_at_start r.profile (length buffer) then with_buffer reply (with_records (kept r.profile buffer) (records_of r.setup periods)).buffer
    else with_buffer refusal buffer

-- Demand 1: "Every image, sample, reading, time and register request ends with its result or with the numbered refusal that the rules name for it. A refusal changes nothing in the recorder and no byte
-- of the buffer given for the result. No caller has to check anything first." That no function has a precondition is in Tightness.antt.
use Rattle.std.specs.Prelude.{◌≡◌, Bool, true, false, List, [], ◌∷◌, ◌++◌, ◌⊎◌, ℕ, ◌+◌, ◌*◌, ◌<◌, ◌≤◌, eqb, ℤ, length, get_or, take, drop, if◌then◌else◌}
use Rattle.laws.specs.Answers.{Answer, given, refused, Reply, RunReply}
use Rattle.laws.specs.Bytes.{le}
use Rattle.laws.specs.Each.{Each}
use Rattle.laws.specs.Masks.{bit_at}
use Rattle.calendar.specs.Moments.{moment_of}
use Rattle.calendar.specs.declared.Moment.{Moment}
use Rattle.tariff.specs.Rules.{force_map_at}
use Rattle.image.specs.Image.{decode}
use Rattle.settings.specs.Check.{sections, FirstBadAt}
use Rattle.image.specs.Answers.{image_answer, write_answer, after_write}
use Rattle.settings.specs.declared.Config.{Config}
use Rattle.counting.specs.Filter.{stepped_of}
use Rattle.counting.specs.Units.{credits_of}
use Rattle.counting.specs.Bills.{register_at, bill_at, sums_of, due_of}
use Rattle.sampling.specs.Samples.{active_lines}
use Rattle.recorder.specs.Meters.{age_of}
use Rattle.recorder.specs.Profile.{WithBuffer}
use Rattle.recorder.specs.Lists.{list_of}
use Rattle.recorder.specs.Calls.{start_reply, reading_reply, sample_lent, samples_lent, set_lent}
use Rattle.recorder.specs.Readout.{readout_reply, block_readout_reply}
use Rattle.readout.specs.DataSets.{AllOf, DataSet, line_of, IsDataSet}
use Rattle.readout.specs.Numbers.{Decimal, most}
use Rattle.readout.specs.Blocks.{not_etx, block_around}
use Rattle.readout.specs.Answers.{line_number, block_answer}
use Rattle.readout.specs.Laws.{Sent}
use Rattle.profile.specs.Reading.{held_in, record_reply}
use Rattle.profile.specs.declared.Profile.{Profile}
use Rattle.recorder.specs.declared.MakerList.{MakerList}
use Rattle.recorder.specs.declared.Recorder.{Recorder}
use Rattle.recorder.specs.declared.Setup.{Setup}
use Rattle.registers.specs.Registers.{Group, groups, group_of, registers_of, fitted, register_reply}
use Rattle.makers.specs.Lists.{list_reply}
use Rattle.makers.specs.Requests.{maker_reply}
use Rattle.display.specs.Formats.{FormatPart}
use Rattle.display.specs.Written.{WritesNumber, WrittenAs, NoSpecification}
use Rattle.display.specs.Fields.{field_bytes}
use Rattle.display.specs.Displays.{display_reply}
use Rattle.display.specs.Laws.{numbers_in}
use Rattle.demands.specs.Starts.{LegalLength, AsAtStart}
use Rattle.demands.specs.Shown.{readable}

-- a refusal of document 01's table: its number, and when it is due, with which offset
pub record Refusal : Type 1 where
  pub number : ℕ
  pub due : ℕ → Type 0

-- one that always has the same offset
abbrev pub at : ℕ → ℕ → Type 0 → Refusal
at number offset when = record { number = number; due = λ o. (o ≡ offset) × when }

-- "Given exactly when", in the order given: the answer is the first refusal that is due, with its offset; where none is due, it is what was asked for
unfoldable pub Ordered : {A : Type 0} → List Refusal → Answer A → Type 0
Ordered {A} [] answer = (x : A) × (answer ≡ given x)
Ordered (r ∷ later) answer =
    ((offset : ℕ) × r.due offset × (answer ≡ refused r.number offset))
    ⊎ (((offset : ℕ) → r.due offset → ⊥) × Ordered later answer)

-- a number as an answer: 0 is no refusal
abbrev pub numbered : ℕ → Answer (Unit {0})
numbered n = if eqb n 0 then given tt else refused n 0

-- "1 LENGTH, 2 MARK, 3 VERSION: not 1,126 bytes; other letters; version not 1"; "4 VALUE: an entry breaks its rule; with the offset of the first such entry"
abbrev pub image_refusals : List ℕ → List Refusal
image_refusals b =
    at 1 0 (length b ≡ 1126 → ⊥)
    ∷ at 2 0 ((get_or b 0 0 ≡ 75) × (get_or b 1 0 ≡ 82) × (get_or b 2 0 ≡ 67) → ⊥)
    ∷ at 3 3 (le 2 (drop 3 b) ≡ 1 → ⊥)
    ∷ record { number = 4; due = FirstBadAt (sections (decode b)) }
    ∷ []

-- "9 NO DATE: a start or set time has no calendar date"
abbrev pub no_date : ℕ → Refusal
no_date time = at 9 0 ((m : Moment) → moment_of time ≡ given m → ⊥)

-- the units of a sample for bill register j: filter, units, sums, and the tariff at the present second
abbrev pub units_for : Recorder → ℕ → ℕ → ℕ
units_for r bits j =
    let c = r.config in
    let stepped = stepped_of c.inputs r.state.lines (active_lines c.inputs bits) in
    let units = (credits_of c.inputs stepped.lines stepped.impulses).units in
    due_of (register_at c.registers j) (force_map_at c.program r.state.clock) (sums_of c.sums units)

-- "5 CLOCK END: hundredth sample in the last second"; "6 FULL: the sample would take a bill register past 999,999,999"
abbrev pub sample_refusals : Recorder → ℕ → List Refusal
sample_refusals r bits =
    at 5 0 ((r.state.clock ≡ 4_294_967_295) × (99 ≤ r.state.samples))
    ∷ at 6 0 ((j : ℕ) × (j < 16) × (0 < units_for r bits j) × (999_999_999 < (bill_at r.state.bills j).amount + units_for r bits j))
    ∷ []

-- "7 NO METER: meter above 31"; "8 NOT FITTED: meter .. not in use"; "10 READING: STATUS above 7 or SEQ above 31"
abbrev pub reading_refusals : Recorder → ℕ → ℕ → ℕ → List Refusal
reading_refusals r meter status seq =
    at 7 0 (31 < meter)
    ∷ at 8 0 (get_or r.config.limits meter 0 ≡ 0)
    ∷ at 10 0 ((7 < status) ⊎ (31 < seq))
    ∷ []

-- the bytes of a register of a group
abbrev pub bytes_in : Answer Group → ℕ
bytes_in (given g) = g.bytes
bytes_in (refused n offset) = 0

-- "11 NO GROUP, 12 NO REGISTER: not in the table above"; "8 NOT FITTED: meter, slot, bill register or input not in use"; "13 NO ROOM: the buffer is shorter than the register". When 12 is due is the
-- operator's or a maker's
abbrev pub request_refusals : Type 0 → Recorder → ℕ → ℕ → List ℕ → List Refusal
request_refusals no_register r group register buffer =
    at 11 0 (Each (λ g. group ≡ g.number → ⊥) groups)
    ∷ at 12 0 no_register
    ∷ at 8 0 (fitted r.config group register ≡ false)
    ∷ at 13 0 (length buffer < bytes_in (group_of group))
    ∷ []

-- those of the operator
abbrev pub register_refusals : Recorder → ℕ → ℕ → List ℕ → List Refusal
register_refusals r group register buffer = request_refusals (registers_of group ≤ register) r group register buffer

-- CR 6: the request is for a meter, a slot, a bill register or an input that a maker's list does not name
abbrev pub OffList : MakerList → ℕ → ℕ → Type 0
OffList list group register =
    ((group ≡ 82) × (bit_at list.meters register ≡ false))
    ⊎ (((group ≡ 201) × (bit_at list.slots register ≡ false))
    ⊎ (((group ≡ 202) × (bit_at list.bills register ≡ false)) ⊎ ((group ≡ 203) × (bit_at list.inputs register ≡ false))))

-- "20 NO MAKER, for a maker above 2"
abbrev pub no_maker : ℕ → Refusal
no_maker maker = at 20 0 (2 < maker)

-- "before 11; 12 now also for what isn't on the list"
abbrev pub maker_refusals : Recorder → ℕ → ℕ → ℕ → List ℕ → List Refusal
maker_refusals r maker group register buffer =
    no_maker maker ∷ request_refusals ((registers_of group ≤ register) ⊎ OffList (list_of r.setup.lists maker) group register) r group register buffer

-- CR 7: three argument bytes name a readable field: a register that can be read, and one of its fields, from 0
abbrev pub ReadableField : Config → List ℕ → Type 0
ReadableField c arguments =
    (3 ≤ length arguments) × (readable c (get_or arguments 0 0) (get_or arguments 1 0) ≡ true) × (get_or arguments 2 0 < length (field_bytes (get_or arguments 0 0)))

-- so do those of each of the first n numbers
abbrev pub AllReadable : Config → List ℕ → ℕ → Type 0
AllReadable c arguments n = (k : ℕ) → k < n → ReadableField c (drop (3 * k) arguments)

-- "in string order 21 FORMAT for a bad specification": behind parts whose numbers can be shown stands a per cent, 37, and no specification behind it
pub record FormatFirst (c : Config) (format arguments : List ℕ) : Type 0 where
  pub parts : List FormatPart
  pub text : List ℕ
  pub rest : List ℕ
  pub split : format ≡ text ++ (37 ∷ rest)
  pub good : WrittenAs parts text
  pub shown : AllReadable c arguments (numbers_in parts)
  pub bad : NoSpecification rest

-- "22 ARGUMENT when bytes are missing or name no readable field": behind such parts stands a number whose bytes name none
pub record ArgumentFirst (c : Config) (format arguments : List ℕ) : Type 0 where
  pub parts : List FormatPart
  pub text : List ℕ
  pub rest : List ℕ
  pub specification : List ℕ
  pub split : format ≡ text ++ (specification ++ rest)
  pub good : WrittenAs parts text
  pub shown : AllReadable c arguments (numbers_in parts)
  pub written : WritesNumber specification
  pub unreadable : ReadableField c (drop (3 * numbers_in parts) arguments) → ⊥

-- "13 NO ROOM first, for a buffer below 32 bytes; then in string order" 21 and 22: of these two at most one is due
abbrev pub display_refusals : Config → List ℕ → List ℕ → List ℕ → List Refusal
display_refusals c format arguments buffer =
    at 13 0 (length buffer < 32) ∷ at 21 0 (FormatFirst c format arguments) ∷ at 22 0 (ArgumentFirst c format arguments) ∷ []

-- "writing an image gives 4, with the offset the entry would have, then 13"
abbrev pub write_refusals : Config → List ℕ → List Refusal
write_refusals c buffer = record { number = 4; due = FirstBadAt (sections c) } ∷ at 13 0 (length buffer < 1126) ∷ []

-- "The age class .. refuses limit 0 with 8, then STATUS above 7 with 10"
abbrev pub age_refusals : ℕ → ℕ → List Refusal
age_refusals limit status = at 8 0 (limit ≡ 0) ∷ at 10 0 (7 < status) ∷ []

-- "14 PROFILE BUFFER, for a length outside those limits", of a start
abbrev pub bad_length : ℕ → Refusal
bad_length n = at 14 0 (LegalLength n → ⊥)

-- "or other than at the start", of each other call that is lent the buffer
abbrev pub other_length : Profile → List ℕ → Refusal
other_length p buffer = at 14 0 (AsAtStart p (length buffer) → ⊥)

-- "8 NOT FITTED, for a chosen slot above 15"
abbrev pub bad_slot : Setup → Refusal
bad_slot setup = at 8 0 ((k : ℕ) × (k < 8) × (15 < get_or setup.slots k 0))

-- "15 NO RECORD, for an index not held, then 13 for a result below 69 bytes"
abbrev pub record_refusals : Profile → ℕ → List ℕ → List ℕ → List Refusal
record_refusals p index buffer result = other_length p buffer ∷ at 15 0 (held_in p ≤ index) ∷ at 13 0 (length result < 69) ∷ []

-- CR 4: "16 BLOCK": the bytes are not STX, bytes other than ETX, ETX and their check byte
abbrev pub bad_block : List ℕ → Refusal
bad_block block = at 16 0 ((bytes : List ℕ) → AllOf not_etx bytes → block_around bytes ≡ block → ⊥)

-- "17 LINE": the line is that of no data set
abbrev pub no_line : List ℕ → Refusal
no_line line = at 17 0 ((d : DataSet) → IsDataSet d → line_of d ≡ line → ⊥)

-- "18 NOT A NUMBER (also for a non-zero digit past the stated decimals, or decimals above 9)": no number is written in it with these decimals
abbrev pub not_a_number : List ℕ → ℕ → Refusal
not_a_number line decimals = at 18 0 ((n : ℕ) (w : Decimal) → Sent line decimals n w → ⊥)

-- "19 DOES NOT FIT 32 BITS": one is, and it is past the most that its sign allows
abbrev pub does_not_fit : List ℕ → ℕ → Refusal
does_not_fit line decimals = at 19 0 ((n : ℕ) × (w : Decimal) × Sent line decimals n w × (most w.minus < n))

-- those of a line
abbrev pub line_refusals : List ℕ → ℕ → List Refusal
line_refusals line decimals = no_line line ∷ not_a_number line decimals ∷ does_not_fit line decimals ∷ []

-- a run of samples: 14 exactly where the buffer has another length, and none is taken; else all were taken, or the first that was not is refused with its own number, on the recorder that the others left
abbrev pub RunEnds : Recorder → List ℕ → List ℕ → Type 0
RunEnds r run buffer =
    let reply = (samples_lent r run buffer).reply in
    let all = (reply.taken ≡ length run) × (reply.number ≡ 0) in
    let some = (reply.taken < length run) × (reply.number ≡ 0 → ⊥) × Ordered (sample_refusals reply.after (get_or run reply.taken 0)) (numbered reply.number) in
    ((AsAtStart r.profile (length buffer) → ⊥) × (reply.taken ≡ 0) × (reply.number ≡ 14)) ⊎ (AsAtStart r.profile (length buffer) × (all ⊎ some))

-- each call, on every recorder, ends with its result or with exactly the number that the rules name: "Order: start 1, 2, 3, 4, 9; sample 5, 6; reading 7, 8, 10; register 11, 12, 8, 13. Clock sets can give only 9",
-- and of CR 1 14 "before anything else", 8 "next"; a record 14, 15, 13; of CR 4 16, 17, 18, 19, "then those of a reading"; of CR 6 20 "before 11"
pub record NumbersExact : Type 0 where
  pub images : (b : List ℕ) → Ordered (image_refusals b) (image_answer b)
  pub starts : (setup : Setup) (lent : ℕ) (b : List ℕ) (time : ℕ)
      → Ordered (bad_length lent ∷ bad_slot setup ∷ image_refusals b ++ (no_date time ∷ [])) (start_reply setup lent b time).answer
  pub samples : (r : Recorder) (bits : ℕ) (buffer : List ℕ)
      → Ordered (other_length r.profile buffer ∷ sample_refusals r bits) (numbered (sample_lent r bits buffer).reply.number)
  pub runs : (r : Recorder) (run buffer : List ℕ) → RunEnds r run buffer
  pub sets : (r : Recorder) (time : ℕ) (buffer : List ℕ)
      → Ordered (other_length r.profile buffer ∷ no_date time ∷ []) (numbered (set_lent r time buffer).reply.number)
  pub readings : (r : Recorder) (meter : ℕ) (value : ℤ) (status seq : ℕ)
      → Ordered (reading_refusals r meter status seq) (reading_reply r meter value status seq).answer
  pub lines : (line : List ℕ) (decimals : ℕ) → Ordered (line_refusals line decimals) (line_number line decimals)
  pub blocks : (block : List ℕ) → Ordered (bad_block block ∷ []) (block_answer block)
  pub readouts : (r : Recorder) (meter status seq decimals : ℕ) (line : List ℕ)
      → Ordered (line_refusals line decimals ++ reading_refusals r meter status seq) (readout_reply r meter status seq decimals line).answer
  pub block_readouts : (r : Recorder) (meter status seq decimals : ℕ) (block line : List ℕ)
      → Ordered (bad_block block ∷ line_refusals line decimals ++ reading_refusals r meter status seq) (block_readout_reply r meter status seq decimals block line).answer
  pub registers : (r : Recorder) (group register : ℕ) (buffer : List ℕ)
      → Ordered (register_refusals r group register buffer) (register_reply r group register buffer).answer
  pub makers : (r : Recorder) (maker group register : ℕ) (buffer : List ℕ)
      → Ordered (maker_refusals r maker group register buffer) (maker_reply r maker group register buffer).answer
  pub displays : (r : Recorder) (format arguments buffer : List ℕ)
      → Ordered (display_refusals r.config format arguments buffer) (display_reply r format arguments buffer).answer
  pub lists : (setup : Setup) (maker : ℕ) (list : MakerList) → Ordered (no_maker maker ∷ []) (numbered (list_reply setup maker list).number)
  pub records : (p : Profile) (index : ℕ) (buffer result : List ℕ)
      → Ordered (record_refusals p index buffer result) (record_reply p index buffer result).answer
  pub ages : (limit : ℕ) (read : Bool) (stamp status clock : ℕ) → Ordered (age_refusals limit status) (age_of limit read stamp status clock)
  pub writes : (c : Config) (buffer : List ℕ) → Ordered (write_refusals c buffer) (write_answer c (length buffer))

-- a call that was lent a buffer left the recorder and each byte of the buffer
abbrev pub Left : Recorder → List ℕ → WithBuffer (Reply Recorder) → Type 0
Left r buffer x = (x.reply.after ≡ r) × (x.buffer ≡ buffer)

-- two runs left the same recorder and the same bytes in the buffer
abbrev pub SameLeft : WithBuffer (RunReply Recorder) → WithBuffer (RunReply Recorder) → Type 0
SameLeft x y = (x.reply.after ≡ y.reply.after) × (x.buffer ≡ y.buffer)

-- "A refused call changes no byte of any buffer lent to it", and nothing in the recorder; a run of samples is the run of those that were taken. (A start is lent its buffer only to read its length.)
pub record RefusedChangesNothing : Type 0 where
  pub samples : (r : Recorder) (bits : ℕ) (buffer : List ℕ) → ((sample_lent r bits buffer).reply.number ≡ 0 → ⊥) → Left r buffer (sample_lent r bits buffer)
  pub runs : (r : Recorder) (run buffer : List ℕ) → SameLeft (samples_lent r run buffer) (samples_lent r (take (samples_lent r run buffer).reply.taken run) buffer)
  pub sets : (r : Recorder) (time : ℕ) (buffer : List ℕ) → ((set_lent r time buffer).reply.number ≡ 0 → ⊥) → Left r buffer (set_lent r time buffer)
  pub records : (p : Profile) (index : ℕ) (buffer result : List ℕ) (n offset : ℕ)
      → (record_reply p index buffer result).answer ≡ refused n offset → (record_reply p index buffer result).result ≡ result
  pub readings : (r : Recorder) (meter : ℕ) (value : ℤ) (status seq n offset : ℕ)
      → (reading_reply r meter value status seq).answer ≡ refused n offset → (reading_reply r meter value status seq).after ≡ r
  pub readouts : (r : Recorder) (meter status seq decimals : ℕ) (line : List ℕ) (n offset : ℕ)
      → (readout_reply r meter status seq decimals line).answer ≡ refused n offset → (readout_reply r meter status seq decimals line).after ≡ r
  pub block_readouts : (r : Recorder) (meter status seq decimals : ℕ) (block line : List ℕ) (n offset : ℕ)
      → (block_readout_reply r meter status seq decimals block line).answer ≡ refused n offset → (block_readout_reply r meter status seq decimals block line).after ≡ r
  pub registers : (r : Recorder) (group register : ℕ) (buffer : List ℕ) (n offset : ℕ)
      → (register_reply r group register buffer).answer ≡ refused n offset → (register_reply r group register buffer).buffer ≡ buffer
  pub makers : (r : Recorder) (maker group register : ℕ) (buffer : List ℕ) (n offset : ℕ)
      → (maker_reply r maker group register buffer).answer ≡ refused n offset → (maker_reply r maker group register buffer).buffer ≡ buffer
  pub displays : (r : Recorder) (format arguments buffer : List ℕ) (n offset : ℕ)
      → (display_reply r format arguments buffer).answer ≡ refused n offset → (display_reply r format arguments buffer).buffer ≡ buffer
  pub lists : (setup : Setup) (maker : ℕ) (list : MakerList) → ((list_reply setup maker list).number ≡ 0 → ⊥) → (list_reply setup maker list).after ≡ setup
  pub writes : (c : Config) (buffer : List ℕ) (n offset : ℕ) → write_answer c (length buffer) ≡ refused n offset → after_write c buffer ≡ buffer

-- demand 1
pub record Demand1 : Type 0 where
  pub numbers : NumbersExact
  pub refused_changes_nothing : RefusedChangesNothing

-- "A fitted meter is never before its first reading; stale if the clock is past its stamp by more than its limit; else invalid if its IV is set; else awake." CR 2 in place of document 01's words
-- in brackets: "A stamp ahead of the clock shall be stale." And: "The age class .. refuses limit 0 with 8, then STATUS above 7 with 10." CR 5: "A reading whose SEQ equals the stored one shall replace
-- value and STATUS but keep the old stamp, after a clock set too, and the call's result says whether the stamp was renewed or kept. A first reading always renews."
use Rattle.std.specs.Prelude.{Result, Ok, Err, Bool, true, false, not, ◌&&◌, ◌||◌, List, ℕ, ◌+◌, ◌%◌, ltb, eqb, ℤ, pos, get_or, set, if◌then◌else◌}
use Rattle.laws.specs.Answers.{Answer, given, refused}
use Rattle.settings.specs.declared.Config.{Config}
use Rattle.recorder.specs.declared.meters.Age.{Age}
use Rattle.recorder.specs.declared.meters.Age.TheVariants.{Awake, Stale, Invalid, Never}
use Rattle.recorder.specs.declared.meters.AgeError.{AgeError}
use Rattle.recorder.specs.declared.meters.AgeError.TheVariants.{NotFitted, BadStatus}
use Rattle.sampling.specs.declared.Meter.{Meter}
use Rattle.sampling.specs.declared.State.{State}

-- the numbers of the classes: 0 awake, 1 stale, 2 invalid, 3 never
abbrev pub age_number : Age → ℕ
age_number Awake = 0
age_number Stale = 1
age_number Invalid = 2
age_number Never = 3

-- the class of a fitted meter; IV is the lowest bit of STATUS
unfoldable pub class_of : ℕ → Bool → ℕ → ℕ → ℕ → ℕ
class_of limit read stamp status clock =
    if not read then 3
    else if ltb clock stamp || ltb (stamp + limit) clock then 1
    else if eqb (status % 2) 1 then 2
    else 0

-- the answer to a host: 8 without a limit, then 10 for a STATUS above 7, else the class
unfoldable pub age_of : ℕ → Bool → ℕ → ℕ → ℕ → Answer ℕ
age_of limit read stamp status clock =
    if eqb limit 0 then refused 8 0
    else if ltb 7 status then refused 10 0
    else given (class_of limit read stamp status clock)

-- what the code's answer says
abbrev pub age_said : Result Age AgeError → Answer ℕ
age_said (Ok age) = given (age_number age)
age_said (Err NotFitted) = refused 8 0
age_said (Err BadStatus) = refused 10 0

-- a state with other readings
abbrev pub with_meters : State → List Meter → State
with_meters s meters =
    record {
      clock = s.clock;
      samples = s.samples;
      first = s.first;
      lines = s.lines;
      bills = s.bills;
      meters = meters;
      closed = s.closed;
    }

-- meter i of a state
abbrev pub meter_at : List Meter → ℕ → Meter
meter_at meters i = get_or meters i (record { read = false; stamp = 0; value = pos 0; status = 0; seq = 0 })

-- "whether the stamp was renewed or kept"
pub data Stamping : Type 0 where
  renewed : Stamping
  kept : Stamping

-- "A reading whose SEQ equals the stored one": that of a meter which was read before
abbrev pub repeats : Meter → ℕ → Bool
repeats m seq = m.read && eqb m.seq seq

-- it shall "keep the old stamp"; "A first reading always renews", and so does any other
unfoldable pub stamping_of : Meter → ℕ → Stamping
stamping_of m seq = if repeats m seq then kept else renewed

-- the answer to a reading: 7 for a meter above 31, 8 for one that is not fitted, 10 for a STATUS above 7 or a SEQ above 31; else what becomes of the stamp
unfoldable pub reading_answer : Config → State → ℕ → ℕ → ℕ → Answer Stamping
reading_answer c s meter status seq =
    if ltb 31 meter then refused 7 0
    else if eqb (get_or c.limits meter 0) 0 then refused 8 0
    else if ltb 7 status || ltb 31 seq then refused 10 0
    else given (stamping_of (meter_at s.meters meter) seq)

-- a renewed stamp is the clock, a kept one the old
abbrev pub stamp_as : Stamping → Meter → ℕ → ℕ
stamp_as renewed m clock = clock
stamp_as kept m clock = m.stamp

-- the state after a reading that was answered so: value, STATUS and SEQ are replaced; a refused one leaves it
abbrev pub after_reading : State → ℕ → ℤ → ℕ → ℕ → Answer Stamping → State
after_reading s meter value status seq (given x) =
    let stamp = stamp_as x (meter_at s.meters meter) s.clock in
    with_meters s (set s.meters meter (record { read = true; stamp = stamp; value = value; status = status; seq = seq }))
after_reading s meter value status seq (refused n offset) = s

-- the reply to a reading: whether the stamp was renewed or kept, or the refusal; and what is there after it
pub record ReadingReply (S : Type 0) : Type 0 where
  pub answer : Answer Stamping
  pub after : S

-- the reply to a reading, of the state
abbrev pub reading_of : Config → State → ℕ → ℤ → ℕ → ℕ → ReadingReply State
reading_of c s meter value status seq =
    let answer = reading_answer c s meter status seq in
    record { answer = answer; after = after_reading s meter value status seq answer }

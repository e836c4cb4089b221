-- What a history of calls says by itself, in the words of document 01. It is worked out from the configuration, the time of the fresh start and the calls alone, and so is which of them are
-- accepted: no reply and no state of the recorder appears here. All lists are newest first: `call ∷ earlier` is the call after the earlier ones.
use Rattle.std.specs.Prelude.{Bool, true, false, not, ◌&&◌, ◌||◌, List, [], ◌∷◌, ℕ, ◌+◌, ◌-◌, ◌*◌, ◌/◌, min, ltb, leb, eqb, ℤ, pos, get_or, if◌then◌else◌}
use Rattle.laws.specs.Answers.{Answer, given, refused, number_in}
use Rattle.laws.specs.Any.{any}
use Rattle.laws.specs.Masks.{bit}
use Rattle.laws.specs.Tables.{table}
use Rattle.calendar.specs.Moments.{moment_of}
use Rattle.tariff.specs.Rules.{force_map_at}
use Rattle.settings.specs.declared.Config.{Config}
use Rattle.counting.specs.Filter.{input_at}
use Rattle.counting.specs.Bills.{register_at, sum_of, feeds}
use Rattle.sampling.specs.Periods.{multiple}
use Rattle.sampling.specs.Samples.{active_at}
use Rattle.recorder.specs.Meters.{Stamping, renewed, kept}
use Rattle.recorder.specs.History.{Call, sample, set, reading, reset}

-- The journal of a history: what was accepted, and when

-- an entry: an accepted sample, its line bits and its second; the end of a period, its state (1 short, 2 whole) and closing time; a billing reset and its second; an accepted reading, its
-- second, meter, value, STATUS and SEQ
pub data Entry : Type 0 where
  took : ℕ → ℕ → Entry
  ended : ℕ → ℕ → Entry
  cleared : ℕ → Entry
  heard : ℕ → ℕ → ℤ → ℕ → ℕ → Entry

-- "Each line keeps its run of active samples from one sample to the next, counted to 256 and held there": the run of input i that a journal ends in
abbrev pub run_of : Config → ℕ → List Entry → ℕ
run_of c i [] = 0
run_of c i (took bits second ∷ earlier) = if active_at c.inputs bits i then min 256 (run_of c i earlier + 1) else 0
run_of c i (ended state stamp ∷ earlier) = run_of c i earlier
run_of c i (cleared second ∷ earlier) = run_of c i earlier
run_of c i (heard stamp meter value status seq ∷ earlier) = run_of c i earlier

-- "The first inactive sample after a run of at least 1 ends it"
abbrev pub ends_run : Config → ℕ → List Entry → ℕ → Bool
ends_run c bits earlier i = not (active_at c.inputs bits i) && ltb 0 (run_of c i earlier)

-- "shortest to longest inclusive"
abbrev pub in_range : Config → ℕ → ℕ → Bool
in_range c i run = leb (input_at c.inputs i).shortest run && leb run (input_at c.inputs i).longest

-- an accepted sample: its second; for each input whether it ended "an accepted impulse" or "any other run a rejected one"; and the units that it brought
pub record Sample : Type 0 where
  pub second : ℕ
  pub impulse : ℕ → Bool
  pub rejected : ℕ → Bool
  pub units : ℕ → ℕ

-- every second
abbrev pub always : ℕ → Bool
always second = true

-- the accepted impulses of input i in the samples whose second is `on`
abbrev pub impulses_of : (ℕ → Bool) → ℕ → List Sample → ℕ
impulses_of on i [] = 0
impulses_of on i (e ∷ earlier) = impulses_of on i earlier + bit (on e.second && e.impulse i)

-- "The exact energy of an impulse is numerator over denominator": that of n impulses of input i, rounded down
abbrev pub rounded_down : Config → ℕ → ℕ → ℕ
rounded_down c i n = n * (input_at c.inputs i).numerator / (input_at c.inputs i).denominator

-- a sample after a journal whose samples are `before`. The units of an input are the difference of its energies, rounded down, after the sample and before it
abbrev pub sample_on : Config → ℕ → ℕ → List Entry → List Sample → Sample
sample_on c bits second earlier before =
    record {
      second = second;
      impulse = λ i. ends_run c bits earlier i && in_range c i (run_of c i earlier);
      rejected = λ i. ends_run c bits earlier i && not (in_range c i (run_of c i earlier));
      units = λ i.
          let n = impulses_of always i before in
          let more = bit (ends_run c bits earlier i && in_range c i (run_of c i earlier)) in
          rounded_down c i (n + more) - rounded_down c i n;
    }

-- all accepted samples of the history
abbrev pub whole : Config → List Entry → List Sample
whole c [] = []
whole c (took bits second ∷ earlier) = sample_on c bits second earlier (whole c earlier) ∷ whole c earlier
whole c (ended state stamp ∷ earlier) = whole c earlier
whole c (cleared second ∷ earlier) = whole c earlier
whole c (heard stamp meter value status seq ∷ earlier) = whole c earlier

-- those since the last reset: "'Since the last reset' means since the start where there was none"
abbrev pub since : Config → List Entry → List Sample
since c [] = []
since c (took bits second ∷ earlier) = sample_on c bits second earlier (whole c earlier) ∷ since c earlier
since c (ended state stamp ∷ earlier) = since c earlier
since c (cleared second ∷ earlier) = []
since c (heard stamp meter value status seq ∷ earlier) = since c earlier

-- those of the running period
abbrev pub in_period : Config → List Entry → List Sample
in_period c [] = []
in_period c (took bits second ∷ earlier) = sample_on c bits second earlier (whole c earlier) ∷ in_period c earlier
in_period c (ended state stamp ∷ earlier) = []
in_period c (cleared second ∷ earlier) = in_period c earlier
in_period c (heard stamp meter value status seq ∷ earlier) = in_period c earlier

-- the rejected impulses of input i in these samples
abbrev pub rejected_in : ℕ → List Sample → ℕ
rejected_in i [] = 0
rejected_in i (e ∷ earlier) = rejected_in i earlier + bit (e.rejected i)

-- the units of input i in these samples
abbrev pub units_in : ℕ → List Sample → ℕ
units_in i [] = 0
units_in i (e ∷ earlier) = units_in i earlier + e.units i

-- "The units go to .. each sum that names it, and each bill register on such a sum": the units that a sample brings to the inputs that a mask names, if its second is `on`
abbrev pub due_from : (ℕ → Bool) → ℕ → Sample → ℕ
due_from on mask e = if on e.second then sum_of mask e.units else 0

-- those of all these samples
abbrev pub booked_in : (ℕ → Bool) → ℕ → List Sample → ℕ
booked_in on mask [] = 0
booked_in on mask (e ∷ earlier) = booked_in on mask earlier + due_from on mask e

-- Bill registers

-- register j is in use: it is on one of the eight sums
abbrev pub in_use : Config → ℕ → Bool
in_use c j = ltb (register_at c.registers j).sum 8

-- it is booked at this second: it "has no rule or [its] rule is in force at the clock's present second"
unfoldable pub books_at : Config → ℕ → ℕ → Bool
books_at c j second = feeds (register_at c.registers j) (force_map_at c.program second)

-- the inputs that feed it, as a mask: its sum, in which "bit i names input i"
unfoldable pub feeding : Config → ℕ → ℕ
feeding c j = get_or c.sums (register_at c.registers j).sum 0

-- its open amount: the units that the samples since the last reset brought to its sum while it was booked
unfoldable pub amount_of : Config → ℕ → List Entry → ℕ
amount_of c j journal = booked_in (books_at c j) (feeding c j) (since c journal)

-- "A billing reset notes each open bill amount and the clock as closed": the last one, if there was one
pub record Closing : Type 0 where
  pub reset : Bool
  pub amount : ℕ
  pub stamp : ℕ

-- what the last reset noted of register j
abbrev pub last_reset : Config → ℕ → List Entry → Closing
last_reset c j [] = record { reset = false; amount = 0; stamp = 0 }
last_reset c j (took bits second ∷ earlier) = last_reset c j earlier
last_reset c j (ended state stamp ∷ earlier) = last_reset c j earlier
last_reset c j (cleared second ∷ earlier) = record { reset = true; amount = amount_of c j earlier; stamp = second }
last_reset c j (heard stamp meter value status seq ∷ earlier) = last_reset c j earlier

-- Periods and meters

-- a closed period: "whole", 2, or "short", 1; its closing time; level 0 of each input, "units of the period"
pub record Ended : Type 0 where
  pub state : ℕ
  pub stamp : ℕ
  pub units : List ℕ

-- all closed periods of the history
abbrev pub periods_of : Config → List Entry → List Ended
periods_of c [] = []
periods_of c (took bits second ∷ earlier) = periods_of c earlier
periods_of c (ended state stamp ∷ earlier) =
    record { state = state; stamp = stamp; units = table 16 (λ i. units_in i (in_period c earlier)) } ∷ periods_of c earlier
periods_of c (cleared second ∷ earlier) = periods_of c earlier
periods_of c (heard stamp meter value status seq ∷ earlier) = periods_of c earlier

-- an accepted reading of a meter, and the second at which it came
pub record Heard : Type 0 where
  pub second : ℕ
  pub value : ℤ
  pub status : ℕ
  pub seq : ℕ

-- all accepted readings of meter i
abbrev pub readings_of : List Entry → ℕ → List Heard
readings_of [] i = []
readings_of (took bits second ∷ earlier) i = readings_of earlier i
readings_of (ended state stamp ∷ earlier) i = readings_of earlier i
readings_of (cleared second ∷ earlier) i = readings_of earlier i
readings_of (heard second meter value status seq ∷ earlier) i =
    if eqb meter i then record { second = second; value = value; status = status; seq = seq } ∷ readings_of earlier i else readings_of earlier i

-- CR 5: a reading with this SEQ renews the stamp that these readings left, unless it "equals the stored one", that of the last of them; "A first reading always renews"
abbrev pub renews : ℕ → List Heard → Bool
renews seq [] = true
renews seq (last ∷ earlier) = not (eqb last.seq seq)

-- the stamp that readings leave: the second of the last one that renewed it
abbrev pub stamp_of : List Heard → ℕ
stamp_of [] = 0
stamp_of (last ∷ earlier) = if renews last.seq earlier then last.second else stamp_of earlier

-- "A reading brings meter, value, STATUS and SEQ, and is stamped with the clock"; none before the first
pub record Reading : Type 0 where
  pub read : Bool
  pub stamp : ℕ
  pub value : ℤ
  pub status : ℕ
  pub seq : ℕ

-- what readings leave: value, STATUS and SEQ of the last one, and the stamp
abbrev pub left_by : List Heard → Reading
left_by [] = record { read = false; stamp = 0; value = pos 0; status = 0; seq = 0 }
left_by (last ∷ earlier) =
    record { read = true; stamp = stamp_of (last ∷ earlier); value = last.value; status = last.status; seq = last.seq }

-- the last accepted reading of meter i, with the stamp of the last one that renewed it
abbrev pub last_reading : List Entry → ℕ → Reading
last_reading journal i = left_by (readings_of journal i)

-- Which calls are accepted, and what they enter

-- the clock: its second, the samples in this second, and the first second of the running period
pub record Time : Type 0 where
  pub second : ℕ
  pub samples : ℕ
  pub first : ℕ

-- the account of a history
pub record Account : Type 0 where
  pub time : Time
  pub journal : List Entry

-- the sample that these line bits would be
abbrev pub next_sample : Config → Account → ℕ → Sample
next_sample c a bits = sample_on c bits a.time.second a.journal (whole c a.journal)

-- the units that a sample brings to register j
abbrev pub due_to : Config → ℕ → Sample → ℕ
due_to c j e = due_from (books_at c j) (feeding c j) e

-- a sample "would take a bill register past 999,999,999"; one that gets no units is not asked
unfoldable pub overfull : Config → List Entry → Sample → ℕ → Bool
overfull c journal e j = in_use c j && (ltb 0 (due_to c j e) && ltb 999_999_999 (amount_of c j journal + due_to c j e))

-- a sample: 5 where it is the "hundredth sample in the last second", then 6 where it would fill a bill register; 0 is no refusal
unfoldable pub number_of_sample : Config → Account → ℕ → ℕ
number_of_sample c a bits =
    if eqb a.time.second 4_294_967_295 && eqb a.time.samples 99 then 5
    else if any 16 (overfull c a.journal (next_sample c a bits)) then 6
    else 0

-- a reading: "7 NO METER: meter above 31"; "8 NOT FITTED"; "10 READING: STATUS above 7 or SEQ above 31"
unfoldable pub number_of_reading : Config → ℕ → ℕ → ℕ → ℕ
number_of_reading c meter status seq =
    if ltb 31 meter then 7
    else if eqb (get_or c.limits meter 0) 0 then 8
    else if ltb 7 status || ltb 31 seq then 10
    else 0

-- the whole answer to a reading: whether the stamp is renewed or kept, or the refusal
unfoldable pub answer_of_reading : Config → List Entry → ℕ → ℕ → ℕ → Answer Stamping
answer_of_reading c journal meter status seq =
    let number = number_of_reading c meter status seq in
    if not (eqb number 0) then refused number 0
    else if renews seq (readings_of journal meter) then given renewed
    else given kept

-- the number with which a call is answered; a clock set: 9 for a time without a date, which no 32-bit time is
abbrev pub answer_of : Config → Account → Call → ℕ
answer_of c a (sample bits) = number_of_sample c a bits
answer_of c a (set seconds) = number_in (moment_of seconds)
answer_of c a (reading meter value status seq) = number_of_reading c meter status seq
answer_of c a reset = 0

-- "100 samples make a second. After the hundredth is booked the clock steps; if it is then a multiple of the period's seconds, the period closes .. whole if it began on a multiple, else short"
unfoldable pub stepped : Config → Time → List Entry → Account
stepped c t journal =
    let now = t.second + 1 in
    if multiple c.period now
    then record {
      time = record { second = now; samples = 0; first = now };
      journal = ended (if multiple c.period t.first then 2 else 1) now ∷ journal;
    }
    else record { time = record { second = now; samples = 0; first = t.first }; journal = journal }

-- an accepted sample
unfoldable pub counted : Config → Time → List Entry → Account
counted c t journal =
    if eqb t.samples 99 then stepped c t journal
    else record { time = record { second = t.second; samples = t.samples + 1; first = t.first }; journal = journal }

-- what an accepted call enters. "A clock set (any value, the present one also) closes the period at the old time as short, sets the clock and starts second and period anew."
abbrev pub entered : Config → Account → Call → Account
entered c a (sample bits) = counted c a.time (took bits a.time.second ∷ a.journal)
entered c a (set seconds) =
    record { time = record { second = seconds; samples = 0; first = seconds }; journal = ended 1 a.time.second ∷ a.journal }
entered c a (reading meter value status seq) = record { time = a.time; journal = heard a.time.second meter value status seq ∷ a.journal }
entered c a reset = record { time = a.time; journal = cleared a.time.second ∷ a.journal }

-- the account after a call: a refused one enters nothing
unfoldable pub with_call : Config → Account → Call → Account
with_call c a call = if eqb (answer_of c a call) 0 then entered c a call else a

-- the account of a history: a configuration, the time of the fresh start, and the calls after it
unfoldable pub account_of : Config → ℕ → List Call → Account
account_of c time [] = record { time = record { second = time; samples = 0; first = time }; journal = [] }
account_of c time (call ∷ earlier) = with_call c (account_of c time earlier) call

-- the journal of a history
abbrev pub journal_of : Config → ℕ → List Call → List Entry
journal_of c time calls = (account_of c time calls).journal

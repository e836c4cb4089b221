-- No second result fits the contract of a public function of the recorder.
use Rattle.std.specs.Prelude.{if◌then◌else◌}
use mathlib.Core.Path.{◌≡◌, refl, sym, ap, ◌∙◌}
use mathlib.Core.List.{List}
use Rattle.std.proofs.Common.{Result, Ok, Err}
use Prim.Native.Nat.{ℕ}
use lib.Dec.{eqb}
use Rattle.laws.specs.Answers.{Answer, given, refused, Reply, RunReply}
use Rattle.laws.specs.Unique.{OneResult, OneExit}
use Rattle.laws.proofs.Unique.{told_apart}
use Rattle.profile.specs.Reading.{RecordReply}
use Rattle.profile.proofs.Unique.{record_apart}
use Rattle.sampling.proofs.Unique.{sample_apart}
use Rattle.recorder.specs.Profile.{WithBuffer, with_buffer}
use Rattle.recorder.specs.Meters.{age_number, age_said, Stamping, renewed, kept, ReadingReply}
use Rattle.recorder.specs.Calls.{StartAnswered, start_number, set_number, reading_number}
use Rattle.recorder.specs.Readout.{readout_number, readout_said}
use Rattle.recorder.specs.declared.Recorder.{Recorder}
use Rattle.recorder.specs.declared.Answered.{Answered}
use Rattle.recorder.specs.declared.errors.ReadoutError.{ReadoutError}
use Rattle.recorder.specs.declared.errors.ReadoutError.TheVariants as readout
use Rattle.recorder.specs.declared.errors.StartError.{StartError}
use Rattle.recorder.specs.declared.errors.StartError.TheVariants as start
use Rattle.image.specs.declared.ImageError.TheVariants as image
use Rattle.recorder.specs.declared.errors.SetError.{SetError}
use Rattle.recorder.specs.declared.errors.SetError.TheVariants as set
use Rattle.recorder.specs.declared.errors.Stamp.{Stamp}
use Rattle.recorder.specs.declared.errors.Stamp.TheVariants as stamp
use Rattle.recorder.specs.declared.errors.ReadingError.{ReadingError}
use Rattle.recorder.specs.declared.errors.ReadingError.TheVariants as reading
use Rattle.recorder.specs.declared.meters.Age.{Age}
use Rattle.recorder.specs.declared.meters.Age.TheVariants as age
use Rattle.recorder.specs.declared.meters.AgeError.{AgeError}
use Rattle.recorder.specs.declared.meters.AgeError.TheVariants as refusal
use Rattle.recorder.proofs.Recorder.start.Reads as start_reads
use Rattle.recorder.proofs.Recorder.sample.Reads as sample_reads
use Rattle.recorder.proofs.Recorder.samples.Reads as samples_reads
use Rattle.recorder.proofs.Recorder.set_clock.Reads as set_clock_reads
use Rattle.recorder.proofs.Recorder.reading.Reads as reading_reads
use Rattle.recorder.proofs.Recorder.readout.Reads as readout_reads
use Rattle.recorder.proofs.Recorder.block_readout.Reads as block_readout_reads
use Rattle.recorder.proofs.Recorder.reset_bills.Reads as reset_bills_reads
use Rattle.recorder.proofs.Recorder.read_record.Reads as read_record_reads
use Rattle.recorder.proofs.meters.age_class.Reads as age_class_reads
use Rattle.recorder.proofs.meters.age_answer.Reads as age_answer_reads

-- document 01's number tells all answers to a clock set apart
pub set_apart : (x y : Result (Unit {0}) SetError) → set_number x ≡ set_number y → x ≡ y
set_apart = told_apart set_number back told
  where
    back : ℕ → Result (Unit {0}) SetError
    back n = if eqb n 14 then Err set.ProfileBuffer else if eqb n 9 then Err set.NoDate else Ok tt

    told : (x : Result (Unit {0}) SetError) → back (set_number x) ≡ x
    told (Ok u) = refl
    told (Err set.ProfileBuffer) = refl
    told (Err set.NoDate) = refl

-- all answers to a reading
abbrev reading_back : Answer Stamping → Result Stamp ReadingError
reading_back (given renewed) = Ok stamp.Renewed
reading_back (given kept) = Ok stamp.Kept
reading_back (refused n offset) = if eqb n 7 then Err reading.NoMeter else if eqb n 8 then Err reading.NotFitted else Err reading.BadReading

reading_told : (x : Result Stamp ReadingError) → reading_back (reading_number x) ≡ x
reading_told (Ok stamp.Renewed) = refl
reading_told (Ok stamp.Kept) = refl
reading_told (Err reading.NoMeter) = refl
reading_told (Err reading.NotFitted) = refl
reading_told (Err reading.BadReading) = refl

pub reading_apart : (x y : Result Stamp ReadingError) → reading_number x ≡ reading_number y → x ≡ y
reading_apart = told_apart reading_number reading_back reading_told

-- to a data set that is to be booked
pub readout_apart : (x y : Result Stamp ReadoutError) → readout_number x ≡ readout_number y → x ≡ y
readout_apart = told_apart readout_number back told
  where
    of_reading : Result Stamp ReadingError → Result Stamp ReadoutError
    of_reading (Ok stamp) = Ok stamp
    of_reading (Err error) = Err (readout.Reading error)

    back : Answer Stamping → Result Stamp ReadoutError
    back (given x) = of_reading (reading_back (given x))
    back (refused n offset) =
        if eqb n 16 then Err readout.Block
        else if eqb n 17 then Err readout.Line
        else if eqb n 18 then Err readout.NotANumber
        else if eqb n 19 then Err readout.DoesNotFit
        else of_reading (reading_back (refused n offset))

    told : (x : Result Stamp ReadoutError) → back (readout_number x) ≡ x
    told (Ok stamp.Renewed) = refl
    told (Ok stamp.Kept) = refl
    told (Err readout.Block) = refl
    told (Err readout.Line) = refl
    told (Err readout.NotANumber) = refl
    told (Err readout.DoesNotFit) = refl
    told (Err (readout.Reading reading.NoMeter)) = refl
    told (Err (readout.Reading reading.NotFitted)) = refl
    told (Err (readout.Reading reading.BadReading)) = refl

-- all classes of age
abbrev class_back : ℕ → Age
class_back n = if eqb n 1 then age.Stale else if eqb n 2 then age.Invalid else if eqb n 3 then age.Never else age.Awake

class_told : (x : Age) → class_back (age_number x) ≡ x
class_told age.Awake = refl
class_told age.Stale = refl
class_told age.Invalid = refl
class_told age.Never = refl

pub age_apart : (x y : Age) → age_number x ≡ age_number y → x ≡ y
age_apart = told_apart age_number class_back class_told

-- all answers to a host
pub age_answer_apart : (x y : Result Age AgeError) → age_said x ≡ age_said y → x ≡ y
age_answer_apart = told_apart age_said back told
  where
    back : Answer ℕ → Result Age AgeError
    back (given n) = Ok (class_back n)
    back (refused n offset) = if eqb n 8 then Err refusal.NotFitted else Err refusal.BadStatus

    told : (x : Result Age AgeError) → back (age_said x) ≡ x
    told (Ok class) = ap Ok (class_told class)
    told (Err refusal.NotFitted) = refl
    told (Err refusal.BadStatus) = refl

-- all answers to a start
pub start_apart : (x y : Result (Unit {0}) StartError) → start_number x ≡ start_number y → x ≡ y
start_apart = told_apart start_number back told
  where
    back : Answer (Unit {0}) → Result (Unit {0}) StartError
    back (given u) = Ok tt
    back (refused n offset) =
        if eqb n 14 then Err start.ProfileBuffer
        else if eqb n 8 then Err start.NotFitted
        else if eqb n 1 then Err (start.Image image.Length)
        else if eqb n 2 then Err (start.Image image.Mark)
        else if eqb n 3 then Err (start.Image image.Version)
        else if eqb n 4 then Err (start.Image (image.Value offset))
        else Err start.NoDate

    told : (x : Result (Unit {0}) StartError) → back (start_number x) ≡ x
    told (Ok u) = refl
    told (Err start.ProfileBuffer) = refl
    told (Err start.NotFitted) = refl
    told (Err (start.Image image.Length)) = refl
    told (Err (start.Image image.Mark)) = refl
    told (Err (start.Image image.Version)) = refl
    told (Err (start.Image (image.Value offset))) = refl
    told (Err start.NoDate) = refl

-- the answers are the same, and the recorders: so is what the call came to
same_both : {T E : Type 0} (x y : Answered T E) → x.answer ≡ y.answer → x.recorder ≡ y.recorder → x ≡ y
same_both x y answer recorder = (λ i. record { answer = answer i; recorder = recorder i })

pub start_once : OneResult start_reads.Post
start_once κs a x y e f p q =
    let s = p ∙ sym q in
    same_both x y (start_apart x.answer y.answer (ap (λ (r : StartAnswered). r.answer) s)) (ap (λ (r : StartAnswered). r.recorder) s)

-- of two replies with the buffer after them that are the same, the replies are, and the buffers
reply_same : {A : Type 0} {x y : A} {b d : List ℕ} → with_buffer x b ≡ with_buffer y d → x ≡ y
reply_same {A} e = ap (λ (r : WithBuffer A). r.reply) e

buffer_same : {A : Type 0} {x y : A} {b d : List ℕ} → with_buffer x b ≡ with_buffer y d → b ≡ d
buffer_same {A} e = ap (λ (r : WithBuffer A). r.buffer) e

pub sample_once : OneResult sample_reads.Post
sample_once κs a x y e f p q =
    let s = reply_same (p ∙ sym q) in
    same_both x y (sample_apart x.answer y.answer (ap (λ (r : Reply Recorder). r.number) s)) (ap (λ (r : Reply Recorder). r.after) s)

-- the buffer is the third parameter
pub sample_exit : OneExit (λ κs e. e.1.1.0.now) sample_reads.Post
sample_exit κs a x y e f p q = buffer_same (p ∙ sym q)

pub samples_once : OneResult samples_reads.Post
samples_once κs a x y e f p q =
    let s = reply_same (p ∙ sym q) in
    let taken = ap (λ (r : RunReply Recorder). r.taken) s in
    let answer = sample_apart x.answer y.answer (ap (λ (r : RunReply Recorder). r.number) s) in
    let recorder = ap (λ (r : RunReply Recorder). r.after) s in
    (λ i. record { taken = taken i; answer = answer i; recorder = recorder i })

pub samples_exit : OneExit (λ κs e. e.1.1.0.now) samples_reads.Post
samples_exit κs a x y e f p q = buffer_same (p ∙ sym q)

pub set_clock_once : OneResult set_clock_reads.Post
set_clock_once κs a x y e f p q =
    let s = reply_same (p ∙ sym q) in
    same_both x y (set_apart x.answer y.answer (ap (λ (r : Reply Recorder). r.number) s)) (ap (λ (r : Reply Recorder). r.after) s)

pub set_clock_exit : OneExit (λ κs e. e.1.1.0.now) set_clock_reads.Post
set_clock_exit κs a x y e f p q = buffer_same (p ∙ sym q)

pub reading_once : OneResult reading_reads.Post
reading_once κs a x y e f p q =
    let s = p ∙ sym q in
    same_both x y (reading_apart x.answer y.answer (ap (λ (r : ReadingReply Recorder). r.answer) s)) (ap (λ (r : ReadingReply Recorder). r.after) s)

-- of a data set, with a block around it or without
readout_same : (x y : Answered Stamp ReadoutError) → readout_said x ≡ readout_said y → x ≡ y
readout_same x y s =
    same_both x y (readout_apart x.answer y.answer (ap (λ (r : ReadingReply Recorder). r.answer) s)) (ap (λ (r : ReadingReply Recorder). r.after) s)

pub readout_once : OneResult readout_reads.Post
readout_once κs a x y e f p q = readout_same x y (p ∙ sym q)

pub block_readout_once : OneResult block_readout_reads.Post
block_readout_once κs a x y e f p q = readout_same x y (p ∙ sym q)

pub reset_bills_once : OneResult reset_bills_reads.Post
reset_bills_once κs a x y e f p q = p ∙ sym q

pub age_class_once : OneResult age_class_reads.Post
age_class_once κs a x y e f p q = age_apart x y (p ∙ sym q)

pub age_answer_once : OneResult age_answer_reads.Post
age_answer_once κs a x y e f p q = age_answer_apart x y (p ∙ sym q)

pub read_record_once : OneResult read_record_reads.Post
read_record_once κs a x y e f p q = record_apart x y (ap (λ (r : RecordReply). r.answer) (p ∙ sym q))

-- the result is the fourth parameter
pub read_record_exit : OneExit (λ κs e. e.1.1.1.0.now) read_record_reads.Post
read_record_exit κs a x y e f p q = ap (λ (r : RecordReply). r.result) (p ∙ sym q)

-- No second result, and no second buffer, fits the contract of a public function of the profile.
use Rattle.std.specs.Prelude.{Result, Ok, Err, if◌then◌else◌}
use mathlib.Core.Path.{◌≡◌, refl, sym, ap, ◌∙◌}
use lib.Dec.{eqb}
use Rattle.laws.specs.Answers.{Answer, given, refused}
use Rattle.laws.specs.Unique.{OneResult, OneExit}
use Rattle.laws.proofs.Unique.{told_apart}
use Rattle.profile.specs.Room.{Kept}
use Rattle.profile.specs.Reading.{RecordReply, record_said}
use Rattle.profile.specs.declared.RecordError.{RecordError}
use Rattle.profile.specs.declared.RecordError.TheVariants.{ProfileBuffer, NoRecord, NoRoom}
use Rattle.profile.proofs.legal_length.Reads as legal_length_reads
use Rattle.profile.proofs.Profile.as_at_start.Reads as as_at_start_reads
use Rattle.profile.proofs.Profile.put.Reads as put_reads
use Rattle.profile.proofs.Profile.read.Reads as read_reads
use Rattle.profile.proofs.records.bits64.Reads as bits64_reads
use Rattle.profile.proofs.records.slots_fit.Reads as slots_fit_reads
use Rattle.profile.proofs.records.choose.Reads as choose_reads

-- the papers' number tells all answers to a request apart
pub record_apart : (x y : Result (Unit {0}) RecordError) → record_said x ≡ record_said y → x ≡ y
record_apart = told_apart record_said back told
  where
    back : Answer (Unit {0}) → Result (Unit {0}) RecordError
    back (given u) = Ok tt
    back (refused n offset) = if eqb n 14 then Err ProfileBuffer else if eqb n 15 then Err NoRecord else Err NoRoom

    told : (x : Result (Unit {0}) RecordError) → back (record_said x) ≡ x
    told (Ok u) = refl
    told (Err ProfileBuffer) = refl
    told (Err NoRecord) = refl
    told (Err NoRoom) = refl

pub legal_length_lem : OneResult legal_length_reads.Post
legal_length_lem κs a x y e f p q = p ∙ sym q

pub as_at_start_lem : OneResult as_at_start_reads.Post
as_at_start_lem κs a x y e f p q = p ∙ sym q

pub bits64 : OneResult bits64_reads.Post
bits64 κs a x y e f p q = p ∙ sym q

pub slots_fit_lem : OneResult slots_fit_reads.Post
slots_fit_lem κs a x y e f p q = p ∙ sym q

pub choose : OneResult choose_reads.Post
choose κs a x y e f p q = p ∙ sym q

pub put : OneResult put_reads.Post
put κs a x y e f p q = ap (λ (k : Kept). k.profile) (p ∙ sym q)

-- the buffer is the third parameter
pub put_exit : OneExit (λ κs e. e.1.1.0.now) put_reads.Post
put_exit κs a x y e f p q = ap (λ (k : Kept). k.buffer) (p ∙ sym q)

pub read : OneResult read_reads.Post
read κs a x y e f p q = record_apart x y (ap (λ (r : RecordReply). r.answer) (p ∙ sym q))

-- the result is the fourth parameter
pub read_exit : OneExit (λ κs e. e.1.1.1.0.now) read_reads.Post
read_exit κs a x y e f p q = ap (λ (r : RecordReply). r.result) (p ∙ sym q)

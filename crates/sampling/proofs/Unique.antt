-- No second result fits the contract of a public function of the sampling.
use Rattle.std.specs.Prelude.{Result, Ok, Err, if◌then◌else◌}
use mathlib.Core.Path.{◌≡◌, refl, sym, ap, ◌∙◌}
use Prim.Native.Nat.{ℕ}
use lib.Dec.{eqb}
use Rattle.laws.specs.Unique.{OneResult}
use Rattle.laws.proofs.Unique.{told_apart}
use Rattle.sampling.specs.Samples.{sample_number}
use Rattle.sampling.specs.Laps.{LapReply}
use Rattle.sampling.specs.declared.SampleError.{SampleError}
use Rattle.sampling.specs.declared.SampleError.TheVariants.{ProfileBuffer, ClockEnd, Full}
use Rattle.sampling.proofs.samples.take.Reads as take_reads
use Rattle.sampling.proofs.clock.close_with.Reads as close_with_reads
use Rattle.sampling.proofs.clock.close.Reads as close_reads

-- document 01's number tells all answers to a sample apart
pub sample_apart : (x y : Result (Unit {0}) SampleError) → sample_number x ≡ sample_number y → x ≡ y
sample_apart = told_apart sample_number back told
  where
    back : ℕ → Result (Unit {0}) SampleError
    back n = if eqb n 14 then Err ProfileBuffer else if eqb n 5 then Err ClockEnd else if eqb n 6 then Err Full else Ok tt

    told : (x : Result (Unit {0}) SampleError) → back (sample_number x) ≡ x
    told (Ok taken) = refl
    told (Err ProfileBuffer) = refl
    told (Err ClockEnd) = refl
    told (Err Full) = refl

pub close_with : OneResult close_with_reads.Post
close_with κs a x y e f p q = p ∙ sym q

pub close : OneResult close_reads.Post
close κs a x y e f p q = p ∙ sym q

pub take_once : OneResult take_reads.Post
take_once κs a x y e f p q =
    let s = p ∙ sym q in
    let state = ap (λ (r : LapReply). r.state) s in
    let taken = ap (λ (r : LapReply). r.taken) s in
    let answer = sample_apart x.answer y.answer (ap (λ (r : LapReply). r.number) s) in
    let closes = ap (λ (r : LapReply). r.closes) s in
    (λ i. record { state = state i; taken = taken i; answer = answer i; closes = closes i })

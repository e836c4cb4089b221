-- A run of samples that is lent a buffer, lap by lap.
use mathlib.Core.Path.{◌≡◌, ap}
use mathlib.Core.Bool.{true, false}
use mathlib.Core.List.{List}
use Prim.Native.Nat.{ℕ, ◌+◌}
use native.Mathlib.Omega.{arith}
use lib.ListN.{length, drop}
use Rattle.laws.specs.Answers.{RunReply}
use Rattle.profile.specs.Room.{as_at_start, moved_on, written, Kept, with_records, moved_by}
use Rattle.profile.specs.declared.Profile.{Profile}
use Rattle.profile.proofs.Puts.{put_is, still_right}
use Rattle.sampling.specs.Samples.{samples_of}
use Rattle.sampling.specs.Closed.{closed_in}
use Rattle.sampling.specs.Laps.{closed_here, LapReply, lap_of}
use Rattle.sampling.specs.declared.State.{State}
use Rattle.sampling.proofs.Laps.{run_ends, ends_open, run_closes, closes_first}
use Rattle.recorder.specs.Profile.{record_of, records_of, WithBuffer, with_buffer}
use Rattle.recorder.specs.Calls.{samples_lent}
use Rattle.recorder.specs.declared.Recorder.{Recorder}

-- what is fixed, with a state and a profile
abbrev pub with_moved : Recorder → State → Profile → Recorder
with_moved r s p = record { config = r.config; setup = r.setup; state = s; profile = p }

-- the samples of laps that went before, counted in
abbrev pub counted_on : ℕ → WithBuffer (RunReply Recorder) → WithBuffer (RunReply Recorder)
counted_on k w = with_buffer (record { taken = k + w.reply.taken; number = w.reply.number; after = w.reply.after }) w.buffer

-- two times
pub counted_twice : (k n : ℕ) (w : WithBuffer (RunReply Recorder)) → counted_on k (counted_on n w) ≡ counted_on (k + n) w
counted_twice k n w = let e : k + (n + w.reply.taken) ≡ k + n + w.reply.taken = omega arith in rw e

module _ (r : Recorder) (bits buffer : List ℕ) (t : LapReply) (right : as_at_start r.profile (length buffer) ≡ true) (is : lap_of r.config r.state bits ≡ t) where
  -- a lap that ends without a closing is the whole run
  pub lent_ends : t.closes ≡ false → samples_lent r bits buffer ≡ with_buffer (record { taken = t.taken; number = t.number; after = with_moved r t.state r.profile }) buffer
  unfolding samples_lent
  lent_ends e = rw (right, run_ends r.config r.state bits t is e, ends_open r.config r.state bits t is e)

  -- one that ends with a closing goes on with its record put
  pub lent_goes_on : t.closes ≡ true
      → (let s = closed_here r.config t.state in
      samples_lent r bits buffer ≡ counted_on t.taken (samples_lent (with_moved r s (moved_on r.profile)) (drop t.taken bits) (written r.profile (record_of r.setup s.closed) buffer)))
  unfolding samples_lent
  lent_goes_on e =
      let s = closed_here r.config t.state in
      let left = drop t.taken bits in
      let p = record_of r.setup s.closed in
      let periods = closed_in r.config s left in
      let moved = moved_by (moved_on r.profile) (records_of r.setup periods) in
      let run = samples_of r.config s left in
      rw (right, run_closes r.config r.state bits t is e, closes_first r.config r.state bits t is e, still_right r.profile buffer right p)
      (ap (λ (k : Kept). with_buffer (record { taken = t.taken + run.taken; number = run.number; after = with_moved r run.after moved }) (with_records k (records_of r.setup periods)).buffer)
      (put_is r.profile buffer right p))

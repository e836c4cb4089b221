-- A run of one sample is the sample.
use mathlib.Core.Path.{◌≡◌, refl, sym, ap₂}
use mathlib.Core.Bool.{true, false}
use mathlib.Core.List.{List, [], ◌∷◌, ◌++◌, append-nil}
use Prim.Native.Nat.{ℕ}
use lib.ListN.{length}
use Rattle.laws.proofs.Tests.{by_test}
use Rattle.laws.specs.Answers.{Answer, given, refused, Reply, RunReply, reply_to}
use Rattle.settings.specs.declared.Config.{Config}
use Rattle.profile.specs.Room.{as_at_start, moved_on, written, kept, with_records}
use Rattle.profile.proofs.Puts.{put_is}
use Rattle.sampling.specs.Samples.{onward, sample_of, samples_of}
use Rattle.sampling.specs.Closed.{closed_by, closed_on, closed_in}
use Rattle.sampling.specs.Laps.{closed_here, LapReply, lap_of}
use Rattle.sampling.specs.declared.Period.{Period}
use Rattle.sampling.specs.declared.State.{State}
use Rattle.sampling.proofs.Laps.{one_closes, one_closed}
use Rattle.recorder.specs.Profile.{record_of, records_of, WithBuffer, with_buffer}
use Rattle.recorder.specs.Calls.{beside, sample_lent, samples_lent}
use Rattle.recorder.specs.declared.Recorder.{Recorder}
use Rattle.recorder.proofs.Lent.{with_moved, lent_ends}

-- what is said of a run, without the count
abbrev pub uncounted : {S : Type 0} → RunReply S → Reply S
uncounted r = record { number = r.number; after = r.after }

-- the reply to a run whose only sample is answered so
one_reply : (s : State) (a : Answer State) → uncounted (onward s a (λ next. record { taken = 0; number = 0; after = next })) ≡ reply_to s a
one_reply s (given next) = refl
one_reply s (refused n offset) = refl

-- and the period that it closes
one_period : (c : Config) (a : Answer State) → closed_by c a ++ closed_on a (λ next. []) ≡ closed_by c a
one_period c (given next) = append-nil (closed_by c (given next))
one_period c (refused n offset) = refl

-- with the buffer that is lent to it
pub one_lent : (r : Recorder) (bits : ℕ) (buffer : List ℕ) (w : WithBuffer (RunReply Recorder)) → w ≡ samples_lent r (bits ∷ []) buffer
    → with_buffer (uncounted w.reply) w.buffer ≡ sample_lent r bits buffer
unfolding samples_lent sample_lent samples_of closed_in
one_lent r bits buffer w e =
    let a = sample_of r.config r.state bits in
    let lent = λ (reply : Reply State) (periods : List Period). with_buffer (beside r reply periods) (with_records (kept r.profile buffer) (records_of r.setup periods)).buffer in
    rw e (by_test (as_at_start r.profile (length buffer)) (λ t. rw t (ap₂ lent (one_reply r.state a) (one_period r.config a))) (λ f. rw f))

module _ (r : Recorder) (bits : ℕ) (buffer : List ℕ) (t : LapReply) (right : as_at_start r.profile (length buffer) ≡ true) (is : lap_of r.config r.state (bits ∷ []) ≡ t) where
  -- a lap of one sample that ends without a closing is the sample
  pub single_ends : t.closes ≡ false → with_buffer (record { number = t.number; after = with_moved r t.state r.profile }) buffer ≡ sample_lent r bits buffer
  single_ends e = one_lent r bits buffer _ (sym (lent_ends r (bits ∷ []) buffer t right is e))

  -- with its closing and the record of the period it is the whole run
  single_run : t.closes ≡ true
      → (let s = closed_here r.config t.state in
      samples_lent r (bits ∷ []) buffer ≡ with_buffer (record { taken = t.taken; number = t.number; after = with_moved r s (moved_on r.profile) }) (written r.profile (record_of r.setup s.closed) buffer))
  unfolding samples_lent
  single_run e =
      rw (right, one_closes r.config r.state bits t is e, one_closed r.config r.state bits t is e, put_is r.profile buffer right (record_of r.setup (closed_here r.config t.state).closed))

  -- and so it is the sample
  pub single_closes : t.closes ≡ true
      → (let s = closed_here r.config t.state in
      with_buffer (record { number = t.number; after = with_moved r s (moved_on r.profile) }) (written r.profile (record_of r.setup s.closed) buffer) ≡ sample_lent r bits buffer)
  single_closes e = one_lent r bits buffer _ (sym (single_run e))

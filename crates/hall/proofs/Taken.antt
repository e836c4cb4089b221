-- A run takes no more samples than it is given.
use mathlib.Core.Path.{◌≡◌}
use mathlib.Core.List.{List, [], ◌∷◌}
use native.Mathlib.Nat.{le_trans}
use native.Mathlib.Omega.{arith}
use Prim.Native.Nat.{ℕ, suc, ◌≤◌, zero-le, suc-le-suc}
use lib.ListN.{length, take, length-take}
use Rattle.laws.specs.Answers.{Answer, given, refused, RunReply}
use Rattle.laws.proofs.Tests.{by_test}
use Rattle.settings.specs.declared.Config.{Config}
use Rattle.profile.specs.Room.{as_at_start}
use Rattle.sampling.specs.declared.State.{State}
use Rattle.sampling.specs.Samples.{onward, sample_of, samples_of}
use Rattle.recorder.specs.Calls.{samples_lent}
use Rattle.recorder.specs.Profile.{WithBuffer}
use Rattle.recorder.specs.declared.Recorder.{Recorder}

-- one sample more, if it is taken
one_more_lem : (s : State) (a : Answer State) (rest : State → RunReply State) (n : ℕ) → ((next : State) → (rest next).taken ≤ n) → (onward s a rest).taken ≤ suc n
one_more_lem s (given next) rest n h = suc-le-suc (h next)
one_more_lem s (refused m offset) rest n h = zero-le

taken_le : (c : Config) (s : State) (bits : List ℕ) → (samples_of c s bits).taken ≤ length bits
unfolding samples_of
taken_le c s [] = zero-le
taken_le c s (b ∷ more) = one_more_lem s (sample_of c s b) (λ next. samples_of c next more) (length more) (λ next. taken_le c next more)

-- the same with a lent buffer: none is taken where its length is not that of the start
lent_le : (r : Recorder) (bits buffer : List ℕ) → (samples_lent r bits buffer).reply.taken ≤ length bits
unfolding samples_lent
lent_le r bits buffer =
    by_test (as_at_start r.profile (length buffer)) (λ t. rw t (taken_le r.config r.state bits)) (λ f. rw f zero-le)

-- so of a part of the samples that it is given
pub few_taken : (x : WithBuffer (RunReply Recorder)) (r : Recorder) (n : ℕ) (bits buffer : List ℕ) → x ≡ samples_lent r (take n bits) buffer → x.reply.taken ≤ n
few_taken x r n bits buffer e = rw e (le_trans (lent_le r (take n bits) buffer) (omega (arith, length-take n bits)))

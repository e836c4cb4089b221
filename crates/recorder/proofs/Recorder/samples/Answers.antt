-- `recorder::Recorder::samples` meets its contract. The loop's invariant: the run from here on, with what was taken counted in, is the whole run.
use mathlib.Core.Path.{◌≡◌, sym, ap, ◌∙◌}
use mathlib.Core.List.{List}
use Prim.Native.Nat.{ℕ, ◌+◌, ◌-◌, ◌≤◌}
use native.Mathlib.Omega.{arith}
use lib.ListN.{length, take, drop, length-drop}
use lib.Seq.{take_all, drop-drop}
use borrow.Author.Rules.{rules}
use borrow.Author.Tests.{not-true, not-false}
use Rattle.settings.specs.declared.Config.{Config}
use Rattle.profile.specs.Room.{Kept}
use Rattle.profile.proofs.Puts.{put_is, still_right}
use Rattle.sampling.specs.declared.State.{State}
use Rattle.sampling.specs.Laps.{closed_here, LapReply, lap_of}
use Rattle.sampling.proofs.Laps.{taken_within, closes_some}
use Rattle.recorder.specs.Profile.{record_of}
use Rattle.recorder.proofs.Lent.{with_moved, counted_on, counted_twice, lent_ends, lent_goes_on}
use Rattle.recorder.proofs.Recorder.samples.Goals as goal
use Rattle.recorder.proofs.Recorder.samples.Goals.{then-as_at_start+then-not-lap, else-as_at_start}
use Rattle.recorder.specs.Calls.{samples_lent}

-- what the call took is a lap of the samples that are left
lap_is : (config : Config) (now : State) (bits : List ℕ) (k : ℕ) (lap : LapReply) → lap ≡ lap_of config now (take (length bits - k) (drop k bits)) → lap_of config now (drop k bits) ≡ lap
lap_is config now bits k lap e = ap (lap_of config now) (sym (take_all (length bits - k) (drop k bits) (omega (arith, length-drop k bits)))) ∙ sym e

-- it took no more than there are
within : (config : Config) (now : State) (bits : List ℕ) (k : ℕ) (lap : LapReply) → k ≤ length bits → lap_of config now (drop k bits) ≡ lap → k + lap.taken ≤ length bits
within config now bits k lap h e =
    let most = rw e at (taken_within config now (drop k bits)) in
    omega (arith, most, length-drop k bits, h)

pub overflow_add-taken : goal.overflow_add-taken
overflow_add-taken c =
    let l = c.loop-answer in
    let is = lap_is c.args.self.config l.state c.args.bits.now l.taken _ c.take-lap.ensures in
    search (rules, within c.args.self.config l.state c.args.bits.now l.taken _ l.invariant.within is)

pub returns : goal.returns
unfolding samples_lent
returns c =
    let a = c.args in
    elim c.if-as_at_start.branch [
      | then-as_at_start+then-not-lap w ↦
          let l = w.loop-answer in
          let is = lap_is a.self.config l.state a.bits.now l.taken _ w.take-lap.ensures in
          rw (w.buffer-is, w.state-is, w.profile-is, w.taken-is, w.answer-is) (sym (l.invariant.rest ∙ ap (counted_on l.taken) (lent_ends (with_moved a.self l.state l.profile) (drop l.taken a.bits.now) l.buffer _ l.invariant.right is (not-true _ w.if-not-lap.true))))
      | else-as_at_start w ↦
          rw (w.buffer-is, w.state-is, w.profile-is, w.taken-is, w.answer-is, ← c.as_at_start.ensures, w.if-as_at_start.false)
    ]

pub loop-answer-smaller : goal.loop-answer-smaller
loop-answer-smaller c =
    let a = c.args in
    let l = c.loop-answer in
    let is = lap_is a.self.config l.state a.bits.now l.taken _ c.take-lap.ensures in
    let some = closes_some a.self.config l.state (drop l.taken a.bits.now) (rw is (not-false _ c.if-not-lap.false)) in
    omega (arith, rw is at some, within a.self.config l.state a.bits.now l.taken _ l.invariant.within is)

pub loop-answer-preserved : goal.loop-answer-preserved
loop-answer-preserved c =
    let a = c.args in
    let l = c.loop-answer in
    let left = drop l.taken a.bits.now in
    let is = lap_is a.self.config l.state a.bits.now l.taken _ c.take-lap.ensures in
    let p = record_of a.self.setup (closed_here a.self.config c.take-lap.result.state).closed in
    let put = rw (c.record_of.ensures, c.close-state.ensures, put_is l.profile l.buffer l.invariant.right p) at c.put-profile.ensures in
    let profile = ap (λ (k : Kept). k.profile) put in
    let buffer = ap (λ (k : Kept). k.buffer) put in
    let on = lent_goes_on (with_moved a.self l.state l.profile) left l.buffer _ l.invariant.right is (not-false _ c.if-not-lap.false) in
    record {
      within = within a.self.config l.state a.bits.now l.taken _ l.invariant.within is;
      right = rw (profile, buffer) (still_right l.profile l.buffer l.invariant.right p);
      rest = rw (profile, buffer, c.close-state.ensures, ← drop-drop c.take-lap.result.taken l.taken a.bits.now) (l.invariant.rest ∙ ap (counted_on l.taken) on ∙ counted_twice l.taken c.take-lap.result.taken _);
    }

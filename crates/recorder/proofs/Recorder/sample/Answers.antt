-- `recorder::Recorder::sample` meets its contract: a lap of one sample, and where it closes a period the closing and the record.
use mathlib.Core.Path.{sym, ap, ◌∙◌}
use Rattle.profile.specs.Room.{Kept}
use Rattle.profile.proofs.Puts.{put_is}
use Rattle.sampling.specs.Laps.{closed_here}
use Rattle.recorder.specs.Profile.{record_of}
use Rattle.recorder.specs.Calls.{sample_lent}
use Rattle.recorder.proofs.Single.{single_ends, single_closes}
use Rattle.recorder.proofs.Recorder.sample.Goals as goal
use Rattle.recorder.proofs.Recorder.sample.Goals.{then-lap, else-lap}

pub returns-then-not-as_at_start : goal.returns-then-not-as_at_start
unfolding sample_lent
returns-then-not-as_at_start c = rw (c.refuse.ensures, ← c.as_at_start.ensures, c.if-not-as_at_start.true)

pub returns : goal.returns
returns c =
    let a = c.args in
    let right = sym c.as_at_start.ensures ∙ c.if-not-as_at_start.false in
    let lap = sym c.take-lap.ensures in
    elim c.if-lap.branch [
      | then-lap w ↦
          let p = record_of a.self.setup (closed_here a.self.config c.take-lap.result.state).closed in
          let put = rw (w.record_of.ensures, w.close-state.ensures, put_is a.self.profile a.buffer.now right p) at w.put-profile.ensures in
          rw (w.buffer-is, w.state-is, w.profile-is, ap (λ (k : Kept). k.profile) put, ap (λ (k : Kept). k.buffer) put, w.close-state.ensures)
          (single_closes a.self a.bits a.buffer.now _ right lap w.if-lap.true)
      | else-lap w ↦
          rw (w.buffer-is, w.state-is, w.profile-is) (single_ends a.self a.bits a.buffer.now _ right lap w.if-lap.false)
    ]

-- `recorder::Recorder::samples` meets its contract. The loop's invariant: the run from here on, with what was taken counted in, is the whole run.
use mathlib.Core.Path.{◌≡◌}
use mathlib.Core.Bool.{true}
use Prim.Native.Nat.{◌-◌, ◌≤◌}
use lib.ListN.{length, drop}
use Rattle.profile.specs.Room.{as_at_start}
use Rattle.recorder.specs.Calls.{samples_lent}
use Rattle.recorder.proofs.Lent.{with_moved, counted_on}
use Rattle.recorder.proofs.Recorder.samples.Given as goal

abbrev pub invariant-loop-answer : goal.invariant-loop-answer
invariant-loop-answer l = record {
  within : l.taken ≤ length l.bits;
  right : as_at_start l.profile (length l.buffer) ≡ true;
  rest : samples_lent l.self l.bits l.fn.buffer ≡ counted_on l.taken (samples_lent (with_moved l.self l.state l.profile) (drop l.taken l.bits) l.buffer);
}

abbrev pub decreases-loop-answer : goal.decreases-loop-answer
decreases-loop-answer l = length l.bits - l.taken

-- `sampling::booking::end_runs` meets its contract. The loop's invariant: the lines that have been gone through are settled, their units and what they were stand in the lists, and `brought` says whether there are units.
use mathlib.Core.Path.{◌≡◌}
use Rattle.counting.specs.Filter.{input_at, line_at}
use Rattle.counting.specs.ByMask.{settled, settled_units}
use Rattle.counting.specs.declared.Line.{Line}
use Rattle.laws.proofs.Sparse.{Half}
use Rattle.sampling.specs.Kept.{Nothing}
use Rattle.sampling.proofs.booking.end_runs.Given as goal

-- a line of nothing
abbrev pub blank : Line
blank = record { run = 0; rejected = 0; remainder = 0; units = 0 }

abbrev pub invariant-loop-i : goal.invariant-loop-i
invariant-loop-i l =
    let left = l.i-iterator.0 in
    Half l.ending left (λ i. settled (input_at l.config.inputs i) (line_at l.initial.lines i)) (line_at l.initial.lines) l.lines
    × Half l.ending left (λ i. settled_units (input_at l.config.inputs i) (line_at l.initial.lines i)) (λ i. 0) l.units
    × Half l.ending left (line_at l.initial.lines) (λ i. blank) l.before
    × (l.brought ≡ 0 → Nothing l.units)

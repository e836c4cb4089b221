-- `sampling::clock::close` meets its contract: the period closes as the step has it, with the present second.
use mathlib.Core.Path.{◌∙◌}
use Rattle.sampling.specs.Laps.{closed_here}
use Rattle.sampling.proofs.clock.close.Goals as goal

pub returns : goal.returns
unfolding closed_here
returns c = c.close_with.ensures ∙ rw c.step_state-kind.ensures

-- `sampling::clock::close_period` meets its contract.
use Rattle.sampling.specs.Periods.{closed_as}
use Rattle.sampling.proofs.clock.close_period.Goals as goal

pub returns : goal.returns
unfolding closed_as
returns c = rw c.level9-values.ensures

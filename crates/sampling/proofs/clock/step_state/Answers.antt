-- `sampling::clock::step_state` meets its contract.
use Rattle.sampling.proofs.clock.step_state.Goals as goal

pub returns-then-is_multiple : goal.returns-then-is_multiple
returns-then-is_multiple c = rw (← c.is_multiple.ensures, c.if-is_multiple.true)

pub returns : goal.returns
returns c = rw (← c.is_multiple.ensures, c.if-is_multiple.false)

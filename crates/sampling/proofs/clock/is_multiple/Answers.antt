-- `sampling::clock::is_multiple` meets its contract.
use borrow.Author.Tests.{eq-eqb, ne_eqb}
use Rattle.sampling.specs.Periods.{multiple}
use Rattle.sampling.proofs.clock.is_multiple.Goals as goal

pub returns-then-seconds-eq0 : goal.returns-then-seconds-eq0
unfolding multiple
returns-then-seconds-eq0 c = rw (eq-eqb _ _ c.if-seconds-eq0.true)

pub returns : goal.returns
unfolding multiple
returns c = rw (ne_eqb _ _ c.if-seconds-eq0.false)

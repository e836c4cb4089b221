-- `counting::units::units_of` meets its contract.
use borrow.Author.Tests.{eq-eqb, ne_eqb}
use Rattle.counting.specs.Units.{units_of}
use Rattle.counting.proofs.units.units_of.Goals as goal

pub returns-then-denominator-eq0 : goal.returns-then-denominator-eq0
unfolding units_of
returns-then-denominator-eq0 c = rw (eq-eqb _ _ c.if-denominator-eq0.true)

pub returns : goal.returns
unfolding units_of
returns c = rw (ne_eqb _ _ c.if-denominator-eq0.false)

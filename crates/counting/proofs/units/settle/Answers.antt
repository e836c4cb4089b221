-- `counting::units::settle` meets its contract: remainder, units and count are what the calls ensure.
use Rattle.counting.specs.Units.{credited}
use Rattle.counting.specs.ByMask.{settled, settled_units}
use Rattle.counting.proofs.units.settle.Goals as goal

pub returns-then-accepts : goal.returns-then-accepts
unfolding settled settled_units credited
returns-then-accepts c =
    rw (← c.accepts.ensures, c.if-accepts.true, c.remainder_of.ensures, c.held_sum.ensures, c.units_of-units.ensures)

pub returns : goal.returns
unfolding settled settled_units
returns c = rw (← c.accepts.ensures, c.if-accepts.false, c.one_more.ensures)

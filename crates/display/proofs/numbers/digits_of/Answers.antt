-- `display::numbers::digits_of` meets its contract: one more than the power of ten that it reaches; 0 has one digit.
use Rattle.laws.specs.Decimals.{decimal_of}
use Rattle.display.proofs.Numerals.{digits_at}
use Rattle.display.proofs.numbers.digits_of.Goals as goal

pub returns-else-n-eq0 : goal.returns-else-n-eq0
unfolding decimal_of
returns-else-n-eq0 c = let l = c.ilog10.ensures in rw (digits_at _ c.args.n 20 l.power_le l.next_power_gt l.bound)

-- `calendar::year_day` meets its contract: the year that the arithmetic finds holds the day.
use mathlib.Core.Path.{refl}
use native.Mathlib.Omega.{arith}
use Rattle.calendar.proofs.Years.{year_found}
use Rattle.calendar.proofs.year_day.Goals as goal

pub returns : goal.returns
returns c = year_found c.args.day _ _ _ c.requires refl (omega arith) refl

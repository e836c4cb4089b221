-- The lines of document 01's table in specs/Cases.antt hold.
use mathlib.Core.Path.{refl}
use Rattle.laws.specs.First.{first}
use Rattle.laws.specs.Total.{total}
use Rattle.laws.specs.Spans.{span}
use Rattle.laws.specs.Each.{Each}
use Rattle.calendar.specs.Dates.{month_length, year_length}
use Rattle.calendar.specs.Moments.{year_day, moment_of}
use Rattle.calendar.specs.Cases.{MomentClaim, moment_cases}

-- all of them hold: antt computes both sides of each
pub cases_hold : Each MomentClaim moment_cases
unfolding moment_of year_day year_length month_length span first total
cases_hold = (refl, (refl, (refl, (refl, (refl, tt)))))

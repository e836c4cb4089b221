-- The lines of document 01's table in specs/Cases.antt hold.
use mathlib.Core.Path.{refl}
use Rattle.laws.specs.Each.{Each}
use Rattle.tariff.specs.Seasons.{in_season}
use Rattle.tariff.specs.Cases.{TariffClaim, tariff_cases}

-- all of them hold: antt computes both sides of each
pub cases_hold : Each TariffClaim tariff_cases
unfolding in_season
cases_hold = (refl, (refl, (refl, (refl, (refl, (refl, (refl, tt)))))))

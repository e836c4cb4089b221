-- Lines 8 and 9 of document 01's table: minutes of a window, days of a season.
use Rattle.std.specs.Prelude.{◌≡◌, Bool, true, false, List, [], ◌∷◌, ℕ}
use Rattle.tariff.specs.Daily.{in_window}
use Rattle.tariff.specs.Seasons.{in_season}
use Rattle.tariff.specs.declared.Window.{Window}
use Rattle.tariff.specs.declared.Date.{Date}
use Rattle.tariff.specs.declared.Season.{Season}

-- a case of the table: a minute of a window, a date of a season, and whether it is active
pub data TariffCase : Type 0 where
  minute_case : Window → ℕ → Bool → TariffCase
  date_case : Season → Date → Bool → TariffCase

-- what a case claims
abbrev pub TariffClaim : TariffCase → Type 0
TariffClaim (minute_case w minute active) = in_window w minute ≡ active
TariffClaim (date_case s date active) = in_season s date ≡ active

-- the window of line 8
abbrev daytime : Window
daytime = record { first = 360; end = 1320 }

-- a date, as day, month
abbrev on : ℕ → ℕ → Date
on d m = record { day = d; month = m }

-- the season of line 9
abbrev winter : Season
winter = record { first = on 1 11; second = on 28 2 }

-- lines 8 and 9
abbrev pub tariff_cases : List TariffCase
tariff_cases =
    minute_case daytime 359 false
    ∷ minute_case daytime 360 true
    ∷ minute_case daytime 1319 true
    ∷ minute_case daytime 1320 false
    ∷ date_case winter (on 15 12) true
    ∷ date_case winter (on 28 2) true
    ∷ date_case winter (on 29 2) false
    ∷ []

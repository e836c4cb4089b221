-- "A season runs from its first to its second date, both included, over New Year if the first is later; unused is never active."
use Rattle.std.specs.Prelude.{Bool, not, ◌&&◌, ◌||◌, ℕ, ltb, leb, eqb, get_or, if◌then◌else◌}
use Rattle.laws.specs.Masks.{mask_of}
use Rattle.calendar.specs.declared.Moment.{Moment}
use Rattle.tariff.specs.declared.Date.{Date}
use Rattle.tariff.specs.declared.Season.{Season}
use Rattle.tariff.specs.declared.Program.{Program}

-- the date of a moment
abbrev pub date_of : Moment → Date
date_of m = record { day = m.day; month = m.month }

-- the date a of a year is b or before b
abbrev pub not_after : Date → Date → Bool
not_after a b = ltb a.month b.month || (eqb a.month b.month && leb a.day b.day)

-- a season of four zeros is unused
abbrev pub unused_season : Season → Bool
unused_season s = ((eqb s.first.day 0 && eqb s.first.month 0) && eqb s.second.day 0) && eqb s.second.month 0

-- a season in use is active from its first to its second date; if the first is later, from it on and up to the second
unfoldable pub in_season : Season → Date → Bool
in_season s date =
    let begun = not_after s.first date in
    let lasts = not_after date s.second in
    not (unused_season s) && (if not_after s.first s.second then begun && lasts else begun || lasts)

-- a season of zeros, which stands past the end of the list
abbrev pub zero_season : Season
zero_season = record { first = record { day = 0; month = 0 }; second = record { day = 0; month = 0 } }

-- season k as an entry of the program
abbrev pub season_at : Program → ℕ → Season
season_at p k = get_or p.seasons k zero_season

-- the season of a number is active; a number past 7 names none
unfoldable pub season_active : Program → ℕ → Date → Bool
season_active p season date = ltb season 8 && in_season (season_at p season) date

-- all 8: bit s is season s
unfoldable pub season_map : Program → Date → ℕ
season_map p date = mask_of 8 (λ season. in_season (season_at p season) date)

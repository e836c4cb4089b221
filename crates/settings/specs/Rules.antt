-- The rule of each entry, in the words of document 01's table.
use Rattle.std.specs.Prelude.{Bool, not, ◌&&◌, ◌||◌, List, [], ◌∷◌, ℕ, leb, ltb, eqb, get_or, ℤ, negsuc}
use Rattle.std.specs.Int.Signed.{le_z}
use mir.Val.{has_key}
use Rattle.laws.specs.Any.{any}
use Rattle.laws.specs.Masks.{bit_at}
use Rattle.calendar.specs.Dates.{day_exists, exists_in_some_year}
use Rattle.tariff.specs.Weekly.{unused_holiday}
use Rattle.tariff.specs.Seasons.{unused_season}
pub use Rattle.tariff.specs.Daily.{zero_window}
pub use Rattle.tariff.specs.Weekly.{zero_holiday}
pub use Rattle.tariff.specs.Seasons.{zero_season}
pub use Rattle.tariff.specs.Rules.{zero_rule}
use Rattle.tariff.specs.declared.Window.{Window}
use Rattle.tariff.specs.declared.Season.{Season}
use Rattle.tariff.specs.declared.Holiday.{Holiday}
use Rattle.tariff.specs.declared.Rule.{Rule}
use Rattle.settings.specs.declared.Input.{Input}
use Rattle.settings.specs.declared.Slot.{Slot}
use Rattle.settings.specs.declared.Register.{Register}

-- an input of zeros; entries of zeros stand in a blank configuration, and past the end of a list
abbrev pub zero_input : Input
zero_input = record { kind = 0; shortest = 0; longest = 0; numerator = 0; denominator = 0 }

-- a slot of zeros
abbrev pub zero_slot : Slot
zero_slot = record { level = 0; index = 0 }

-- a bill register of zeros
abbrev pub zero_register : Register
zero_register = record { sum = 0; rule = 0 }

-- "period in minutes: 1, 2, 3, 4, 5, 6, 10, 12, 15, 20, 30 or 60"
abbrev pub periods : List ℕ
periods = 1 ∷ 2 ∷ 3 ∷ 4 ∷ 5 ∷ 6 ∷ 10 ∷ 12 ∷ 15 ∷ 20 ∷ 30 ∷ 60 ∷ []

-- the period is one of them
abbrev pub period_good : ℕ → Bool
period_good p = has_key periods p

-- "shortest and longest run (.. 1 to 255, shortest not above longest)"; a byte is not above 255
abbrev pub runs_good : Input → Bool
runs_good x = leb 1 x.shortest && leb x.shortest x.longest

-- "numerator and denominator (.. 1 to 10,000)"
abbrev pub ratio_good : Input → Bool
ratio_good x = ((leb 1 x.numerator && leb x.numerator 10_000) && leb 1 x.denominator) && leb x.denominator 10_000

-- "six zeros" beside the kind
abbrev pub six_zeros : Input → Bool
six_zeros x = ((eqb x.shortest 0 && eqb x.longest 0) && eqb x.numerator 0) && eqb x.denominator 0

-- "kind (0 not fitted, 1 S1a, 2 S1r) ..; kind 0 has six zeros"
abbrev pub input_good : Input → Bool
input_good x = (eqb x.kind 0 && six_zeros x) || (((eqb x.kind 1 || eqb x.kind 2) && runs_good x) && ratio_good x)

-- input i is fitted: its kind is not 0; there are no inputs past 15
unfoldable pub fitted_in : List Input → ℕ → Bool
fitted_in inputs i = ltb i 16 && not (eqb (get_or inputs i zero_input).kind 0)

-- "sum: bit i names input i; fitted inputs only; 0 allowed"
unfoldable pub sum_good : (ℕ → Bool) → ℕ → Bool
sum_good fitted x = not (any 16 (λ i. bit_at x i && not (fitted i)))

-- "signed coefficient for each sum, -127 to 127": not -128
abbrev pub coefficient_good : ℤ → Bool
coefficient_good z = le_z (negsuc 126) z

-- "level 9 slot: level and index (level 0: a fitted input; 1: sum 0-7; 2: function 0-3); 255, 0 is empty"
abbrev pub slot_good : (ℕ → Bool) → Slot → Bool
slot_good fitted x =
    (((eqb x.level 0 && fitted x.index)
    || (eqb x.level 1 && ltb x.index 8))
    || (eqb x.level 2 && ltb x.index 4))
    || (eqb x.level 255 && eqb x.index 0)

-- "first and end minute, first below end, end at most 1,440; 0, 0 unused"
abbrev pub window_good : Window → Bool
window_good x = (ltb x.first x.end && leb x.end 1440) || (eqb x.first 0 && eqb x.end 0)

-- a reference of a weekly rule: "0-31, or 255 for none"
abbrev pub week_good : ℕ → Bool
week_good x = ltb x 32 || eqb x 255

-- "season: day, month, day, month; four zeros unused"; 29.02 is allowed
abbrev pub season_good : Season → Bool
season_good x =
    (exists_in_some_year x.first.day x.first.month && exists_in_some_year x.second.day x.second.month) || unused_season x

-- "holiday: day, month, two-byte year 1970 to 2106, or year 0 for each year; four zeros unused"; 29.02 is allowed in year 0, else only in a leap year
abbrev pub holiday_good : Holiday → Bool
holiday_good x =
    (((leb 1970 x.year && leb x.year 2106) && day_exists x.day x.month x.year)
    || (eqb x.year 0 && exists_in_some_year x.day x.month))
    || unused_holiday x

-- "tariff rule: season 0-7 or 255 any; weekly rule 0-15; 255, 255 unused"
abbrev pub rule_good : Rule → Bool
rule_good x = ((ltb x.season 8 || eqb x.season 255) && ltb x.week 16) || (eqb x.season 255 && eqb x.week 255)

-- "bill register: sum 0-7; tariff rule 0-15 or 255 for none; 255, 255 unused"
abbrev pub register_good : Register → Bool
register_good x = (ltb x.sum 8 && (ltb x.rule 16 || eqb x.rule 255)) || (eqb x.sum 255 && eqb x.rule 255)

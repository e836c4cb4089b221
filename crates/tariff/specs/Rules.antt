-- "A tariff rule is in force when its season (255: always) and weekly rule are active; unused never is."
use Rattle.std.specs.Prelude.{Bool, ◌&&◌, ◌||◌, ℕ, ltb, eqb, get_or}
use Rattle.laws.specs.Masks.{mask_of}
use Rattle.laws.specs.Answers.{Answer, given, refused}
use Rattle.calendar.specs.Moments.{moment_of}
use Rattle.calendar.specs.declared.Moment.{Moment}
use Rattle.tariff.specs.Weekly.{weekly_active}
use Rattle.tariff.specs.Seasons.{date_of, season_active}
use Rattle.tariff.specs.declared.Rule.{Rule}
use Rattle.tariff.specs.declared.Program.{Program}

-- a tariff rule of zeros, which stands past the end of the list
abbrev pub zero_rule : Rule
zero_rule = record { season = 0; week = 0 }

-- tariff rule i as an entry of the program
abbrev pub rule_at : Program → ℕ → Rule
rule_at p i = get_or p.rules i zero_rule

-- a rule's season, 255 being any, and its weekly rule are active
unfoldable pub applies : Program → Rule → Moment → Bool
applies p r m = (eqb r.season 255 || season_active p r.season (date_of m)) && weekly_active p r.week m

-- tariff rule i is in force; a number past 15 names none
unfoldable pub in_force : Program → ℕ → Moment → Bool
in_force p i m = ltb i 16 && applies p (rule_at p i) m

-- all 16: bit i is tariff rule i
unfoldable pub force_map : Program → Moment → ℕ
force_map p m = mask_of 16 (λ i. in_force p i m)

-- the same of an answer of the calendar: none is in force without a date
unfoldable pub force_of : Program → Answer Moment → ℕ
force_of p (given m) = force_map p m
force_of p (refused n offset) = 0

-- the tariff rules in force at second t of the clock
abbrev pub force_map_at : Program → ℕ → ℕ
force_map_at p t = force_of p (moment_of t)

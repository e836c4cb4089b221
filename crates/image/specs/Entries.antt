-- The entries of document 01's table as bytes, and back: `input_bytes` are those of an input, `input_of` is the input that bytes start with.
use Rattle.std.specs.Prelude.{List, [], ◌∷◌, ◌++◌, ℕ, ◌+◌, get_or, drop, ℤ}
use Rattle.std.specs.Int.{w8}
use Rattle.std.proofs.Common.{to_z, of_z}
use Rattle.laws.specs.Bytes.{bytes_of, le}
use Rattle.tariff.specs.declared.Window.{Window}
use Rattle.tariff.specs.declared.Date.{Date}
use Rattle.tariff.specs.declared.Season.{Season}
use Rattle.tariff.specs.declared.Holiday.{Holiday}
use Rattle.tariff.specs.declared.Rule.{Rule}
use Rattle.settings.specs.declared.Input.{Input}
use Rattle.settings.specs.declared.Slot.{Slot}
use Rattle.settings.specs.declared.Register.{Register}

-- "input: kind, shortest and longest run (one byte each ..), numerator and denominator (two bytes each ..)"; the width of the runs is `run`, 1 in version 1
unfoldable pub input_bytes : ℕ → Input → List ℕ
input_bytes run x =
    bytes_of 1 x.kind
    ++ (bytes_of run x.shortest
    ++ (bytes_of run x.longest
    ++ (bytes_of 2 x.numerator
    ++ bytes_of 2 x.denominator)))

-- the input that bytes start with
unfoldable pub input_of : ℕ → List ℕ → Input
input_of run b =
    record {
      kind = le 1 b;
      shortest = le run (drop 1 b);
      longest = le run (drop (1 + run) b);
      numerator = le 2 (drop (1 + run + run) b);
      denominator = le 2 (drop (1 + run + run + 2) b);
    }

-- "signed coefficient", one byte
unfoldable pub coefficient_bytes : ℤ → List ℕ
coefficient_bytes z = of_z w8 z ∷ []

-- the coefficient that bytes start with
unfoldable pub coefficient_of : List ℕ → ℤ
coefficient_of b = to_z w8 (get_or b 0 0)

-- "level 9 slot: level and index"
unfoldable pub slot_bytes : Slot → List ℕ
slot_bytes x = x.level ∷ x.index ∷ []

-- the slot that bytes start with
unfoldable pub slot_of : List ℕ → Slot
slot_of b = record { level = get_or b 0 0; index = get_or b 1 0 }

-- windows: "first and end minute", two bytes each
unfoldable pub window_bytes : Window → List ℕ
window_bytes x = bytes_of 2 x.first ++ bytes_of 2 x.end

-- the window that bytes start with
unfoldable pub window_of : List ℕ → Window
window_of b = record { first = le 2 b; end = le 2 (drop 2 b) }

-- the date that bytes start with: day and month
unfoldable pub date_in : List ℕ → Date
date_in b = record { day = get_or b 0 0; month = get_or b 1 0 }

-- "season: day, month, day, month"
unfoldable pub season_bytes : Season → List ℕ
season_bytes x = x.first.day ∷ x.first.month ∷ x.second.day ∷ x.second.month ∷ []

-- the season that bytes start with
unfoldable pub season_of : List ℕ → Season
season_of b = record { first = date_in b; second = date_in (drop 2 b) }

-- "holiday: day, month, two-byte year"
unfoldable pub holiday_bytes : Holiday → List ℕ
holiday_bytes x = x.day ∷ x.month ∷ bytes_of 2 x.year

-- the holiday that bytes start with
unfoldable pub holiday_of : List ℕ → Holiday
holiday_of b = record { day = get_or b 0 0; month = get_or b 1 0; year = le 2 (drop 2 b) }

-- "tariff rule: season .. weekly rule"
unfoldable pub rule_bytes : Rule → List ℕ
rule_bytes x = x.season ∷ x.week ∷ []

-- the tariff rule that bytes start with
unfoldable pub rule_of : List ℕ → Rule
rule_of b = record { season = get_or b 0 0; week = get_or b 1 0 }

-- "bill register: sum .. tariff rule"
unfoldable pub register_bytes : Register → List ℕ
register_bytes x = x.sum ∷ x.rule ∷ []

-- the bill register that bytes start with
unfoldable pub register_in : List ℕ → Register
register_in b = record { sum = get_or b 0 0; rule = get_or b 1 0 }

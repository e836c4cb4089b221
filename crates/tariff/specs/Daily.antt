-- "A daily rule is active in the minutes first to end minus 1 of its windows."
use Rattle.std.specs.Prelude.{Bool, ◌&&◌, ℕ, ◌+◌, ◌*◌, ltb, leb, get_or}
use Rattle.laws.specs.Any.{any}
use Rattle.laws.specs.Masks.{mask_of}
use Rattle.tariff.specs.declared.Window.{Window}
use Rattle.tariff.specs.declared.Program.{Program}

-- the minutes first to end minus 1 of a window; 0, 0 has none
abbrev pub in_window : Window → ℕ → Bool
in_window w minute = leb w.first minute && ltb minute w.end

-- a window of zeros, which stands past the end of the list
abbrev pub zero_window : Window
zero_window = record { first = 0; end = 0 }

-- window k of a daily rule as an entry of the program
abbrev pub window_at : Program → ℕ → ℕ → Window
window_at p rule k = get_or p.windows (rule * 4 + k) zero_window

-- a daily rule is active in the minutes of its four windows; a number past 31, as 255, names no rule
unfoldable pub daily_active : Program → ℕ → ℕ → Bool
daily_active p rule minute = ltb rule 32 && any 4 (λ k. in_window (window_at p rule k) minute)

-- all 32: bit r is daily rule r
unfoldable pub daily_map : Program → ℕ → ℕ
daily_map p minute = mask_of 32 (λ rule. daily_active p rule minute)

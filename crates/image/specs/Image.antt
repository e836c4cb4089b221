-- The image of a configuration, and the configuration that an image holds: document 01's table, offset by offset.
use Rattle.std.specs.Prelude.{List, [], ◌∷◌, ◌++◌, ◌≡◌, ℕ, ◌^◌, ◌<◌, length, get_or, drop, replicate, pos}
use Rattle.std.specs.Int.{w8}
use Rattle.std.proofs.Common.{SFits}
use Rattle.laws.specs.Each.{Each}
use Rattle.laws.specs.Bytes.{bytes_of, le}
use Rattle.laws.specs.Runs.{joined, entries}
use Rattle.tariff.specs.declared.Window.{Window}
use Rattle.tariff.specs.declared.Holiday.{Holiday}
use Rattle.tariff.specs.declared.Program.{Program}
use Rattle.image.specs.Entries.{input_bytes, input_of, coefficient_bytes, coefficient_of, slot_bytes, slot_of, window_bytes, window_of, season_bytes, season_of, holiday_bytes, holiday_of, rule_bytes, rule_of, register_bytes, register_in}
use Rattle.settings.specs.Rules.{zero_input, zero_slot, zero_window, zero_season, zero_holiday, zero_rule, zero_register}
use Rattle.settings.specs.declared.Input.{Input}
use Rattle.settings.specs.declared.Config.{Config}

-- "letters KRC", "version, 1" in two bytes, and the period
unfoldable pub head_bytes : ℕ → List ℕ
head_bytes period = 75 ∷ 82 ∷ 67 ∷ 1 ∷ 0 ∷ period ∷ []

-- the bytes of the tariff program
unfoldable pub program_bytes : Program → List ℕ
program_bytes p =
    joined window_bytes p.windows
    ++ (joined (bytes_of 1) p.weeks
    ++ (joined season_bytes p.seasons
    ++ (joined holiday_bytes p.holidays
    ++ joined rule_bytes p.rules)))

-- the image of a configuration: the sections one after another
unfoldable pub encode : Config → List ℕ
encode c =
    head_bytes c.period
    ++ (joined (input_bytes 1) c.inputs
    ++ (joined (bytes_of 2) c.sums
    ++ (joined coefficient_bytes c.coefficients
    ++ (joined slot_bytes c.slots
    ++ (joined (bytes_of 2) c.limits
    ++ (program_bytes c.program
    ++ joined register_bytes c.registers))))))

-- the tariff program that an image holds
unfoldable pub program_in : List ℕ → Program
program_in b =
    record {
      windows = entries window_of 4 128 (drop 262 b);
      weeks = entries (le 1) 1 128 (drop 774 b);
      seasons = entries season_of 4 8 (drop 902 b);
      holidays = entries holiday_of 4 32 (drop 934 b);
      rules = entries rule_of 2 16 (drop 1062 b);
    }

-- the configuration that an image holds: each section from its offset on
unfoldable pub decode : List ℕ → Config
decode b =
    record {
      period = get_or b 5 0;
      inputs = entries (input_of 1) 7 16 (drop 6 b);
      sums = entries (le 2) 2 8 (drop 118 b);
      coefficients = entries coefficient_of 1 32 (drop 134 b);
      slots = entries slot_of 2 16 (drop 166 b);
      limits = entries (le 2) 2 32 (drop 198 b);
      program = program_in b;
      registers = entries register_in 2 16 (drop 1094 b);
    }

-- a tariff program of zeros
unfoldable pub blank_program : Program
blank_program =
    record {
      windows = replicate 128 zero_window;
      weeks = replicate 128 0;
      seasons = replicate 8 zero_season;
      holidays = replicate 32 zero_holiday;
      rules = replicate 16 zero_rule;
    }

-- a configuration of zeros
unfoldable pub blank_config : Config
blank_config =
    record {
      period = 0;
      inputs = replicate 16 zero_input;
      sums = replicate 8 0;
      coefficients = replicate 32 (pos 0);
      slots = replicate 16 zero_slot;
      limits = replicate 32 0;
      program = blank_program;
      registers = replicate 16 zero_register;
    }

-- as many entries in each section of the program as the image has
pub record CountedProgram (p : Program) : Type 0 where
  pub windows : length p.windows ≡ 128
  pub weeks : length p.weeks ≡ 128
  pub seasons : length p.seasons ≡ 8
  pub holidays : length p.holidays ≡ 32
  pub rules : length p.rules ≡ 16

-- and in each section of the configuration
pub record Counted (c : Config) : Type 0 where
  pub inputs : length c.inputs ≡ 16
  pub sums : length c.sums ≡ 8
  pub coefficients : length c.coefficients ≡ 32
  pub slots : length c.slots ≡ 16
  pub limits : length c.limits ≡ 32
  pub program : CountedProgram c.program
  pub registers : length c.registers ≡ 16

-- a number of n bytes
abbrev pub Wide : ℕ → ℕ → Type 0
Wide n x = x < 256 ^ n

-- an input whose numbers fit their bytes, where the runs have `run` of them
abbrev pub TypedInput : ℕ → Input → Type 0
TypedInput run x = Wide 1 x.kind × Wide run x.shortest × Wide run x.longest × Wide 2 x.numerator × Wide 2 x.denominator

-- a window whose numbers fit their bytes
abbrev pub TypedWindow : Window → Type 0
TypedWindow x = Wide 2 x.first × Wide 2 x.end

-- a holiday whose year fits its bytes
abbrev pub TypedHoliday : Holiday → Type 0
TypedHoliday x = Wide 2 x.year

-- a program whose numbers fit their bytes
pub record TypedProgram (p : Program) : Type 0 where
  pub windows : Each TypedWindow p.windows
  pub weeks : Each (Wide 1) p.weeks
  pub holidays : Each TypedHoliday p.holidays

-- a configuration whose numbers fit their bytes, as each value of the code's type does
pub record Typed (c : Config) : Type 0 where
  pub inputs : Each (TypedInput 1) c.inputs
  pub sums : Each (Wide 2) c.sums
  pub coefficients : Each (SFits w8) c.coefficients
  pub limits : Each (Wide 2) c.limits
  pub program : TypedProgram c.program

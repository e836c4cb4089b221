-- "S1a is active closed, S1r active open. Each line keeps its run of active samples from one sample to the next, counted to 256 and held there. The first inactive
-- sample after a run of at least 1 ends it: shortest to longest inclusive is an accepted impulse, any other run a rejected one (count held at 65,535)."
use Rattle.std.specs.Prelude.{Bool, not, ◌&&◌, ◌||◌, List, ℕ, ◌+◌, ltb, leb, eqb, get_or, if◌then◌else◌}
use Rattle.laws.specs.Masks.{mask_of, bit_at}
use Rattle.laws.specs.Tables.{table}
use Rattle.settings.specs.Rules.{zero_input}
use Rattle.settings.specs.declared.Input.{Input}
use Rattle.counting.specs.declared.Line.{Line}

-- input i of a configuration
abbrev pub input_at : List Input → ℕ → Input
input_at inputs i = get_or inputs i zero_input

-- line i of a state
abbrev pub line_at : List Line → ℕ → Line
line_at lines i = get_or lines i (record { run = 0; rejected = 0; remainder = 0; units = 0 })

-- S1a, kind 1, is active closed; S1r, kind 2, is active open; an input that is not fitted is never active
abbrev pub active : ℕ → Bool → Bool
active kind closed = (eqb kind 1 && closed) || (eqb kind 2 && not closed)

-- the run after a sample, counted to 256 and held there
abbrev pub next_run : ℕ → Bool → ℕ
next_run run on = if on then (if ltb run 256 then run + 1 else 256) else 0

-- the first inactive sample after a run of at least 1 ends it
abbrev pub ends : Line → Bool → Bool
ends line on = not on && ltb 0 line.run

-- a run from shortest to longest inclusive
abbrev pub fits : Input → ℕ → Bool
fits input run = leb input.shortest run && leb run input.longest

-- an impulse is accepted with this sample
unfoldable pub accepted : Input → Line → Bool → Bool
accepted input line on = ends line on && fits input line.run

-- one more impulse rejected, held at 65,535
abbrev pub one_more : ℕ → ℕ
one_more count = if ltb count 65_535 then count + 1 else count

-- the line after the filter: its run, and its rejected impulses
unfoldable pub filtered : Input → Line → Bool → Line
filtered input line on =
    record {
      run = next_run line.run on;
      rejected = if ends line on && not (fits input line.run) then one_more line.rejected else line.rejected;
      remainder = line.remainder;
      units = line.units;
    }

-- all lines after a sample, and the mask of its impulses
pub record Stepped : Type 0 where
  pub lines : List Line
  pub impulses : ℕ

-- all lines after the filter, and the mask of the impulses
unfoldable pub stepped_of : List Input → List Line → ℕ → Stepped
stepped_of inputs lines mask =
    record {
      lines = table 16 (λ i. filtered (input_at inputs i) (line_at lines i) (bit_at mask i));
      impulses = mask_of 16 (λ i. accepted (input_at inputs i) (line_at lines i) (bit_at mask i));
    }

-- What the code works out by masks and in place: only lines whose runs end are judged, only those that are active are advanced, and only the registers that units go to are booked.
use Rattle.std.specs.Prelude.{Bool, true, ◌&&◌, List, ℕ, ◌+◌, ◌≤◌, ltb, eqb, get_or, if◌then◌else◌}
use Rattle.laws.specs.Any.{any}
use Rattle.laws.specs.Masks.{mask_of, bit_at}
use Rattle.laws.specs.Tables.{table}
use Rattle.settings.specs.declared.Input.{Input}
use Rattle.settings.specs.declared.Register.{Register}
use Rattle.counting.specs.Filter.{input_at, line_at, next_run, fits, one_more}
use Rattle.counting.specs.Units.{Credits, units_of, credited}
use Rattle.counting.specs.Bills.{register_at, bill_at, unit_at, register_units, feeds, fills_up, with_amount}
use Rattle.counting.specs.declared.Line.{Line}
use Rattle.counting.specs.declared.Bill.{Bill}
use Rattle.counting.specs.declared.units.Settled.{Settled}

-- the mask of the inputs of a kind
unfoldable pub kind_mask : List Input → ℕ → ℕ
kind_mask inputs kind = mask_of 16 (λ i. eqb (input_at inputs i).kind kind)

-- the mask of the lines with a run
unfoldable pub running_lines : List Line → ℕ
running_lines lines = mask_of 16 (λ i. ltb 0 (line_at lines i).run)

-- a line with another run
abbrev pub with_run : Line → ℕ → Line
with_run line run = record { run = run; rejected = line.rejected; remainder = line.remainder; units = line.units }

-- all lines after a sample, given the mask of active ones: their runs go on
unfoldable pub advanced_lines : List Line → ℕ → List Line
advanced_lines lines mask = table 16 (λ i. if bit_at mask i then with_run (line_at lines i) (next_run (line_at lines i).run true) else line_at lines i)

-- a line on which a run ends: an accepted impulse is credited, any other run is counted as rejected
unfoldable pub settled : Input → Line → Line
settled input line =
    if fits input line.run then with_run (credited input line) 0
    else record { run = 0; rejected = one_more line.rejected; remainder = line.remainder; units = line.units }

-- the units that it brings
unfoldable pub settled_units : Input → Line → ℕ
settled_units input line = if fits input line.run then units_of input line.remainder else 0

-- the line on which a run ends, and the units that it brings
abbrev pub settled_with : Input → Line → Settled
settled_with input line = record { line = settled input line; units = settled_units input line }

-- all lines with the runs of a mask ended, and the units that these bring
unfoldable pub settled_of : List Input → List Line → ℕ → Credits
settled_of inputs lines ending =
    record {
      lines = table 16 (λ i. if bit_at ending i then settled (input_at inputs i) (line_at lines i) else line_at lines i);
      units = table 16 (λ i. if bit_at ending i then settled_units (input_at inputs i) (line_at lines i) else 0);
    }

-- the units of the inputs of a mask, none of the others
unfoldable pub masked_units : List ℕ → ℕ → List ℕ
masked_units units mask = table 16 (λ i. if bit_at mask i then unit_at units i else 0)

-- the units of input i added to each sum that names it
unfoldable pub added_units : List ℕ → List ℕ → ℕ → ℕ → List ℕ
added_units totals sums i units = table 8 (λ k. unit_at totals k + (if bit_at (get_or sums k 0) i then units else 0))

-- totals to which the units of one more input can be added in 64 bits
abbrev pub Below : List ℕ → Type 0
Below totals = (k : ℕ) → unit_at totals k ≤ 68_719_476_720

-- the mask of the registers that units go to: each is in use, and has no rule, or its rule is in force
unfoldable pub fed_registers : List Register → ℕ → ℕ
fed_registers registers map = mask_of 16 (λ j. ltb (register_at registers j).sum 8 && feeds (register_at registers j) map)

-- what a sample books to register j, given the mask of the registers that it feeds
unfoldable pub fed_at : List Register → ℕ → List ℕ → ℕ → ℕ
fed_at registers fed sums j = if bit_at fed j then register_units (register_at registers j) sums else 0

-- some amount would be too large
unfoldable pub some_full : List Register → List ℕ → ℕ → List ℕ → Bool
some_full registers amounts fed sums = any 16 (λ j. fills_up (unit_at amounts j) (fed_at registers fed sums j))

-- the amounts with their units booked; where one would be too large, as they were: the whole sample is refused
unfoldable pub amounts_booked : List Register → List ℕ → ℕ → List ℕ → List ℕ
amounts_booked registers amounts fed sums =
    if some_full registers amounts fed sums then amounts else table 16 (λ j. unit_at amounts j + fed_at registers fed sums j)

-- the open amounts of the bills, as numbers
unfoldable pub amounts_of : List Bill → List ℕ
amounts_of bills = table 16 (λ j. (bill_at bills j).amount)

-- the bills with their open amounts out of a list of numbers
unfoldable pub with_amounts : List Bill → List ℕ → List Bill
with_amounts bills amounts = table 16 (λ j. with_amount (bill_at bills j) (unit_at amounts j))

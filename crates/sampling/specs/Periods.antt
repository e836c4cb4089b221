-- "100 samples make a second. After the hundredth is booked the clock steps; if it is then a multiple of the period's seconds, the period closes. .. A period closed by the step is
-- whole if it began on a multiple, else short."
use Rattle.std.specs.Prelude.{Bool, false, List, ℕ, ◌+◌, ◌*◌, ◌%◌, eqb, if◌then◌else◌}
use Rattle.laws.specs.Tables.{table}
use Rattle.settings.specs.declared.Config.{Config}
use Rattle.counting.specs.Filter.{line_at}
use Rattle.counting.specs.Levels.{level0, slot_values}
use Rattle.counting.specs.declared.Line.{Line}
use Rattle.sampling.specs.declared.Period.{Period}
use Rattle.sampling.specs.declared.State.{State}

-- a time is a multiple of the period's seconds; a period of 0 minutes, which no image has, has no multiple
unfoldable pub multiple : ℕ → ℕ → Bool
multiple period time = if eqb (period * 60) 0 then false else eqb (time % (period * 60)) 0

-- level 0 of a line begins anew
unfoldable pub begun_anew : Line → Line
begun_anew line = record { run = line.run; rejected = line.rejected; remainder = line.remainder; units = 0 }

-- all lines at the start of a period: only level 0 begins anew
unfoldable pub cleared_lines : List Line → List Line
cleared_lines lines = table 16 (λ i. begun_anew (line_at lines i))

-- a period as it closes: state, closing time, and the chosen values of its levels
unfoldable pub closed_as : Config → ℕ → ℕ → List Line → Period
closed_as c state stamp lines = record { state = state; stamp = stamp; values = slot_values c (level0 lines) }

-- closed by the step it is whole, 2, if it began on a multiple, else short, 1
abbrev pub state_of : ℕ → ℕ → ℕ
state_of period first = if multiple period first then 2 else 1

-- a state at another second, with no sample in it yet
abbrev pub at_clock : State → ℕ → State
at_clock s now =
    record {
      clock = now;
      samples = 0;
      first = s.first;
      lines = s.lines;
      bills = s.bills;
      meters = s.meters;
      closed = s.closed;
    }

-- a state whose period has closed, and whose next begins with a second
abbrev pub closed_with : State → ℕ → Period → State
closed_with s now period =
    record {
      clock = s.clock;
      samples = s.samples;
      first = now;
      lines = cleared_lines s.lines;
      bills = s.bills;
      meters = s.meters;
      closed = period;
    }

-- the step: a new second, and on a multiple the period closes with the new time and the next begins
unfoldable pub tick_of : Config → State → State
tick_of c s =
    let now = s.clock + 1 in
    if multiple c.period now then closed_with (at_clock s now) now (closed_as c (state_of c.period s.first) now s.lines) else at_clock s now

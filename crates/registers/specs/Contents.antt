-- What the registers hold, group by group: the third column of document 01's table. "Numbers in .. registers have the least significant byte first; signed ones are two's complement."
use Rattle.std.specs.Prelude.{Bool, false, List, ◌++◌, ℕ, ◌+◌, ◌-◌, ◌*◌, ◌/◌, ◌%◌, eqb, ℤ, length, replicate, if◌then◌else◌}
use Rattle.std.specs.Int.{w32, w64}
use Rattle.std.proofs.Common.{of_z}
use Rattle.laws.specs.Answers.{Answer, given, refused}
use Rattle.laws.specs.Bytes.{bytes_of}
use Rattle.laws.specs.Masks.{bit}
use Rattle.calendar.specs.Moments.{moment_of}
use Rattle.calendar.specs.declared.Moment.{Moment}
use Rattle.tariff.specs.Daily.{daily_active}
use Rattle.tariff.specs.Weekly.{weekly_active}
use Rattle.tariff.specs.Rules.{force_map_at}
use Rattle.tariff.specs.declared.Program.{Program}
use Rattle.settings.specs.declared.Config.{Config}
use Rattle.counting.specs.declared.Bill.{Bill}
use Rattle.counting.specs.declared.Line.{Line}
use Rattle.profile.specs.Records.{value_at}
use Rattle.sampling.specs.declared.Meter.{Meter}
use Rattle.sampling.specs.declared.State.{State}
use Rattle.recorder.specs.Meters.{meter_at}
use Rattle.registers.specs.Fleet.{class_at}
use Rattle.registers.specs.declared.fleet.Fleet.{Fleet}

-- STATUS with its lowest bit, IV, set
abbrev pub with_iv : ℕ → ℕ
with_iv status = status / 2 * 2 + 1

-- "STATUS 1 (IV set unless awake)": class 0 is awake
unfoldable pub status_shown : ℕ → ℕ → ℕ
status_shown status class = if eqb class 0 then status else with_iv status

-- "82 serial: STAMP 4, value 4, STATUS 1 (IV set unless awake), SEQ 1; never: zeros but STATUS 1": class 3 is never
unfoldable pub serial_bytes : Meter → ℕ → List ℕ
serial_bytes m class =
    if eqb class 3 then bytes_of 4 0 ++ (bytes_of 4 0 ++ (bytes_of 1 1 ++ bytes_of 1 0))
    else bytes_of 4 m.stamp ++ (bytes_of 4 (of_z w32 m.value) ++ (bytes_of 1 (status_shown m.status class) ++ bytes_of 1 m.seq))

-- the register of meter i
unfoldable pub meter_bytes : Config → State → ℕ → List ℕ
meter_bytes c s i = serial_bytes (meter_at s.meters i) (class_at c.limits s.meters s.clock i)

-- "89: tariff bit map 2"
unfoldable pub map_bytes : Program → ℕ → List ℕ
map_bytes p clock = bytes_of 2 (force_map_at p clock)

-- a result: 1 for active, 0 for inactive
unfoldable pub result_bytes : Bool → List ℕ
result_bytes active = bytes_of 1 (bit active)

-- "90: daily result 1": it goes by the minute of the day alone
unfoldable pub daily_bytes : Program → ℕ → ℕ → List ℕ
daily_bytes p rule clock = result_bytes (daily_active p rule (clock / 60 % 1440))

-- the result of a weekly rule at an answer of the calendar: none is active without a date
abbrev pub weekly_on : Program → ℕ → Answer Moment → Bool
weekly_on p rule (given m) = weekly_active p rule m
weekly_on p rule (refused n offset) = false

-- "91: weekly result 1"
unfoldable pub weekly_bytes : Program → ℕ → ℕ → List ℕ
weekly_bytes p rule clock = result_bytes (weekly_on p rule (moment_of clock))

-- "201 level 9: state (0 none closed, 1 short, 2 whole) 1, stamp 4, signed value 8; zeros if none"
unfoldable pub level9_bytes : ℕ → ℕ → ℤ → List ℕ
level9_bytes state stamp value =
    if eqb state 0 then replicate 13 0
    else bytes_of 1 state ++ (bytes_of 4 stamp ++ bytes_of 8 (of_z w64 value))

-- the register of slot i
unfoldable pub level_bytes : State → ℕ → List ℕ
level_bytes s i = level9_bytes s.closed.state s.closed.stamp (value_at s.closed.values i)

-- "202 bill: state (0 never reset, 1) 1, open 4, closed 4, stamp 4; the last two zero if never reset"
unfoldable pub bill_bytes : Bill → List ℕ
bill_bytes b =
    if b.reset then bytes_of 1 1 ++ (bytes_of 4 b.amount ++ (bytes_of 4 b.closed ++ bytes_of 4 b.stamp))
    else bytes_of 1 0 ++ (bytes_of 4 b.amount ++ (bytes_of 4 0 ++ bytes_of 4 0))

-- "203 input: rejected 2, remainder 2"
unfoldable pub filter_bytes : Line → List ℕ
filter_bytes line = bytes_of 2 line.rejected ++ bytes_of 2 line.remainder

-- "204 fleet: fitted, awake, stale, invalid, never 1 each; signed sum of awake values 8"
unfoldable pub fleet_bytes : Fleet → List ℕ
fleet_bytes f =
    bytes_of 1 f.fitted
    ++ (bytes_of 1 f.awake
    ++ (bytes_of 1 f.stale
    ++ (bytes_of 1 f.invalid
    ++ (bytes_of 1 f.never
    ++ bytes_of 8 (of_z w64 f.sum)))))

-- "206 clock: seconds 4, samples in this second 1"
unfoldable pub clock_bytes : ℕ → ℕ → List ℕ
clock_bytes clock samples = bytes_of 4 clock ++ bytes_of 1 samples

-- bytes with zeros after them, 13 in all, as the code has them before they are given
abbrev pub padded : List ℕ → List ℕ
padded bytes = bytes ++ replicate (13 - length bytes) 0

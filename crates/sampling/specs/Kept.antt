-- What the code of a run of samples keeps beside the state: the tariffs of the minute; what it leaves where runs end; and the samples that only count.
use Rattle.std.specs.Prelude.{◌≡◌, Bool, false, List, Option, None, Some, Result, Ok, Err, ℕ, ◌+◌, ◌%◌, ◌<◌, eqb, get_or, if◌then◌else◌}
use Rattle.std.specs.Int.Bits.{bit_and, bit_xor}
use Rattle.laws.specs.Masks.{bit_at}
use Rattle.laws.specs.Tables.{table}
use Rattle.tariff.specs.Rules.{force_map_at}
use Rattle.settings.specs.declared.Config.{Config}
use Rattle.counting.specs.Bills.{unit_at, sums_of}
use Rattle.counting.specs.ByMask.{settled_of, fed_registers, some_full, amounts_booked}
use Rattle.counting.specs.Filter.{line_at}
use Rattle.counting.specs.declared.Line.{Line}
use Rattle.sampling.specs.declared.SampleError.{SampleError}
use Rattle.sampling.specs.declared.SampleError.TheVariants.{Full}

-- the registers that units go to at a second
abbrev pub fed_at_clock : Config → ℕ → ℕ
fed_at_clock c clock = fed_registers c.registers (force_map_at c.program clock)

-- the tariffs that are known, the registers that units go to, are those in force
abbrev pub InForce : Config → ℕ → Option ℕ → Type 0
InForce c clock None = Unit
InForce c clock (Some fed) = fed ≡ fed_at_clock c clock

-- the tariffs at the next second; a new minute has others
abbrev pub aged_to : ℕ → Option ℕ → Option ℕ
aged_to clock tariffs = if eqb (clock % 60) 0 then None else tariffs

-- only lines of a mask bring units
abbrev pub Within : List ℕ → ℕ → Type 0
Within units ending = (i : ℕ) → i < 16 → bit_at ending i ≡ false → unit_at units i ≡ 0

-- no line brings any
abbrev pub Nothing : List ℕ → Type 0
Nothing units = (i : ℕ) → i < 16 → unit_at units i ≡ 0

-- the lines with those of a mask as they were
unfoldable pub restored_lines : List Line → List Line → ℕ → List Line
restored_lines lines old mask = table 16 (λ i. if bit_at mask i then line_at old i else line_at lines i)

-- refused where a register would be full
abbrev pub refused_full : Bool → Result (Unit {0}) SampleError
refused_full full = if full then Err Full else Ok tt

-- what is left where runs end: whether the sample is refused, the lines, and the open amounts
pub record Ended : Type 0 where
  pub answer : Result (Unit {0}) SampleError
  pub lines : List Line
  pub amounts : List ℕ

-- the runs of a mask ended, and what they bring booked to the registers that are fed; where one would be full, all as it was
unfoldable pub ended_of : Config → ℕ → List Line → List ℕ → ℕ → Ended
ended_of c fed lines amounts ending =
    let settled = settled_of c.inputs lines ending in
    let sums = sums_of c.sums settled.units in
    let full = some_full c.registers amounts fed sums in
    record { answer = refused_full full; lines = if full then lines else settled.lines; amounts = amounts_booked c.registers amounts fed sums }

-- what the code's answer says, with what it leaves
abbrev pub ended_said : Result (Unit {0}) SampleError → List Line → List ℕ → Ended
ended_said answer lines amounts = record { answer = answer; lines = lines; amounts = amounts }

-- no line is active in the n samples from k on
abbrev pub Idle : List ℕ → ℕ → ℕ → ℕ → ℕ → Type 0
Idle bits fitted s1r k n = (j : ℕ) → j < n → bit_and (bit_xor (get_or bits (k + j) 0) s1r) fitted ≡ 0

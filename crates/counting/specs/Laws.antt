-- What is proved of these definitions (proofs/Parts.antt): by masks and in place the code comes to what document 01's sentences say.
use Rattle.std.specs.Prelude.{◌≡◌, false, List, ℕ, ◌<◌, length}
use Rattle.laws.specs.Masks.{bit_at}
use Rattle.settings.specs.declared.Input.{Input}
use Rattle.settings.specs.declared.Register.{Register}
use Rattle.counting.specs.Filter.{line_at, ends, stepped_of}
use Rattle.counting.specs.Units.{credits_of}
use Rattle.counting.specs.Bills.{booked_of}
use Rattle.counting.specs.ByMask.{advanced_lines, settled_of, fed_registers, some_full, amounts_booked, amounts_of, with_amounts}
use Rattle.counting.specs.declared.Line.{Line}
use Rattle.counting.specs.declared.Bill.{Bill}

-- a mask names the lines on which a run ends with a sample, given the mask of active lines
abbrev pub Ending : List Line → ℕ → ℕ → Type 0
Ending lines mask ending = (i : ℕ) → i < 16 → bit_at ending i ≡ ends (line_at lines i) (bit_at mask i)

-- filter and units of each line come to the same as settling the runs that end and letting those of active lines go on
abbrev pub LinesByMask : Type 0
LinesByMask =
    (inputs : List Input) (lines : List Line) (mask ending : ℕ) → Ending lines mask ending
    → let stepped = stepped_of inputs lines mask in
    let credits = credits_of inputs stepped.lines stepped.impulses in
    let settled = settled_of inputs lines ending in
    (credits.lines ≡ advanced_lines settled.lines mask) × (credits.units ≡ settled.units)

-- with the open amounts kept as numbers: a register would be full exactly if one of those that are fed would
abbrev pub FullByMask : Type 0
FullByMask =
    (registers : List Register) (bills : List Bill) (amounts : List ℕ) (map : ℕ) (sums : List ℕ)
    → (booked_of registers (with_amounts bills amounts) map sums).full ≡ some_full registers amounts (fed_registers registers map) sums

-- and where none would, the amounts of those that are fed are booked
abbrev pub BillsByMask : Type 0
BillsByMask =
    (registers : List Register) (bills : List Bill) (amounts : List ℕ) (map : ℕ) (sums : List ℕ)
    → let fed = fed_registers registers map in
    some_full registers amounts fed sums ≡ false
    → (booked_of registers (with_amounts bills amounts) map sums).bills ≡ with_amounts bills (amounts_booked registers amounts fed sums)

-- the open amounts that bills have, kept as numbers and put back, leave the bills as they are
abbrev pub OwnAmounts : Type 0
OwnAmounts = (bills : List Bill) → length bills ≡ 16 → with_amounts bills (amounts_of bills) ≡ bills

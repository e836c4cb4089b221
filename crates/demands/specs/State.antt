-- The recorder's state as the account of a history spells it out, field by field, in the words of document 01.
use Rattle.std.specs.Prelude.{false, List, [], ◌∷◌, ℕ, ◌+◌, ◌*◌, ◌/◌, ◌%◌, min, eqb, ℤ, pos, ◌*ℤ◌, length, get_or, replicate, if◌then◌else◌}
use Rattle.laws.specs.SignedTotal.{totalℤ}
use Rattle.laws.specs.Tables.{table}
use Rattle.settings.specs.Rules.{zero_slot}
use Rattle.settings.specs.declared.Config.{Config}
use Rattle.settings.specs.declared.Slot.{Slot}
use Rattle.counting.specs.Filter.{input_at}
use Rattle.counting.specs.Bills.{unit_at, sum_of}
use Rattle.counting.specs.declared.Line.{Line}
use Rattle.counting.specs.declared.Bill.{Bill}
use Rattle.profile.specs.declared.Profile.{Profile}
use Rattle.sampling.specs.declared.Meter.{Meter}
use Rattle.sampling.specs.declared.Period.{Period}
use Rattle.sampling.specs.declared.State.{State}
use Rattle.demands.specs.Account.{Entry, Account, Ended, Reading, run_of, always, impulses_of, rejected_in, units_in, whole, in_period, in_use, amount_of, last_reset, periods_of, last_reading}

-- input i: its run, "counted to 256 and held there"; its rejected impulses, "count held at 65,535"; what whole denominators leave of the numerators of its impulses; its units of the running period
unfoldable pub line_in : Config → List Entry → ℕ → Line
line_in c journal i =
    record {
      run = run_of c i journal;
      rejected = min 65_535 (rejected_in i (whole c journal));
      remainder = impulses_of always i (whole c journal) * (input_at c.inputs i).numerator % (input_at c.inputs i).denominator;
      units = units_in i (in_period c journal);
    }

-- bill register j: its open amount, and what the last reset noted; one that is not in use has zeros
unfoldable pub bill_in : Config → List Entry → ℕ → Bill
bill_in c journal j =
    if in_use c j
    then record {
      amount = amount_of c j journal;
      closed = (last_reset c j journal).amount;
      stamp = (last_reset c j journal).stamp;
      reset = (last_reset c j journal).reset;
    }
    else record { amount = 0; closed = 0; stamp = 0; reset = false }

-- a meter: its last accepted reading, and its stamp
abbrev pub meter_in : Reading → Meter
meter_in m = record { read = m.read; stamp = m.stamp; value = m.value; status = m.status; seq = m.seq }

-- level 1 of sum k, of a period's units
abbrev pub level1 : Config → List ℕ → ℕ → ℕ
level1 c units k = sum_of (get_or c.sums k 0) (unit_at units)

-- "Level 0 and level 1 are units of the period, level 2 the signed sum of coefficient times level 1": the value of a slot; an empty one has 0
unfoldable pub value_of : Config → List ℕ → Slot → ℤ
value_of c units slot =
    if eqb slot.level 0 then pos (unit_at units slot.index)
    else if eqb slot.level 1 then pos (level1 c units slot.index)
    else if eqb slot.level 2 then totalℤ 8 (λ k. get_or c.coefficients (slot.index * 8 + k) (pos 0) *ℤ pos (level1 c units k))
    else pos 0

-- "level 9 the chosen values of the last closed period with the closing time"; zeros if none was closed
abbrev pub last_period : Config → List Ended → Period
last_period c [] = record { state = 0; stamp = 0; values = replicate 16 (pos 0) }
last_period c (p ∷ earlier) = record { state = p.state; stamp = p.stamp; values = table 16 (λ i. value_of c p.units (get_or c.slots i zero_slot)) }

-- the whole state
unfoldable pub state_in : Config → Account → State
state_in c a =
    record {
      clock = a.time.second;
      samples = a.time.samples;
      first = a.time.first;
      lines = table 16 (line_in c a.journal);
      bills = table 16 (bill_in c a.journal);
      meters = table 32 (λ i. meter_in (last_reading a.journal i));
      closed = last_period c (periods_of c a.journal);
    }

-- where the records of the closed periods stand in a buffer of this length: the next place goes round the room for whole records, and as many are held as fit
abbrev pub profile_in : ℕ → List Ended → Profile
profile_in lent periods = record { length = lent; next = length periods % (lent / 69); held = min (length periods) (lent / 69) }

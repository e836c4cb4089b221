-- "A clock set (any value, the present one also) closes the period at the old time as short, sets the clock and starts second and period anew." And: "A billing reset notes each open bill
-- amount and the clock as closed and sets the open amount to 0; remainders and period go on."
use Rattle.std.specs.Prelude.{true, List, ℕ, ltb, if◌then◌else◌}
use Rattle.laws.specs.Answers.{Answer, given, refused}
use Rattle.laws.specs.Tables.{table}
use Rattle.calendar.specs.Moments.{moment_of}
use Rattle.calendar.specs.declared.Moment.{Moment}
use Rattle.settings.specs.declared.Config.{Config}
use Rattle.settings.specs.declared.Register.{Register}
use Rattle.counting.specs.Bills.{register_at, bill_at}
use Rattle.sampling.specs.Periods.{closed_as, at_clock, closed_with}
use Rattle.sampling.specs.Samples.{put_in}
use Rattle.counting.specs.declared.Bill.{Bill}
use Rattle.sampling.specs.declared.State.{State}

-- the state set to a time: the period closes at the old time as short, 1; second and period start anew
unfoldable pub set_to : Config → State → ℕ → State
set_to c s time = closed_with (at_clock s time) time (closed_as c 1 s.clock s.lines)

-- a clock set: 9 where the time has no date
abbrev pub set_dated : Answer Moment → State → Answer State
set_dated (given m) next = given next
set_dated (refused n offset) next = refused n offset

-- the same by the time
unfoldable pub set_of : Config → State → ℕ → Answer State
set_of c s time = set_dated (moment_of time) (set_to c s time)

-- a bill register in use is closed: the open amount is noted with the clock, and begins anew
unfoldable pub closed_bill : Register → Bill → ℕ → Bill
closed_bill register bill clock =
    if ltb register.sum 8 then record { amount = 0; closed = bill.amount; stamp = clock; reset = true } else bill

-- a state with other bills
abbrev pub with_bills : State → List Bill → State
with_bills s bills = put_in s s.clock s.samples s.lines bills

-- a billing reset closes every register in use at once; all else goes on
unfoldable pub reset_of : Config → State → State
reset_of c s = with_bills s (table 16 (λ j. closed_bill (register_at c.registers j) (bill_at s.bills j) s.clock))

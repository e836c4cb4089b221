-- One sample, in the order of document 01's sentences, and a run of samples. "Order: .. sample 5, 6."
use Rattle.std.specs.Prelude.{Bool, ◌&&◌, List, [], ◌∷◌, Result, Ok, Err, ℕ, suc, ◌+◌, leb, eqb, if◌then◌else◌}
use Rattle.laws.specs.Answers.{Answer, given, refused, RunReply}
use Rattle.laws.specs.Masks.{mask_of, bit_at}
use Rattle.tariff.specs.Rules.{force_map_at}
use Rattle.settings.specs.declared.Config.{Config}
use Rattle.settings.specs.declared.Input.{Input}
use Rattle.counting.specs.Filter.{input_at, active, stepped_of}
use Rattle.counting.specs.Units.{credits_of}
use Rattle.counting.specs.Bills.{sums_of, booked_of}
use Rattle.sampling.specs.Periods.{tick_of}
use Rattle.sampling.specs.declared.State.{State}
use Rattle.sampling.specs.declared.SampleError.{SampleError}
use Rattle.sampling.specs.declared.SampleError.TheVariants.{ProfileBuffer, ClockEnd, Full}
use Rattle.counting.specs.declared.Line.{Line}
use Rattle.counting.specs.declared.Bill.{Bill}

-- what a sample books: FULL in some register, the lines and the bills
pub record Booking : Type 0 where
  pub full : Bool
  pub lines : List Line
  pub bills : List Bill

-- what a sample books at a clock, given the mask of active lines: filter, units, sums, tariff at the present second, bills
unfoldable pub booking_of : Config → ℕ → List Line → List Bill → ℕ → Booking
booking_of c clock lines bills mask =
    let stepped = stepped_of c.inputs lines mask in
    let credits = credits_of c.inputs stepped.lines stepped.impulses in
    let sums = sums_of c.sums credits.units in
    let booked = booked_of c.registers bills (force_map_at c.program clock) sums in
    record { full = booked.full; lines = credits.lines; bills = booked.bills }

-- line i is active in a sample: bit i is 1 where the line is closed
unfoldable pub active_at : List Input → ℕ → ℕ → Bool
active_at inputs bits i = active (input_at inputs i).kind (bit_at bits i)

-- the mask of the active lines
unfoldable pub active_lines : List Input → ℕ → ℕ
active_lines inputs bits = mask_of 16 (active_at inputs bits)

-- what a sample books on a state
abbrev pub booking_on : Config → State → ℕ → Booking
booking_on c s bits = booking_of c s.clock s.lines s.bills (active_lines c.inputs bits)

-- a state with the clock, the samples of its second, the lines and the bills put in
abbrev pub put_in : State → ℕ → ℕ → List Line → List Bill → State
put_in s clock samples lines bills =
    record {
      clock = clock;
      samples = samples;
      first = s.first;
      lines = lines;
      bills = bills;
      meters = s.meters;
      closed = s.closed;
    }

-- a state with what a sample books
abbrev pub with_booking : State → Booking → State
with_booking s b = put_in s s.clock s.samples b.lines b.bills

-- a state with one more sample in its second
abbrev pub one_sample_more : State → State
one_sample_more s = put_in s s.clock (s.samples + 1) s.lines s.bills

-- one more sample of the second; after the hundredth the clock steps
unfoldable pub counted_of : Config → State → State
counted_of c s = if leb 99 s.samples then tick_of c s else one_sample_more s

-- 5 CLOCK END: the hundredth sample in the last second
abbrev pub clock_end : State → Bool
clock_end s = eqb s.clock 4_294_967_295 && leb 99 s.samples

-- a sample: 5, then 6, else the lines and the bills are booked and the sample is counted
unfoldable pub sample_of : Config → State → ℕ → Answer State
sample_of c s bits =
    let b = booking_on c s bits in
    if clock_end s then refused 5 0
    else if b.full then refused 6 0
    else given (counted_of c (with_booking s b))

-- a run goes on after a sample that was taken, and ends at one that was refused
abbrev pub onward : State → Answer State → (State → RunReply State) → RunReply State
onward s (given next) rest = record { taken = suc (rest next).taken; number = (rest next).number; after = (rest next).after }
onward s (refused n offset) rest = record { taken = 0; number = n; after = s }

-- samples one after another, up to the first refusal
unfoldable pub samples_of : Config → State → List ℕ → RunReply State
samples_of c s [] = record { taken = 0; number = 0; after = s }
samples_of c s (bits ∷ more) = onward s (sample_of c s bits) (λ next. samples_of c next more)

-- document 01's number of an answer; 0 where the sample was taken
abbrev pub sample_number : Result (Unit {0}) SampleError → ℕ
sample_number (Ok taken) = 0
sample_number (Err ProfileBuffer) = 14
sample_number (Err ClockEnd) = 5
sample_number (Err Full) = 6

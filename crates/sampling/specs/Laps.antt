-- A run of samples that ends with the first that brings a closing. The closing stands between two such runs: it is their caller's.
use Rattle.std.specs.Prelude.{Bool, true, false, ◌&&◌, List, [], ◌∷◌, ℕ, suc, ◌+◌, leb, eqb, if◌then◌else◌}
use Rattle.laws.specs.Answers.{Answer, given, refused}
use Rattle.settings.specs.declared.Config.{Config}
use Rattle.sampling.specs.Periods.{multiple, closed_as, state_of, at_clock, closed_with}
use Rattle.sampling.specs.Samples.{booking_on, with_booking, one_sample_more, clock_end, sample_number}
use Rattle.sampling.specs.declared.State.{State}
use Rattle.sampling.specs.declared.samples.Lap.{Lap}

-- one more sample of the second; after the hundredth the clock steps, and the period stays open
unfoldable pub counted_open : State → State
counted_open s = if leb 99 s.samples then at_clock s (s.clock + 1) else one_sample_more s

-- a sample, but for the closing that it may bring
unfoldable pub sample_open : Config → State → ℕ → Answer State
sample_open c s bits =
    let b = booking_on c s bits in
    if clock_end s then refused 5 0
    else if b.full then refused 6 0
    else given (counted_open (with_booking s b))

-- after a sample a period is to close: the clock has stepped, onto a multiple
abbrev pub closing : Config → State → Bool
closing c s = eqb s.samples 0 && multiple c.period s.clock

-- the period of a state closes with its present second, and the next begins
unfoldable pub closed_here : Config → State → State
closed_here c s = closed_with s s.clock (closed_as c (state_of c.period s.first) s.clock s.lines)

-- a run to the first closing: how many samples were taken, the number of the refusal that ended it or 0, whether a period is to close, and the state
pub record LapReply : Type 0 where
  pub taken : ℕ
  pub number : ℕ
  pub closes : Bool
  pub state : State

-- one sample more in front
abbrev pub one_more_taken : LapReply → LapReply
one_more_taken t = record { taken = suc t.taken; number = t.number; closes = t.closes; state = t.state }

-- a run goes on after a sample that was taken and brings no closing
abbrev pub lap_on : Config → State → Answer State → (State → LapReply) → LapReply
lap_on c s (given next) rest = if closing c next then record { taken = 1; number = 0; closes = true; state = next } else one_more_taken (rest next)
lap_on c s (refused n offset) rest = record { taken = 0; number = n; closes = false; state = s }

-- samples one after another, up to the first refusal or the first closing
unfoldable pub lap_of : Config → State → List ℕ → LapReply
lap_of c s [] = record { taken = 0; number = 0; closes = false; state = s }
lap_of c s (bits ∷ more) = lap_on c s (sample_open c s bits) (λ next. lap_of c next more)

-- what the code's answer to such a run says
abbrev pub lap_said : Lap → LapReply
lap_said t = record { taken = t.taken; number = sample_number t.answer; closes = t.closes; state = t.state }

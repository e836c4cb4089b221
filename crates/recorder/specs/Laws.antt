-- What is proved of every state that calls can reach from a fresh start (proofs/Sound.antt).
use Rattle.std.specs.Prelude.{◌≡◌, List, ℕ, ◌+◌, ◌*◌, ◌-◌, ◌<◌, ◌≤◌, length}
use Rattle.laws.specs.Each.{Each}
use Rattle.settings.specs.Check.{sections, Holds}
use Rattle.settings.specs.declared.Config.{Config}
use Rattle.settings.specs.declared.Input.{Input}
use Rattle.counting.specs.Filter.{input_at, line_at}
use Rattle.counting.specs.Units.{units_of, held_sum}
use Rattle.counting.specs.Bills.{bill_at}
use Rattle.recorder.specs.Calls.{fresh_start}
use Rattle.recorder.specs.History.{Call, after_all}
use Rattle.counting.specs.declared.Line.{Line}
use Rattle.counting.specs.declared.Bill.{Bill}
use Rattle.sampling.specs.declared.State.{State}
use Rattle.recorder.specs.declared.Setup.{Setup}

-- sixteen lines, each with a run of at most 256 and a remainder below its denominator
pub record SoundLines (inputs : List Input) (lines : List Line) : Type 0 where
  pub sixteen : length lines ≡ 16
  pub runs : (i : ℕ) → i < 16 → (line_at lines i).run ≤ 256
  pub remainders : (i : ℕ) → i < 16 → 0 < (input_at inputs i).denominator → (line_at lines i).remainder < (input_at inputs i).denominator

-- sixteen bills, each with an open amount of at most 999,999,999
pub record SoundBills (bills : List Bill) : Type 0 where
  pub sixteen : length bills ≡ 16
  pub amounts : (j : ℕ) → j < 16 → (bill_at bills j).amount ≤ 999_999_999

-- a state is sound: its lines, its bills, its 32 meters, and fewer than 100 samples in the second
pub record Sound (c : Config) (s : State) : Type 0 where
  pub lines : SoundLines c.inputs s.lines
  pub bills : SoundBills s.bills
  pub meters : length s.meters ≡ 32
  pub samples : s.samples < 100

-- every state that calls can reach from a fresh start is sound
abbrev pub ReachedIsSound : Type 0
ReachedIsSound =
    (setup : Setup) (length : ℕ) (c : Config) (time : ℕ) (calls : List Call) → Sound c (after_all (fresh_start setup length c time) calls).state

-- the configuration is fixed from the start on, and what else it was given, and the length of the buffer
abbrev pub StartStays : Type 0
StartStays =
    (setup : Setup) (length : ℕ) (c : Config) (time : ℕ) (calls : List Call) →
    let r = after_all (fresh_start setup length c time) calls in (r.config ≡ c) × (r.setup ≡ setup) × (r.profile.length ≡ length)

-- each entry of a configuration keeps its rule, as `image` proves of one that an accepted image gives
abbrev pub Good : Config → Type 0
Good c = Each Holds (sections c)

-- the samples of the running period
abbrev pub samples_of_period : State → ℕ
samples_of_period s = (s.clock - s.first) * 100 + s.samples

-- a state keeps its bound: the period began, has fewer than 360,000 samples, and level 0 of a line is at most 10,000 units for each
pub record Bounded (s : State) : Type 0 where
  pub began : s.first ≤ s.clock
  pub few : samples_of_period s < 360_000
  pub units : (i : ℕ) → i < 16 → (line_at s.lines i).units ≤ 10_000 * samples_of_period s

-- every state that calls can reach with a good configuration keeps it
abbrev pub ReachedIsBounded : Type 0
ReachedIsBounded =
    (setup : Setup) (length : ℕ) (c : Config) → Good c → (time : ℕ) (calls : List Call) → Bounded (after_all (fresh_start setup length c time) calls).state

-- so the hold of level 0 never acts: an impulse adds its units to level 0, all of them
abbrev pub HoldNeverActs : Type 0
HoldNeverActs =
    (setup : Setup) (length : ℕ) (c : Config) → Good c → (time : ℕ) (calls : List Call) (i : ℕ) → i < 16
    → let line = line_at (after_all (fresh_start setup length c time) calls).state.lines i in
    let more = units_of (input_at c.inputs i) line.remainder in held_sum line.units more ≡ line.units + more

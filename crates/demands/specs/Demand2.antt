-- Demand 2: "Impulses, tariffs, period results, bills and register bytes are those of the POREG 2 description as document 01 makes it exact, over the Gregorian calendar. A configuration written and read
-- back is the same configuration; an accepted image read and written is the same bytes. A serial value from a meter not awake always carries the invalid mark." Account.antt says what a history comes
-- to, from the calls alone; here the recorder is compared with it.
use Rattle.std.specs.Prelude.{◌≡◌, true, false, List, [], ◌∷◌, ◌++◌, ℕ, suc, ◌%◌, ◌≤◌, eqb, get_or, take, drop, if◌then◌else◌}
use Rattle.laws.specs.Answers.{given, number_in}
use Rattle.laws.specs.Masks.{bit_at}
use Rattle.calendar.specs.Moments.{moment_of}
use Rattle.calendar.specs.Laws.{FoundIsMoment, OneMoment, AlwaysDated}
use Rattle.calendar.specs.declared.Moment.{Moment}
use Rattle.tariff.specs.Rules.{in_force, force_map_at}
use Rattle.tariff.specs.declared.Program.{Program}
use Rattle.image.specs.Laws.{WrittenIsRead, ReadIsWritten}
use Rattle.settings.specs.declared.Config.{Config}
use Rattle.recorder.specs.Meters.{meter_at}
use Rattle.recorder.specs.Calls.{fresh_start, sample_reply, samples_reply, set_reply, reading_reply}
use Rattle.recorder.specs.History.{Call, sample, set, reading, reset, after_all}
use Rattle.recorder.specs.declared.Recorder.{Recorder}
use Rattle.recorder.specs.declared.Setup.{Setup}
use Rattle.registers.specs.Fleet.{fleet_of}
use Rattle.registers.specs.Laws.{BytesAsTable, GivenFirst}
use Rattle.registers.specs.Registers.{register_reply}
use Rattle.demands.specs.Account.{Account, periods_of, number_of_sample, answer_of, with_call, account_of}
use Rattle.demands.specs.Starts.{Accepted, StartIsFresh}
use Rattle.demands.specs.State.{state_in, profile_in}
use Rattle.demands.specs.Shown.{is_awake, fleet_in, shown}

-- the number with which a recorder answers a call; a billing reset is never refused
abbrev pub reply_number : Recorder → Call → ℕ
reply_number r (sample bits) = (sample_reply r bits).number
reply_number r (set seconds) = (set_reply r seconds).number
reply_number r (reading meter value status seq) = number_in (reading_reply r meter value status seq).answer
reply_number r reset = 0

-- how many samples of a run the account takes
abbrev pub taken_in : Config → Account → List ℕ → ℕ
taken_in c a [] = 0
taken_in c a (bits ∷ more) = if eqb (number_of_sample c a bits) 0 then suc (taken_in c (with_call c a (sample bits)) more) else 0

-- the number that ends the run: that of its first refused sample, 0 where there is none
abbrev pub end_of : Config → Account → List ℕ → ℕ
end_of c a [] = 0
end_of c a (bits ∷ more) = if eqb (number_of_sample c a bits) 0 then end_of c (with_call c a (sample bits)) more else number_of_sample c a bits

-- the calls with these samples after them, one by one
abbrev pub with_samples : List ℕ → List Call → List Call
with_samples [] calls = calls
with_samples (bits ∷ more) calls = with_samples more (sample bits ∷ calls)

-- "A serial value from a meter not awake always carries the invalid mark", in every state and for every request: IV, the lowest bit of STATUS, byte 8 of a register of group 82
abbrev pub InvalidMark : Type 0
InvalidMark =
    (r : Recorder) (meter : ℕ) (buffer : List ℕ) (n : ℕ) → (register_reply r 82 meter buffer).answer ≡ given n →
    let m = meter_at r.state.meters meter in
    is_awake (get_or r.config.limits meter 0) m.read m.stamp m.status r.state.clock ≡ false
    → get_or (register_reply r 82 meter buffer).buffer 8 0 % 2 ≡ 1

-- and that of an awake meter never does
abbrev pub AwakeUnmarked : Type 0
AwakeUnmarked =
    (r : Recorder) (meter : ℕ) (buffer : List ℕ) (n : ℕ) → (register_reply r 82 meter buffer).answer ≡ given n →
    let m = meter_at r.state.meters meter in
    is_awake (get_or r.config.limits meter 0) m.read m.stamp m.status r.state.clock ≡ true
    → get_or (register_reply r 82 meter buffer).buffer 8 0 % 2 ≡ 0

-- the tariff rules in force at a second are those of its calendar moment: bit i of the map is rule i
abbrev pub TariffOfMoment : Type 0
TariffOfMoment = (p : Program) (t : ℕ) (m : Moment) → moment_of t ≡ given m → (i : ℕ) → bit_at (force_map_at p t) i ≡ in_force p i m

-- A start with any chosen slots and a buffer of any length; each call after it is lent one of the same length, whatever it holds
module _ (setup : Setup) (lent : ℕ) where
  -- the recorder after a history
  abbrev pub reached : Config → ℕ → List Call → Recorder
  reached c time calls = after_all (fresh_start setup lent c time) calls

  -- after any history each call is answered with the account's number: so a recorder that refuses what it should take, or takes what it should refuse, is none
  abbrev pub AnswersOfHistory : Type 0
  AnswersOfHistory = (c : Config) (time : ℕ) (calls : List Call) (call : Call) → reply_number (reached c time calls) call ≡ answer_of c (account_of c time calls) call

  -- the recorder is what its history says: the configuration of its start and the chosen slots, the state that the account spells out, and where its records stand
  abbrev pub StateOfHistory : Type 0
  StateOfHistory =
      (c : Config) → Accepted c → 69 ≤ lent → (time : ℕ) (calls : List Call) →
      let a = account_of c time calls in
      reached c time calls ≡ record { config = c; setup = setup; state = state_in c a; profile = profile_in lent (periods_of c a.journal) }

  -- a run of samples is its samples one after another, up to the first refusal
  abbrev pub RunsOfHistory : Type 0
  RunsOfHistory =
      (c : Config) (time : ℕ) (calls : List Call) (run : List ℕ) →
      let reply = samples_reply (reached c time calls) run in
      let taken = taken_in c (account_of c time calls) run in
      (reply.taken ≡ taken) × (reply.number ≡ end_of c (account_of c time calls) run) × (reply.after ≡ reached c time (with_samples (take taken run) calls))

  -- each register that is read after a history has the bytes that the account shows, and the rest of the buffer is as it was
  abbrev pub RegistersOfHistory : Type 0
  RegistersOfHistory =
      (c : Config) → Accepted c → (time : ℕ) (calls : List Call) (group register : ℕ) (buffer : List ℕ) (n : ℕ)
      → (register_reply (reached c time calls) group register buffer).answer ≡ given n
      → (register_reply (reached c time calls) group register buffer).buffer ≡ shown c (account_of c time calls) group register ++ drop n buffer

  -- the fleet is counted as the history says: fitted, awake, stale, invalid, never, and the signed sum of the awake values
  abbrev pub FleetOfHistory : Type 0
  FleetOfHistory = (c : Config) → Accepted c → (time : ℕ) (calls : List Call) → fleet_of (reached c time calls) ≡ fleet_in c (account_of c time calls)

  -- demand 2
  pub record Demand2 : Type 0 where
    -- "A configuration written and read back is the same configuration; an accepted image read and written is the same bytes."
    pub written_is_read : WrittenIsRead
    pub read_is_written : ReadIsWritten
    -- "A serial value from a meter not awake always carries the invalid mark."
    pub invalid_mark : InvalidMark
    pub awake_unmarked : AwakeUnmarked
    -- each start in the field begins a history; what its calls are answered, the recorder after them, runs of samples, registers and fleet are what the history says
    pub start_is_fresh : StartIsFresh
    pub answers : AnswersOfHistory
    pub state : StateOfHistory
    pub runs : RunsOfHistory
    pub registers : RegistersOfHistory
    pub fleet : FleetOfHistory
    -- tariffs are those of the moment, and each second of the clock has one moment of the Gregorian calendar
    pub tariffs : TariffOfMoment
    pub dated : AlwaysDated
    pub calendar : FoundIsMoment
    pub one_moment : OneMoment
    -- each register holds as many bytes as its line of the table has, and a read changes only these
    pub bytes : BytesAsTable
    pub given_first : GivenFirst

-- The owner's third demand: "Take any sequence of samples, clock sets, readings and billing resets from a fresh start." Each type below is a theorem; Demand3 names
-- them all, and proofs/Checks.antt has the proof. The account of a history (Account.antt) is worked out from the calls alone; `open_of` and `closed_of` are the recorder's.
use Rattle.std.specs.Prelude.{◌≡◌, Bool, true, false, not, ◌&&◌, List, [], ◌∷◌, ◌++◌, ℕ, suc, ◌+◌, ◌*◌, ◌/◌, ◌<◌, ltb, get_or, if◌then◌else◌}
use Rattle.laws.specs.Each.{Each}
use Rattle.laws.specs.Total.{total}
use Rattle.laws.specs.Masks.{bit, bit_at}
use Rattle.settings.specs.declared.Config.{Config}
use Rattle.counting.specs.Filter.{input_at}
use Rattle.counting.specs.Bills.{register_at, bill_at}
use Rattle.sampling.specs.Samples.{active_at}
use Rattle.recorder.specs.Calls.{fresh_start}
use Rattle.recorder.specs.History.{Call, sample, set, reading, reset, after_all}
use Rattle.recorder.specs.declared.Setup.{Setup}
use Rattle.demands.specs.Account.{Entry, took, ended, cleared, heard, Sample, run_of, ends_run, in_range, whole, since, booked_in, books_at, feeding, always, journal_of}
use Rattle.demands.specs.Starts.{Accepted}
use Rattle.demands.specs.Energy.{stretches_of, inputs_in, scale_of, energy_of, whole_units_of}

-- bill register j is in use: it is one of the sixteen, on one of the eight sums
abbrev pub InUse : Config → ℕ → Type 0
InUse c j = (j < 16) × ((register_at c.registers j).sum < 8)

-- "bill register: .. tariff rule 0-15 or 255 for none"
abbrev pub WithoutRule : Config → ℕ → Type 0
WithoutRule c j = (register_at c.registers j).rule ≡ 255

-- amount and energy "are compared as whole numbers, each multiplied by" the scale: they differ by less than one unit for each piece; with no piece both are 0
pub record Near (amount energy scale pieces : ℕ) : Type 0 where
  pub not_above : 0 < pieces → amount * scale < energy + pieces * scale
  pub not_below : 0 < pieces → energy < amount * scale + pieces * scale
  pub none : pieces ≡ 0 → (amount ≡ 0) × (energy ≡ 0)

-- each of the chosen registers is in use, on this sum
abbrev pub OnSum : Config → ℕ → (ℕ → Bool) → Type 0
OnSum c sum chosen = (j : ℕ) → j < 16 → chosen j ≡ true → InUse c j × ((register_at c.registers j).sum ≡ sum)

-- the rule of exactly one of the chosen registers was in force at this sample
abbrev pub ExactlyOne : Config → (ℕ → Bool) → Sample → Type 0
ExactlyOne c chosen e = total 16 (λ j. bit (chosen j && books_at c j e.second)) ≡ 1

-- For a reader who doubts the account's definitions

-- stretches counted at their newest sample; `newer` says that the sample after the listed ones is in the stretch too
abbrev pub ends_of : (ℕ → Bool) → Bool → List Sample → ℕ
ends_of on newer [] = 0
ends_of on newer (e ∷ earlier) = bit (on e.second && not newer) + ends_of on (on e.second) earlier

-- whether the oldest of the samples is in a stretch; `newer` where there are none
abbrev pub oldest_on : (ℕ → Bool) → Bool → List Sample → Bool
oldest_on on newer [] = newer
oldest_on on newer (e ∷ earlier) = oldest_on on (on e.second) earlier

-- "It counts for the open amount if one of its samples came after the last reset": of all stretches of the history those over `since` count, and all others ended
-- before the reset
abbrev pub StretchesThatCount : Type 0
StretchesThatCount =
    (c : Config) (on : ℕ → Bool) (journal : List Entry)
    → (older : List Sample) × (whole c journal ≡ since c journal ++ older)
    × (stretches_of on (whole c journal) ≡ stretches_of on (since c journal) + ends_of on (oldest_on on false (since c journal)) older)

-- the scale is a multiple of each feeding input's denominator: no energy is lost by the division in `energy_of`
abbrev pub ScaleIsExact : Type 0
ScaleIsExact =
    (c : Config) → Accepted c → (j : ℕ) → InUse c j → (i : ℕ) → i < 16 → bit_at (feeding c j) i ≡ true
    → scale_of c (feeding c j) / (input_at c.inputs i).denominator * (input_at c.inputs i).denominator ≡ scale_of c (feeding c j)

-- the run of input i counted on and on, and held nowhere
abbrev pub run_on_and_on : Config → ℕ → List Entry → ℕ
run_on_and_on c i [] = 0
run_on_and_on c i (took bits second ∷ earlier) = if active_at c.inputs bits i then suc (run_on_and_on c i earlier) else 0
run_on_and_on c i (ended state stamp ∷ earlier) = run_on_and_on c i earlier
run_on_and_on c i (cleared second ∷ earlier) = run_on_and_on c i earlier
run_on_and_on c i (heard stamp meter value status seq ∷ earlier) = run_on_and_on c i earlier

-- a run that is held at 256, above each longest run, is judged as the full run would be
abbrev pub HoldIsHarmless : Type 0
HoldIsHarmless =
    (c : Config) → Accepted c → (bits : ℕ) (journal : List Entry) (i : ℕ) → i < 16 →
    let run = run_on_and_on c i journal in
    (ends_run c bits journal i && in_range c i (run_of c i journal)) ≡ ((not (active_at c.inputs bits i) && ltb 0 run) && in_range c i run)

-- A start with any chosen slots and a buffer of any length; each call after it is lent one of the same length, whatever it holds
module _ (setup : Setup) (lent : ℕ) where
  -- the recorder's open amount of bill register j after a history
  abbrev pub open_of : Config → ℕ → ℕ → List Call → ℕ
  open_of c time j calls = (bill_at (after_all (fresh_start setup lent c time) calls).state.bills j).amount

  -- all its closed bills together: what the recorder noted at each billing reset
  abbrev pub closed_of : Config → ℕ → ℕ → List Call → ℕ
  closed_of c time j [] = 0
  closed_of c time j (sample bits ∷ earlier) = closed_of c time j earlier
  closed_of c time j (set seconds ∷ earlier) = closed_of c time j earlier
  closed_of c time j (reading meter value status seq ∷ earlier) = closed_of c time j earlier
  closed_of c time j (reset ∷ earlier) = closed_of c time j earlier + (bill_at (after_all (fresh_start setup lent c time) (reset ∷ earlier)).state.bills j).closed

  -- "An open bill amount with a tariff differs from the exact energy of the impulses booked while its tariff was in force, since the last reset, by less than one unit
  -- for each feeding input in each unbroken stretch of that tariff; with no stretch or no input it is zero." It holds without a tariff too: then every sample is booked.
  abbrev pub OpenAmount : Type 0
  OpenAmount =
      (c : Config) → Accepted c → (time : ℕ) (calls : List Call) (j : ℕ) → InUse c j →
      let samples = since c (journal_of c time calls) in
      let inputs = feeding c j in
      Near (open_of c time j calls) (energy_of c (books_at c j) inputs samples) (scale_of c inputs)
      (inputs_in inputs * stretches_of (books_at c j) samples)

  -- "For an amount without a tariff, all closed bills and the open one together are the exact energy of the whole history, rounded down once for each feeding input."
  abbrev pub PlainBills : Type 0
  PlainBills =
      (c : Config) (time : ℕ) (calls : List Call) (j : ℕ) → InUse c j → WithoutRule c j →
      closed_of c time j calls + open_of c time j calls ≡ whole_units_of c always (feeding c j) (whole c (journal_of c time calls))

  -- "Where amounts on one sum have different tariffs and exactly one of these was in force at every sample since the reset, their open amounts add up to that sum's
  -- open amount without a tariff."
  abbrev pub AmountsAddUp : Type 0
  AmountsAddUp =
      (c : Config) (time : ℕ) (calls : List Call) (k : ℕ) → InUse c k → WithoutRule c k →
      (chosen : ℕ → Bool) → OnSum c (register_at c.registers k).sum chosen → Each (ExactlyOne c chosen) (since c (journal_of c time calls)) →
      total 16 (λ j. if chosen j then open_of c time j calls else 0) ≡ open_of c time k calls

  -- the same where no register without a tariff is on the sum: they add up to all units that the samples since the reset brought to it
  abbrev pub AmountsAreTheSums : Type 0
  AmountsAreTheSums =
      (c : Config) (time : ℕ) (calls : List Call) (sum : ℕ) →
      (chosen : ℕ → Bool) → OnSum c sum chosen → Each (ExactlyOne c chosen) (since c (journal_of c time calls)) →
      total 16 (λ j. if chosen j then open_of c time j calls else 0) ≡ booked_in always (get_or c.sums sum 0) (since c (journal_of c time calls))

  -- The third demand, in one
  pub record Demand3 : Type 0 where
    pub open_amount : OpenAmount
    pub plain_bills : PlainBills
    pub amounts_add_up : AmountsAddUp
    pub amounts_are_the_sums : AmountsAreTheSums
    pub stretches_that_count : StretchesThatCount
    pub scale_is_exact : ScaleIsExact
    pub hold_is_harmless : HoldIsHarmless

-- Histories worked out. Two makers share a recorder, each with a day amount, a night amount and one without a tariff; and a register is filled. All numbers below are computed or proved in proofs/Example.antt
-- and proofs/Full.antt.
use Rattle.std.specs.Prelude.{◌≡◌, Bool, List, [], ◌∷◌, ◌++◌, reverse, ℕ, zero, suc, ◌<◌, ltb, pos, negsuc, replicate}
use Rattle.laws.specs.Each.{Each}
use Rattle.laws.specs.Tables.{table}
use Rattle.tariff.specs.declared.Program.{Program}
use Rattle.settings.specs.declared.Config.{Config}
use Rattle.recorder.specs.History.{Call, sample, set, reading, reset}
use Rattle.recorder.specs.declared.Setup.{Setup}
use Rattle.demands.specs.Account.{Entry, took, ended, cleared, heard, Account, whole, since, books_at, always, impulses_of, feeding, booked_in, account_of, journal_of}
use Rattle.demands.specs.Energy.{stretches_of, inputs_in, scale_of, energy_of, whole_units_of}
use Rattle.demands.specs.Starts.{Accepted}
use Rattle.demands.specs.State.{state_in}
use Rattle.demands.specs.Shown.{fleet_in}
use Rattle.demands.specs.Demand2.{reached, reply_number}
use Rattle.demands.specs.Demand3.{open_of, closed_of, OnSum, ExactlyOne}

-- tariff rule 0 is the day, 06:00 to 22:00, rule 1 the night, every day; rule 2 has an unused season and is never in force
abbrev pub day_and_night : Program
day_and_night =
    record {
      windows =
          record { first = 360; end = 1320 }
          ∷ replicate 3 (record { first = 0; end = 0 })
          ++ (record { first = 0; end = 360 } ∷ record { first = 1320; end = 1440 } ∷ replicate 122 (record { first = 0; end = 0 }));
      weeks = replicate 8 0 ++ (replicate 8 1 ++ replicate 112 255);
      seasons = replicate 8 (record { first = record { day = 0; month = 0 }; second = record { day = 0; month = 0 } });
      holidays = replicate 32 (record { day = 0; month = 0; year = 0 });
      rules = record { season = 255; week = 0 } ∷ record { season = 255; week = 1 } ∷ record { season = 0; week = 0 } ∷ replicate 13 (record { season = 255; week = 255 });
    }

-- one maker has inputs 0 (S1a, runs 1 to 8, 3/10) and 1 (S1r, runs 2 to 8, 7/4) on sum 0, the other input 2 (S1a, runs 1 to 255, 5/2) on sum 1; sum 2 is empty. Function 0 is sum 0 less sum 1. Slots 0,
-- 1 and 2 are input 2, sum 1 and function 0. Bill registers 0, 1 and 2 are the day, the night and no tariff on sum 0; 3, 4 and 5 the same on sum 1; 6 is on the empty sum, 7 on sum 0 with rule 2. Serial
-- meters 0 to 3 are fitted
abbrev pub two_makers : Config
two_makers =
    record {
      period = 15;
      inputs =
          record { kind = 1; shortest = 1; longest = 8; numerator = 3; denominator = 10 }
          ∷ record { kind = 2; shortest = 2; longest = 8; numerator = 7; denominator = 4 }
          ∷ record { kind = 1; shortest = 1; longest = 255; numerator = 5; denominator = 2 }
          ∷ replicate 13 (record { kind = 0; shortest = 0; longest = 0; numerator = 0; denominator = 0 });
      sums = 3 ∷ 4 ∷ replicate 6 0;
      coefficients = pos 1 ∷ negsuc 0 ∷ replicate 30 (pos 0);
      slots = record { level = 0; index = 2 } ∷ record { level = 1; index = 1 } ∷ record { level = 2; index = 0 } ∷ replicate 13 (record { level = 255; index = 0 });
      limits = replicate 4 900 ++ replicate 28 0;
      program = day_and_night;
      registers =
          record { sum = 0; rule = 0 }
          ∷ record { sum = 0; rule = 1 }
          ∷ record { sum = 0; rule = 255 }
          ∷ record { sum = 1; rule = 0 }
          ∷ record { sum = 1; rule = 1 }
          ∷ record { sum = 1; rule = 255 }
          ∷ record { sum = 2; rule = 255 }
          ∷ record { sum = 0; rule = 2 }
          ∷ replicate 8 (record { sum = 255; rule = 255 });
    }

-- line bits 2: no line is active. An impulse of inputs 0 and 2 together, and one of input 1
abbrev zero_and_two : List Call
zero_and_two = sample 7 ∷ sample 2 ∷ []

abbrev one : List Call
one = sample 0 ∷ sample 0 ∷ sample 2 ∷ []

-- a run of 1 on input 1 is too short, and a run of 9 on input 0 too long: both are rejected
abbrev rejected : List Call
rejected = sample 0 ∷ sample 2 ∷ replicate 9 (sample 3) ++ (sample 2 ∷ [])

-- noon of 1.1.1970
abbrev pub start : ℕ
start = 43_200

-- from then on: a reading of meter 1, impulses by day; at 23:00 more; a reset inside the night, and on; the next day at 07:00; that night at 23:00, readings of meters 0 and 2, the last with IV, and one of a
-- meter that is not fitted, which is refused
abbrev pub calls : List Call
calls =
    reverse
    (reading 1 (pos 7) 0 1 ∷ zero_and_two ++ (zero_and_two ++ (one
    ++ (set 82_800 ∷ zero_and_two ++ (zero_and_two
    ++ (reset ∷ one
    ++ (set 111_600 ∷ zero_and_two ++ (rejected
    ++ (set 169_200 ∷ zero_and_two ++ (reading 0 (pos 21) 0 5 ∷ reading 2 (pos 9) 1 2 ∷ reading 4 (pos 5) 0 0 ∷ []))))))))))

-- the journal, newest first
abbrev pub journal : List Entry
journal =
    heard 169_200 2 (pos 9) 1 2 ∷ heard 169_200 0 (pos 21) 0 5
    ∷ took 2 169_200 ∷ took 7 169_200 ∷ ended 1 111_600
    ∷ took 2 111_600 ∷ replicate 9 (took 3 111_600) ++ (took 2 111_600 ∷ took 0 111_600 ∷ took 2 111_600 ∷ took 7 111_600 ∷ ended 1 82_800
    ∷ took 2 82_800 ∷ took 0 82_800 ∷ took 0 82_800 ∷ cleared 82_800
    ∷ took 2 82_800 ∷ took 7 82_800 ∷ took 2 82_800 ∷ took 7 82_800 ∷ ended 1 43_200
    ∷ took 2 43_200 ∷ took 0 43_200 ∷ took 0 43_200 ∷ took 2 43_200 ∷ took 7 43_200 ∷ took 2 43_200 ∷ took 7 43_200 ∷ heard 43_200 1 (pos 7) 0 1 ∷ [])

-- the account: 23:00, two samples into the second and the period
abbrev pub account : Account
account = record { time = record { second = 169_200; samples = 2; first = 169_200 }; journal = journal }

-- a function's values at the eight registers in use
abbrev eight : (ℕ → ℕ) → List ℕ
eight f = table 8 f

-- registers 0 and 1
abbrev pub first_two : ℕ → Bool
first_two j = ltb j 2

-- what the theorems speak of, register by register: 0 and 3 by day, 1 and 4 by night, 2 and 5 without a tariff, 6 on the empty sum, 7 with a rule that is never in force
pub record Numbers (setup : Setup) (lent : ℕ) : Type 0 where
  -- the configuration is one that the image check accepts, the account is that above, and the reading of meter 4 is answered with 8
  pub accepted : Accepted two_makers
  pub happened : account_of two_makers start calls ≡ account
  pub not_fitted : reply_number (reached setup lent two_makers start calls) (reading 4 (pos 5) 0 0) ≡ 8
  -- open amounts, and all closed ones
  pub opened : eight (λ j. open_of setup lent two_makers start j calls) ≡ 0 ∷ 2 ∷ 2 ∷ 2 ∷ 3 ∷ 5 ∷ 0 ∷ 0 ∷ []
  pub closed : eight (λ j. closed_of setup lent two_makers start j calls) ≡ 1 ∷ 1 ∷ 2 ∷ 5 ∷ 5 ∷ 10 ∷ 0 ∷ 0 ∷ []
  -- feeding inputs, the product of their denominators, the exact energy since the reset times it, the stretches that count: the second of the night began before the reset
  pub inputs : eight (λ j. inputs_in (feeding two_makers j)) ≡ 2 ∷ 2 ∷ 2 ∷ 1 ∷ 1 ∷ 1 ∷ 0 ∷ 2 ∷ []
  pub scales : eight (λ j. scale_of two_makers (feeding two_makers j)) ≡ 40 ∷ 40 ∷ 40 ∷ 2 ∷ 2 ∷ 2 ∷ 1 ∷ 40 ∷ []
  pub energy : eight (λ j. energy_of two_makers (books_at two_makers j) (feeding two_makers j) (since two_makers journal)) ≡ 12 ∷ 82 ∷ 94 ∷ 5 ∷ 5 ∷ 10 ∷ 0 ∷ 0 ∷ []
  pub stretches : eight (λ j. stretches_of (books_at two_makers j) (since two_makers journal)) ≡ 1 ∷ 2 ∷ 1 ∷ 1 ∷ 2 ∷ 1 ∷ 1 ∷ 0 ∷ []
  -- the exact energy of the whole history, rounded down once for each feeding input: closed and open of registers 2, 5 and 6 together
  pub total : eight (λ j. whole_units_of two_makers always (feeding two_makers j) (whole two_makers journal)) ≡ 4 ∷ 4 ∷ 4 ∷ 15 ∷ 15 ∷ 15 ∷ 0 ∷ 4 ∷ []
  -- exactly one of the rules of registers 0 and 1, which are on sum 0 as register 2 is, was in force at each sample since the reset: 0 and 2 are 2
  pub shared : OnSum two_makers 0 first_two
  pub once : Each (ExactlyOne two_makers first_two) (since two_makers journal)
  pub all_units : booked_in always 3 (since two_makers journal) ≡ 2
  -- the last closed period was closed by the clock set at 07:00 of the second day, short; input 2 had 2 units, sum 1 the same, and function 0 is 0 less 2
  pub state : (state_in two_makers account).closed ≡ record { state = 1; stamp = 111_600; values = pos 2 ∷ pos 2 ∷ negsuc 1 ∷ replicate 13 (pos 0) }
  -- meter 0 is awake, 1 stale, 2 invalid, 3 never; the others are not fitted
  pub fleet : fleet_in two_makers account ≡ record { fitted = 4; awake = 1; stale = 1; invalid = 1; never = 1; sum = pos 21 }

-- Neither "for each feeding input" nor "in each stretch" can be left out

-- before the night: register 2 has one unit, and owes 106 fortieths; 106 is not below 40 + 40, one unit for both inputs
abbrev pub by_day : List Call
by_day = reverse (zero_and_two ++ (zero_and_two ++ (one ++ zero_and_two)))

-- an impulse of input 2 by day and one by night, three times: register 4 has 9 units, and owes 15 halves; 18 is not below 15 + 2, one unit for all three stretches
abbrev pub day_and_night_thrice : List Call
day_and_night_thrice =
    let both = set 43_200 ∷ sample 6 ∷ sample 2 ∷ set 82_800 ∷ sample 6 ∷ sample 2 ∷ [] in
    reverse (both ++ (both ++ both))

-- their numbers
pub record Needed (setup : Setup) (lent : ℕ) : Type 0 where
  pub few : open_of setup lent two_makers start 2 by_day ≡ 1
  pub owed : energy_of two_makers (books_at two_makers 2) (feeding two_makers 2) (since two_makers (journal_of two_makers start by_day)) ≡ 106
  pub one_stretch : stretches_of (books_at two_makers 2) (since two_makers (journal_of two_makers start by_day)) ≡ 1
  pub many : open_of setup lent two_makers start 4 day_and_night_thrice ≡ 9
  pub less : energy_of two_makers (books_at two_makers 4) (feeding two_makers 4) (since two_makers (journal_of two_makers start day_and_night_thrice)) ≡ 15
  pub three_stretches : stretches_of (books_at two_makers 4) (since two_makers (journal_of two_makers start day_and_night_thrice)) ≡ 3

-- FULL, and whole periods, inside a history

-- sixteen inputs on sum 0, each with 10,000 units for an impulse of one sample, a period of a minute, and bill register 0 on that sum without a tariff; slots 0, 1 and 2 are input 0, sum 0 and function 0,
-- which is sum 0 less twice sum 0
abbrev pub full_maker : Config
full_maker =
    record {
      period = 1;
      inputs = replicate 16 (record { kind = 1; shortest = 1; longest = 1; numerator = 10_000; denominator = 1 });
      sums = 65_535 ∷ 65_535 ∷ replicate 6 0;
      coefficients = pos 1 ∷ negsuc 1 ∷ replicate 30 (pos 0);
      slots = record { level = 0; index = 0 } ∷ record { level = 1; index = 0 } ∷ record { level = 2; index = 0 } ∷ replicate 13 (record { level = 255; index = 0 });
      limits = replicate 32 0;
      program = day_and_night;
      registers = record { sum = 0; rule = 255 } ∷ replicate 15 (record { sum = 255; rule = 255 });
    }

-- n impulses of all inputs together
unfoldable pub pulses : ℕ → List Call
pulses zero = []
pulses (suc n) = sample 0 ∷ sample 65_535 ∷ pulses n

-- 6,249 of them from second 0 on, and all lines closed for the next
abbrev pub nearly_full : List Call
nearly_full = sample 65_535 ∷ pulses 6_249

-- the sample that would end the 6,250th is refused, counts for nothing in the account, and is accepted after a reset: the runs went on. The last closed period is the second minute, whole: 3,000 impulses
-- of each input
pub record Filled (setup : Setup) (lent : ℕ) : Type 0 where
  pub accepted : Accepted full_maker
  pub opened : open_of setup lent full_maker 0 0 nearly_full ≡ 999_840_000
  pub refused : reply_number (reached setup lent full_maker 0 nearly_full) (sample 0) ≡ 6
  pub impulses : (i : ℕ) → i < 16 → impulses_of always i (whole full_maker (journal_of full_maker 0 (sample 0 ∷ nearly_full))) ≡ 6_249
  pub closed : closed_of setup lent full_maker 0 0 (sample 0 ∷ reset ∷ sample 0 ∷ nearly_full) ≡ 999_840_000
  pub anew : open_of setup lent full_maker 0 0 (sample 0 ∷ reset ∷ sample 0 ∷ nearly_full) ≡ 160_000
  pub whole_period : (reached setup lent full_maker 0 nearly_full).state.closed
      ≡ record { state = 2; stamp = 120; values = pos 30_000_000 ∷ pos 480_000_000 ∷ negsuc 479_999_999 ∷ replicate 13 (pos 0) }

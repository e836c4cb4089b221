-- Lines 5, 6 and 7 of document 01's table: runs, units and bills of input 0, as samples of a fresh recorder make them.
use Rattle.std.specs.Prelude.{◌≡◌, List, [], ◌∷◌, ◌++◌, ℕ, zero, suc, pos, replicate}
use Rattle.tariff.specs.declared.Program.{Program}
use Rattle.settings.specs.declared.Config.{Config}
use Rattle.counting.specs.Filter.{line_at}
use Rattle.counting.specs.Bills.{bill_at}
use Rattle.sampling.specs.Samples.{samples_of}
use Rattle.recorder.specs.Calls.{fresh_state}
use Rattle.sampling.specs.declared.State.{State}

-- a tariff program: rule A in the minutes before noon, rule B after them, each day
abbrev two_tariffs : Program
two_tariffs =
    record {
      windows = record { first = 0; end = 720 } ∷ replicate 3 (record { first = 0; end = 0 }) ++ (record { first = 720; end = 1440 } ∷ replicate 123 (record { first = 0; end = 0 }));
      weeks = replicate 8 0 ++ (replicate 8 1 ++ replicate 112 255);
      seasons = replicate 8 (record { first = record { day = 0; month = 0 }; second = record { day = 0; month = 0 } });
      holidays = replicate 32 (record { day = 0; month = 0; year = 0 });
      rules = record { season = 255; week = 0 } ∷ (record { season = 255; week = 1 } ∷ replicate 14 (record { season = 255; week = 255 }));
    }

-- input 0 is S1a with runs from shortest to longest and a factor; sum 0 names it; bill registers 0, 1 and 2 are on that sum with rule A, rule B and none
abbrev one_input : ℕ → ℕ → ℕ → ℕ → Config
one_input shortest longest numerator denominator =
    record {
      period = 15;
      inputs = record { kind = 1; shortest = shortest; longest = longest; numerator = numerator; denominator = denominator } ∷ replicate 15 (record { kind = 0; shortest = 0; longest = 0; numerator = 0; denominator = 0 });
      sums = 1 ∷ replicate 7 0;
      coefficients = replicate 32 (pos 0);
      slots = replicate 16 (record { level = 255; index = 0 });
      limits = replicate 32 0;
      program = two_tariffs;
      registers = record { sum = 0; rule = 0 } ∷ (record { sum = 0; rule = 1 } ∷ (record { sum = 0; rule = 255 } ∷ replicate 13 (record { sum = 255; rule = 255 })));
    }

-- the state after samples from a fresh start at a time
abbrev after_samples : Config → ℕ → List ℕ → State
after_samples c time bits = (samples_of c (fresh_state time) bits).after

-- impulses of one sample each
abbrev impulses : ℕ → List ℕ
impulses zero = []
impulses (suc n) = 1 ∷ (0 ∷ impulses n)

-- a case of the table: a run of some samples is accepted or rejected; impulses give units and leave a remainder; bills of two tariffs
pub data ImpulseCase : Type 0 where
  run_of : ℕ → ℕ → ℕ → ImpulseCase
  impulses_give : ℕ → ℕ → ℕ → ImpulseCase
  tariffs_get : ℕ → ℕ → ℕ → ImpulseCase

-- what a case claims, with runs from 3 to 8 and a factor of 1; with a factor of 3/10; with three impulses before noon and one after it
abbrev pub ImpulseClaim : ImpulseCase → Type 0
ImpulseClaim (run_of n units rejected) =
    let line = line_at (after_samples (one_input 3 8 1 1) 0 (replicate n 1 ++ (0 ∷ []))).lines 0 in
    (line.units ≡ units) × (line.rejected ≡ rejected)
ImpulseClaim (impulses_give n units remainder) =
    let line = line_at (after_samples (one_input 1 255 3 10) 0 (impulses n)).lines 0 in
    (line.units ≡ units) × (line.remainder ≡ remainder)
ImpulseClaim (tariffs_get a b none) =
    let bills = (after_samples (one_input 1 255 3 10) 43_199 (impulses 3 ++ (replicate 94 0 ++ impulses 1))).bills in
    ((bill_at bills 0).amount ≡ a) × ((bill_at bills 1).amount ≡ b) × ((bill_at bills 2).amount ≡ none)

-- lines 5, 6 and 7
abbrev pub impulse_cases : List ImpulseCase
impulse_cases =
    run_of 2 0 1
    ∷ run_of 3 1 0
    ∷ run_of 8 1 0
    ∷ run_of 9 0 1
    ∷ impulses_give 1 0 3
    ∷ impulses_give 2 0 6
    ∷ impulses_give 3 0 9
    ∷ impulses_give 4 1 2
    ∷ tariffs_get 0 1 1
    ∷ []

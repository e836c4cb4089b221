-- The example's numbers: the account is computed, and the recorder's numbers are the account's by the theorems.
use mathlib.Core.Path.{◌≡◌, refl, ap, ◌∙◌}
use Prim.Native.Nat.{ℕ, zero, suc, ◌<◌}
use native.Mathlib.Nat.{not-suc-le-zero, le_of_suc-le-suc}
use native.Mathlib.Omega.{arith}
use borrow.Author.Tests.{ltb-true}
use lib.IntN.{pos}
use lib.ListN.{replicate}
use Rattle.laws.specs.First.{first}
use Rattle.laws.specs.Any.{any}
use Rattle.laws.specs.Total.{total}
use Rattle.laws.specs.Spans.{span}
use Rattle.laws.specs.Masks.{mask_of, bit_at}
use Rattle.laws.specs.SignedTotal.{totalℤ}
use Rattle.laws.specs.Tables.{table}
use Rattle.laws.proofs.Tables.{table_cong}
use Rattle.calendar.specs.Dates.{month_length, year_length}
use Rattle.calendar.specs.Moments.{year_day, moment_of}
use Rattle.tariff.specs.Daily.{daily_active}
use Rattle.tariff.specs.Weekly.{first_holiday, column_on, reference_at, weekly_active}
use Rattle.tariff.specs.Seasons.{in_season, season_active}
use Rattle.tariff.specs.Rules.{applies, in_force, force_map, force_of}
use Rattle.settings.specs.Rules.{zero_input, fitted_in, sum_good}
use Rattle.settings.specs.Check.{sections, first_bad, checked}
use Rattle.image.proofs.Found.{good_exactly}
use Rattle.counting.specs.Filter.{input_at}
use Rattle.counting.specs.Bills.{sum_of}
use Rattle.sampling.specs.Periods.{multiple}
use Rattle.sampling.specs.Samples.{active_at}
use Rattle.recorder.specs.History.{reading}
use Rattle.recorder.specs.Laws.{Good}
use Rattle.recorder.specs.declared.Setup.{Setup}
use Rattle.demands.specs.Account.{Account, books_at, feeding, amount_of, overfull, number_of_sample, number_of_reading, stepped, counted, with_call, account_of}
use Rattle.demands.specs.Starts.{Accepted}
use Rattle.demands.specs.Energy.{product_of}
use Rattle.demands.specs.State.{value_of, state_in}
use Rattle.demands.specs.Shown.{awake_in, fleet_in}
use Rattle.demands.specs.Demand3.{open_of, closed_of, InUse, OnSum}
use Rattle.worked.specs.Example.{two_makers, start, calls, account, by_day, day_and_night_thrice, first_two, Numbers, Needed}
use Rattle.demands.proofs.Agrees.{answers_of_history}
use Rattle.demands.proofs.Demand3.{open_is, closed_is}
use Rattle.demands.proofs.Bills.{closed_in}

-- the check finds nothing
is_good : Good two_makers
unfolding checked first_bad sections first fitted_in sum_good any bit_at
is_good = (good_exactly two_makers).0 refl

pub happened : account_of two_makers start calls ≡ account
unfolding first any total span mask_of bit_at table month_length year_length year_day moment_of daily_active first_holiday column_on reference_at weekly_active in_season season_active applies in_force force_map force_of sum_of multiple active_at books_at feeding amount_of overfull number_of_sample number_of_reading stepped counted with_call account_of
happened = refl

-- a longest run of the example is a byte
runs_bytes : (i : ℕ) → i < 16 → (input_at two_makers.inputs i).longest < 256
runs_bytes zero l = omega arith
runs_bytes (suc zero) l = omega arith
runs_bytes (suc (suc zero)) l = omega arith
runs_bytes (suc (suc (suc i))) l = unused 13 i
  where
    unused : (n i : ℕ) → (input_at (replicate n zero_input) i).longest < 256
    unused zero i = omega arith
    unused (suc n) zero = omega arith
    unused (suc n) (suc i) = unused n i

pub two_accepted : Accepted two_makers
two_accepted = record { good = is_good; bytes = runs_bytes }

-- the first eight registers are in use
in_use_lem : (j : ℕ) → j < 8 → InUse two_makers j
in_use_lem zero l = (omega arith, omega arith)
in_use_lem (suc zero) l = (omega arith, omega arith)
in_use_lem (suc (suc zero)) l = (omega arith, omega arith)
in_use_lem (suc (suc (suc zero))) l = (omega arith, omega arith)
in_use_lem (suc (suc (suc (suc zero)))) l = (omega arith, omega arith)
in_use_lem (suc (suc (suc (suc (suc zero))))) l = (omega arith, omega arith)
in_use_lem (suc (suc (suc (suc (suc (suc zero)))))) l = (omega arith, omega arith)
in_use_lem (suc (suc (suc (suc (suc (suc (suc zero))))))) l = (omega arith, omega arith)
in_use_lem (suc (suc (suc (suc (suc (suc (suc (suc j)))))))) l = absurd (omega arith)

-- registers 0 and 1 are on sum 0
first_two_lem : OnSum two_makers 0 first_two
first_two_lem zero l e = ((l, omega arith), refl)
first_two_lem (suc zero) l e = ((l, omega arith), refl)
first_two_lem (suc (suc j)) l e = absurd (not-suc-le-zero (le_of_suc-le-suc (le_of_suc-le-suc (ltb-true (suc (suc j)) 2 e))))

-- the recorder's amounts are those of the journal
opened_as : (setup : Setup) (lent : ℕ) → table 8 (λ j. open_of setup lent two_makers start j calls) ≡ table 8 (λ j. amount_of two_makers j account.journal)
opened_as setup lent = table_cong 8 _ _ (λ j l. open_is setup lent two_makers start calls j (in_use_lem j l) ∙ ap (λ (a : Account). amount_of two_makers j a.journal) happened)

closed_as_lem : (setup : Setup) (lent : ℕ) → table 8 (λ j. closed_of setup lent two_makers start j calls) ≡ table 8 (λ j. closed_in two_makers j account.journal)
closed_as_lem setup lent = table_cong 8 _ _ (λ j l. closed_is setup lent two_makers start calls j (in_use_lem j l) ∙ ap (λ (a : Account). closed_in two_makers j a.journal) happened)

pub numbers : (setup : Setup) (lent : ℕ) → Numbers setup lent
unfolding first any total span mask_of bit_at table month_length year_length year_day moment_of daily_active first_holiday column_on reference_at weekly_active in_season season_active applies in_force force_map force_of sum_of multiple active_at books_at feeding amount_of overfull number_of_sample number_of_reading stepped counted with_call account_of product_of totalℤ value_of state_in awake_in fleet_in
numbers setup lent =
    record {
      accepted = two_accepted;
      happened = happened;
      not_fitted = answers_of_history setup lent two_makers start calls (reading 4 (pos 5) 0 0);
      opened = opened_as setup lent;
      closed = closed_as_lem setup lent;
      inputs = refl;
      scales = refl;
      energy = refl;
      stretches = refl;
      total = refl;
      shared = first_two_lem;
      once = (refl, (refl, (refl, (refl, (refl, (refl, (refl, (refl, (refl, (refl, (refl, (refl, (refl, (refl, (refl, (refl, (refl, (refl, (refl, tt)))))))))))))))))));
      all_units = refl;
      state = refl;
      fleet = refl;
    }

pub needed : (setup : Setup) (lent : ℕ) → Needed setup lent
unfolding first any total span mask_of bit_at table month_length year_length year_day moment_of daily_active first_holiday column_on reference_at weekly_active in_season season_active applies in_force force_map force_of sum_of multiple active_at books_at feeding amount_of overfull number_of_sample number_of_reading stepped counted with_call account_of product_of
needed setup lent =
    record {
      few = open_is setup lent two_makers start by_day 2 (in_use_lem 2 (omega arith));
      owed = refl;
      one_stretch = refl;
      many = open_is setup lent two_makers start day_and_night_thrice 4 (in_use_lem 4 (omega arith));
      less = refl;
      three_stretches = refl;
    }

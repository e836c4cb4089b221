-- Line 10's meter before its stamp is computed. In the history the readings are computed, and the clock is below their stamps by `later`.
use mathlib.Core.Path.{◌≡◌, refl, ap, ap₂, fun_ext, ◌∙◌}
use mathlib.Core.Bool.{Bool, false, not, cond}
use mathlib.Core.List.{List, [], ◌∷◌}
use Prim.Native.Nat.{ℕ, ◌+◌, ◌<◌}
use native.Mathlib.Omega.{arith}
use borrow.Author.Tests.{lt-ltb, le-ltb}
use lib.Dec.{ltb, eqb}
use lib.IntN.{pos}
use lib.ListN.{length, get_or, replicate}
use Rattle.laws.specs.Answers.{given}
use Rattle.laws.specs.Bytes.{bytes_of}
use Rattle.laws.specs.Counts.{count_of}
use Rattle.laws.specs.Each.{Each}
use Rattle.laws.specs.First.{first}
use Rattle.laws.specs.SignedTotal.{totalℤ}
use Rattle.laws.specs.Spans.{span}
use Rattle.laws.specs.Tables.{table}
use Rattle.laws.specs.Total.{total}
use Rattle.calendar.specs.Dates.{month_length, year_length}
use Rattle.calendar.specs.Moments.{year_day, moment_of}
use Rattle.recorder.specs.History.{set, reading}
use Rattle.recorder.specs.Meters.{class_of}
use Rattle.recorder.specs.declared.Recorder.{Recorder}
use Rattle.recorder.specs.declared.Setup.{Setup}
use Rattle.registers.specs.Cases.{AgeClaim}
use Rattle.registers.specs.Contents.{status_shown, serial_bytes, meter_bytes}
use Rattle.registers.specs.Fleet.{meter_class, class_at}
use Rattle.registers.specs.Registers.{groups, look_up, register_reply}
use Rattle.registers.specs.declared.fleet.Fleet.{Fleet}
use Rattle.demands.specs.Account.{heard, left_by, Account, Reading, last_reading, number_of_reading, with_call, account_of}
use Rattle.demands.specs.Shown.{is_never, is_stale, is_invalid, is_awake, awake_in, fleet_in}
use Rattle.demands.specs.State.{state_in}
use Rattle.demands.specs.Demand2.{reached, with_samples}
use Rattle.worked.specs.Example.{two_makers, start}
use Rattle.worked.specs.ClockBackCases.{ahead_cases, last_heard, set_back, of_four, ClockBackCases}
use Rattle.demands.proofs.ClockBack.{Later, later}
use Rattle.worked.proofs.Example.{two_accepted}
use Rattle.demands.proofs.Levels.{recorder_is}
use Rattle.demands.proofs.Shown.{fleet_of_history}

cases_hold : Each AgeClaim ahead_cases
unfolding bytes_of class_of meter_class class_at status_shown serial_bytes meter_bytes groups look_up register_reply
cases_hold = (refl, (refl, (refl, (refl, (refl, (refl, tt))))))

-- the fleet by the clock and the last reading of each meter
abbrev fleet_by : ℕ → (ℕ → Reading) → Fleet
fleet_by now last =
    let limit : ℕ → ℕ = λ i. get_or two_makers.limits i 0 in
    let awake : ℕ → Bool = λ i. is_awake (limit i) (last i).read (last i).stamp (last i).status now in
    record {
      fitted = count_of 32 (λ i. not (eqb (limit i) 0));
      awake = count_of 32 awake;
      stale = count_of 32 (λ i. is_stale (limit i) (last i).read (last i).stamp now);
      invalid = count_of 32 (λ i. is_invalid (limit i) (last i).read (last i).stamp (last i).status now);
      never = count_of 32 (λ i. is_never (limit i) (last i).read);
      sum = totalℤ 32 (λ i. cond (awake i) (last i).value (pos 0));
    }

-- two accounts with the same clock and the same last readings have the same fleet
pub same_fleet : (a b : Account) → a.time.second ≡ b.time.second → ((i : ℕ) → last_reading a.journal i ≡ last_reading b.journal i) → fleet_in two_makers a ≡ fleet_in two_makers b
unfolding fleet_in awake_in
same_fleet a b clock last =
    let same : ◌≡◌ {A = ℕ → Reading} (λ i. last_reading a.journal i) (λ i. last_reading b.journal i) = fun_ext last in
    ap₂ fleet_by clock same

-- the account of the clock set back, at another second; and with a reading of meter 1 then
abbrev at_second : ℕ → Account
at_second now = record { time = record { second = now; samples = 0; first = now }; journal = (account_of two_makers start set_back).journal }

abbrev read_at : ℕ → ℕ → Account
read_at now seq = record { time = (at_second now).time; journal = heard now 1 (pos 9) 0 seq ∷ (at_second now).journal }

quiet : (now : ℕ) → now < 43_200 → fleet_in two_makers (at_second now) ≡ of_four 0 3 (pos 0)
unfolding total totalℤ first span month_length year_length year_day moment_of number_of_reading with_call account_of fleet_in awake_in
quiet now early = rw (lt-ltb now 43_200 early)

again : (now : ℕ) → now < 43_200 → fleet_in two_makers (read_at now 3) ≡ of_four 1 2 (pos 9)
unfolding total totalℤ first span month_length year_length year_day moment_of number_of_reading with_call account_of fleet_in awake_in
again now early = rw (lt-ltb now 43_200 early, le-ltb now now (omega arith), le-ltb (now + 900) now (omega arith))

repeated : (now : ℕ) → now < 43_200 → fleet_in two_makers (read_at now 2) ≡ of_four 0 3 (pos 0)
unfolding total totalℤ first span month_length year_length year_day moment_of number_of_reading with_call account_of fleet_in awake_in
repeated now early = rw (lt-ltb now 43_200 early)

-- samples of less than an hour
module _ (run : List ℕ) (few : length run < 360_000) where
  abbrev hour : Account
  hour = account_of two_makers start (with_samples run set_back)

  -- begin an hour before the stamps
  begun : Later (length run) (at_second 39_600) hour
  unfolding total first span month_length year_length year_day moment_of number_of_reading with_call account_of
  begun = later two_makers start set_back run

  early : hour.time.second < 43_200
  early = omega (arith, begun.clock)

  none_awake : fleet_in two_makers hour ≡ of_four 0 3 (pos 0)
  none_awake = same_fleet hour (at_second hour.time.second) refl (λ i. ap left_by (begun.readings i)) ∙ quiet hour.time.second early

  -- and a reading of meter 1 then, with a SEQ from 0 to 31
  read_then : (seq : ℕ) → ltb 31 seq ≡ false → fleet_in two_makers (account_of two_makers start (reading 1 (pos 9) 0 seq ∷ with_samples run set_back)) ≡ fleet_in two_makers (read_at hour.time.second seq)
  unfolding number_of_reading with_call account_of
  read_then seq few = rw few (same_fleet _ (read_at hour.time.second seq) refl (λ i. rw (begun.readings i)))

set_back_marked : (setup : Setup) (lent : ℕ)
    → register_reply (reached setup lent two_makers start set_back) 82 1 (replicate 10 0) ≡ record { answer = given 10; buffer = 192 ∷ 168 ∷ 0 ∷ 0 ∷ 7 ∷ 0 ∷ 0 ∷ 0 ∷ 5 ∷ 2 ∷ [] }
unfolding total first span table month_length year_length year_day moment_of number_of_reading with_call account_of state_in bytes_of class_of meter_class class_at status_shown serial_bytes meter_bytes groups look_up register_reply
set_back_marked setup lent = ap (λ (r : Recorder). register_reply r 82 1 (replicate 10 0)) (recorder_is setup lent two_makers two_accepted.good start set_back)

pub clock_back_cases : (setup : Setup) (lent : ℕ) → ClockBackCases setup lent
unfolding total totalℤ first span month_length year_length year_day moment_of number_of_reading with_call account_of awake_in fleet_in
clock_back_cases setup lent =
    let fleet = fleet_of_history setup lent two_makers two_accepted start in
    record {
      cases = cases_hold;
      history =
          record {
            heard_at_noon = fleet last_heard;
            that_hour = λ run few. fleet (with_samples run set_back) ∙ none_awake run few;
            marked = set_back_marked setup lent;
            read_again = λ run few. fleet (reading 1 (pos 9) 0 3 ∷ with_samples run set_back) ∙ read_then run few 3 refl ∙ again _ (early run few);
            repeated = λ run few. fleet (reading 1 (pos 9) 0 2 ∷ with_samples run set_back) ∙ read_then run few 2 refl ∙ repeated _ (early run few);
            forth = fleet (set 43_200 ∷ set_back);
            at_the_limit = fleet (set 44_100 ∷ set_back);
            past_the_limit = fleet (set 44_101 ∷ set_back);
          };
    }

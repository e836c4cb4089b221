-- The five periods are those of the account, computed; their records are read by the theorem.
use mathlib.Core.Path.{◌≡◌, refl, sym, ap, ◌∙◌}
use mathlib.Core.List.{List, [], ◌∷◌, map, append-nil}
use Prim.Native.Nat.{ℕ, zero, suc, ◌/◌, ◌<◌, min}
use native.Mathlib.Omega.{arith}
use lib.ListN.{length, get_or, drop, replicate, length-map}
use Rattle.laws.specs.Any.{any}
use Rattle.laws.specs.Answers.{given}
use Rattle.laws.specs.Bytes.{bytes_of}
use Rattle.laws.specs.Each.{Each}
use Rattle.laws.specs.First.{first}
use Rattle.laws.specs.Masks.{mask_of, bit_at}
use Rattle.laws.specs.Runs.{joined}
use Rattle.laws.specs.SignedTotal.{totalℤ}
use Rattle.laws.specs.Spans.{span}
use Rattle.laws.specs.Tables.{table}
use Rattle.laws.specs.Total.{total}
use Rattle.calendar.specs.Dates.{month_length, year_length}
use Rattle.calendar.specs.Moments.{year_day, moment_of}
use Rattle.tariff.specs.Daily.{daily_active}
use Rattle.tariff.specs.Weekly.{first_holiday, column_on, reference_at, weekly_active}
use Rattle.tariff.specs.Seasons.{in_season, season_active}
use Rattle.tariff.specs.Rules.{applies, in_force, force_map, force_of}
use Rattle.counting.specs.Bills.{sum_of}
use Rattle.sampling.specs.Periods.{multiple}
use Rattle.sampling.specs.Samples.{active_at}
use Rattle.profile.specs.Reading.{RecordReply}
use Rattle.demands.specs.Account.{Ended, periods_of, books_at, feeding, amount_of, overfull, number_of_sample, stepped, counted, with_call, account_of, journal_of}
use Rattle.demands.specs.Starts.{LegalLength, SlotsFit}
use Rattle.demands.specs.State.{value_of}
use Rattle.worked.specs.Example.{two_makers, start}
use Rattle.demands.specs.Profile.{calls_of, record_shown, last_periods, no_period, after_sequence, ProfileKept, OwnBuffer}
use Rattle.worked.specs.ProfileCases.{chosen, five_periods, five_records, Shows, ProfileCases}
use Rattle.worked.proofs.Example.{two_accepted}
use Rattle.demands.proofs.Profile.{profile_of_history}

-- the units of a period: those of input 0 and of input 2
abbrev units : ℕ → ℕ → List ℕ
units a b = a ∷ 0 ∷ b ∷ replicate 13 0

-- the five periods, newest first
abbrev five : List Ended
five =
    record { state = 1; stamp = 60_000; units = units 1 3 }
    ∷ record { state = 1; stamp = 60_000; units = units 0 0 }
    ∷ record { state = 1; stamp = 60_000; units = units 0 2 }
    ∷ record { state = 1; stamp = 50_000; units = units 0 3 }
    ∷ record { state = 1; stamp = 43_200; units = units 0 2 }
    ∷ []

closed_five : periods_of two_makers (journal_of two_makers start (calls_of two_makers start five_periods)) ≡ five
unfolding first any total span mask_of bit_at table month_length year_length year_day moment_of daily_active first_holiday column_on reference_at weekly_active in_season season_active applies in_force force_map force_of sum_of multiple active_at books_at feeding amount_of overfull number_of_sample stepped counted with_call account_of
closed_five = refl

-- the chosen slots are among the sixteen
chosen_fit : SlotsFit chosen
chosen_fit zero l = omega arith
chosen_fit (suc zero) l = omega arith
chosen_fit (suc (suc zero)) l = omega arith
chosen_fit (suc (suc (suc zero))) l = omega arith
chosen_fit (suc (suc (suc (suc zero)))) l = omega arith
chosen_fit (suc (suc (suc (suc (suc zero))))) l = omega arith
chosen_fit (suc (suc (suc (suc (suc (suc zero)))))) l = omega arith
chosen_fit (suc (suc (suc (suc (suc (suc (suc zero))))))) l = omega arith
chosen_fit (suc (suc (suc (suc (suc (suc (suc (suc k)))))))) l = absurd (omega arith)

-- an entry of a list of bytes that was made from periods
made_at : (f : Ended → List ℕ) (l : List Ended) (i : ℕ) → i < length l → get_or (map f l) i [] ≡ f (get_or l i no_period)
made_at f [] i h = absurd (omega arith)
made_at f (p ∷ l) zero h = refl
made_at f (p ∷ l) (suc i) h = made_at f l i (omega arith)

-- the records of the last of the five periods
abbrev shown_last : ℕ → List (List ℕ)
shown_last n = map (record_shown two_makers chosen) (last_periods n five)

module _ (buffer : List ℕ) (limits : LegalLength (length buffer)) where
  -- the two calls that were lent another buffer
  own : Each (OwnBuffer (length buffer)) five_periods
  own =
      let low = limits.0 in
      (tt, (tt, (tt, (tt, ((λ e. omega arith), (tt, (tt, (tt, (tt, ((λ e. omega arith), (tt, (tt, tt))))))))))))

  holds : ProfileKept chosen two_makers buffer five (after_sequence chosen two_makers start buffer five_periods)
  holds = rw (← closed_five) (profile_of_history chosen chosen_fit two_makers two_accepted start buffer limits five_periods own)

  -- what is read, where the records are these
  shows : (records : List (List ℕ)) → shown_last (length buffer) ≡ records → length records ≡ min 5 (length buffer / 69) → Shows buffer records
  shows records are count =
      let last = last_periods (length buffer) five in
      let many : length last ≡ length records = sym (length-map last (record_shown two_makers chosen)) ∙ ap length are in
      record {
        each = λ i l.
            let few : i < length last = rw many l in
            holds.records i few (replicate 69 0) (omega arith)
            ∙ ap (λ (bytes : List ℕ). record { answer = given tt; result = bytes })
            (append-nil (record_shown two_makers chosen (get_or last i no_period)) ∙ sym (made_at (record_shown two_makers chosen) last i few) ∙ ap (λ (l : List (List ℕ)). get_or l i []) are);
        no_more = ap (λ (r : RecordReply). r.answer) (holds.no_record (length records) (omega (arith, many)) (replicate 69 0));
        rest = rw count holds.rest;
      }

-- where the length of the buffer is a number
at_length : (n : ℕ) → LegalLength n → (records : List (List ℕ)) → shown_last n ≡ records → length records ≡ min 5 (n / 69) → (buffer : List ℕ) → length buffer ≡ n → Shows buffer records
at_length n limits records are count buffer long = shows buffer (rw long limits) records (rw long are) (rw long count)

pub profile_cases : ProfileCases
unfolding table joined bytes_of record_shown value_of sum_of total totalℤ bit_at
profile_cases =
    record {
      one = at_length 69 (omega arith, omega arith) (drop 4 five_records) refl refl;
      two = at_length 138 (omega arith, omega arith) (drop 3 five_records) refl refl;
      two_and_68_bytes = at_length 206 (omega arith, omega arith) (drop 3 five_records) refl refl;
      five = at_length 345 (omega arith, omega arith) five_records refl refl;
      room_left = at_length 500 (omega arith, omega arith) five_records refl refl;
    }

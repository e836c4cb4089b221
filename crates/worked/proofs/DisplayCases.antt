-- The pages of specs/DisplayCases.antt: the display after a history is that of the account, and antt computes what that shows.
use mathlib.Core.Path.{◌≡◌, refl, ap, ◌∙◌}
use mathlib.Core.List.{List, [], ◌∷◌}
use Prim.Native.Nat.{ℕ}
use lib.ListN.{replicate}
use Rattle.laws.specs.First.{first}
use Rattle.laws.specs.Any.{any}
use Rattle.laws.specs.Total.{total}
use Rattle.laws.specs.Spans.{span}
use Rattle.laws.specs.Masks.{mask_of, bit_at}
use Rattle.laws.specs.SignedTotal.{totalℤ}
use Rattle.laws.specs.Tables.{table}
use Rattle.calendar.specs.Dates.{month_length, year_length}
use Rattle.calendar.specs.Moments.{year_day, moment_of}
use Rattle.tariff.specs.Daily.{daily_active}
use Rattle.tariff.specs.Weekly.{first_holiday, column_on, reference_at, weekly_active}
use Rattle.tariff.specs.Seasons.{in_season, season_active}
use Rattle.tariff.specs.Rules.{applies, in_force, force_map, force_of}
use Rattle.counting.specs.Bills.{sum_of}
use Rattle.sampling.specs.Periods.{multiple}
use Rattle.sampling.specs.Samples.{active_at}
use Rattle.demands.specs.Account.{books_at, feeding, amount_of, overfull, number_of_sample, number_of_reading, stepped, counted, with_call, account_of, Account}
use Rattle.demands.specs.Energy.{product_of}
use Rattle.demands.specs.State.{bill_in, value_of, state_in}
use Rattle.demands.specs.Shown.{awake_in, fleet_in, readable, shown}
use Rattle.laws.specs.Bytes.{bytes_of, le}
use Rattle.laws.specs.Decimals.{last_digits, decimal_in, decimal_of}
use Rattle.laws.specs.Letters.{letters}
use Rattle.laws.proofs.Each.{each_so}
use Rattle.recorder.specs.declared.Setup.{Setup}
use Rattle.display.specs.Formats.{width_of, number_specified, specification_in, first_part, parts_behind}
use Rattle.display.specs.Fields.{field_bytes, signed_value, argument_of}
use Rattle.display.specs.Numbers.{number_shown}
use Rattle.display.specs.Displays.{shown_by, line_shown, display_with, display_reply}
use Rattle.demands.specs.Demand2.{reached}
use Rattle.demands.specs.Display.{read_by_account}
use Rattle.worked.specs.DisplayCases.{pages, in_two, PageShown, DisplayShown}
use Rattle.worked.specs.Example.{two_makers, start, calls, account}
use Rattle.demands.proofs.Display.{display_of_history}
use Rattle.worked.proofs.Example.{happened, two_accepted}

module _ (setup : Setup) (lent : ℕ) where
  -- the display of the account
  by_account : (format arguments buffer : List ℕ) → display_reply (reached setup lent two_makers start calls) format arguments buffer ≡ display_with 169_200 (read_by_account two_makers account) format arguments buffer
  by_account format arguments buffer =
      display_of_history setup lent two_makers two_accepted start calls format arguments buffer
      ∙ ap (λ (a : Account). display_with a.time.second (read_by_account two_makers a) format arguments buffer) happened

  pub display_shown : DisplayShown setup lent
  unfolding bill_in first any total span mask_of bit_at table month_length year_length year_day moment_of daily_active first_holiday column_on reference_at weekly_active in_season season_active applies in_force force_map force_of sum_of multiple active_at books_at feeding amount_of overfull number_of_sample number_of_reading stepped counted with_call account_of product_of totalℤ value_of state_in awake_in fleet_in shown readable bytes_of le last_digits decimal_in decimal_of letters width_of number_specified specification_in first_part parts_behind field_bytes signed_value argument_of number_shown shown_by line_shown display_with
  display_shown =
      record {
        all =
            each_so (PageShown (display_with 169_200 (read_by_account two_makers account))) (PageShown (display_reply (reached setup lent two_makers start calls)))
            (λ p h. by_account (in_two p.first p.second) p.arguments (replicate 32 0) ∙ h) pages (refl, (refl, (refl, (refl, (refl, tt)))));
        no_meter = by_account (letters "%F") (82 ∷ 4 ∷ 1 ∷ []) (replicate 32 0);
        no_such_bill = by_account (letters "%F") (202 ∷ 8 ∷ 1 ∷ []) (replicate 32 0);
      }

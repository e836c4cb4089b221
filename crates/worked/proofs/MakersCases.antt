-- The cases of specs/MakersCases.antt: the accounts of the histories are computed, and what each shows; FULL is that of Full.antt.
use mathlib.Core.Path.{◌≡◌, refl, sym, ap, ◌∙◌}
use mathlib.Core.Bool.{Bool, true, false, true≢false, ◌&&◌}
use mathlib.Core.List.{List, [], ◌∷◌, ◌++◌}
use Prim.Native.Nat.{ℕ, zero, suc, ◌+◌, ◌<◌}
use native.Mathlib.Omega.{arith}
use borrow.Author.Tests.{eq-eqb}
use lib.Dec.{eqb}
use lib.IntN.{pos}
use lib.ListN.{get_or, replicate}
use Rattle.laws.specs.Any.{any}
use Rattle.laws.specs.Bytes.{bytes_of}
use Rattle.laws.specs.Each.{Each}
use Rattle.laws.specs.First.{first}
use Rattle.laws.specs.Masks.{mask_of, bit_at}
use Rattle.laws.specs.SignedTotal.{totalℤ}
use Rattle.laws.specs.Spans.{span}
use Rattle.laws.specs.Tables.{table}
use Rattle.laws.specs.Total.{total}
use Rattle.laws.proofs.Any.{any_none}
use Rattle.laws.proofs.Each.{each_so}
use Rattle.laws.proofs.Masks.{bit_zero, mask_cong}
use Rattle.laws.proofs.Tests.{by_test}
use Rattle.calendar.specs.Dates.{month_length, year_length}
use Rattle.calendar.specs.Moments.{year_day, moment_of}
use Rattle.tariff.specs.Daily.{daily_active}
use Rattle.tariff.specs.Weekly.{first_holiday, column_on, reference_at, weekly_active}
use Rattle.tariff.specs.Seasons.{in_season, season_active}
use Rattle.tariff.specs.Rules.{applies, in_force, force_map, force_of}
use Rattle.settings.specs.Check.{sections, first_bad, checked}
use Rattle.settings.specs.Rules.{zero_input, zero_slot, fitted_in, sum_good}
use Rattle.settings.specs.declared.Config.{Config}
use Rattle.image.proofs.Found.{good_exactly}
use Rattle.counting.specs.Bills.{sum_of}
use Rattle.counting.specs.Filter.{input_at}
use Rattle.sampling.specs.Periods.{multiple}
use Rattle.sampling.specs.Samples.{active_at}
use Rattle.recorder.specs.History.{Call, sample}
use Rattle.recorder.specs.Laws.{Good}
use Rattle.recorder.specs.Lists.{empty_list}
use Rattle.registers.specs.Registers.{groups, look_up, group_of, refusal}
use Rattle.makers.specs.Requests.{on_list}
use Rattle.demands.specs.Account.{Entry, took, ended, cleared, heard, Time, Account, books_at, feeding, amount_of, overfull, number_of_sample, number_of_reading, stepped, counted, with_call, account_of}
use Rattle.demands.specs.Starts.{Accepted}
use Rattle.demands.specs.State.{line_in, bill_in, value_of}
use Rattle.demands.specs.Shown.{awake_in, fleet_in, shown}
use Rattle.worked.specs.Example.{start, full_maker, nearly_full}
use Rattle.demands.specs.Makers.{feeds_slot, feeds_maker, bits_for, seen_of, view_of, shown_to}
use Rattle.worked.specs.MakersCases.{shared_hall, of_maker0, three_lists, alone, with_others, Figure, reply_is, answered, told, of_both, of_alone, of_others, NotSeen, Pair, pairs, PairClaim, StruckInOne, MakersCases}
use Rattle.demands.proofs.Makers.{maker_with, maker_by_account, operator_by_account, makers_apart}
use Rattle.demands.proofs.Replies.{reply_with}
use Rattle.demands.proofs.Agrees.{answers_of_history}
use Rattle.worked.proofs.Full.{At, accepts, up_gets, at_full, full_number, unchanged, full_big, full_accepted}

is_good : Good shared_hall
unfolding checked first_bad sections first fitted_in sum_good any bit_at
is_good = (good_exactly shared_hall).0 refl

-- a longest run is a byte
runs_bytes : (i : ℕ) → i < 16 → (input_at shared_hall.inputs i).longest < 256
runs_bytes zero l = omega arith
runs_bytes (suc zero) l = omega arith
runs_bytes (suc (suc zero)) l = omega arith
runs_bytes (suc (suc (suc zero))) l = omega arith
runs_bytes (suc (suc (suc (suc zero)))) l = omega arith
runs_bytes (suc (suc (suc (suc (suc zero))))) l = omega arith
runs_bytes (suc (suc (suc (suc (suc (suc zero)))))) l = omega arith
runs_bytes (suc (suc (suc (suc (suc (suc (suc i))))))) l = unused 9 i
  where
    unused : (n i : ℕ) → (input_at (replicate n zero_input) i).longest < 256
    unused zero i = omega arith
    unused (suc n) zero = omega arith
    unused (suc n) (suc i) = unused n i

hall_accepted : Accepted shared_hall
hall_accepted = record { good = is_good; bytes = runs_bytes }

-- the account of maker 0 alone
abbrev alone_account : Account
alone_account =
    record {
      time = record { second = 82_800; samples = 4; first = 82_800 };
      journal =
          took 0 82_800 ∷ took 40 82_800 ∷ cleared 82_800 ∷ took 0 82_800 ∷ took 40 82_800
          ∷ ended 1 43_200 ∷ took 0 43_200 ∷ took 47 43_200 ∷ heard 43_200 0 (pos 21) 0 5 ∷ [];
    }

alone_account_lem : account_of shared_hall start alone ≡ alone_account
unfolding first any total span mask_of bit_at table month_length year_length year_day moment_of daily_active first_holiday column_on reference_at weekly_active in_season season_active applies in_force force_map force_of sum_of multiple active_at books_at feeding amount_of overfull number_of_sample number_of_reading stepped counted with_call account_of
alone_account_lem = refl

-- and with the others: the refused readings enter nothing
abbrev others_account : Account
others_account =
    record {
      time = record { second = 82_800; samples = 4; first = 82_800 };
      journal =
          took 0 82_800 ∷ took 104 82_800 ∷ cleared 82_800 ∷ heard 82_800 1 (pos 510) 0 8 ∷ took 0 82_800 ∷ took 104 82_800
          ∷ ended 1 43_200 ∷ took 80 43_200 ∷ took 63 43_200 ∷ heard 43_200 0 (pos 21) 0 5 ∷ heard 43_200 1 (pos 500) 1 7 ∷ [];
    }

others_account_lem : account_of shared_hall start with_others ≡ others_account
unfolding first any total span mask_of bit_at table month_length year_length year_day moment_of daily_active first_holiday column_on reference_at weekly_active in_season season_active applies in_force force_map force_of sum_of multiple active_at books_at feeding amount_of overfull number_of_sample number_of_reading stepped counted with_call account_of
others_account_lem = refl

-- the views
views_same : view_of shared_hall of_maker0 start alone ≡ view_of shared_hall of_maker0 start with_others
unfolding first any total span mask_of bit_at table month_length year_length year_day moment_of daily_active first_holiday column_on reference_at weekly_active in_season season_active applies in_force force_map force_of sum_of multiple active_at books_at feeding amount_of overfull number_of_sample number_of_reading stepped counted with_call account_of feeds_slot feeds_maker
views_same = refl

-- what maker 0 is shown by an account
abbrev Shows : Account → Figure → Type 0
Shows a x = maker_with shared_hall of_maker0 0 x.group x.register (shown_to of_maker0 shared_hall a x.group x.register) (replicate 13 0) ≡ reply_is x.bytes

alone_shows : Each (Shows alone_account) of_both
unfolding first any total totalℤ span mask_of bit_at table bytes_of month_length year_length year_day moment_of daily_active first_holiday column_on reference_at weekly_active in_season season_active applies in_force force_map force_of sum_of active_at books_at feeding amount_of line_in bill_in value_of awake_in fleet_in shown groups look_up on_list
alone_shows = (refl, (refl, (refl, (refl, (refl, (refl, (refl, (refl, (refl, (refl, (refl, tt)))))))))))

others_shows : Each (Shows others_account) of_both
unfolding first any total totalℤ span mask_of bit_at table bytes_of month_length year_length year_day moment_of daily_active first_holiday column_on reference_at weekly_active in_season season_active applies in_force force_map force_of sum_of active_at books_at feeding amount_of line_in bill_in value_of awake_in fleet_in shown groups look_up on_list
others_shows = (refl, (refl, (refl, (refl, (refl, (refl, (refl, (refl, (refl, (refl, (refl, tt)))))))))))

-- what the operator is told by an account
abbrev Tells : Account → Figure → Type 0
Tells a x = reply_with (group_of x.group) shared_hall (shown shared_hall a x.group x.register) x.register (replicate 13 0) ≡ reply_is x.bytes

alone_tells : Each (Tells alone_account) of_alone
unfolding first any total totalℤ span mask_of bit_at table bytes_of month_length year_length year_day moment_of daily_active first_holiday column_on reference_at weekly_active in_season season_active applies in_force force_map force_of sum_of active_at books_at feeding amount_of line_in bill_in value_of awake_in fleet_in shown groups look_up
alone_tells = (refl, (refl, (refl, tt)))

others_tells : Each (Tells others_account) of_others
unfolding first any total totalℤ span mask_of bit_at table bytes_of month_length year_length year_day moment_of daily_active first_holiday column_on reference_at weekly_active in_season season_active applies in_force force_map force_of sum_of active_at books_at feeding amount_of line_in bill_in value_of awake_in fleet_in shown groups look_up
others_tells = (refl, (refl, (refl, tt)))

-- lists that differ at a place are not equal
differ : (i : ℕ) (x y : List ℕ) → eqb (get_or x i 0) (get_or y i 0) ≡ false → x ≡ y → ⊥
differ i x y other same = true≢false (sym (eq-eqb (get_or x i 0) (get_or y i 0) (ap (λ (l : List ℕ). get_or l i 0) same)) ∙ other)

-- the pairs, by their accounts
abbrev one_of : Pair → Figure
one_of p = record { group = p.group; register = p.register; bytes = p.bytes }

abbrev other_of : Pair → Figure
other_of p = record { group = p.group; register = p.register; bytes = p.other_bytes }

abbrev PairShows : Pair → Type 0
PairShows p =
    Shows (account_of shared_hall start p.one) (one_of p) × Shows (account_of shared_hall start p.other) (other_of p) × (p.bytes ≡ p.other_bytes → ⊥)

pairs_show : Each PairShows pairs
unfolding first any total totalℤ span mask_of bit_at table bytes_of month_length year_length year_day moment_of daily_active first_holiday column_on reference_at weekly_active in_season season_active applies in_force force_map force_of sum_of multiple active_at books_at feeding amount_of overfull number_of_sample number_of_reading stepped counted with_call account_of line_in bill_in value_of awake_in fleet_in shown groups look_up on_list
pairs_show = (
  (refl, refl, differ 2 _ _ refl),
  (
    (refl, refl, differ 5 _ _ refl),
    (
      (refl, refl, differ 5 _ _ refl),
      (
        (refl, refl, differ 5 _ _ refl),
        (
          (refl, refl, differ 1 _ _ refl),
          (
            (refl, refl, differ 0 _ _ refl),
            (
              (refl, refl, differ 0 _ _ refl),
              (
                (refl, refl, differ 0 _ _ refl),
                ((refl, refl, differ 4 _ _ refl), ((refl, refl, differ 0 _ _ refl), tt)),
              ),
            ),
          ),
        ),
      ),
    ),
  ),
)

-- FULL in one history

-- a maker with an empty list is fed by no input
unfed : (c : Config) (i : ℕ) → feeds_maker c empty_list i ≡ false
unfolding feeds_maker
unfed c i =
    let none : (p : ℕ → Bool) → any 16 (λ j. bit_at 0 j && p j) ≡ false = λ p. any_none 16 _ (λ j l. ap (λ (on : Bool). on && p j) (bit_zero j)) in
    rw (bit_zero i, none (λ j. feeds_slot c (get_or c.slots j zero_slot) i), none (λ j. bit_at (feeding c j) i))

no_bits : (c : Config) (x y : ℕ) → bits_for c empty_list x ≡ bits_for c empty_list y
no_bits c x y =
    mask_cong 16 _ _ (λ i l. ap (λ (fed : Bool). fed && bit_at x i) (unfed c i) ∙ sym (ap (λ (fed : Bool). fed && bit_at y i) (unfed c i)))

-- the lines stay closed: the sample is accepted, and the second ends
abbrev c : Config
c = full_maker

full : At c true 6_249 6_249 (account_of c 0 nearly_full)
full = at_full c full_big

stays_closed : number_of_sample c (account_of c 0 nearly_full) 65_535 ≡ 0
stays_closed = accepts c full_big (account_of c 0 nearly_full) 65_535 (omega (arith, full.second)) (omega (arith, full.amount, up_gets c full_big (account_of c 0 nearly_full)))

-- after the hundredth sample of a second the next begins
next_second : (t : Time) (journal : List Entry) → t.samples ≡ 99 → ((counted c t journal).time.second ≡ t.second + 1) × ((counted c t journal).time.samples ≡ 0)
unfolding counted stepped
next_second t journal last = rw last (by_test (multiple c.period (t.second + 1)) (λ m. rw m (refl, refl)) (λ m. rw m (refl, refl)))

hundredth : (account_of c 0 nearly_full).time.samples ≡ 99
hundredth = omega (arith, full.samples)

-- what the clock shows
clock_shown : (a : Account) (second samples : ℕ) → a.time.second ≡ second → a.time.samples ≡ samples
    → maker_with c empty_list 2 206 0 (shown_to empty_list c a 206 0) (replicate 13 0) ≡ reply_is (bytes_of 4 second ++ bytes_of 1 samples)
unfolding bytes_of shown groups look_up on_list
clock_shown a second samples s n = rw (s, n)

struck_in_one : (lent : ℕ) → StruckInOne lent
unfolding bytes_of account_of with_call
struck_in_one lent =
    let a = account_of c 0 nearly_full in
    let then = next_second a.time (took 65_535 a.time.second ∷ a.journal) hundredth in
    record {
      offered = ap (λ (bits : ℕ). sample bits ∷ seen_of c empty_list nearly_full) (no_bits c 0 65_535);
      struck = answers_of_history three_lists lent c 0 nearly_full (sample 0) ∙ full_number c full_big;
      taken = answers_of_history three_lists lent c 0 nearly_full (sample 65_535) ∙ stays_closed;
      clock =
          maker_by_account three_lists lent c full_accepted 0 (sample 0 ∷ nearly_full) 2 206 0 (replicate 13 0)
          ∙ ap (λ (x : Account). maker_with c empty_list 2 206 0 (shown_to empty_list c x 206 0) (replicate 13 0)) (unchanged c full_big)
          ∙ clock_shown a 124 99 (omega (arith, full.second)) hundredth;
      other_clock =
          maker_by_account three_lists lent c full_accepted 0 (sample 65_535 ∷ nearly_full) 2 206 0 (replicate 13 0)
          ∙ clock_shown (account_of c 0 (sample 65_535 ∷ nearly_full)) 125 0 (rw stays_closed (omega (arith, then.0, full.second))) (rw stays_closed then.1);
    }

-- The recorder shows what the account shows

module _ (lent : ℕ) where
  own : (calls : List Call) (a : Account) → account_of shared_hall start calls ≡ a → (x : Figure) → Shows a x → answered lent 0 calls x.group x.register ≡ reply_is x.bytes
  own calls a is x shows =
      maker_by_account three_lists lent shared_hall hall_accepted start calls 0 x.group x.register (replicate 13 0)
      ∙ ap (λ (b : Account). maker_with shared_hall of_maker0 0 x.group x.register (shown_to of_maker0 shared_hall b x.group x.register) (replicate 13 0)) is
      ∙ shows

  operators : (calls : List Call) (a : Account) → account_of shared_hall start calls ≡ a → (x : Figure) → Tells a x → told lent calls x.group x.register ≡ reply_is x.bytes
  operators calls a is x tells =
      operator_by_account three_lists lent shared_hall hall_accepted start calls x.group x.register (replicate 13 0)
      ∙ ap (λ (b : Account). reply_with (group_of x.group) shared_hall (shown shared_hall b x.group x.register) x.register (replicate 13 0)) is
      ∙ tells

  pair_holds : (p : Pair) → PairShows p → PairClaim lent p
  pair_holds p h = (own p.one _ refl (one_of p) h.0, own p.other _ refl (other_of p) h.1, h.2)

  -- what is another maker's is off the list
  not_own : (calls : List Call) (group register : ℕ) → on_list of_maker0 group register ≡ false → answered lent 0 calls group register ≡ refusal 12 (replicate 13 0)
  not_own calls group register off = maker_by_account three_lists lent shared_hall hall_accepted start calls 0 group register (replicate 13 0) ∙ rw off

  not_seen : NotSeen lent
  unfolding bit_at on_list
  not_seen =
      record {
        same_view = views_same;
        same = makers_apart shared_hall hall_accepted start 0 of_maker0 three_lists refl lent alone three_lists refl lent with_others views_same;
        own = each_so (Shows alone_account) _ (own alone alone_account alone_account_lem) of_both alone_shows;
        own_with_others = each_so (Shows others_account) _ (own with_others others_account others_account_lem) of_both others_shows;
        not_own = (not_own with_others 82 1 refl, (not_own with_others 201 3 refl, (not_own with_others 202 1 refl, (not_own with_others 203 6 refl, tt))));
        operator = each_so (Tells alone_account) _ (operators alone alone_account alone_account_lem) of_alone alone_tells;
        operator_with_others = each_so (Tells others_account) _ (operators with_others others_account others_account_lem) of_others others_tells;
      }

  pub makers_cases : MakersCases lent
  makers_cases = record { not_seen = not_seen; needed = each_so PairShows (PairClaim lent) pair_holds pairs pairs_show; full = struck_in_one lent }

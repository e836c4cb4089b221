-- The owner's third demand: the recorder's amounts are the account's, and the account's keep the three sentences.
use mathlib.Core.Path.{◌≡◌, refl, sym, ap, subst, ◌∙◌}
use mathlib.Core.Bool.{true}
use mathlib.Core.List.{List, [], ◌∷◌}
use Prim.Native.Nat.{ℕ, ◌+◌, ◌*◌, ◌<◌}
use lib.Dec.{eqb}
use lib.ListN.{get_or}
use borrow.Author.Tests.{lt-ltb}
use Rattle.laws.proofs.Tests.{by_test}
use Rattle.laws.specs.Masks.{bit_at}
use Rattle.settings.specs.Check.{sections}
use Rattle.settings.specs.declared.Config.{Config}
use Rattle.sampling.specs.Periods.{multiple}
use Rattle.counting.specs.Filter.{input_at}
use Rattle.counting.specs.Bills.{register_at, bill_at, sum_of}
use Rattle.recorder.specs.History.{Call, sample, set, reading, reset}
use Rattle.counting.specs.declared.Bill.{Bill}
use Rattle.demands.specs.Account.{Entry, took, Time, Account, since, books_at, feeding, impulses_of, amount_of, answer_of, stepped, counted, entered, with_call, account_of, journal_of}
use Rattle.demands.specs.Energy.{stretches_of, inputs_in, scale_of, energy_of}
use Rattle.demands.specs.Starts.{Accepted}
use Rattle.demands.specs.State.{bill_in}
use Rattle.recorder.specs.declared.Setup.{Setup}
use Rattle.demands.specs.Demand2.{reached}
use Rattle.demands.specs.Demand3.{open_of, closed_of, InUse, WithoutRule, Near, OpenAmount, PlainBills, AmountsAddUp, AmountsAreTheSums}
use Rattle.demands.proofs.Inputs.{good_denominator, good_names}
use Rattle.demands.proofs.Sums.{added_cong}
use Rattle.demands.proofs.Rounding.{near_one, near_all}
use Rattle.demands.proofs.Agrees.{agrees}
use Rattle.demands.proofs.Bills.{start_of, start_lt, pays, booked_pays, closed_in, all_booked, shared, booked_always}

-- What the definitions say

-- each input that feeds a register in use has a denominator
pub feeds_divide : (c : Config) → Accepted c → (j : ℕ) → InUse c j → (i : ℕ) → i < 16 → bit_at (feeding c j) i ≡ true → 0 < (input_at c.inputs i).denominator
unfolding sections feeding
feeds_divide c a j used i l on =
    good_denominator (input_at c.inputs i) (a.good.1.0 i l) (good_names c.inputs _ i (a.good.1.1.0 (register_at c.registers j).sum used.1) l on)

-- a register without a rule is always booked
always_books : (c : Config) (j : ℕ) → WithoutRule c j → (second : ℕ) → books_at c j second ≡ true
unfolding books_at
always_books c j none second = rw none

-- no call but a reset closes a bill
module _ (c : Config) (j : ℕ) where
  stepped_closed : (t : Time) (journal : List Entry) → closed_in c j (stepped c t journal).journal ≡ closed_in c j journal
  unfolding stepped
  stepped_closed t journal = by_test (multiple c.period (t.second + 1)) (λ e. rw e) (λ e. rw e)

  counted_closed : (t : Time) (journal : List Entry) → closed_in c j (counted c t journal).journal ≡ closed_in c j journal
  unfolding counted
  counted_closed t journal = by_test (eqb t.samples 99) (λ e. rw e (stepped_closed t journal)) (λ e. rw e)

  call_closed : (a : Account) (call : Call) → closed_in c j (entered c a call).journal ≡ closed_in c j a.journal → closed_in c j (with_call c a call).journal ≡ closed_in c j a.journal
  unfolding with_call
  call_closed a call same = by_test (eqb (answer_of c a call) 0) (λ e. rw e same) (λ e. rw e)

-- A start with any chosen slots and a buffer of any length
module _ (setup : Setup) (lent : ℕ) where
  -- The recorder's amounts are the account's

  pub open_is : (c : Config) (time : ℕ) (calls : List Call) (j : ℕ) → InUse c j → open_of setup lent c time j calls ≡ amount_of c j (journal_of c time calls)
  unfolding bill_in
  open_is c time calls j used = ap (λ (b : Bill). b.amount) ((agrees setup lent c time calls).bills j used.0) ∙ rw (lt-ltb (register_at c.registers j).sum 8 used.1)

  -- a reset closes the open amount
  pub noted_is : (c : Config) (time : ℕ) (earlier : List Call) (j : ℕ) → InUse c j
      → (bill_at (reached setup lent c time (reset ∷ earlier)).state.bills j).closed ≡ amount_of c j (journal_of c time earlier)
  unfolding with_call bill_in account_of
  noted_is c time earlier j used =
      ap (λ (b : Bill). b.closed) ((agrees setup lent c time (reset ∷ earlier)).bills j used.0) ∙ rw (lt-ltb (register_at c.registers j).sum 8 used.1)

  pub closed_is : (c : Config) (time : ℕ) (calls : List Call) (j : ℕ) → InUse c j → closed_of setup lent c time j calls ≡ closed_in c j (journal_of c time calls)
  unfolding account_of with_call
  closed_is c time [] j used = refl
  closed_is c time (sample bits ∷ earlier) j used =
      let a = account_of c time earlier in
      closed_is c time earlier j used ∙ sym (call_closed c j a (sample bits) (counted_closed c j a.time (took bits a.time.second ∷ a.journal)))
  closed_is c time (set seconds ∷ earlier) j used = closed_is c time earlier j used ∙ sym (call_closed c j (account_of c time earlier) (set seconds) refl)
  closed_is c time (reading meter v status seq ∷ earlier) j used =
      closed_is c time earlier j used ∙ sym (call_closed c j (account_of c time earlier) (reading meter v status seq) refl)
  closed_is c time (reset ∷ earlier) j used = rw (closed_is c time earlier j used, noted_is c time earlier j used)

  -- The first sentence
  pub open_amount : OpenAmount setup lent
  unfolding sum_of amount_of
  open_amount c a time calls j used =
      let journal = journal_of c time calls in
      let divides = feeds_divide c a j used in
      let es = since c journal in
      let mask = feeding c j in
      subst (λ (x : ℕ). Near x (energy_of c (books_at c j) mask es) (scale_of c mask) (inputs_in mask * stretches_of (books_at c j) es))
      (sym (open_is c time calls j used ∙ booked_pays c mask (books_at c j) divides journal))
      (near_all (bit_at mask) (pays c mask (books_at c j) divides journal) (λ i. impulses_of (books_at c j) i es * (input_at c.inputs i).numerator)
      (λ i. (input_at c.inputs i).denominator) (stretches_of (books_at c j) es) 16
      (λ i l e.
      near_one (input_at c.inputs i).numerator (input_at c.inputs i).denominator i (books_at c j) (divides i l e) (start_of c i journal) (start_lt c i (divides i l e) journal) es))

  -- The second sentence
  pub plain_bills : PlainBills setup lent
  plain_bills c time calls j used none =
      rw (closed_is c time calls j used, open_is c time calls j used) (all_booked c j (always_books c j none) (journal_of c time calls))

  -- The third sentence

  pub amounts_are_the_sums : AmountsAreTheSums setup lent
  unfolding amount_of feeding
  amounts_are_the_sums c time calls sum chosen on-sum once =
      added_cong chosen _ _ 16 (λ j l e. let o = on-sum j l e in open_is c time calls j o.0 ∙ rw o.1)
      ∙ shared c (get_or c.sums sum 0) chosen (since c (journal_of c time calls)) once

  pub amounts_add_up : AmountsAddUp setup lent
  unfolding amount_of feeding
  amounts_add_up c time calls k used plain chosen on-sum once =
      amounts_are_the_sums c time calls (register_at c.registers k).sum chosen on-sum once
      ∙ sym (open_is c time calls k used ∙ booked_always (books_at c k) (always_books c k plain) (feeding c k) (since c (journal_of c time calls)))

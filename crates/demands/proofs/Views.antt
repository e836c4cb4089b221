-- What a maker is shown goes by the view alone: the account's runs, impulses, units, amounts, periods and readings, of what feeds the maker, are those of the entries that the maker sees.
use Rattle.std.specs.Prelude.{if◌then◌else◌}
use mathlib.Core.Path.{◌≡◌, refl, sym, ap, ◌∙◌}
use mathlib.Core.Bool.{Bool, true, false, true≢false, not, ◌&&◌, ◌||◌, cond}
use mathlib.Core.List.{List, [], ◌∷◌}
use Prim.Native.Nat.{ℕ, ◌+◌, ◌*◌, ◌<◌}
use native.Mathlib.Nat.{zero-mul}
use native.Mathlib.Omega.{arith}
use borrow.Author.Tests.{eqb-true, eq-eqb, ne_eqb, ltb-true, ltb-false, lt-ltb}
use lib.Dec.{ltb, eqb}
use lib.IntN.{ℤ, pos, negsuc, nat_abs, ◌*ℤ◌}
use lib.ListN.{get_or}
use Rattle.laws.specs.Any.{any}
use Rattle.laws.specs.Counts.{count_of}
use Rattle.laws.specs.Masks.{bit_at}
use Rattle.laws.specs.Tables.{table}
use Rattle.laws.specs.SignedTotal.{totalℤ}
use Rattle.laws.proofs.Any.{any_at}
use Rattle.laws.proofs.Counts.{count_cong}
use Rattle.laws.proofs.If.{if_cases}
use Rattle.laws.proofs.Masks.{bit_at_lem}
use Rattle.laws.proofs.SignedTotal.{totalℤ-cong}
use Rattle.laws.proofs.Tables.{table_at, table_past}
use Rattle.laws.proofs.Tests.{by_test, and_both}
use Rattle.settings.specs.Rules.{zero_slot}
use Rattle.settings.specs.declared.Config.{Config}
use Rattle.settings.specs.declared.Slot.{Slot}
use Rattle.counting.specs.Bills.{unit_at, sum_of}
use Rattle.sampling.specs.Periods.{multiple}
use Rattle.sampling.specs.Samples.{active_at}
use Rattle.recorder.specs.History.{Call, sample, set, reading, reset}
use Rattle.recorder.specs.declared.MakerList.{MakerList}
use Rattle.registers.specs.Registers.{groups, look_up, registers_of}
use Rattle.makers.specs.Requests.{on_list}
use Rattle.demands.specs.Account.{Entry, took, ended, cleared, heard, run_of, sample_on, always, impulses_of, whole, since, in_period, rejected_in, units_in, booked_in, feeding, books_at, amount_of, last_reset, periods_of, readings_of, left_by, last_reading, Reading, Time, Account, answer_of, stepped, counted, entered, with_call, account_of}
use Rattle.demands.specs.State.{line_in, bill_in, level1, value_of, last_period}
use Rattle.demands.specs.Shown.{is_never, is_stale, is_invalid, awake_in, fleet_among, slot_shown, bill_shown, input_shown, fleet_shown, shown}
use Rattle.demands.specs.Makers.{feeds_slot, feeds_maker, accepted_of, bits_for, seen_of, view_of, shown_to, account_of_view}
use Rattle.demands.proofs.Sums.{sum_added, added_cong}

-- the ways in which an input may feed a maker
or_first : (a b : Bool) → a ≡ true → (a || b) ≡ true
or_first true b e = refl
or_first false b e = absurd (true≢false (sym e))

or_second : (a b : Bool) → b ≡ true → (a || b) ≡ true
or_second true b e = refl
or_second false b e = e

-- tests that agree where they are asked
asked : (on x y : Bool) → (on ≡ true → x ≡ y) → (on && x) ≡ (on && y)
asked true x y same = same refl
asked false x y same = refl

-- a signed number without size is 0
no_size : (z : ℤ) → nat_abs z ≡ 0 → z ≡ pos 0
no_size (pos n) e = ap pos e
no_size (negsuc n) e = absurd (omega arith)

module _ (c : Config) (list : MakerList) where
  abbrev fed : ℕ → Bool
  fed i = feeds_maker c list i

  -- What feeds a maker

  feeds_input : (i : ℕ) → bit_at list.inputs i ≡ true → fed i ≡ true
  unfolding feeds_maker
  feeds_input i e = or_first _ _ e

  feeds_slot_lem : (j : ℕ) → j < 16 → bit_at list.slots j ≡ true → (i : ℕ) → feeds_slot c (get_or c.slots j zero_slot) i ≡ true → fed i ≡ true
  unfolding feeds_maker
  feeds_slot_lem j l on i e =
      or_second (bit_at list.inputs i) _
      (or_first _ _ (any_at 16 (λ k. bit_at list.slots k && feeds_slot c (get_or c.slots k zero_slot) i) j l (and_both _ _ on e)))

  feeds_bill : (j : ℕ) → j < 16 → bit_at list.bills j ≡ true → (i : ℕ) → bit_at (feeding c j) i ≡ true → fed i ≡ true
  unfolding feeds_maker
  feeds_bill j l on i e =
      or_second (bit_at list.inputs i) _
      (or_second (any 16 (λ k. bit_at list.slots k && feeds_slot c (get_or c.slots k zero_slot) i)) _
      (any_at 16 (λ k. bit_at list.bills k && bit_at (feeding c k) i) j l (and_both _ _ on e)))

  -- The entries that a maker sees

  abbrev own : List Entry → List Entry
  own [] = []
  own (took bits second ∷ earlier) = took (bits_for c list bits) second ∷ own earlier
  own (ended state stamp ∷ earlier) = ended state stamp ∷ own earlier
  own (cleared second ∷ earlier) = cleared second ∷ own earlier
  own (heard second meter value status seq ∷ earlier) =
      if bit_at list.meters meter then heard second meter value status seq ∷ own earlier else own earlier

  -- a reading is seen or not
  heard_or_not : (P : List Entry → Type 0) (second meter : ℕ) (value : ℤ) (status seq : ℕ) (earlier : List Entry)
      → P (heard second meter value status seq ∷ own earlier) → P (own earlier) → P (own (heard second meter value status seq ∷ earlier))
  heard_or_not P second meter value status seq earlier seen unseen = if_cases P (bit_at list.meters meter) (λ t. seen) (λ f. unseen)

  -- an input that feeds the maker is active in the bits that are seen as in all
  active_same : (i : ℕ) → i < 16 → fed i ≡ true → (bits : ℕ) → active_at c.inputs (bits_for c list bits) i ≡ active_at c.inputs bits i
  unfolding active_at
  active_same i l f bits = rw (bit_at_lem 16 (λ k. fed k && bit_at bits k) i, lt-ltb i 16 l, f)

  -- Inputs

  module _ (i : ℕ) (l : i < 16) (f : fed i ≡ true) where
    run_same : (journal : List Entry) → run_of c i (own journal) ≡ run_of c i journal
    run_same [] = refl
    run_same (took bits t ∷ j) = rw (active_same i l f bits, run_same j)
    run_same (ended state t ∷ j) = run_same j
    run_same (cleared t ∷ j) = run_same j
    run_same (heard t m v s q ∷ j) = heard_or_not (λ (x : List Entry). run_of c i x ≡ run_of c i j) t m v s q j (run_same j) (run_same j)

    impulses_same : (journal : List Entry) → impulses_of always i (whole c (own journal)) ≡ impulses_of always i (whole c journal)
    impulses_same [] = refl
    impulses_same (took bits t ∷ j) = rw (impulses_same j, active_same i l f bits, run_same j)
    impulses_same (ended state t ∷ j) = impulses_same j
    impulses_same (cleared t ∷ j) = impulses_same j
    impulses_same (heard t m v s q ∷ j) =
        heard_or_not (λ (x : List Entry). impulses_of always i (whole c x) ≡ impulses_of always i (whole c j)) t m v s q j (impulses_same j) (impulses_same j)

    rejected_same : (journal : List Entry) → rejected_in i (whole c (own journal)) ≡ rejected_in i (whole c journal)
    rejected_same [] = refl
    rejected_same (took bits t ∷ j) = rw (rejected_same j, active_same i l f bits, run_same j)
    rejected_same (ended state t ∷ j) = rejected_same j
    rejected_same (cleared t ∷ j) = rejected_same j
    rejected_same (heard t m v s q ∷ j) =
        heard_or_not (λ (x : List Entry). rejected_in i (whole c x) ≡ rejected_in i (whole c j)) t m v s q j (rejected_same j) (rejected_same j)

    -- the units that a sample brings
    brought_same : (bits t : ℕ) (j : List Entry) → (sample_on c (bits_for c list bits) t (own j) (whole c (own j))).units i ≡ (sample_on c bits t j (whole c j)).units i
    brought_same bits t j = rw (impulses_same j, active_same i l f bits, run_same j)

    units_same : (journal : List Entry) → units_in i (in_period c (own journal)) ≡ units_in i (in_period c journal)
    units_same [] = refl
    units_same (took bits t ∷ j) = rw (units_same j, impulses_same j, active_same i l f bits, run_same j)
    units_same (ended state t ∷ j) = refl
    units_same (cleared t ∷ j) = units_same j
    units_same (heard t m v s q ∷ j) = heard_or_not (λ (x : List Entry). units_in i (in_period c x) ≡ units_in i (in_period c j)) t m v s q j (units_same j) (units_same j)

  line_same : (i : ℕ) → i < 16 → fed i ≡ true → (journal : List Entry) → input_shown (line_in c (own journal) i) ≡ input_shown (line_in c journal i)
  unfolding line_in
  line_same i l f journal = rw (rejected_same i l f journal, impulses_same i l f journal)

  -- Sums, bills and periods

  -- the units of a sum whose inputs all feed the maker
  sum_same : (mask : ℕ) (x y : ℕ → ℕ) → ((i : ℕ) → bit_at mask i ≡ true → fed i ≡ true) → ((i : ℕ) → i < 16 → fed i ≡ true → x i ≡ y i) → sum_of mask x ≡ sum_of mask y
  sum_same mask x y feeds same = sum_added mask x ∙ (added_cong (bit_at mask) x y 16 (λ i l e. same i l (feeds i e)) ∙ sym (sum_added mask y))

  module _ (on : ℕ → Bool) (mask : ℕ) (feeds : (i : ℕ) → bit_at mask i ≡ true → fed i ≡ true) where
    booked_same : (journal : List Entry) → booked_in on mask (since c (own journal)) ≡ booked_in on mask (since c journal)
    booked_same [] = refl
    booked_same (took bits t ∷ j) =
        let brought : sum_of mask (sample_on c (bits_for c list bits) t (own j) (whole c (own j))).units ≡ sum_of mask (sample_on c bits t j (whole c j)).units =
        sum_same mask _ _ feeds (λ i l f. brought_same i l f bits t j) in
        rw (booked_same j, brought)
    booked_same (ended state t ∷ j) = booked_same j
    booked_same (cleared t ∷ j) = refl
    booked_same (heard t m v s q ∷ j) =
        heard_or_not (λ (x : List Entry). booked_in on mask (since c x) ≡ booked_in on mask (since c j)) t m v s q j (booked_same j) (booked_same j)

  module _ (j : ℕ) (l : j < 16) (on : bit_at list.bills j ≡ true) where
    amount_same : (journal : List Entry) → amount_of c j (own journal) ≡ amount_of c j journal
    unfolding amount_of
    amount_same = booked_same (books_at c j) (feeding c j) (feeds_bill j l on)

    reset_same : (journal : List Entry) → last_reset c j (own journal) ≡ last_reset c j journal
    reset_same [] = refl
    reset_same (took bits t ∷ e) = reset_same e
    reset_same (ended state t ∷ e) = reset_same e
    reset_same (cleared t ∷ e) = rw (amount_same e)
    reset_same (heard t m v s q ∷ e) = heard_or_not (λ (x : List Entry). last_reset c j x ≡ last_reset c j e) t m v s q e (reset_same e) (reset_same e)

    bill_same : (journal : List Entry) → bill_in c (own journal) j ≡ bill_in c journal j
    unfolding bill_in
    bill_same journal = rw (amount_same journal, reset_same journal)

  -- level 0 of the running period
  abbrev units_of : List Entry → List ℕ
  units_of journal = table 16 (λ i. units_in i (in_period c journal))

  unit_same : (journal : List Entry) (i : ℕ) → fed i ≡ true → unit_at (units_of (own journal)) i ≡ unit_at (units_of journal) i
  unit_same journal i f =
      by_test (ltb i 16)
      (λ t. let l = ltb-true i 16 t in table_at 16 _ i 0 l ∙ (units_same i l f journal ∙ sym (table_at 16 _ i 0 l)))
      (λ past. let l = ltb-false i 16 past in table_past 16 _ i 0 l ∙ sym (table_past 16 _ i 0 l))

  level1_same : (journal : List Entry) (k : ℕ) → ((i : ℕ) → bit_at (get_or c.sums k 0) i ≡ true → fed i ≡ true) → level1 c (units_of (own journal)) k ≡ level1 c (units_of journal) k
  level1_same journal k feeds = sum_same (get_or c.sums k 0) _ _ feeds (λ i l f. unit_same journal i f)

  -- the value of a slot all of whose inputs feed the maker
  value_same : (journal : List Entry) (slot : Slot) → ((i : ℕ) → feeds_slot c slot i ≡ true → fed i ≡ true) → value_of c (units_of (own journal)) slot ≡ value_of c (units_of journal) slot
  unfolding value_of feeds_slot
  value_same journal slot feeds =
      by_test (eqb slot.level 0)
      (λ t₀. rw t₀ (ap pos (unit_same journal slot.index (feeds slot.index (rw t₀ (eq-eqb slot.index slot.index refl))))))
      (λ f₀.
      by_test (eqb slot.level 1)
      (λ t₁. rw (f₀, t₁) (ap pos (level1_same journal slot.index (λ i e. feeds i (rw (f₀, t₁) e)))))
      (λ f₁.
      by_test (eqb slot.level 2)
      (λ t₂. rw (f₀, f₁, t₂) (totalℤ-cong 8 _ _ (λ k l. term k l (λ i e. feeds i (rw (f₀, f₁, t₂) e)))))
      (λ f₂. rw (f₀, f₁, f₂))))
    where
      -- a coefficient that is not 0 makes its sum's inputs feed the maker; with one that is 0 the sum does not matter
      term : (k : ℕ) → k < 8
          → ((i : ℕ) → any 8 (λ n. not (eqb (nat_abs (get_or c.coefficients (slot.index * 8 + n) (pos 0))) 0) && bit_at (get_or c.sums n 0) i) ≡ true → fed i ≡ true)
          → get_or c.coefficients (slot.index * 8 + k) (pos 0) *ℤ pos (level1 c (units_of (own journal)) k) ≡ get_or c.coefficients (slot.index * 8 + k) (pos 0) *ℤ pos (level1 c (units_of journal) k)
      term k l some =
          let z = get_or c.coefficients (slot.index * 8 + k) (pos 0) in
          by_test (eqb (nat_abs z) 0)
          (λ t. rw (no_size z (eqb-true (nat_abs z) 0 t)) (ap pos (zero-mul _ ∙ sym (zero-mul _))))
          (λ f.
          ap (λ n. z *ℤ pos n)
          (level1_same journal k (λ i e. some i (any_at 8 _ k l (and_both _ _ (ap not f) e)))))

  -- the last closed period, of a slot on the list
  module _ (s : ℕ) (l : s < 16) (on : bit_at list.slots s ≡ true) where
    slot_same : (journal : List Entry) → slot_shown (last_period c (periods_of c (own journal))) s ≡ slot_shown (last_period c (periods_of c journal)) s
    slot_same [] = refl
    slot_same (took bits t ∷ j) = slot_same j
    slot_same (ended state t ∷ j) =
        let values : List Entry → ℕ → ℤ = λ e i. value_of c (units_of e) (get_or c.slots i zero_slot) in
        rw (table_at 16 (values (own j)) s (pos 0) l, table_at 16 (values j) s (pos 0) l, value_same j (get_or c.slots s zero_slot) (feeds_slot_lem s l on))
    slot_same (cleared t ∷ j) = slot_same j
    slot_same (heard t m v s₁ q ∷ j) =
        heard_or_not (λ (x : List Entry). slot_shown (last_period c (periods_of c x)) s ≡ slot_shown (last_period c (periods_of c j)) s) t m v s₁ q j (slot_same j) (slot_same j)

  -- Meters

  module _ (i : ℕ) (on : bit_at list.meters i ≡ true) where
    readings_same : (journal : List Entry) → readings_of (own journal) i ≡ readings_of journal i
    readings_same [] = refl
    readings_same (took bits t ∷ j) = readings_same j
    readings_same (ended state t ∷ j) = readings_same j
    readings_same (cleared t ∷ j) = readings_same j
    readings_same (heard t m v s q ∷ j) =
        by_test (bit_at list.meters m) (λ seen. rw (seen, readings_same j))
        (λ unseen.
        let other : eqb m i ≡ false = ne_eqb m i (λ e. true≢false (sym on ∙ (ap (bit_at list.meters) (sym e) ∙ unseen))) in
        rw (unseen, other) (readings_same j))

    last_same : (journal : List Entry) → last_reading (own journal) i ≡ last_reading journal i
    last_same journal = ap left_by (readings_same journal)

  -- The account that a maker sees

  abbrev seen : Account → Account
  seen a = record { time = a.time; journal = own a.journal }

  awake_same : (i : ℕ) → bit_at list.meters i ≡ true → (a : Account) → awake_in c (seen a) i ≡ awake_in c a i
  unfolding awake_in
  awake_same i on a = rw (last_same i on a.journal)

  fleet_same : (a : Account) → fleet_among (bit_at list.meters) c (seen a) ≡ fleet_among (bit_at list.meters) c a
  fleet_same a =
      let named : ℕ → Bool = bit_at list.meters in
      let limit : ℕ → ℕ = λ i. get_or c.limits i 0 in
      let now = a.time.second in
      let last : Account → ℕ → Reading = λ x i. last_reading x.journal i in
      let awake = count_cong 32 (λ i. named i && awake_in c (seen a) i) (λ i. named i && awake_in c a i) (λ i l. asked (named i) _ _ (λ on. awake_same i on a)) in
      let counted : (test : ℕ → Reading → Bool) → count_of 32 (λ i. named i && test (limit i) (last (seen a) i)) ≡ count_of 32 (λ i. named i && test (limit i) (last a i)) =
      λ test. count_cong 32 _ _ (λ i l. asked (named i) _ _ (λ on. ap (test (limit i)) (last_same i on a.journal))) in
      let stale = counted (λ limit m. is_stale limit m.read m.stamp now) in
      let invalid = counted (λ limit m. is_invalid limit m.read m.stamp m.status now) in
      let never = counted (λ limit m. is_never limit m.read) in
      let sum : totalℤ 32 (λ i. cond (named i && awake_in c (seen a) i) (last (seen a) i).value (pos 0)) ≡ totalℤ 32 (λ i. cond (named i && awake_in c a i) (last a i).value (pos 0)) =
      totalℤ-cong 32 _ _ (λ i l. by_test (named i) (λ on. rw (on, awake_same i on a, last_same i on a.journal)) (λ off. rw off)) in
      rw (awake, stale, invalid, never, sum)

  -- each register that is on the list
  shown_same : (a : Account) (group i : ℕ) → i < registers_of group → on_list list group i ≡ true → shown_to list c (seen a) group i ≡ shown_to list c a group i
  unfolding shown on_list groups look_up
  shown_same a group i l on =
      by_test (eqb group 204) (λ t. rw t (ap fleet_shown (fleet_same a)))
      (λ a₀.
      by_test (eqb group 82)
      (λ t. let listed = rw t at on in rw (a₀, t, last_same i listed a.journal, awake_same i listed a))
      (λ a₁.
      by_test (eqb group 89) (λ t. rw (a₀, a₁, t))
      (λ a₂.
      by_test (eqb group 90) (λ t. rw (a₀, a₁, a₂, t))
      (λ a₃.
      by_test (eqb group 91) (λ t. rw (a₀, a₁, a₂, a₃, t))
      (λ a₄.
      by_test (eqb group 201) (λ t. rw (a₀, a₁, a₂, a₃, a₄, t) (slot_same i (rw (a₁, a₂, a₃, a₄, t) at l) (rw (a₁, t) at on) a.journal))
      (λ a₅.
      by_test (eqb group 202) (λ t. rw (a₀, a₁, a₂, a₃, a₄, a₅, t) (ap bill_shown (bill_same i (rw (a₁, a₂, a₃, a₄, a₅, t) at l) (rw (a₁, a₅, t) at on) a.journal)))
      (λ a₆.
      by_test (eqb group 203)
      (λ t. rw (a₀, a₁, a₂, a₃, a₄, a₅, a₆, t) (line_same i (rw (a₁, a₂, a₃, a₄, a₅, a₆, t) at l) (feeds_input i (rw (a₁, a₅, a₆, t) at on)) a.journal))
      (λ a₇. rw (a₀, a₁, a₂, a₃, a₄, a₅, a₆, a₇)))))))))

  -- The view

  counted_seen : (t : Time) (journal : List Entry) → seen (counted c t journal) ≡ counted c t (own journal)
  unfolding counted stepped
  counted_seen t journal =
      by_test (eqb t.samples 99)
      (λ e. by_test (multiple c.period (t.second + 1)) (λ m. rw (e, m)) (λ m. rw (e, m)))
      (λ e. rw e)

  -- the accepted calls are what the account enters
  accepted_entered : (time : ℕ) (calls : List Call) → account_of c time calls ≡ account_of_view c time (accepted_of c time calls)
  unfolding account_of with_call
  accepted_entered time [] = refl
  accepted_entered time (call ∷ earlier) =
      let before = accepted_entered time earlier in
      by_test (eqb (answer_of c (account_of c time earlier) call) 0)
      (λ t. rw t (ap (λ (a : Account). entered c a call) before))
      (λ f. rw f before)

  -- what is seen of calls that are entered is the account of what is seen of them
  entered_seen : (time : ℕ) (calls : List Call) → seen (account_of_view c time calls) ≡ account_of_view c time (seen_of c list calls)
  unfolding account_of
  entered_seen time [] = refl
  entered_seen time (sample bits ∷ earlier) =
      let a = account_of_view c time earlier in
      counted_seen a.time (took bits a.time.second ∷ a.journal) ∙ ap (λ (x : Account). counted c x.time (took (bits_for c list bits) x.time.second ∷ x.journal)) (entered_seen time earlier)
  entered_seen time (set seconds ∷ earlier) = ap (λ (x : Account). entered c x (set seconds)) (entered_seen time earlier)
  entered_seen time (reset ∷ earlier) = ap (λ (x : Account). entered c x reset) (entered_seen time earlier)
  entered_seen time (reading meter value status seq ∷ earlier) =
      by_test (bit_at list.meters meter)
      (λ t. rw t (ap (λ (x : Account). entered c x (reading meter value status seq)) (entered_seen time earlier)))
      (λ f. rw f (entered_seen time earlier))

  pub view_seen : (time : ℕ) (calls : List Call) → seen (account_of c time calls) ≡ account_of_view c time (view_of c list time calls)
  view_seen time calls = ap seen (accepted_entered time calls) ∙ entered_seen time (accepted_of c time calls)

  -- so what a maker is shown is that of the view
  pub shown_by_view : (time : ℕ) (calls : List Call) (group i : ℕ) → i < registers_of group → on_list list group i ≡ true
      → shown_to list c (account_of c time calls) group i ≡ shown_to list c (account_of_view c time (view_of c list time calls)) group i
  shown_by_view time calls group i l on =
      sym (shown_same (account_of c time calls) group i l on) ∙ ap (λ (a : Account). shown_to list c a group i) (view_seen time calls)

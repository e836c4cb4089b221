-- FULL and whole periods inside a history: the account of the example's 6,249 impulses of 160,000 units, by induction over the impulses; the recorder's numbers are the account's.
use mathlib.Core.Path.{◌≡◌, refl, ap, ap₂, ◌∙◌}
use mathlib.Core.Bool.{Bool, true, false, ◌&&◌, and-false}
use mathlib.Core.List.{List, [], ◌∷◌}
use Prim.Native.Nat.{ℕ, zero, suc, ◌+◌, ◌*◌, ◌/◌, ◌%◌, ◌<◌, ◌≤◌}
use native.Mathlib.Nat.{div-one, mul-mod_left}
use native.Mathlib.Omega.{arith}
use lib.Dec.{ltb, eqb}
use lib.IntN.{pos, negsuc}
use lib.ListN.{replicate, get_or-replicate}
use borrow.Author.Tests.{lt-ltb, le-ltb, ltb-true, eq-eqb, ne_eqb, eqb-true, eqb-false}
use Rattle.laws.proofs.Tests.{by_test}
use Rattle.laws.specs.First.{first}
use Rattle.laws.specs.Any.{any}
use Rattle.laws.proofs.Any.{any_at, any_none}
use Rattle.laws.specs.Total.{total}
use Rattle.laws.specs.SignedTotal.{totalℤ}
use Rattle.laws.specs.Masks.{bit, mask_of, bit_at}
use Rattle.laws.proofs.Masks.{bit_at_lem, bit_zero}
use Rattle.laws.specs.Tables.{table}
use Rattle.laws.proofs.Tables.{table_cong}
use Rattle.settings.specs.Rules.{fitted_in, sum_good}
use Rattle.settings.specs.Check.{sections, first_bad, checked}
use Rattle.settings.specs.declared.Config.{Config}
use Rattle.settings.specs.declared.Input.{Input}
use Rattle.image.proofs.Found.{good_exactly}
use Rattle.counting.specs.Filter.{input_at}
use Rattle.counting.specs.Bills.{register_at, sum_of}
use Rattle.sampling.specs.Periods.{multiple}
use Rattle.sampling.specs.Samples.{active_at}
use Rattle.recorder.specs.History.{sample, reset}
use Rattle.recorder.specs.Laws.{Good}
use Rattle.sampling.specs.declared.State.{State}
use Rattle.recorder.specs.declared.Setup.{Setup}
use Rattle.demands.specs.Account.{took, Account, Ended, run_of, whole, in_period, units_in, periods_of, always, impulses_of, in_use, books_at, feeding, amount_of, next_sample, due_to, overfull, number_of_sample, stepped, counted, with_call, account_of}
use Rattle.demands.specs.Starts.{Accepted}
use Rattle.demands.specs.State.{value_of, last_period, state_in}
use Rattle.demands.specs.Demand2.{reached}
use Rattle.demands.specs.Demand3.{closed_of, InUse}
use Rattle.worked.specs.Example.{full_maker, pulses, nearly_full, Filled}
use Rattle.demands.proofs.Sums.{added, sum_added, added_cong, added_zero}
use Rattle.demands.proofs.Agrees.{answers_of_history}
use Rattle.demands.proofs.Levels.{state_is}
use Rattle.demands.proofs.Demand3.{open_is, noted_is}

-- the input of the example
abbrev big : Input
big = record { kind = 1; shortest = 1; longest = 1; numerator = 10_000; denominator = 1 }

-- what the induction asks of the configuration
pub record Big (c : Config) : Type 0 where
  inputs : (i : ℕ) → i < 16 → input_at c.inputs i ≡ big
  names : feeding c 0 ≡ 65_535
  plain : (register_at c.registers 0).rule ≡ 255
  used : in_use c 0 ≡ true
  alone : (j : ℕ) → j < 16 → in_use c j ≡ true → j ≡ 0
  minute : c.period ≡ 1

-- the account after n impulses, m of them since the last reset, with the lines closed (on) or open
pub record At (c : Config) (on : Bool) (n m : ℕ) (a : Account) : Type 0 where
  pub runs : (i : ℕ) → i < 16 → run_of c i a.journal ≡ bit on
  pub counts : (i : ℕ) → i < 16 → impulses_of always i (whole c a.journal) ≡ n
  pub amount : amount_of c 0 a.journal ≡ m * 160_000
  pub second : a.time.second ≡ n / 50
  pub samples : a.time.samples ≡ n % 50 * 2 + bit on
  pub first : a.time.first ≡ n / 3000 * 60
  pub units : (i : ℕ) → i < 16 → units_in i (in_period c a.journal) ≡ n % 3000 * 10_000
  pub period : 3000 ≤ n → (rest : List Ended) × (periods_of c a.journal ≡ record { state = 2; stamp = n / 3000 * 60; units = table 16 (λ i. 30_000_000) } ∷ rest)

-- all 16 bits of 65,535 are on
all_bits : 65_535 ≡ mask_of 16 always
unfolding mask_of
all_bits = refl

bits_all : (i : ℕ) → i < 16 → bit_at 65_535 i ≡ true
bits_all i l = ap (λ (mask : ℕ). bit_at mask i) all_bits ∙ (bit_at_lem 16 always i ∙ rw (lt-ltb i 16 l))

-- 16 times 10,000
sixteen : added (bit_at 65_535) (λ i. 10_000) 16 ≡ 160_000
unfolding total bit_at
sixteen = refl

module _ (c : Config) (h : Big c) where
  closed_on_lem : (i : ℕ) → i < 16 → active_at c.inputs 65_535 i ≡ true
  unfolding active_at
  closed_on_lem i l = rw (h.inputs i l, bits_all i l)

  open_off : (i : ℕ) → i < 16 → active_at c.inputs 0 i ≡ false
  unfolding active_at
  open_off i l = rw (h.inputs i l, bit_zero i)

  always_on : (t : ℕ) → books_at c 0 t ≡ true
  unfolding books_at
  always_on t = rw h.plain

  -- what register 0 gets of a sample that brings u units of each input
  gets : (a : Account) (bits u : ℕ) → ((i : ℕ) → i < 16 → (next_sample c a bits).units i ≡ u) → due_to c 0 (next_sample c a bits) ≡ added (bit_at 65_535) (λ i. u) 16
  gets a bits u each =
      rw (always_on a.time.second)
      (ap (λ (mask : ℕ). sum_of mask (next_sample c a bits).units) h.names ∙ (sum_added 65_535 _ ∙ added_cong (bit_at 65_535) _ _ 16 (λ i l e. each i l)))

  -- a sample that leaves register 0 within its limit is accepted, one that does not is refused with 6
  module _ (a : Account) (bits : ℕ) (early : a.time.second < 4_294_967_295) where
    not_end : (eqb a.time.second 4_294_967_295 && eqb a.time.samples 99) ≡ false
    not_end = rw (ne_eqb a.time.second 4_294_967_295 (λ e. omega (arith, e)))

    pub accepts : amount_of c 0 a.journal + due_to c 0 (next_sample c a bits) ≤ 999_999_999 → number_of_sample c a bits ≡ 0
    unfolding number_of_sample overfull
    accepts within =
        let none : any 16 (overfull c a.journal (next_sample c a bits)) ≡ false =
        any_none 16 _
        (λ j l.
        by_test (in_use c j)
        (λ u. rw (u, h.alone j l u, le-ltb 999_999_999 _ within) (and-false (ltb 0 (due_to c 0 (next_sample c a bits)))))
        (λ f. rw f)) in
        rw (not_end, none)

    refuses : 0 < due_to c 0 (next_sample c a bits) → 999_999_999 < amount_of c 0 a.journal + due_to c 0 (next_sample c a bits) → number_of_sample c a bits ≡ 6
    unfolding number_of_sample overfull
    refuses some past =
        let full : any 16 (overfull c a.journal (next_sample c a bits)) ≡ true = any_at 16 _ 0 (omega arith) (rw (h.used, lt-ltb 0 _ some, lt-ltb 999_999_999 _ past)) in
        rw (not_end, full)

  -- All lines close

  up_units : (a : Account) (i : ℕ) → i < 16 → (next_sample c a 65_535).units i ≡ 0
  up_units a i l = rw (closed_on_lem i l, h.inputs i l, div-one, div-one) (omega arith)

  pub up_gets : (a : Account) → due_to c 0 (next_sample c a 65_535) ≡ 0
  up_gets a = gets a 65_535 0 (up_units a) ∙ added_zero (bit_at 65_535) _ 16 (λ i l e. refl)

  up : (n m : ℕ) (a : Account) → number_of_sample c a 65_535 ≡ 0 → At c false n m a → At c true n m (with_call c a (sample 65_535))
  unfolding with_call counted amount_of
  up n m a taken at =
      let even : eqb a.time.samples 99 ≡ false = ne_eqb a.time.samples 99 (λ e. omega (arith, at.samples, e)) in
      rw (taken, even)
      (record {
        runs = λ i l. rw (closed_on_lem i l, at.runs i l);
        counts = λ i l. rw (closed_on_lem i l, at.counts i l) (omega arith);
        amount = omega (arith, at.amount, up_gets a);
        second = at.second;
        samples = omega (arith, at.samples);
        first = at.first;
        units = λ i l. omega (arith, at.units i l, up_units a i l);
        period = at.period;
      })

  -- All lines open after one sample

  down_units : (n m : ℕ) (a : Account) → At c true n m a → (i : ℕ) → i < 16 → (next_sample c a 0).units i ≡ 10_000
  down_units n m a at i l = rw (open_off i l, at.runs i l, h.inputs i l, at.counts i l, div-one, div-one) (omega arith)

  down_gets : (n m : ℕ) (a : Account) → At c true n m a → due_to c 0 (next_sample c a 0) ≡ 160_000
  down_gets n m a at = gets a 0 10_000 (down_units n m a at) ∙ sixteen

  pub minutes : (t : ℕ) → multiple c.period t ≡ eqb (t % 60) 0
  unfolding multiple
  minutes t = ap (λ (p : ℕ). multiple p t) h.minute

  -- the second begins anew with the fiftieth impulse, and the period with the 3,000th
  down : (n m : ℕ) (a : Account) → number_of_sample c a 0 ≡ 0 → At c true n m a → At c false (suc n) (suc m) (with_call c a (sample 0))
  unfolding with_call counted stepped amount_of
  down n m a taken at =
      let runs : (i : ℕ) → i < 16 → run_of c i (took 0 a.time.second ∷ a.journal) ≡ 0 = λ i l. rw (open_off i l) in
      let counts : (i : ℕ) → i < 16 → impulses_of always i (whole c (took 0 a.time.second ∷ a.journal)) ≡ suc n = λ i l. rw (open_off i l, at.runs i l, h.inputs i l, at.counts i l) (omega arith) in
      let amount : amount_of c 0 (took 0 a.time.second ∷ a.journal) ≡ suc m * 160_000 = omega (arith, at.amount, down_gets n m a at) in
      let units : (i : ℕ) → i < 16 → units_in i (in_period c (took 0 a.time.second ∷ a.journal)) ≡ n % 3000 * 10_000 + 10_000 = λ i l. omega (arith, at.units i l, down_units n m a at i l) in
      by_test (eqb a.time.samples 99)
      (λ t.
      let last : n % 50 ≡ 49 = omega (arith, at.samples, eqb-true a.time.samples 99 t) in
      by_test (eqb ((a.time.second + 1) % 60) 0)
      (λ closes.
      let full : n % 3000 ≡ 2999 = omega (arith, at.second, eqb-true ((a.time.second + 1) % 60) 0 closes) in
      let began : eqb (a.time.first % 60) 0 ≡ true = rw at.first (eq-eqb (n / 3000 * 60 % 60) 0 (mul-mod_left (n / 3000) 60)) in
      rw (taken, t, minutes (a.time.second + 1), closes, minutes a.time.first, began)
      (record {
        runs = runs;
        counts = counts;
        amount = amount;
        second = omega (arith, at.second);
        samples = omega arith;
        first = omega (arith, at.second);
        units = λ i l. omega arith;
        period = λ many. (
          periods_of c a.journal,
          ap₂ (λ (stamp : ℕ) (level : List ℕ). record { state = 2; stamp = stamp; units = level } ∷ periods_of c a.journal) (omega (arith, at.second))
              (table_cong 16 _ _ (λ i l. omega (arith, units i l))),
        );
      }))
      (λ stays.
      let on_and_on : (a.time.second + 1) % 60 ≡ 0 → ⊥ = eqb-false ((a.time.second + 1) % 60) 0 stays in
      let before : n % 3000 ≡ 2999 → ⊥ = λ e.
      on_and_on (let ends : a.time.second + 1 ≡ (n / 3000 + 1) * 60 = omega (arith, at.second) in rw ends (mul-mod_left (n / 3000 + 1) 60)) in
      rw (taken, t, minutes (a.time.second + 1), stays)
      (record {
        runs = runs;
        counts = counts;
        amount = amount;
        second = omega (arith, at.second);
        samples = omega arith;
        first = omega (arith, at.first);
        units = λ i l. omega (arith, units i l);
        period = λ many.
            let (rest, e) = at.period (omega arith) in
            let same : n / 3000 ≡ suc n / 3000 = omega arith in
            (rest, e ∙ ap (λ (k : ℕ). record { state = 2; stamp = k * 60; units = table 16 (λ i. 30_000_000) } ∷ rest) same);
      })))
      (λ f.
      let more : n % 50 < 49 = omega (arith, at.samples, eqb-false a.time.samples 99 f) in
      rw (taken, f)
      (record {
        runs = runs;
        counts = counts;
        amount = amount;
        second = omega (arith, at.second);
        samples = omega (arith, at.samples);
        first = omega (arith, at.first);
        units = λ i l. omega (arith, units i l);
        period = λ many.
            let (rest, e) = at.period (omega arith) in
            let same : n / 3000 ≡ suc n / 3000 = omega arith in
            (rest, e ∙ ap (λ (k : ℕ). record { state = 2; stamp = k * 60; units = table 16 (λ i. 30_000_000) } ∷ rest) same);
      }))

  -- The history

  -- the samples of impulse n + 1 are accepted
  takes_up : (n m : ℕ) (a : Account) → n ≤ 6_249 → m ≤ 6_249 → At c false n m a → number_of_sample c a 65_535 ≡ 0
  takes_up n m a l k at = accepts a 65_535 (omega (arith, at.second)) (omega (arith, at.amount, up_gets a))

  takes_down : (n m : ℕ) (a : Account) → n ≤ 6_249 → m < 6_249 → At c true n m a → number_of_sample c a 0 ≡ 0
  takes_down n m a l k at = accepts a 0 (omega (arith, at.second)) (omega (arith, at.amount, down_gets n m a at))

  fresh : At c false 0 0 (account_of c 0 [])
  unfolding account_of amount_of
  fresh =
      record {
        runs = λ i l. refl;
        counts = λ i l. refl;
        amount = omega arith;
        second = omega arith;
        samples = omega arith;
        first = omega arith;
        units = λ i l. omega arith;
        period = λ many. absurd (omega arith);
      }

  at_pulses : (n : ℕ) → n ≤ 6_249 → At c false n n (account_of c 0 (pulses n))
  unfolding pulses account_of
  at_pulses zero l = fresh
  at_pulses (suc n) l =
      let old = at_pulses n (omega arith) in
      let middle = up n n _ (takes_up n n _ (omega arith) (omega arith) old) old in
      down n n _ (takes_down n n _ (omega arith) l middle) middle

  pub at_full : At c true 6_249 6_249 (account_of c 0 (sample 65_535 ∷ pulses 6_249))
  unfolding account_of
  at_full = let old = at_pulses 6_249 (omega arith) in up 6_249 6_249 _ (takes_up 6_249 6_249 _ (omega arith) (omega arith) old) old

  -- the next sample is refused, and enters nothing
  pub full_number : number_of_sample c (account_of c 0 (sample 65_535 ∷ pulses 6_249)) 0 ≡ 6
  full_number =
      let gets = down_gets 6_249 6_249 _ at_full in
      refuses _ 0 (omega (arith, at_full.second)) (omega (arith, gets)) (omega (arith, gets, at_full.amount))

  pub unchanged : account_of c 0 (sample 0 ∷ sample 65_535 ∷ pulses 6_249) ≡ account_of c 0 (sample 65_535 ∷ pulses 6_249)
  unfolding account_of with_call
  unchanged = rw full_number

  -- after a reset the lines are still closed, and nothing is open
  cleared_at : (n m : ℕ) (a : Account) → At c true n m a → At c true n 0 (with_call c a reset)
  unfolding with_call amount_of
  cleared_at n m a at =
      record {
        runs = at.runs;
        counts = at.counts;
        amount = omega arith;
        second = at.second;
        samples = at.samples;
        first = at.first;
        units = at.units;
        period = at.period;
      }

  at_reset : At c true 6_249 0 (account_of c 0 (reset ∷ sample 0 ∷ sample 65_535 ∷ pulses 6_249))
  unfolding account_of
  at_reset = rw unchanged (cleared_at 6_249 6_249 _ at_full)

  at_anew : At c false 6_250 1 (account_of c 0 (sample 0 ∷ reset ∷ sample 0 ∷ sample 65_535 ∷ pulses 6_249))
  unfolding account_of
  at_anew = down 6_249 0 _ (takes_down 6_249 0 _ (omega arith) (omega arith) at_reset) at_reset

-- nothing is closed before the first reset
none_closed : (setup : Setup) (lent : ℕ) (c : Config) (n : ℕ) → closed_of setup lent c 0 0 (pulses n) ≡ 0
unfolding pulses
none_closed setup lent c zero = refl
none_closed setup lent c (suc n) = none_closed setup lent c n

-- The example's configuration

full_good : Good full_maker
unfolding checked first_bad sections first fitted_in sum_good any bit_at
full_good = (good_exactly full_maker).0 refl

full_inputs : (i : ℕ) → i < 16 → input_at full_maker.inputs i ≡ big
full_inputs i l = get_or-replicate 16 i _ _ l

full_alone : (j : ℕ) → j < 16 → in_use full_maker j ≡ true → j ≡ 0
full_alone zero l u = refl
full_alone (suc j) l u = absurd (unused 15 j l (ltb-true _ 8 u))
  where
    unused : (n j : ℕ) → suc j < suc n → (register_at (replicate n (record { sum = 255; rule = 255 })) j).sum < 8 → ⊥
    unused zero j l u = omega arith
    unused (suc n) zero l u = omega arith
    unused (suc n) (suc j) l u = unused n j (omega arith) u

pub full_big : Big full_maker
unfolding feeding
full_big = record { inputs = full_inputs; names = refl; plain = refl; used = refl; alone = full_alone; minute = refl }

pub full_accepted : Accepted full_maker
full_accepted = record { good = full_good; bytes = λ i l. rw (full_inputs i l) (omega arith) }

full_used : InUse full_maker 0
full_used = (omega arith, omega arith)

-- the values of a period with 30,000,000 units of each input
minute_values : last_period full_maker (record { state = 2; stamp = 120; units = table 16 (λ i. 30_000_000) } ∷ [])
    ≡ record { state = 2; stamp = 120; values = pos 30_000_000 ∷ pos 480_000_000 ∷ negsuc 479_999_999 ∷ replicate 13 (pos 0) }
unfolding table value_of sum_of total totalℤ bit_at
minute_values = refl

last_minute : (setup : Setup) (lent : ℕ) → (reached setup lent full_maker 0 nearly_full).state.closed
    ≡ record { state = 2; stamp = 120; values = pos 30_000_000 ∷ pos 480_000_000 ∷ negsuc 479_999_999 ∷ replicate 13 (pos 0) }
unfolding state_in
last_minute setup lent =
    ap (λ (s : State). s.closed) (state_is setup lent full_maker full_good 0 nearly_full)
    ∙ (ap (last_period full_maker) ((at_full full_maker full_big).period (omega arith)).1 ∙ minute_values)

pub filled : (setup : Setup) (lent : ℕ) → Filled setup lent
filled setup lent =
    let c = full_maker in
    let h = full_big in
    let calls = sample 0 ∷ nearly_full in
    record {
      accepted = full_accepted;
      opened = open_is setup lent c 0 nearly_full 0 full_used ∙ (at_full c h).amount;
      refused = answers_of_history setup lent c 0 nearly_full (sample 0) ∙ full_number c h;
      impulses = λ i l. ap (λ (a : Account). impulses_of always i (whole c a.journal)) (unchanged c h) ∙ (at_full c h).counts i l;
      closed = omega (arith, none_closed setup lent c 6_249, noted_is setup lent c 0 calls 0 full_used, ap (λ (a : Account). amount_of c 0 a.journal) (unchanged c h), (at_full c h).amount);
      anew = open_is setup lent c 0 (sample 0 ∷ reset ∷ calls) 0 full_used ∙ (at_anew c h).amount;
      whole_period = last_minute setup lent;
    }

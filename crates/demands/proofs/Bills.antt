-- Demand 3 of the account alone: what the journal's amounts are, by induction over the journal.
use Rattle.std.specs.Prelude.{if◌then◌else◌}
use mathlib.Core.Path.{◌≡◌, refl, sym, ap, ap₂, ◌∙◌}
use mathlib.Core.Bool.{Bool, true, false, ◌&&◌}
use mathlib.Core.List.{List, [], ◌∷◌}
use Prim.Native.Nat.{ℕ, ◌+◌, ◌*◌, ◌%◌, ◌<◌}
use native.Mathlib.Nat.{zero-mul, zero-mod, zero-div, mod-lt}
use native.Mathlib.Omega.{arith}
use Rattle.laws.specs.Each.{Each}
use Rattle.laws.specs.Total.{total}
use Rattle.laws.proofs.Total.{total_cong}
use Rattle.laws.specs.Masks.{bit, bit_at}
use Rattle.settings.specs.declared.Config.{Config}
use Rattle.counting.specs.Filter.{input_at}
use Rattle.counting.specs.Bills.{sum_of}
use Rattle.demands.specs.Account.{Entry, took, ended, cleared, heard, Sample, run_of, ends_run, in_range, sample_on, always, impulses_of, rounded_down, whole, since, booked_in, books_at, feeding, amount_of}
use Rattle.demands.specs.Energy.{whole_units_of}
use Rattle.demands.specs.Demand3.{ExactlyOne}
use Rattle.demands.proofs.Sums.{added, sum_added, added_cong, added_zero, added_pick, added_grown, added_share}
use Rattle.demands.proofs.Units.{paid_step, rem_step, units_grow}
use Rattle.demands.proofs.Rounding.{next_rem, paid_units, rem, units}

module _ (c : Config) where
  abbrev num : ℕ → ℕ
  num i = (input_at c.inputs i).numerator

  abbrev den : ℕ → ℕ
  den i = (input_at c.inputs i).denominator

  -- all impulses of input i
  abbrev count : ℕ → List Entry → ℕ
  count i journal = impulses_of always i (whole c journal)

  -- the remainder of input i at the last reset
  abbrev pub start_of : ℕ → List Entry → ℕ
  start_of i [] = 0
  start_of i (took bits second ∷ earlier) = start_of i earlier
  start_of i (ended state stamp ∷ earlier) = start_of i earlier
  start_of i (cleared second ∷ earlier) = count i earlier * num i % den i
  start_of i (heard stamp meter v status seq ∷ earlier) = start_of i earlier

  pub start_lt : (i : ℕ) → 0 < den i → (journal : List Entry) → start_of i journal < den i
  start_lt i pos [] = pos
  start_lt i pos (took bits second ∷ earlier) = start_lt i pos earlier
  start_lt i pos (ended state stamp ∷ earlier) = start_lt i pos earlier
  start_lt i pos (cleared second ∷ earlier) = mod-lt (count i earlier * num i) pos
  start_lt i pos (heard stamp meter v status seq ∷ earlier) = start_lt i pos earlier

  -- from there the samples since the reset leave what all impulses leave
  rem_since : (i : ℕ) (journal : List Entry) → rem (num i) (den i) i (start_of i journal) (since c journal) ≡ count i journal * num i % den i
  rem_since i [] = rw (zero-mul, zero-mod)
  rem_since i (took bits second ∷ earlier) =
      let p = ends_run c bits earlier i && in_range c i (run_of c i earlier) in
      ap (next_rem (num i) (den i) p) (rem_since i earlier) ∙ sym (rem_step (num i) (den i) (count i earlier) p)
  rem_since i (ended state stamp ∷ earlier) = rem_since i earlier
  rem_since i (cleared second ∷ earlier) = refl
  rem_since i (heard stamp meter v status seq ∷ earlier) = rem_since i earlier

  module _ (mask : ℕ) (on : ℕ → Bool) (divides : (i : ℕ) → i < 16 → bit_at mask i ≡ true → 0 < den i) where
    -- the units that input i pays since the reset
    abbrev pub pays : List Entry → ℕ → ℕ
    pays journal i = units (num i) (den i) i on (start_of i journal) (since c journal)

    -- a sample's units are those that leave the remainder
    sample_pays : (bits second : ℕ) (earlier : List Entry)
        → sum_of mask (sample_on c bits second earlier (whole c earlier)).units
        ≡ added (bit_at mask) (λ i. paid_units (num i) (den i) (ends_run c bits earlier i && in_range c i (run_of c i earlier)) (rem (num i) (den i) i (start_of i earlier) (since c earlier))) 16
    sample_pays bits second earlier =
        sum_added mask _
        ∙ added_cong (bit_at mask) _ _ 16
        (λ i l e.
        let p = ends_run c bits earlier i && in_range c i (run_of c i earlier) in
        paid_step (num i) (den i) (count i earlier) p (divides i l e) ∙ ap (paid_units (num i) (den i) p) (sym (rem_since i earlier)))

    -- an amount is what its inputs pay
    pub booked_pays : (journal : List Entry) → booked_in on mask (since c journal) ≡ added (bit_at mask) (pays journal) 16
    booked_pays [] = sym (added_zero (bit_at mask) (pays []) 16 (λ i l e. refl))
    booked_pays (took bits second ∷ earlier) =
        ap₂ (λ (x y : ℕ). x + (if on second then y else 0)) (booked_pays earlier) (sample_pays bits second earlier)
        ∙ sym (added_pick (bit_at mask) (on second) (pays earlier) _ 16)
    booked_pays (ended state stamp ∷ earlier) = booked_pays earlier
    booked_pays (cleared second ∷ earlier) = sym (added_zero (bit_at mask) (pays (cleared second ∷ earlier)) 16 (λ i l e. refl))
    booked_pays (heard stamp meter v status seq ∷ earlier) = booked_pays earlier

  -- Without a rule

  -- all that the resets noted of register j
  abbrev pub closed_in : ℕ → List Entry → ℕ
  closed_in j [] = 0
  closed_in j (took bits second ∷ earlier) = closed_in j earlier
  closed_in j (ended state stamp ∷ earlier) = closed_in j earlier
  closed_in j (cleared second ∷ earlier) = closed_in j earlier + amount_of c j earlier
  closed_in j (heard stamp meter v status seq ∷ earlier) = closed_in j earlier

  -- one sample more
  whole_step : (mask bits second : ℕ) (earlier : List Entry)
      → whole_units_of c always mask (whole c earlier) + sum_of mask (sample_on c bits second earlier (whole c earlier)).units
      ≡ whole_units_of c always mask (whole c (took bits second ∷ earlier))
  whole_step mask bits second earlier =
      ap₂ ◌+◌ (sum_added mask _) (sum_added mask _)
      ∙ (added_grown (bit_at mask) (λ i. rounded_down c i (count i earlier)) (λ i. rounded_down c i (count i (took bits second ∷ earlier))) 16
      (λ i. units_grow (input_at c.inputs i) (count i earlier) (ends_run c bits earlier i && in_range c i (run_of c i earlier)))
      ∙ sym (sum_added mask _))

  -- nothing is lost where every sample is booked
  pub all_booked : (j : ℕ) → ((t : ℕ) → books_at c j t ≡ true) → (journal : List Entry)
      → closed_in j journal + amount_of c j journal ≡ whole_units_of c always (feeding c j) (whole c journal)
  unfolding amount_of
  all_booked j every [] = sym (sum_added (feeding c j) _ ∙ added_zero (bit_at (feeding c j)) _ 16 (λ i l e. rw (zero-mul, zero-div)))
  all_booked j every (took bits second ∷ earlier) =
      let old = all_booked j every earlier in
      rw (every second) (omega (arith, old, whole_step (feeding c j) bits second earlier))
  all_booked j every (ended state stamp ∷ earlier) = all_booked j every earlier
  all_booked j every (cleared second ∷ earlier) = omega (arith, all_booked j every earlier)
  all_booked j every (heard stamp meter v status seq ∷ earlier) = all_booked j every earlier

  -- Exactly one of several

  -- how many of the chosen registers are booked
  one_chosen : (chosen : ℕ → Bool) (second : ℕ)
      → added chosen (λ j. if books_at c j second then 1 else 0) 16 ≡ total 16 (λ j. bit (chosen j && books_at c j second))
  one_chosen chosen second = total_cong 16 _ _ (λ j l. go (chosen j) (books_at c j second))
    where
      go : (t on : Bool) → (if t then if on then 1 else 0 else 0) ≡ bit (t && on)
      go true true = refl
      go true false = refl
      go false on = refl

  -- together they are booked what comes
  pub shared : (mask : ℕ) (chosen : ℕ → Bool) (es : List Sample) → Each (ExactlyOne c chosen) es
      → added chosen (λ j. booked_in (books_at c j) mask es) 16 ≡ booked_in always mask es
  shared mask chosen [] w = added_zero chosen _ 16 (λ j l e. refl)
  shared mask chosen (e ∷ es) w =
      let u : ℕ = sum_of mask e.units in
      let once : u * added chosen (λ j. if books_at c j e.second then 1 else 0) 16 ≡ u * 1 = ap (λ (m : ℕ). u * m) (one_chosen chosen e.second ∙ w.0) in
      omega (arith, added_share chosen (λ j. booked_in (books_at c j) mask es) (λ j. books_at c j e.second) u 16, once, shared mask chosen es w.1)

-- samples that are all booked
pub booked_always : (on : ℕ → Bool) → ((t : ℕ) → on t ≡ true) → (mask : ℕ) (es : List Sample) → booked_in on mask es ≡ booked_in always mask es
booked_always on every mask [] = refl
booked_always on every mask (e ∷ es) = rw (every e.second, booked_always on every mask es)

-- The sums of the inputs' units, made in place from the inputs of a mask.
use Rattle.std.specs.Prelude.{Some, if◌then◌else◌}
use mathlib.Core.Path.{◌≡◌, refl, sym, ap, ◌∙◌}
use mathlib.Core.List.{List, [], ◌∷◌}
use Prim.Native.Nat.{ℕ, ◌<◌, ◌≤◌}
use native.Mathlib.Nat.{zero-add}
use native.Mathlib.Omega.{arith}
use lib.Dec.{ltb}
use lib.ListN.{length, get_or, set}
use lib.Seq.{get_or-set_same, get_or-set_other}
use mir.Syntax.{w32}
use mir.Val.{Fits}
use borrow.Author.Tests.{ltb-true, ltb-false}
use Rattle.laws.proofs.If.{if_same, if_cases}
use Rattle.laws.specs.Masks.{bit_at}
use Rattle.laws.specs.Tables.{table}
use Rattle.laws.proofs.Tables.{length_table, table_at, table_past, table_cong}
use Rattle.laws.proofs.Tests.{by_test}
use Rattle.laws.proofs.Total.{total_zero, total_one, total_within}
use Rattle.counting.specs.Bills.{unit_at, sum_of, sum_at, sums_of}
use Rattle.counting.specs.ByMask.{masked_units, added_units, Below}
use Rattle.laws.proofs.Sparse.{Half, done_at, half_done}
use Rattle.counting.specs.Bits.{NextBit}
use Rattle.counting.proofs.Steps.{step_old, step_done}

-- the units of the inputs that have been gone through, none of the others
abbrev pub units_past : List ℕ → ℕ → ℕ → List ℕ
units_past units mask left = table 16 (done_at mask left (unit_at units) (λ i. 0))

-- eight totals of nothing
no_totals : ◌≡◌ {A = List ℕ} (0 ∷ 0 ∷ 0 ∷ 0 ∷ 0 ∷ 0 ∷ 0 ∷ 0 ∷ []) (table 8 (λ (k : ℕ). 0))
unfolding table
no_totals = refl

-- the sums of no units
no_sums : (sums : List ℕ) (f : ℕ → ℕ) → ((i : ℕ) → i < 16 → f i ≡ 0) → (0 ∷ 0 ∷ 0 ∷ 0 ∷ 0 ∷ 0 ∷ 0 ∷ 0 ∷ []) ≡ sums_of sums (table 16 f)
unfolding sums_of sum_at sum_of
no_sums sums f none =
    no_totals
    ∙ table_cong 8 (λ k. 0) _
    (λ k l. sym (total_zero 16 _ (λ i m. rw (table_at 16 f i 0 m, none i m) (if_same {A = ℕ} (bit_at (get_or sums k 0) i) 0))))

-- the sums with the units of one input that had none
sums_set : (sums xs : List ℕ) (i v : ℕ) → i < 16 → length xs ≡ 16 → unit_at xs i ≡ 0 → added_units (sums_of sums xs) sums i v ≡ sums_of sums (set xs i v)
unfolding added_units sums_of sum_at sum_of
sums_set sums xs i v l size none =
    table_cong 8 _ _
    (λ k m.
    let s = get_or sums k 0 in
    let here : i < length xs = omega arith in
    rw (table_at 8 (sum_at sums xs) k 0 m)
    (sym (total_one 16 _ _ i (if bit_at s i then v else 0) l
    (rw (get_or-set_same xs i v 0 here, none, if_same {A = ℕ} (bit_at s i) 0) (sym (zero-add _)))
    (λ j n d. rw (get_or-set_other xs i j v 0 d)))))

module _ (sums units : List ℕ) (mask : ℕ) where
  -- before the first input
  pub sums_start : (0 ∷ 0 ∷ 0 ∷ 0 ∷ 0 ∷ 0 ∷ 0 ∷ 0 ∷ []) ≡ sums_of sums (units_past units mask mask)
  unfolding done_at
  sums_start = no_sums sums (done_at mask mask (unit_at units) (λ i. 0)) (λ i l. by_test (bit_at mask i) (λ t. rw t) (λ f. rw f))

  -- the inputs that have been gone through, half way
  pub past_start : Half mask mask (unit_at units) (λ i. 0) (units_past units mask mask)
  unfolding done_at
  past_start = record { within = λ i h. h; list = refl }

  module _ {left i after : ℕ} (step : NextBit left (Some i) after) (half : Half mask left (unit_at units) (λ i. 0) (units_past units mask left)) where
    -- the list of the next turn
    past_list : set (units_past units mask left) i (unit_at units i) ≡ units_past units mask after
    past_list = (step_done step half refl).list

    -- one more input has been gone through
    pub past_turn : Half mask after (unit_at units) (λ i. 0) (units_past units mask after)
    past_turn = rw past_list at (step_done step half refl)

    -- and its units are added
    pub sums_turn : (totals : List ℕ) → totals ≡ sums_of sums (units_past units mask left) → added_units totals sums i (unit_at units i) ≡ sums_of sums (units_past units mask after)
    sums_turn totals e =
        rw e (sums_set sums (units_past units mask left) i (unit_at units i) step.3 (length_table 16 _) (step_old step half 0)) ∙ ap (sums_of sums) past_list

  -- after the last input
  pub sums_done : (left : ℕ) (totals : List ℕ) → left ≡ 0 → Half mask left (unit_at units) (λ i. 0) (units_past units mask left) → totals ≡ sums_of sums (units_past units mask left)
      → totals ≡ sums_of sums (masked_units units mask)
  unfolding masked_units
  sums_done left totals z half e = e ∙ ap (sums_of sums) (half_done mask (unit_at units) (λ i. 0) z half)

  -- the units of an input that has been gone through fit 32 bits
  past_fits : (left j : ℕ) → ((i : ℕ) → Fits w32 (unit_at units i)) → unit_at (units_past units mask left) j ≤ 4_294_967_295
  unfolding done_at
  past_fits left j h =
      by_test (ltb j 16)
      (λ t.
      rw (table_at 16 (done_at mask left (unit_at units) (λ i. 0)) j 0 (ltb-true j 16 t))
      (if_cases (λ u. u ≤ 4_294_967_295) (bit_at left j) (λ b. omega arith) (λ b. if_cases (λ u. u ≤ 4_294_967_295) (bit_at mask j) (λ d. omega (arith, (h j).fits)) (λ d. omega arith))))
      (λ f. rw (table_past 16 (done_at mask left (unit_at units) (λ i. 0)) j 0 (ltb-false j 16 f)) (omega arith))

  -- so there is room for the units of one more
  pub sums_below : (left : ℕ) (totals : List ℕ) → totals ≡ sums_of sums (units_past units mask left) → ((j : ℕ) → Fits w32 (unit_at units j)) → Below totals
  unfolding sums_of sum_at sum_of
  sums_below left totals e h k =
      let xs = units_past units mask left in
      let part : (j : ℕ) → (if bit_at (get_or sums k 0) j then unit_at xs j else 0) ≤ 4_294_967_295 =
      λ j. if_cases (λ u. u ≤ 4_294_967_295) (bit_at (get_or sums k 0) j) (λ b. past_fits left j h) (λ b. omega arith) in
      rw e
      (by_test (ltb k 8)
      (λ t. rw (table_at 8 (sum_at sums xs) k 0 (ltb-true k 8 t)) (omega (arith, total_within 16 4_294_967_295 _ part)))
      (λ f. rw (table_past 8 (sum_at sums xs) k 0 (ltb-false k 8 f)) (omega arith)))

-- A loop over the bits of a mask, the lowest first: `let i = trailing_zeros(left)`, element i becomes f i, `left = left & (left - 1)`.
use Rattle.std.specs.Prelude.{if◌then◌else◌}
use mathlib.Core.Path.{◌≡◌, refl, sym, ap, ◌∙◌}
use mathlib.Core.Bool.{Bool, true, false, not, ◌&&◌, and-true, and-false}
use mathlib.Core.List.{List}
use Prim.Native.Nat.{ℕ, zero, suc, ◌-◌, ◌*◌, ◌/◌, ◌%◌, ◌^◌, ◌<◌}
use native.Mathlib.Nat.{zero-min, min-zero, pow-suc, not-suc-le-zero, le_of_suc-le-suc}
use native.Mathlib.Omega.{arith}
use lib.Bits.{bit_and, and_step, and_self, and_le_r}
use lib.Count.{count_trailing_zeros}
use lib.Dec.{eqb}
use lib.ListN.{get_or, set}
use borrow.Author.Tests.{eqb-true, eqb-false, eq-eqb, ne_eqb}
use Rattle.laws.specs.Any.{any}
use Rattle.laws.proofs.Any.{any_at, any_none}
use Rattle.laws.specs.Masks.{bit_at}
use Rattle.laws.proofs.Masks.{bit_zero, bit_half, bit_low}
use Rattle.laws.specs.Tables.{table}
use Rattle.laws.proofs.Tables.{table_at, table_cong}
use Rattle.laws.proofs.Tests.{by_test}

-- two numbers are the same if the next ones are
eqb_suc : (a b : ℕ) → eqb (suc a) (suc b) ≡ eqb a b
eqb_suc a b = by_test (eqb a b) (λ t. rw (t, eq-eqb (suc a) (suc b) (ap suc (eqb-true a b t)))) (λ t. rw (t, ne_eqb (suc a) (suc b) (λ e. eqb-false a b t (omega arith))))

-- of an odd number `n & (n - 1)` takes the lowest digit
drop_odd : (n : ℕ) → n % 2 ≡ 1 → bit_and n (n - 1) ≡ n - 1
drop_odd n o =
    let h : (n - 1) / 2 ≡ n / 2 = omega arith in
    let e : (n - 1) % 2 ≡ 0 = omega arith in
    rw (and_step n (n - 1), h, e, and_self, min-zero) (omega arith)

-- of an even number it goes by the half
drop_even : (n : ℕ) → 0 < n → n % 2 ≡ 0 → bit_and n (n - 1) ≡ bit_and (n / 2) (n / 2 - 1) * 2
drop_even n p o =
    let h : (n - 1) / 2 ≡ n / 2 - 1 = omega arith in
    rw (and_step n (n - 1), h, o, zero-min) (omega arith)

-- the lowest bit of a number that is not 0 is one of its bits
pub lowest_below : (k n : ℕ) → 0 < n → n < 2 ^ k → count_trailing_zeros k n < k
unfolding count_trailing_zeros
lowest_below zero n p h = absurd (omega arith)
lowest_below (suc k) n p h =
    by_test (eqb (n % 2) 1)
    (λ t. let o : n % 2 ≡ 1 = eqb-true _ _ t in rw o (omega arith))
    (λ t.
    let o : n % 2 ≡ 0 = omega (arith, eqb-false (n % 2) 1 t) in
    let q : n / 2 < 2 ^ k = omega (arith, pow-suc 2 k) in
    rw o (omega (arith, lowest_below k (n / 2) (omega arith) q)))

-- and it is on
pub lowest_on : (k n : ℕ) → 0 < n → n < 2 ^ k → bit_at n (count_trailing_zeros k n) ≡ true
unfolding count_trailing_zeros
lowest_on zero n p h = absurd (omega arith)
lowest_on (suc k) n p h =
    by_test (eqb (n % 2) 1)
    (λ t. let o : n % 2 ≡ 1 = eqb-true _ _ t in rw (o, bit_low n, o))
    (λ t.
    let o : n % 2 ≡ 0 = omega (arith, eqb-false (n % 2) 1 t) in
    let q : n / 2 < 2 ^ k = omega (arith, pow-suc 2 k) in
    rw (o, bit_half n (count_trailing_zeros k (n / 2))) (lowest_on k (n / 2) (omega arith) q))

-- `n & (n - 1)` is n without its lowest bit
pub drop_bit : (k n : ℕ) → 0 < n → n < 2 ^ k → (j : ℕ) → bit_at (bit_and n (n - 1)) j ≡ (bit_at n j && not (eqb j (count_trailing_zeros k n)))
unfolding count_trailing_zeros
drop_bit zero n p h j = absurd (omega arith)
drop_bit (suc k) n p h j =
    by_test (eqb (n % 2) 1)
    (λ t. let o : n % 2 ≡ 1 = eqb-true _ _ t in rw (drop_odd n o, o) (odd o j))
    (λ t.
    let o : n % 2 ≡ 0 = omega (arith, eqb-false (n % 2) 1 t) in
    let q : n / 2 < 2 ^ k = omega (arith, pow-suc 2 k) in
    rw (drop_even n p o, o) (even o (λ i. drop_bit k (n / 2) (omega arith) q i) j))
  where
    odd : n % 2 ≡ 1 → (i : ℕ) → bit_at (n - 1) i ≡ (bit_at n i && not (eqb i 0))
    odd o zero = let z : (n - 1) % 2 ≡ 0 = omega arith in rw (bit_low (n - 1), z, and-false)
    odd o (suc i) = let s : (n - 1) / 2 ≡ n / 2 = omega arith in rw (bit_half (n - 1) i, bit_half n i, s, ne_eqb (suc i) 0 (λ z. omega arith), and-true)

    even : n % 2 ≡ 0 → ((i : ℕ) → bit_at (bit_and (n / 2) (n / 2 - 1)) i ≡ (bit_at (n / 2) i && not (eqb i (count_trailing_zeros k (n / 2)))))
        → (i : ℕ) → bit_at (bit_and (n / 2) (n / 2 - 1) * 2) i ≡ (bit_at n i && not (eqb i (suc (count_trailing_zeros k (n / 2)))))
    even o ih zero =
        let z : bit_and (n / 2) (n / 2 - 1) * 2 % 2 ≡ 0 = omega arith in
        rw (bit_low (bit_and (n / 2) (n / 2 - 1) * 2), bit_low n, z, o)
    even o ih (suc i) =
        let s : bit_and (n / 2) (n / 2 - 1) * 2 / 2 ≡ bit_and (n / 2) (n / 2 - 1) = omega arith in
        rw (bit_half (bit_and (n / 2) (n / 2 - 1) * 2) i, bit_half n i, s, eqb_suc) (ih i)

-- and so it is less
pub drop_less : (n : ℕ) → 0 < n → bit_and n (n - 1) < n
drop_less n p = omega (arith, and_le_r n (n - 1))

-- a list in which one element of a table is set is the table of a function that differs there alone
set_table : {A : Type 0} (n : ℕ) (g h : ℕ → A) (i : ℕ) (v : A) → i < n → v ≡ h i → ((j : ℕ) → j < n → (j ≡ i → ⊥) → g j ≡ h j) → set (table n g) i v ≡ table n h
unfolding table
set_table zero g h i v l e same = absurd (not-suc-le-zero l)
set_table (suc n) g h zero v l e same =
    cc (e, table_cong n (λ j. g (suc j)) (λ j. h (suc j)) (λ j m. same (suc j) (omega arith) (λ z. omega arith)))
set_table (suc n) g h (suc i) v l e same =
    cc (same 0 (omega arith) (λ z. omega arith), set_table n (λ j. g (suc j)) (λ j. h (suc j)) i v (le_of_suc-le-suc l) e (λ j m d. same (suc j) (omega arith) (λ z. d (omega arith))))

-- the element at a place, half way: what the mask has and `left` has not is done
unfoldable pub done_at : {A : Type 0} → ℕ → ℕ → (ℕ → A) → (ℕ → A) → ℕ → A
done_at mask left f old i = if bit_at left i then old i else if bit_at mask i then f i else old i

-- a list half way: `left` is a part of the mask, and the elements at the other places of the mask are done
pub record Half {A : Type 0} (mask left : ℕ) (f old : ℕ → A) (xs : List A) : Type 0 where
  pub within : (i : ℕ) → bit_at left i ≡ true → bit_at mask i ≡ true
  pub list : xs ≡ table 16 (done_at mask left f old)

module _ {A : Type 0} (mask : ℕ) (f old : ℕ → A) where
  -- before the first turn
  pub half_start : {xs : List A} → xs ≡ table 16 old → Half mask mask f old xs
  unfolding done_at
  half_start e =
      record {
        within = λ i h. h;
        list = e ∙ table_cong 16 old (done_at mask mask f old) (λ i l. by_test (bit_at mask i) (λ t. rw t) (λ t. rw t));
      }

  -- the next element is still the old one
  pub half_next : {left : ℕ} {xs : List A} → 0 < left → left < 2 ^ 16 → Half mask left f old xs → (d : A) → get_or xs (count_trailing_zeros 16 left) d ≡ old (count_trailing_zeros 16 left)
  unfolding done_at
  half_next {left} p l h d =
      rw (h.list, table_at 16 (done_at mask left f old) (count_trailing_zeros 16 left) d (lowest_below 16 left p l), lowest_on 16 left p l)

  -- a turn
  pub half_turn : {left : ℕ} {xs : List A} {v : A} → 0 < left → left < 2 ^ 16 → Half mask left f old xs → v ≡ f (count_trailing_zeros 16 left)
      → Half mask (bit_and left (left - 1)) f old (set xs (count_trailing_zeros 16 left) v)
  unfolding done_at
  half_turn {left} {xs} {v} p l h e =
      let i = count_trailing_zeros 16 left in
      let on = lowest_on 16 left p l in
      record {
        within = λ j t. h.within j (by_test (bit_at left j) (λ b. b) (λ b. let f = rw (drop_bit 16 left p l j, b) at t in cc));
        list =
            rw h.list
            (set_table 16 (done_at mask left f old) (done_at mask (bit_and left (left - 1)) f old) i v (lowest_below 16 left p l)
            (rw (drop_bit 16 left p l i, on, eq-eqb i i refl, h.within i on) e)
            (λ j m d. rw (drop_bit 16 left p l j, ne_eqb j i d, and-true)));
      }

  -- after the last turn
  pub half_done : {left : ℕ} {xs : List A} → left ≡ 0 → Half mask left f old xs → xs ≡ table 16 (λ i. if bit_at mask i then f i else old i)
  unfolding done_at
  half_done {left} z h =
      h.list ∙ table_cong 16 (done_at mask left f old) (λ i. if bit_at mask i then f i else old i) (λ i l. rw (z, bit_zero i))

-- a look half way: `left` is a part of the mask, and at the other places of the mask the test does not hold
pub record Looked (mask left : ℕ) (p : ℕ → Bool) : Type 0 where
  pub within : (i : ℕ) → bit_at left i ≡ true → bit_at mask i ≡ true
  pub none : (i : ℕ) → bit_at mask i ≡ true → bit_at left i ≡ false → p i ≡ false

module _ (mask : ℕ) (p : ℕ → Bool) where
  -- before the first turn
  pub look_start : Looked mask mask p
  look_start = record { within = λ i h. h; none = λ i t f. let z : true ≡ false = sym t ∙ f in cc }

  -- a turn
  pub look_turn : {left : ℕ} → 0 < left → left < 2 ^ 16 → Looked mask left p → p (count_trailing_zeros 16 left) ≡ false → Looked mask (bit_and left (left - 1)) p
  look_turn {left} q l h e =
      let i = count_trailing_zeros 16 left in
      record {
        within = λ j t. h.within j (by_test (bit_at left j) (λ b. b) (λ b. let f = rw (drop_bit 16 left q l j, b) at t in cc));
        none =
            λ j t f.
            by_test (eqb j i) (λ s. rw (eqb-true j i s) e)
            (λ d. h.none j t (let g = rw (drop_bit 16 left q l j, d, and-true) at f in g));
      }

  -- the test holds at the next place
  pub look_found : {left : ℕ} → 0 < left → left < 2 ^ 16 → Looked mask left p → p (count_trailing_zeros 16 left) ≡ true → any 16 (λ i. bit_at mask i && p i) ≡ true
  look_found {left} q l h e =
      let i = count_trailing_zeros 16 left in
      any_at 16 _ i (lowest_below 16 left q l) (rw (h.within i (lowest_on 16 left q l)) e)

  -- after the last turn it holds nowhere
  pub look_done : {left : ℕ} → left ≡ 0 → Looked mask left p → any 16 (λ i. bit_at mask i && p i) ≡ false
  look_done z h = any_none 16 _ (λ i l. by_test (bit_at mask i) (λ t. rw t (h.none i t (rw z (bit_zero i)))) (λ f. rw f))

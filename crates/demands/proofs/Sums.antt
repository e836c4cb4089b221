-- Laws of sums over the inputs that a mask names, and of fractions over such inputs. `named` says which of the places below n count.
use Rattle.std.specs.Prelude.{if◌then◌else◌}
use mathlib.Core.Path.{◌≡◌, refl, sym, ap, ◌∙◌}
use mathlib.Core.Bool.{Bool, true, false}
use mathlib.Core.Logic.{⊎_elim}
use Prim.Native.Nat.{ℕ, zero, suc, ◌+◌, ◌-◌, ◌*◌, ◌/◌, ◌<◌, ◌≤◌}
use native.Mathlib.Nat.{add-mul, mul-add, mul_assoc, mul_comm, mul-one, one-mul, zero-mul, mul-zero, mul-pos, mul-le-mul_left, mul-le-mul_right, mul-div_cancel_left, eq-or-lt_of_le, le_of_suc-le-suc}
use native.Mathlib.Omega.{arith}
use Rattle.laws.proofs.Tests.{by_test}
use Rattle.laws.specs.Total.{total}
use Rattle.laws.proofs.Total.{total_cong, total_zero, total_plus}
use Rattle.laws.specs.Masks.{bit_at}
use Rattle.counting.specs.Bills.{sum_of}
use Rattle.demands.specs.Energy.{product_of}

-- n where it counts, else nothing
abbrev pub part_of : Bool → ℕ → ℕ
part_of on n = if on then n else 0

-- f added up over the named places
abbrev pub added : (ℕ → Bool) → (ℕ → ℕ) → ℕ → ℕ
added named f n = total n (λ i. part_of (named i) (f i))

-- a sum over the inputs that a mask names
pub sum_added : (mask : ℕ) (f : ℕ → ℕ) → sum_of mask f ≡ added (bit_at mask) f 16
unfolding sum_of
sum_added mask f = refl

-- the fractions a i over d i of the named places, added up one by one and multiplied by the product of these d i: s/p + a/d is (s * d + a * p)/(p * d)
unfoldable pub scaled : (ℕ → Bool) → (ℕ → ℕ) → (ℕ → ℕ) → ℕ → ℕ
scaled named a d zero = 0
scaled named a d (suc n) = scaled named a d n * (if named n then d n else 1) + part_of (named n) (a n * product_of named d n)

module _ (named : ℕ → Bool) where
  -- equal terms at the named places
  pub added_cong : (f g : ℕ → ℕ) (n : ℕ) → ((i : ℕ) → i < n → named i ≡ true → f i ≡ g i) → added named f n ≡ added named g n
  added_cong f g n h = total_cong n _ _ (λ i l. by_test (named i) (λ e. rw e (h i l e)) (λ e. rw e))

  -- no terms
  pub added_zero : (f : ℕ → ℕ) (n : ℕ) → ((i : ℕ) → i < n → named i ≡ true → f i ≡ 0) → added named f n ≡ 0
  added_zero f n h = total_zero n _ (λ i l. by_test (named i) (λ e. rw e (h i l e)) (λ e. rw e))

  -- terms of two parts, of which the second are taken or left together
  pub added_pick : (t : Bool) (f g : ℕ → ℕ) (n : ℕ) → added named (λ i. f i + (if t then g i else 0)) n ≡ added named f n + (if t then added named g n else 0)
  unfolding total
  added_pick true f g zero = refl
  added_pick false f g zero = refl
  added_pick t f g (suc n) = go t (named n) (f n) (g n) _ _ _ (added_pick t f g n)
    where
      go : (t on : Bool) (a b x y z : ℕ) → x ≡ y + (if t then z else 0)
          → x + part_of on (a + (if t then b else 0)) ≡ y + part_of on a + (if t then z + part_of on b else 0)
      go true true a b x y z e = omega arith
      go true false a b x y z e = omega arith
      go false true a b x y z e = omega arith
      go false false a b x y z e = omega arith

  -- terms and what others have more
  pub added_grown : (f g : ℕ → ℕ) (n : ℕ) → ((i : ℕ) → f i ≤ g i) → added named f n + added named (λ i. g i - f i) n ≡ added named g n
  added_grown f g n grows =
      sym (total_plus n _ _) ∙ total_cong n _ _ (λ i l. by_test (named i) (λ e. rw e (omega (arith, grows i))) (λ e. rw e))

  -- the same term at each
  pub added_same : (s n : ℕ) → added named (λ i. s) n ≡ added named (λ i. 1) n * s
  unfolding total
  added_same s zero = sym (zero-mul s)
  added_same s (suc n) = go (named n) _ _ (added_same s n)
    where
      go : (on : Bool) (x k : ℕ) → x ≡ k * s → x + part_of on s ≡ (k + part_of on 1) * s
      go true x k e = simp add-mul (omega arith)
      go false x k e = simp add-mul (omega arith)

  -- a named place counts
  pub added_some : (n i : ℕ) → i < n → named i ≡ true → 0 < added named (λ i. 1) n
  unfolding total
  added_some zero i l e = absurd (omega arith)
  added_some (suc n) i l e =
      ⊎_elim (λ q. let here : part_of (named n) 1 ≡ 1 = rw (← q, e) in omega arith) (λ m. let before = added_some n i m e in omega arith)
      (eq-or-lt_of_le (le_of_suc-le-suc l))

  -- a positive product
  pub product_pos : (d : ℕ → ℕ) (n : ℕ) → ((i : ℕ) → i < n → named i ≡ true → 0 < d i) → 0 < product_of named d n
  unfolding product_of
  product_pos d zero pos = omega arith
  product_pos d (suc n) pos =
      mul-pos (product_pos d n (λ i l. pos i (omega arith))) (by_test (named n) (λ e. rw e (pos n (omega arith) e)) (λ e. rw e (omega arith)))

  -- whole numbers as fractions
  pub scaled_whole : (u d : ℕ → ℕ) (n : ℕ) → scaled named (λ i. u i * d i) d n ≡ added named u n * product_of named d n
  unfolding scaled total product_of
  scaled_whole u d zero = refl
  scaled_whole u d (suc n) = go (named n) _ _ _ (u n) (d n) (scaled_whole u d n)
    where
      go : (on : Bool) (x s p u d : ℕ) → x ≡ s * p
          → x * (if on then d else 1) + part_of on (u * d * p) ≡ (s + part_of on u) * (p * (if on then d else 1))
      go true x s p u d e = rw e (simp (add-mul, mul_assoc, mul_comm d p))
      go false x s p u d e = rw e (simp (add-mul, mul-one) (omega arith))

  -- fractions are added term by term
  pub scaled_add : (a b d : ℕ → ℕ) (n : ℕ) → scaled named (λ i. a i + b i) d n ≡ scaled named a d n + scaled named b d n
  unfolding scaled
  scaled_add a b d zero = refl
  scaled_add a b d (suc n) = go (named n) _ _ _ (product_of named d n) (a n) (b n) (d n) (scaled_add a b d n)
    where
      go : (on : Bool) (x s t p a b d : ℕ) → x ≡ s + t
          → x * (if on then d else 1) + part_of on ((a + b) * p)
          ≡ s * (if on then d else 1) + part_of on (a * p) + (t * (if on then d else 1) + part_of on (b * p))
      go true x s t p a b d e = rw e (simp add-mul (omega arith))
      go false x s t p a b d e = rw e (simp add-mul (omega arith))

  -- no fraction, no sum
  pub scaled_zero : (a d : ℕ → ℕ) (n : ℕ) → ((i : ℕ) → i < n → named i ≡ true → a i ≡ 0) → scaled named a d n ≡ 0
  unfolding scaled
  scaled_zero a d zero none = refl
  scaled_zero a d (suc n) none =
      rw (scaled_zero a d n (λ i l. none i (omega arith)), zero-mul)
      (by_test (named n) (λ e. rw (e, none n (omega arith) e, zero-mul)) (λ e. rw e))

  -- where each fraction is smaller, the sum is, by at least one for each named place
  pub scaled_less : (a b d : ℕ → ℕ) (n : ℕ) → ((i : ℕ) → i < n → named i ≡ true → 0 < d i) → ((i : ℕ) → i < n → named i ≡ true → a i < b i)
      → scaled named a d n + added named (λ i. 1) n ≤ scaled named b d n
  unfolding scaled total
  scaled_less a b d zero pos less = omega arith
  scaled_less a b d (suc n) pos less =
      go (named n) _ _ _ (product_of named d n) (a n) (b n) (d n) (scaled_less a b d n (λ i l. pos i (omega arith)) (λ i l. less i (omega arith)))
      (product_pos d n (λ i l. pos i (omega arith))) (pos n (omega arith)) (less n (omega arith))
    where
      go : (on : Bool) (s t k p a b d : ℕ) → s + k ≤ t → 0 < p → (on ≡ true → 0 < d) → (on ≡ true → a < b)
          → s * (if on then d else 1) + part_of on (a * p) + (k + part_of on 1) ≤ t * (if on then d else 1) + part_of on (b * p)
      go true s t k p a b d h q pos less =
          let one : 0 < d = pos refl in
          let step : suc a * p ≤ b * p = mul-le-mul_right p (less refl) in
          let before : (s + k) * d ≤ t * d = mul-le-mul_right d h in
          let many : k * 1 ≤ k * d = mul-le-mul_left k one in
          omega (arith, add-mul s k d, add-mul 1 a p, one-mul p)
      go false s t k p a b d h q pos less = omega arith

  -- the sum of fractions is each numerator times the product over its denominator, here with a factor c
  scaled_times : (a d : ℕ → ℕ) (c n : ℕ) → ((i : ℕ) → i < n → named i ≡ true → 0 < d i)
      → added named (λ i. a i * (product_of named d n * c / d i)) n ≡ scaled named a d n * c
  unfolding scaled total product_of
  scaled_times a d c zero pos = sym (zero-mul c)
  scaled_times a d c (suc n) pos = go (named n) refl (λ (m : ℕ). scaled_times a d m n (λ i l. pos i (omega arith)))
    where
      p : ℕ
      p = product_of named d n

      go : (on : Bool) → named n ≡ on → ((m : ℕ) → added named (λ i. a i * (p * m / d i)) n ≡ scaled named a d n * m)
          → added named (λ i. a i * (p * (if on then d n else 1) * c / d i)) n + part_of on (a n * (p * (if on then d n else 1) * c / d n))
          ≡ (scaled named a d n * (if on then d n else 1) + part_of on (a n * p)) * c
      go true e ih =
          let rest : added named (λ i. a i * (p * d n * c / d i)) n ≡ scaled named a d n * (d n * c) =
          ap (λ (m : ℕ). added named (λ i. a i * (m / d i)) n) (mul_assoc p (d n) c) ∙ ih (d n * c) in
          let own : p * d n * c / d n ≡ p * c =
          ap (λ (m : ℕ). m / d n) (ap (λ (m : ℕ). m * c) (mul_comm p (d n)) ∙ mul_assoc (d n) p c) ∙ mul-div_cancel_left (p * c) (pos n (omega arith) e) in
          rw (rest, own) (simp (add-mul, mul_assoc))
      go false e ih =
          let rest : added named (λ i. a i * (p * 1 * c / d i)) n ≡ scaled named a d n * c =
          ap (λ (m : ℕ). added named (λ i. a i * (m * c / d i)) n) (mul-one p) ∙ ih c in
          rw rest (simp (add-mul, mul-one) (omega arith))

  pub scaled_direct : (a d : ℕ → ℕ) (n : ℕ) → ((i : ℕ) → i < n → named i ≡ true → 0 < d i)
      → added named (λ i. a i * (product_of named d n / d i)) n ≡ scaled named a d n
  scaled_direct a d n pos = simp mul-one at (scaled_times a d 1 n pos)

-- the units u go to as many of the named registers as are `on`
pub added_share : (named : ℕ → Bool) (f : ℕ → ℕ) (on : ℕ → Bool) (u n : ℕ)
    → added named (λ j. f j + (if on j then u else 0)) n ≡ added named f n + u * added named (λ j. if on j then 1 else 0) n
unfolding total
added_share named f on u zero = omega (arith, mul-zero u)
added_share named f on u (suc n) = go (named n) (on n) (f n) _ _ _ (added_share named f on u n)
  where
    go : (t on : Bool) (f x y k : ℕ) → x ≡ y + u * k
        → x + part_of t (f + (if on then u else 0)) ≡ y + part_of t f + u * (k + part_of t (if on then 1 else 0))
    go true true f x y k e = simp (mul-add, mul-one) (omega arith)
    go true false f x y k e = simp mul-add (omega arith)
    go false true f x y k e = simp mul-add (omega arith)
    go false false f x y k e = simp mul-add (omega arith)

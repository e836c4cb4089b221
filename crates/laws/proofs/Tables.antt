-- Laws of tables. A loop `xs[i] = f(i)` has the invariant `xs ≡ fill_to f i xs₀`: by `fill_none` before the first turn, `fill_more` at a turn's end and `fill_done` after the last.
use mathlib.Core.Path.{◌≡◌, refl, sym, ap, ◌∙◌}
use mathlib.Core.List.{List, [], ◌∷◌, ◌++◌}
use Prim.Native.Nat.{ℕ, zero, suc, ◌+◌, ◌<◌, ◌≤◌}
use native.Mathlib.Nat.{not-suc-le-zero, le_of_suc-le-suc, le_antisymm, zero-add}
use native.Mathlib.Numerals.{add-one}
use native.Mathlib.Omega.{arith}
use lib.ListN.{length, get_or, set}
use Rattle.laws.specs.Tables.{table}

-- a list whose first n elements have become f 0, f 1, .. f (n - 1)
unfoldable pub fill_to : {A : Type 0} → (ℕ → A) → ℕ → List A → List A
fill_to f zero xs = xs
fill_to f (suc n) [] = []
fill_to f (suc n) (x ∷ xs) = f 0 ∷ fill_to (λ i. f (suc i)) n xs

module _ {A : Type 0} where
  -- a table has n elements
  pub length_table : (n : ℕ) (f : ℕ → A) → length (table n f) ≡ n
  unfolding table
  length_table zero f = refl
  length_table (suc n) f = ap suc (length_table n (λ i. f (suc i)))

  -- the element at i
  pub table_at : (n : ℕ) (f : ℕ → A) (i : ℕ) (d : A) → i < n → get_or (table n f) i d ≡ f i
  unfolding table
  table_at zero f i d h = absurd (not-suc-le-zero h)
  table_at (suc n) f zero d h = refl
  table_at (suc n) f (suc i) d h = table_at n (λ i. f (suc i)) i d (le_of_suc-le-suc h)

  -- past its end there is nothing
  pub table_past : (n : ℕ) (f : ℕ → A) (i : ℕ) (d : A) → n ≤ i → get_or (table n f) i d ≡ d
  unfolding table
  table_past zero f i d h = refl
  table_past (suc n) f zero d h = absurd (not-suc-le-zero h)
  table_past (suc n) f (suc i) d h = table_past n (λ j. f (suc j)) i d (le_of_suc-le-suc h)

  -- functions that agree below n make the same table
  pub table_cong : (n : ℕ) (f g : ℕ → A) → ((i : ℕ) → i < n → f i ≡ g i) → table n f ≡ table n g
  unfolding table
  table_cong zero f g h = refl
  table_cong (suc n) f g h = cc (h 0 (omega arith), table_cong n (λ i. f (suc i)) (λ i. g (suc i)) (λ i l. h (suc i) (omega arith)))

  -- a list is the table of its elements
  pub table_self : (n : ℕ) (xs : List A) (d : A) → length xs ≡ n → table n (λ i. get_or xs i d) ≡ xs
  unfolding table
  table_self zero [] d e = refl
  table_self zero (x ∷ xs) d e = absurd (omega arith)
  table_self (suc n) [] d e = absurd (omega arith)
  table_self (suc n) (x ∷ xs) d e = ap (λ t. x ∷ t) (table_self n xs d (omega arith))

  -- a table in two parts
  pub table_append : (m n : ℕ) (f : ℕ → A) → table (m + n) f ≡ table m f ++ table n (λ i. f (m + i))
  unfolding table
  table_append zero n f = rw (zero-add n) (table_cong n f (λ i. f (0 + i)) (λ i low. ap f (sym (zero-add i))))
  table_append (suc m) n f =
      let more : suc m + n ≡ suc (m + n) = omega arith in
      let rest = table_cong n (λ i. f (suc (m + i))) (λ i. f (suc m + i)) (λ i low. let e : suc (m + i) ≡ suc m + i = omega arith in ap f e) in
      rw more (ap (λ (t : List A). f 0 ∷ t) (table_append m n (λ i. f (suc i)) ∙ ap (λ (t : List A). table m (λ i. f (suc i)) ++ t) rest))

  -- before the first turn
  pub fill_none : (f : ℕ → A) (xs : List A) → xs ≡ fill_to f 0 xs
  unfolding fill_to
  fill_none f xs = refl

  -- one element more
  set_fill : (f : ℕ → A) (n : ℕ) (xs : List A) → set (fill_to f n xs) n (f n) ≡ fill_to f (suc n) xs
  unfolding fill_to
  set_fill f zero [] = refl
  set_fill f zero (x ∷ xs) = refl
  set_fill f (suc n) [] = refl
  set_fill f (suc n) (x ∷ xs) = ap (λ t. f 0 ∷ t) (set_fill (λ i. f (suc i)) n xs)

  -- a turn that stores v
  pub fill_more : (f : ℕ → A) (n : ℕ) (xs₀ xs : List A) (v : A) → xs ≡ fill_to f n xs₀ → v ≡ f n → set xs n v ≡ fill_to f (n + 1) xs₀
  fill_more f n xs₀ xs v e s = rw (s, e, add-one) (set_fill f n xs₀)

  -- half way an element that has not been reached is as it was
  pub fill_rest : (f : ℕ → A) (n i : ℕ) (xs : List A) (d : A) → n ≤ i → get_or (fill_to f n xs) i d ≡ get_or xs i d
  unfolding fill_to
  fill_rest f zero i xs d h = refl
  fill_rest f (suc n) i [] d h = refl
  fill_rest f (suc n) zero (x ∷ xs) d h = absurd (not-suc-le-zero h)
  fill_rest f (suc n) (suc i) (x ∷ xs) d h = fill_rest (λ j. f (suc j)) n i xs d (le_of_suc-le-suc h)

  -- all the elements
  fill_all : (f : ℕ → A) (n : ℕ) (xs : List A) → length xs ≡ n → fill_to f n xs ≡ table n f
  unfolding fill_to table
  fill_all f zero [] e = refl
  fill_all f zero (x ∷ xs) e = absurd (omega arith)
  fill_all f (suc n) [] e = absurd (omega arith)
  fill_all f (suc n) (x ∷ xs) e = ap (λ t. f 0 ∷ t) (fill_all (λ i. f (suc i)) n xs (omega arith))

  -- after the last turn
  pub fill_done : (f : ℕ → A) (n i : ℕ) (xs₀ xs : List A) → xs ≡ fill_to f i xs₀ → i ≤ n → n ≤ i → length xs₀ ≡ n → xs ≡ table n f
  fill_done f n i xs₀ xs e a b h = rw (e, le_antisymm a b) (fill_all f n xs₀ h)

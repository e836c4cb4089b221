-- Laws of specs/Total.antt.
use mathlib.Core.Path.{◌≡◌, refl}
use mathlib.Core.Logic.{⊎_elim}
use Prim.Native.Nat.{ℕ, zero, suc, ◌+◌, ◌*◌, ◌<◌, ◌≤◌}
use native.Mathlib.Nat.{not-suc-le-zero, le_of_suc-le-suc, le_refl, le_antisymm, eq-or-lt_of_le}
use native.Mathlib.Numerals.{add-one}
use native.Mathlib.Omega.{arith}
use Rattle.laws.specs.Total.{total}

-- one place more
pub total_more : (n : ℕ) (f : ℕ → ℕ) → total (n + 1) f ≡ total n f + f n
unfolding total
total_more n f = rw add-one

-- before the first turn of a loop
pub total_none : (f : ℕ → ℕ) → 0 ≡ total 0 f
unfolding total
total_none f = refl

-- a turn
pub total_turn : (i : ℕ) (f : ℕ → ℕ) {t v : ℕ} → t ≡ total i f → v ≡ f i → t + v ≡ total (i + 1) f
total_turn i f e h = rw (total_more, e, h)

-- after the last turn
pub total_done : (n i : ℕ) (f : ℕ → ℕ) (t : ℕ) → t ≡ total i f → i ≤ n → n ≤ i → t ≡ total n f
total_done n i f t e l g = rw (e, le_antisymm l g)

-- equal parts
pub total_cong : (n : ℕ) (f g : ℕ → ℕ) → ((i : ℕ) → i < n → f i ≡ g i) → total n f ≡ total n g
unfolding total
total_cong zero f g h = refl
total_cong (suc n) f g h = omega (arith, h n (omega arith), total_cong n f g (λ i l. h i (omega arith)))

-- no parts
pub total_zero : (n : ℕ) (f : ℕ → ℕ) → ((i : ℕ) → i < n → f i ≡ 0) → total n f ≡ 0
unfolding total
total_zero zero f h = refl
total_zero (suc n) f h = omega (arith, h n (omega arith), total_zero n f (λ i l. h i (omega arith)))

-- more places, no smaller sum
pub total_grows : (f : ℕ → ℕ) (m n : ℕ) → m ≤ n → total m f ≤ total n f
unfolding total
total_grows f m zero h = let e : m ≡ 0 = omega arith in rw e (le_refl 0)
total_grows f m (suc n) h =
    ⊎_elim (λ e. rw e (le_refl _)) (λ l. let g : total m f ≤ total n f = total_grows f m n (le_of_suc-le-suc l) in omega arith)
    (eq-or-lt_of_le h)

-- the sum of two parts at each place
pub total_plus : (n : ℕ) (f g : ℕ → ℕ) → total n (λ i. f i + g i) ≡ total n f + total n g
unfolding total
total_plus zero f g = refl
total_plus (suc n) f g = omega (arith, total_plus n f g)

-- one part that is larger by d
pub total_one : (n : ℕ) (f g : ℕ → ℕ) (i d : ℕ) → i < n → g i ≡ f i + d → ((j : ℕ) → j < n → (j ≡ i → ⊥) → g j ≡ f j) → total n g ≡ total n f + d
unfolding total
total_one zero f g i d l e same = absurd (not-suc-le-zero l)
total_one (suc n) f g i d l e same =
    ⊎_elim
    (λ q. let rest = total_cong n g f (λ j m. same j (omega arith) (λ z. omega arith)) in let last : g n ≡ f n + d = rw (← q) e in omega arith)
    (λ m. let rest = total_one n f g i d m e (λ j k. same j (omega arith)) in let last = same n (omega arith) (λ z. omega arith) in omega arith)
    (eq-or-lt_of_le (le_of_suc-le-suc l))

-- parts that are at most m each
pub total_within : (n m : ℕ) (f : ℕ → ℕ) → ((i : ℕ) → f i ≤ m) → total n f ≤ n * m
unfolding total
total_within zero m f h = omega arith
total_within (suc n) m f h = omega (arith, h n, total_within n m f h)

-- the first one apart
pub total_first : (n : ℕ) (f : ℕ → ℕ) → total (suc n) f ≡ f 0 + total n (λ i. f (suc i))
unfolding total
total_first zero f = omega arith
total_first (suc n) f = let e = total_first n f in omega arith

-- A count that goes round, and a list read from its end.
use Rattle.std.specs.Prelude.{if◌then◌else◌}
use mathlib.Core.Path.{◌≡◌, refl, sym, ap, ◌∙◌}
use mathlib.Core.List.{List, [], ◌∷◌, map, reverse, reverse_aux}
use Prim.Native.Nat.{ℕ, zero, suc, ◌+◌, ◌-◌, ◌*◌, ◌/◌, ◌%◌, ◌<◌, ◌≤◌}
use native.Mathlib.Nat.{div-add-mod', suc-mul, mod-lt}
use native.Mathlib.Omega.{arith}
use lib.Dec.{ltb}
use lib.ListN.{length, get_or, take}
use lib.Arith.{digits_mod}
use borrow.Author.Tests.{ltb-true, ltb-false}
use Rattle.laws.proofs.Tests.{by_test}

-- one more, and from 0 again
pub round : (n m : ℕ) → 0 < m → suc n % m ≡ (if ltb (n % m + 1) m then n % m + 1 else 0)
round n m h =
    let below = mod-lt n h in
    by_test (ltb (n % m + 1) m)
    (λ t. rw t (
    let e : suc n ≡ n / m * m + (n % m + 1) = omega (arith, div-add-mod' n m) in
    ap (λ (k : ℕ). k % m) e ∙ digits_mod (n / m) (ltb-true (n % m + 1) m t)
    ))
    (λ f. rw f (
    let last : n % m + 1 ≡ m = omega (arith, below, ltb-false (n % m + 1) m f) in
    let e : suc n ≡ suc (n / m) * m + 0 = rw suc-mul (omega (arith, div-add-mod' n m)) in
    ap (λ (k : ℕ). k % m) e ∙ digits_mod (suc (n / m)) h
    ))

module _ {A : Type 0} where
  -- behind a list that was turned round stands what was there
  behind : (l r : List A) (i : ℕ) (d : A) → length l ≤ i → get_or (reverse_aux l r) i d ≡ get_or r (i - length l) d
  behind [] r i d h = ap (λ (k : ℕ). get_or r k d) (omega arith)
  behind (x ∷ l) r i d h =
      behind l (x ∷ r) i d (omega arith)
      ∙ ap (λ (k : ℕ). get_or (x ∷ r) k d) (let e : i - length l ≡ suc (i - suc (length l)) = omega arith in e)

  -- in it they stand from its end
  turned : (l r : List A) (i : ℕ) (d : A) → i < length l → get_or (reverse_aux l r) i d ≡ get_or l (length l - suc i) d
  turned [] r i d h = absurd (omega arith)
  turned (x ∷ l) r i d h =
      by_test (ltb i (length l))
      (λ t.
      let e : suc (length l) - suc i ≡ suc (length l - suc i) = omega (arith, ltb-true i (length l) t) in
      turned l (x ∷ r) i d (ltb-true i (length l) t) ∙ ap (λ (k : ℕ). get_or (x ∷ l) k d) (sym e))
      (λ f.
      let last : i - length l ≡ 0 = omega (arith, ltb-false i (length l) f) in
      let first : suc (length l) - suc i ≡ 0 = omega (arith, ltb-false i (length l) f) in
      behind l (x ∷ r) i d (ltb-false i (length l) f) ∙ ap (λ (k : ℕ). get_or (x ∷ r) k d) last ∙ ap (λ (k : ℕ). get_or (x ∷ l) k d) (sym first))

  -- a list read from its end
  pub reversed : (l : List A) (i : ℕ) (d : A) → i < length l → get_or (reverse l) i d ≡ get_or l (length l - suc i) d
  reversed l i d h = turned l [] i d h

-- a list of which each entry was turned into another: its front, its end first, an entry
module _ {A B : Type 0} (f : A → B) where
  pub take_map : (n : ℕ) (l : List A) → take n (map f l) ≡ map f (take n l)
  take_map zero l = refl
  take_map (suc n) [] = refl
  take_map (suc n) (x ∷ l) = ap (λ (r : List B). f x ∷ r) (take_map n l)

  turned_map : (l r : List A) → reverse_aux (map f l) (map f r) ≡ map f (reverse_aux l r)
  turned_map [] r = refl
  turned_map (x ∷ l) r = turned_map l (x ∷ r)

  pub reverse_map : (l : List A) → reverse (map f l) ≡ map f (reverse l)
  reverse_map l = turned_map l []

  pub at_map : (l : List A) (i : ℕ) (d : A) → get_or (map f l) i (f d) ≡ f (get_or l i d)
  at_map [] i d = refl
  at_map (x ∷ l) zero d = refl
  at_map (x ∷ l) (suc i) d = at_map l i d

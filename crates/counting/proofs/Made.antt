-- An array that a closure makes of each index, or of each element of another, is a table.
use mathlib.Core.Path.{◌≡◌, refl, sym, ap, subst, ◌∙◌}
use mathlib.Core.List.{List}
use Prim.Native.Nat.{ℕ, zero, suc, ◌+◌, ◌<◌, ◌≤◌}
use native.Mathlib.Omega.{arith}
use denote.Param.Members.{Mut, Called}
use lib.Dec.{eqb}
use lib.ListN.{get_or}
use borrow.Author.Tests.{eqb-true, eqb-false}
use Rattle.std.specs.Array.{IsFromFnResult, IsFromFnResultFrom, IsMapOf, MapsFrom}
use Rattle.laws.proofs.Tests.{by_test}
use Rattle.laws.specs.Tables.{table}
use Rattle.laws.proofs.Tables.{table_cong, table_self}

module _ {F B : Type 0} (g : Mut F (ℕ × Unit {0}) B) (f : F) (h : ℕ → B) (says : (i : ℕ) (y : B) (q : F) → Called g f (i, tt) y q → (q ≡ f) × (y ≡ h i)) where
  made_from : (ys : List B) (i n : ℕ) (p : F) → p ≡ f → IsFromFnResultFrom g p ys i n → (k : ℕ) → i ≤ k → k < i + n → (d : B) → get_or ys k d ≡ h k
  made_from ys i zero p e m k a b d = absurd (omega arith)
  made_from ys i (suc n) p e m k a b d =
      let s = says i m.1 m.0 (subst (λ (x : F). Called g x (i, tt) m.1 m.0) e m.3) in
      by_test (eqb k i)
      (λ t. rw (eqb-true k i t) (m.2.1 d ∙ s.1))
      (λ t. made_from ys (i + 1) n m.0 s.0 m.4 k (omega (arith, eqb-false k i t)) (omega arith) d)

  -- of each index: `says` is of each call of the closure
  pub made_table : (ys : List B) (n : ℕ) → IsFromFnResult g f ys n → ys ≡ table n h
  made_table ys n m =
      sym (table_self n ys (h 0) m.long) ∙ table_cong n (λ i. get_or ys i (h 0)) h (λ i l. made_from ys 0 n f refl m.each i (omega arith) (omega arith) (h 0))

module _ {F A B : Type 0} (g : Mut F (A × Unit {0}) B) (f : F) (h : A → B) (says : (x : A) (y : B) (q : F) → Called g f (x, tt) y q → (q ≡ f) × (y ≡ h x)) where
  mapped_from : (xs : List A) (ys : List B) (i n : ℕ) (p : F) → p ≡ f → MapsFrom g p xs ys i n → (k : ℕ) → i ≤ k → k < i + n → (d : A) (z : B) → get_or ys k z ≡ h (get_or xs k d)
  mapped_from xs ys i zero p e m k a b d z = absurd (omega arith)
  mapped_from xs ys i (suc n) p e m k a b d z =
      let s = says m.1 m.2 m.0 (subst (λ (x : F). Called g x (m.1, tt) m.2 m.0) e m.5) in
      by_test (eqb k i)
      (λ t. rw (eqb-true k i t) (m.4.1 z ∙ s.1 ∙ ap h (sym (m.3.1 d))))
      (λ t. mapped_from xs ys (i + 1) n m.0 s.0 m.6 k (omega (arith, eqb-false k i t)) (omega arith) d z)

  -- of each element
  pub mapped_table : (xs : List A) (ys : List B) (n : ℕ) (d : A) → IsMapOf g f xs ys n → ys ≡ table n (λ i. h (get_or xs i d))
  mapped_table xs ys n d m =
      let z = h d in
      sym (table_self n ys z m.long) ∙ table_cong n (λ i. get_or ys i z) (λ i. h (get_or xs i d)) (λ i l. mapped_from xs ys 0 n f refl m.each i (omega arith) (omega arith) d z)

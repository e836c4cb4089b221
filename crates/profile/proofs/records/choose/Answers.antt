-- `profile::records::choose` meets its contract: an array that a closure makes of each element of another is a table.
use mathlib.Core.Path.{◌≡◌, refl, sym, ap, subst, ◌∙◌}
use mathlib.Core.List.{List}
use Prim.Native.Nat.{ℕ, zero, suc, ◌+◌, ◌<◌, ◌≤◌}
use native.Mathlib.Omega.{arith}
use borrow.Author.Rules.{rules}
use borrow.Author.Tests.{eqb-true, eqb-false}
use denote.Param.Members.{Mut, Called}
use lib.Dec.{eqb}
use lib.ListN.{get_or}
use Rattle.std.specs.Array.{IsMapOf, MapsFrom}
use Rattle.laws.specs.Tables.{table}
use Rattle.laws.proofs.Tables.{table_cong, table_self}
use Rattle.laws.proofs.Tests.{by_test}
use Rattle.profile.specs.Records.{value_at, chosen_values}
use Rattle.profile.proofs.records.choose.Goals as goal

-- `says` is of each call of the closure
module _ {F A B : Type 0} (g : Mut F (A × Unit {0}) B) (f : F) (h : A → B) (says : (x : A) (y : B) (q : F) → Called g f (x, tt) y q → (q ≡ f) × (y ≡ h x)) where
  mapped_from : (xs : List A) (ys : List B) (i n : ℕ) (p : F) → p ≡ f → MapsFrom g p xs ys i n → (k : ℕ) → i ≤ k → k < i + n → (d : A) (z : B) → get_or ys k z ≡ h (get_or xs k d)
  mapped_from xs ys i zero p e m k a b d z = absurd (omega arith)
  mapped_from xs ys i (suc n) p e m k a b d z =
      let s = says m.1 m.2 m.0 (subst (λ (x : F). Called g x (m.1, tt) m.2 m.0) e m.5) in
      by_test (eqb k i)
      (λ t. rw (eqb-true k i t) (m.4.1 z ∙ s.1 ∙ ap h (sym (m.3.1 d))))
      (λ t. mapped_from xs ys (i + 1) n m.0 s.0 m.6 k (omega (arith, eqb-false k i t)) (omega arith) d z)

  -- of each element
  mapped_table : (xs : List A) (ys : List B) (n : ℕ) (d : A) → IsMapOf g f xs ys n → ys ≡ table n (λ i. h (get_or xs i d))
  mapped_table xs ys n d m =
      let z = h d in
      sym (table_self n ys z m.long) ∙ table_cong n (λ i. get_or ys i z) (λ i. h (get_or xs i d)) (λ i l. mapped_from xs ys 0 n f refl m.each i (omega arith) (omega arith) d z)

pub returns : goal.returns
unfolding chosen_values
returns c = mapped_table _ _ (value_at c.args.values) (λ x y q k. search rules) c.args.slots c.map.result 8 0 c.map.ensures.items

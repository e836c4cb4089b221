-- What an arm of a `match` on a number knows: one of its keys, a range, or none of the keys.
use mathlib.Core.Path.{◌≡◌, refl, subst, sym}
use mathlib.Core.Bool.{true, false, true≢false}
use mathlib.Core.List.{List, [], ◌∷◌}
use mathlib.Core.Logic.{inl, inr, ⊎_elim}
use Prim.Native.Nat.{ℕ, zero, suc, ◌+◌, ◌<◌, ◌≤◌}
use native.Mathlib.Nat.{eq-or-lt_of_le}
use native.Mathlib.Omega.{arith}
use lib.Dec.{eqb}
use borrow.Author.Tests.{eqb-true, ne_eqb}
use mir.Val.{has_key}
use types.Run.{OneOf}
use Rattle.laws.specs.Each.{Each}
use Rattle.laws.proofs.Tests.{by_test, or_right}

-- what holds of each key holds of the number that is one of them
pub at_keys : (P : ℕ → Type 0) (ks : List ℕ) (x : ℕ) → Each P ks → OneOf ks x → P x
at_keys P [] x each one = absurd one
at_keys P (k ∷ []) x each one = subst P (sym one) each.0
at_keys P (k ∷ (k' ∷ ks)) x each (inl e) = subst P (sym e) each.0
at_keys P (k ∷ (k' ∷ ks)) x each (inr one) = at_keys P (k' ∷ ks) x each.1 one

-- the n numbers from a on
abbrev pub from : ℕ → ℕ → List ℕ
from a zero = []
from a (suc n) = a ∷ from (suc a) n

-- what holds of each number of a range holds of the number that lies in it
pub in_range_lem : (P : ℕ → Type 0) (a n x : ℕ) → Each P (from a n) → a ≤ x → x < a + n → P x
in_range_lem P a zero x each low high = absurd (omega arith)
in_range_lem P a (suc n) x each low high =
    ⊎_elim (λ e. subst P e each.0) (λ l. in_range_lem P (suc a) n x each.1 l (omega arith)) (eq-or-lt_of_le low)

-- a number that is none of the keys differs from each
pub none_each : (ks : List ℕ) (x : ℕ) → (OneOf ks x → ⊥) → Each (λ k. x ≡ k → ⊥) ks
none_each [] x none = tt
none_each (k ∷ []) x none = (none, tt)
none_each (k ∷ (k' ∷ ks)) x none = (λ e. none (inl e), none_each (k' ∷ ks) x (λ one. none (inr one)))

-- a number that differs from each key fails the keys' test
pub not_key : (ks : List ℕ) (x : ℕ) → Each (λ k. x ≡ k → ⊥) ks → has_key ks x ≡ false
not_key [] x each = refl
not_key (k ∷ ks) x each = rw (ne_eqb k x (λ e. each.0 (sym e))) (not_key ks x each.1)

-- what holds of each key holds of the number that passes the keys' test
pub key_holds : (P : ℕ → Type 0) (ks : List ℕ) (x : ℕ) → Each P ks → has_key ks x ≡ true → P x
key_holds P [] x each e = absurd (true≢false (sym e))
key_holds P (k ∷ ks) x each e =
    by_test (eqb k x) (λ t. subst P (eqb-true k x t) each.0) (λ f. key_holds P ks x each.1 (or_right (eqb k x) (has_key ks x) f e))

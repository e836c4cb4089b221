-- The mask of an array that a closure makes: what `mask_of` is asked for, here and in the crates above.
use mathlib.Core.Path.{◌≡◌}
use mathlib.Core.Bool.{Bool, false}
use mathlib.Core.List.{List}
use Prim.Native.Nat.{ℕ, zero, suc, ◌+◌, ◌<◌}
use native.Mathlib.Nat.{not-suc-le-zero, zero-add}
use native.Mathlib.Omega.{arith}
use lib.ListN.{get_or}
use denote.Param.Members.{Mut, Called}
use Rattle.std.specs.Array.{IsFromFnResultFrom, IsFromFnResult}
use Rattle.laws.specs.Masks.{mask_of}
use Rattle.laws.proofs.Masks.{mask_cong}

module _ {F : Type 0} (g : Mut F (ℕ × Unit {0}) Bool) (p : ℕ → Bool) where
  -- what calls that leave the closure as it is give at each of n numbers from i on
  made_at : (n i : ℕ) (f : F) (ys : List Bool) → ((x : ℕ) (y : Bool) (q : F) → Called g f (x, tt) y q → (y ≡ p x) × (q ≡ f))
      → IsFromFnResultFrom g f ys i n → (k : ℕ) (e : Bool) → k < n → get_or ys (i + k) e ≡ p (i + k)
  made_at zero i f ys says m k e l = absurd (not-suc-le-zero l)
  made_at (suc n) i f ys says (q, y, at_y, call, rest) zero e l =
      let here : i + 0 ≡ i = omega arith in
      rw (here, at_y.1 e) ((says i y q call).0)
  made_at (suc n) i f ys says (q, y, at_y, call, rest) (suc k) e l =
      let same : q ≡ f = (says i y q call).1 in
      let place : i + suc k ≡ i + 1 + k = omega arith in
      rw place (made_at n (i + 1) f ys says (rw same at rest) k e (omega arith))

  -- the mask of such an array is that of the test
  pub mask_made : (n : ℕ) (f : F) (ys : List Bool) → ((x : ℕ) (y : Bool) (q : F) → Called g f (x, tt) y q → (y ≡ p x) × (q ≡ f))
      → IsFromFnResult g f ys n → mask_of n (λ i. get_or ys i false) ≡ mask_of n p
  mask_made n f ys says m = mask_cong n _ _ (λ i l. rw zero-add at (made_at n 0 f ys says m.each i false l))

-- Laws of a claim of each entry (specs/Each.antt): of a part of a list, of two one after the other, of what follows from it.
use mathlib.Core.List.{List, [], ◌∷◌, ◌++◌}
use Prim.Native.Nat.{ℕ, zero, suc}
use lib.ListN.{take, drop}
use Rattle.laws.specs.Each.{Each}

module _ {A : Type 0} (claim : A → Type 0) where
  pub each_take : (n : ℕ) (l : List A) → Each claim l → Each claim (take n l)
  each_take zero l h = tt
  each_take (suc n) [] h = tt
  each_take (suc n) (x ∷ xs) h = (h.0, each_take n xs h.1)

  pub each_drop : (n : ℕ) (l : List A) → Each claim l → Each claim (drop n l)
  each_drop zero l h = h
  each_drop (suc n) [] h = tt
  each_drop (suc n) (x ∷ xs) h = each_drop n xs h.1

  pub each_append : (xs ys : List A) → Each claim xs → Each claim ys → Each claim (xs ++ ys)
  each_append [] ys h g = g
  each_append (x ∷ xs) ys h g = (h.0, each_append xs ys h.1 g)

  pub each_so : (other : A → Type 0) → ((x : A) → claim x → other x) → (l : List A) → Each claim l → Each other l
  each_so other f [] h = tt
  each_so other f (x ∷ xs) h = (f x h.0, each_so other f xs h.1)

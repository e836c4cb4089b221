-- What is known of an array of the code, as its type has it: how long it is, and that each element is a value of its type.
use mathlib.Core.Path.{◌≡◌, sym, ◌∙◌}
use mathlib.Core.List.{List, [], ◌∷◌, map}
use Prim.Native.Nat.{ℕ, zero, suc}
use lib.ListN.{length, get_or, length-map}
use lib.IntN.{ℤ, pos}
use lib.Pow.{pow_pos}
use mir.Syntax.{Width}
use mir.Val.{Val, Fits, SFits, bits, hbits}
use denote.Plain.{UInt}
use denote.Signed.{SInt}
use denote.Shadow.{shadow}
use denote.Array.{each}
use denote.Struct.Field.{Field, array_field}
use Rattle.laws.specs.Each.{Each}

-- the length of a field that is an array of structs
pub length_mapped : {X Y : Type 0} (f : X → Y) (l : List X) (n : ℕ) → length (map f l) ≡ n → length l ≡ n
length_mapped f l n e = sym (length-map l f) ∙ e

-- an element of an array of numbers is one of its width; past the end `get_or` gives 0
pub elem_fits : (w : Width) (xs : List ℕ) (us : List Val) (i : ℕ) → shadow (each ℕ (UInt w).own_val xs us) → Fits w (get_or xs i 0)
elem_fits w [] us i p = record { fits = pow_pos (bits w) }
elem_fits w (x ∷ xs) [] i p = absurd p
elem_fits w (x ∷ xs) (u ∷ us) zero p = record { fits = p.0.1 }
elem_fits w (x ∷ xs) (u ∷ us) (suc i) p = elem_fits w xs us i p.1

-- and of signed ones
pub elem_sfits : (w : Width) (xs : List ℤ) (us : List Val) (i : ℕ) → shadow (each ℤ (SInt w).own_val xs us) → SFits w (get_or xs i (pos 0))
elem_sfits w [] us i p = record { sfits = pow_pos (hbits w) }
elem_sfits w (x ∷ xs) [] i p = absurd p
elem_sfits w (x ∷ xs) (u ∷ us) zero p = record { sfits = p.0.1 }
elem_sfits w (x ∷ xs) (u ∷ us) (suc i) p = elem_sfits w xs us i p.1

-- a claim that each value of the elements' type keeps holds of each element of a field that is an array
module _ (F : Field) (claim : F.Value → Type 0) (keeps : (x : F.Value) (us : List Val) → shadow (F.row.own_val (F.into x) us) → claim x) where
  each_element : (xs : List F.Value) (us : List Val) → shadow (each F.row.Denot F.row.own_val (map F.into xs) us) → Each claim xs
  each_element [] us p = tt
  each_element (x ∷ xs) [] p = absurd p
  each_element (x ∷ xs) (u ∷ us) p = (keeps x (u ∷ []) p.0, each_element xs us p.1)

  pub each_field : (n : ℕ) (xs : List F.Value) (vs : List Val) → shadow ((array_field F n).row.own_val (map F.into xs) vs) → Each claim xs
  each_field n xs vs p = each_element xs p.0 p.1.1

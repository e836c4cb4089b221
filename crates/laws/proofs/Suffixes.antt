-- What is known of a list from a place on: its letter there, what follows it, how long the list is.
use mathlib.Core.Path.{◌≡◌, sym, ap, ◌∙◌}
use mathlib.Core.List.{List, ◌∷◌, ◌++◌}
use Prim.Native.Nat.{ℕ, suc, ◌+◌, ◌<◌}
use native.Mathlib.Numerals.{add-one}
use native.Mathlib.Omega.{arith}
use borrow.Author.Tests.{leb-true, leb-false}
use lib.Dec.{leb}
use lib.ListN.{length, get_or, drop, length-drop, get_or-eq_default}
use lib.Seq.{drop-cons, drop-drop, drop-append_seam, get_or-drop}
use Rattle.laws.proofs.Tests.{by_test}

module _ (l : List ℕ) (k : ℕ) where
  -- the letter there
  pub head_at : (b : ℕ) (s : List ℕ) → drop k l ≡ b ∷ s → get_or l k 0 ≡ b
  head_at b s e = let z : k ≡ k + 0 = omega arith in ap (λ i. get_or l i 0) z ∙ sym (get_or-drop k l 0 0) ∙ ap (λ r. get_or r 0 0) e

  -- what follows it
  pub next_at : (b : ℕ) (s : List ℕ) → drop k l ≡ b ∷ s → drop (k + 1) l ≡ s
  next_at b s e = sym (drop-drop 1 k l) ∙ ap (drop 1) e

  -- how long the list is
  pub length_at : (b : ℕ) (s : List ℕ) → drop k l ≡ b ∷ s → length l ≡ k + suc (length s)
  length_at b s e = let n = ap length e in let m = length-drop k l in omega arith

  -- what stands behind a part
  pub over_at : (xs s : List ℕ) → drop k l ≡ xs ++ s → drop (k + length xs) l ≡ s
  over_at xs s e = sym (drop-drop (length xs) k l) ∙ ap (drop (length xs)) e ∙ drop-append_seam xs s

  -- a letter that is not 0 stands in the list
  pub inside : (b : ℕ) → 0 < b → get_or l k 0 ≡ b → k < length l
  inside b h e =
      by_test (leb (length l) k)
      (λ t. let d = get_or-eq_default l 0 (leb-true (length l) k t) in absurd (omega arith))
      (λ t. leb-false (length l) k t)

  -- the list from a letter on
  pub from_letter : k < length l → drop k l ≡ get_or l k 0 ∷ drop (k + 1) l
  from_letter h = let n = add-one k in rw n (drop-cons l k 0 h)

  pub at_letter : (b : ℕ) → 0 < b → get_or l k 0 ≡ b → drop k l ≡ b ∷ drop (k + 1) l
  at_letter b h e = from_letter (inside b h e) ∙ rw e

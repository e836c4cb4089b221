-- Laws of numbers (specs/Numbers.antt): turns of the loop that reads one.
use mathlib.Core.Path.{◌≡◌}
use mathlib.Core.Bool.{Bool, true, false, ◌&&◌}
use mathlib.Core.List.{List}
use Prim.Native.Nat.{ℕ, ◌+◌, ◌-◌, ◌*◌, ◌≤◌, ◌<◌}
use native.Mathlib.Numerals.{add-one}
use native.Mathlib.Omega.{arith}
use borrow.Author.Tests.{lt-leb, le-leb}
use lib.Dec.{leb}
use lib.ListN.{length, get_or, drop, drop_of_length-le}
use lib.Seq.{drop-cons}
use Rattle.laws.specs.Decimals.{is_digit, digits, value_from}
use Rattle.laws.proofs.Tests.{by_test}
use Rattle.laws.proofs.Decimals.{grows}

-- digits after n, and the number that they make with it is at most `most`
unfoldable pub goes_on : ℕ → ℕ → List ℕ → Bool
goes_on most n l = digits l && leb (value_from n l) most

-- a number that is too large stays so
pub too_large : (most n : ℕ) (l : List ℕ) → most < n → goes_on most n l ≡ false
unfolding goes_on
too_large most n l h =
    let g : most < value_from n l = (let k = grows n l in omega arith) in
    by_test (digits l) (λ e. rw (e, lt-leb _ _ g)) (λ e. rw e)

module _ (most n : ℕ) (l : List ℕ) (i : ℕ) where
  pub on_turn : i < length l → is_digit (get_or l i 0) ≡ true → goes_on most n (drop i l) ≡ goes_on most (n * 10 + (get_or l i 0 - 48)) (drop (i + 1) l)
  unfolding goes_on digits value_from
  on_turn h e = rw (add-one i, drop-cons l i 0, e)

  pub on_letter : i < length l → is_digit (get_or l i 0) ≡ false → goes_on most n (drop i l) ≡ false
  unfolding goes_on digits value_from
  on_letter h e = rw (drop-cons l i 0, e)

  pub on_end : length l ≤ i → n ≤ most → goes_on most n (drop i l) ≡ true
  unfolding goes_on digits value_from
  on_end h g = rw (drop_of_length-le l h, le-leb n most g)

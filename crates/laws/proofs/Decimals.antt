-- Laws of decimal digits (specs/Decimals.antt): what they make one after another, how large it is, and turns of a loop that reads a number.
use mathlib.Core.Path.{◌≡◌, refl}
use mathlib.Core.Bool.{true}
use mathlib.Core.List.{List, [], ◌∷◌, ◌++◌}
use Prim.Native.Nat.{ℕ, ◌+◌, ◌-◌, ◌*◌, ◌^◌, ◌≤◌, ◌<◌}
use native.Mathlib.Nat.{add-mul, mul_assoc, mul_comm, mul-le-mul_right, pow-suc}
use native.Mathlib.Numerals.{add-one}
use native.Mathlib.Omega.{arith}
use borrow.Author.Tests.{leb-true}
use lib.Dec.{leb}
use lib.ListN.{length, get_or, drop, drop_of_length-le}
use lib.Seq.{drop-cons}
use Rattle.laws.specs.Decimals.{is_digit, digits, value_from}
use Rattle.laws.specs.Each.{Each}
use Rattle.laws.proofs.Tests.{and_left, and_right, and_both}

-- digits make a number no smaller
pub grows : (n : ℕ) (l : List ℕ) → n ≤ value_from n l
unfolding value_from
grows n [] = omega arith
grows n (b ∷ rest) = let h = grows (n * 10 + (b - 48)) rest in omega arith

-- digits one after another
pub value_append : (n : ℕ) (xs ys : List ℕ) → value_from n (xs ++ ys) ≡ value_from (value_from n xs) ys
unfolding value_from
value_append n [] ys = refl
value_append n (b ∷ rest) ys = value_append (n * 10 + (b - 48)) rest ys

-- what stands in front of digits goes up by ten with each of them
pub value_split : (n : ℕ) (l : List ℕ) → value_from n l ≡ n * 10 ^ length l + value_from 0 l
unfolding value_from
value_split n [] = omega arith
value_split n (b ∷ rest) =
    let t = 10 ^ length rest in
    let d = b - 48 in
    let e = value_split (n * 10 + d) rest in
    let f = value_split d rest in
    let g : (n * 10 + d) * t ≡ n * (t * 10) + d * t = (let a = add-mul (n * 10) d t in let m = mul_assoc n 10 t in let k = mul_comm 10 t in rw (a, m, k) refl) in
    let z : 0 * 10 + d ≡ d = omega arith in
    rw (z, pow-suc 10 (length rest), f, e, g) (omega arith)

-- as many digits make a number below ten to their count
pub value_below : (l : List ℕ) → Each (λ b. is_digit b ≡ true) l → value_from 0 l < 10 ^ length l
unfolding value_from
value_below [] h = omega arith
value_below (b ∷ rest) h =
    let t = 10 ^ length rest in
    let d = b - 48 in
    let r = value_below rest h.1 in
    let le = leb-true b 57 (and_right (leb 48 b) (leb b 57) h.0) in
    let s : d * t ≤ 9 * t = mul-le-mul_right t (omega arith) in
    let z : 0 * 10 + d ≡ d = omega arith in
    rw (z, pow-suc 10 (length rest), value_split d rest) (omega arith)

-- they are zeros where the number is 0
pub value_zero : (l : List ℕ) → Each (λ b. is_digit b ≡ true) l → value_from 0 l ≡ 0 → Each (λ b. b ≡ 48) l
unfolding value_from
value_zero [] h e = tt
value_zero (b ∷ rest) h e =
    let z : 0 * 10 + (b - 48) ≡ b - 48 = omega arith in
    let g = grows (0 * 10 + (b - 48)) rest in
    let ge = leb-true 48 b (and_left (leb 48 b) (leb b 57) h.0) in
    let d : b ≡ 48 = omega arith in
    let k : 0 * 10 + (b - 48) ≡ 0 = omega arith in
    (d, value_zero rest h.1 (rw k at e))

-- and zeros make 0
pub zeros_value : (l : List ℕ) → Each (λ b. b ≡ 48) l → value_from 0 l ≡ 0
unfolding value_from
zeros_value [] h = refl
zeros_value (b ∷ rest) h = rw h.0 (zeros_value rest h.1)

-- all letters are digits: as a test, and of each
pub digits_each : (l : List ℕ) → digits l ≡ true → Each (λ b. is_digit b ≡ true) l
unfolding digits
digits_each [] h = tt
digits_each (b ∷ rest) h = (and_left (is_digit b) (digits rest) h, digits_each rest (and_right (is_digit b) (digits rest) h))

pub each_digits : (l : List ℕ) → Each (λ b. is_digit b ≡ true) l → digits l ≡ true
unfolding digits
each_digits [] h = refl
each_digits (b ∷ rest) h = and_both (is_digit b) (digits rest) h.0 (each_digits rest h.1)

-- one digit more, and the end
module _ (n : ℕ) (l : List ℕ) (i : ℕ) where
  pub value_turn : i < length l → value_from n (drop i l) ≡ value_from (n * 10 + (get_or l i 0 - 48)) (drop (i + 1) l)
  unfolding value_from
  value_turn h = rw (add-one i, drop-cons l i 0)

  pub value_end : length l ≤ i → value_from n (drop i l) ≡ n
  unfolding value_from
  value_end h = rw (drop_of_length-le l h)

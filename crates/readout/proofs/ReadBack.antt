-- A number written with the stated decimals and read back is the same number, also from the line of a data set (specs/Laws.antt, NumberReadBack and LineReadBack).
use mathlib.Core.Path.{◌≡◌, refl, ap, ◌∙◌}
use mathlib.Core.Bool.{Bool, true, false}
use mathlib.Core.List.{List, [], ◌∷◌, ◌++◌}
use Prim.Native.Nat.{ℕ, suc, ◌/◌, ◌^◌, ◌≤◌, ◌<◌, zero-le}
use native.Mathlib.Nat.{lt_of_le_of_lt, div-le_self}
use native.Mathlib.Omega.{arith}
use borrow.Author.Tests.{le-leb, ne_eqb, leb-true}
use lib.Dec.{leb, lit<}
use lib.IntN.{ℤ, pos, negsuc}
use lib.ListN.{length, length-append}
use lib.Seq.{take-append_seam}
use Rattle.laws.specs.Decimals.{is_digit, value_from}
use Rattle.laws.proofs.Decimals.{value_append}
use Rattle.laws.proofs.Digits.{decimal_digits, decimal_some, decimal_most, decimal_value, last_digits_lem, last_length, last_value}
use Rattle.laws.proofs.Each.{each_append, each_so}
use Rattle.laws.proofs.Tests.{and_left, and_right}
use Rattle.readout.specs.DataSets.{AllOf, DataSet, IsDataSet, starred, line_of, value_letter}
use Rattle.readout.specs.Numbers.{Decimal, sign_text, pointed, text_of, IsDecimal, whole_number, decimal_for, written_with}
use Rattle.readout.specs.Answers.{line_number}
use Rattle.readout.specs.Laws.{Written, NumberReadBack, LineReadBack}
use Rattle.readout.proofs.Splits.{each_found, value_from_lem}
use Rattle.readout.proofs.Written.{each}

-- a number below ten digits, as it is written
module _ (minus : Bool) (n d : ℕ) (small : n < 10 ^ 10) where
  abbrev w : Decimal
  w = decimal_for minus n d

  is_decimal_lem : IsDecimal w
  is_decimal_lem = record { some = decimal_some 9 (n / 10 ^ d); whole_digits = decimal_digits 10 (n / 10 ^ d); fraction_digits = last_digits_lem d n }

  all_value : value_from 0 (w.whole ++ w.fraction) ≡ n
  all_value =
      value_append 0 w.whole w.fraction
      ∙ ap (λ m. value_from m w.fraction) (decimal_value 10 (n / 10 ^ d) (lt_of_le_of_lt (div-le_self n (10 ^ d)) small) (omega arith))
      ∙ last_value d n

  is_written : Written (text_of w) d n w
  is_written = record { rules = is_decimal_lem; same = refl; is = rw (all_value, last_length d n) }

pub number_read_back : NumberReadBack
number_read_back (pos n) d h l =
    let s : n < 10 ^ 10 = lt_of_le_of_lt h (lit< tt) in
    each _ d n (decimal_for false n d) l (is_written false n d s) ∙ rw (le-leb n 2147483647 h)
number_read_back (negsuc n) d h l =
    let s : suc n < 10 ^ 10 = lt_of_le_of_lt h (lit< tt) in
    each _ d (suc n) (decimal_for true (suc n) d) l (is_written true (suc n) d s) ∙ rw (le-leb (suc n) 2147483648 h)

-- a digit may stand in a value
digit_in_value : (b : ℕ) → is_digit b ≡ true → value_letter b ≡ true
digit_in_value b t =
    let low = leb-true 48 b (and_left (leb 48 b) (leb b 57) t) in
    let high = leb-true b 57 (and_right (leb 48 b) (leb b 57) t) in
    rw (
      le-leb 32 b (omega arith),
      le-leb b 126 (omega arith),
      ne_eqb b 40 (λ e. omega arith),
      ne_eqb b 41 (λ e. omega arith),
      ne_eqb b 47 (λ e. omega arith),
      ne_eqb b 33 (λ e. omega arith),
      ne_eqb b 42 (λ e. omega arith),
    )

-- so may sign and point
letters_in : (l : List ℕ) → AllOf is_digit l → AllOf value_letter l
letters_in l h = each_so (λ b. is_digit b ≡ true) (λ b. value_letter b ≡ true) digit_in_value l h

pointed_in : (f : List ℕ) → AllOf is_digit f → AllOf value_letter (pointed f)
pointed_in [] h = tt
pointed_in (b ∷ rest) h = (refl, letters_in (b ∷ rest) h)

sign_in : (minus : Bool) → AllOf value_letter (sign_text minus)
sign_in true = (refl, tt)
sign_in false = tt

pointed_length : (f : List ℕ) → length (pointed f) ≤ suc (length f)
pointed_length [] = zero-le
pointed_length (b ∷ rest) = omega arith

sign_length : (minus : Bool) → length (sign_text minus) ≤ 1
sign_length true = omega arith
sign_length false = zero-le

-- a number as it is written may stand as a value
pub record InValue (text : List ℕ) : Type 0 where
  pub letters : AllOf value_letter text
  pub least : 1 ≤ length text
  pub most : length text ≤ 32

in_value : (minus : Bool) (n d : ℕ) → d ≤ 9 → InValue (text_of (decimal_for minus n d))
in_value minus n d l =
    let w = decimal_for minus n d in
    let digits = w.whole ++ pointed w.fraction in
    let a = length-append (sign_text minus) digits in
    let b = length-append w.whole (pointed w.fraction) in
    let c = sign_length minus in
    let e = pointed_length w.fraction in
    let f = last_length d n in
    let g = decimal_most 10 (n / 10 ^ d) in
    let h = decimal_some 9 (n / 10 ^ d) in
    record {
      letters =
          each_append (λ b. value_letter b ≡ true) (sign_text minus) digits (sign_in minus)
          (each_append (λ b. value_letter b ≡ true) w.whole (pointed w.fraction) (letters_in w.whole (decimal_digits 10 (n / 10 ^ d)))
          (pointed_in w.fraction (last_digits_lem d n)));
      least = omega arith;
      most = omega arith;
    }

written_in : (z : ℤ) (d : ℕ) → d ≤ 9 → InValue (written_with z d)
written_in (pos n) d l = in_value false n d l
written_in (negsuc n) d l = in_value true (suc n) d l

-- the number of a data set's line is that of its value
pub line_value : (d : DataSet) → IsDataSet d → (decimals : ℕ) → line_number (line_of d) decimals ≡ whole_number d.value decimals
unfolding line_number
line_value d r decimals = rw (each_found d r, value_from_lem d r, take-append_seam d.value (starred d.unit ++ (41 ∷ [])))

pub line_read_back : LineReadBack
line_read_back z decimals h l d r =
    let i = written_in z decimals l in
    line_value (record { address = d.address; value = written_with z decimals; unit = d.unit })
    (record {
      address_letters = r.address_letters;
      address_length = r.address_length;
      value_letters = i.letters;
      value_length = (i.least, i.most);
      unit_letters = r.unit_letters;
      unit_length = r.unit_length;
    })
    decimals
    ∙ number_read_back z decimals h l

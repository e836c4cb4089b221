-- Each number is read as it is written, and each text that is not 18 is a number as it is written (specs/Laws.antt, NumberAsWritten).
use mathlib.Core.Path.{◌≡◌, refl, sym, ap, ◌∙◌}
use mathlib.Core.Bool.{Bool, true, false, ◌&&◌, ◌||◌}
use mathlib.Core.List.{List, [], ◌∷◌, ◌++◌, append-nil}
use mathlib.Core.Logic.{◌⊎◌, inl, inr}
use Prim.Native.Nat.{ℕ, ◌+◌, ◌-◌, ◌*◌, ◌/◌, ◌%◌, ◌^◌, ◌≤◌}
use native.Mathlib.Nat.{not-suc-le-zero, mul-mod_left, mul-div_cancel, one-le-pow, div-add-mod'}
use native.Mathlib.Omega.{arith}
use borrow.Author.Tests.{lt-ltb, le-ltb, eq-eqb, ne_eqb, ltb-true, ltb-false, eqb-true, leb-true}
use lib.Dec.{ltb, leb, eqb}
use lib.ListN.{length, get_or, take, drop, length-drop, take-append-drop, drop_of_length-le}
use lib.Seq.{take_all, length-take-le, take-append_seam, drop-append_seam}
use Rattle.laws.specs.Answers.{given, refused}
use Rattle.laws.specs.Decimals.{is_digit, digits, value_from}
use Rattle.laws.specs.Leading.{leading}
use Rattle.laws.proofs.Decimals.{digits_each, each_digits}
use Rattle.laws.proofs.Leading.{leading_exactly, leading_all, leading_each, leading_most}
use Rattle.laws.proofs.Suffixes.{head_at, next_at, length_at, at_letter}
use Rattle.laws.proofs.Tests.{by_test, and_left, and_right, or_right}
use Rattle.readout.specs.DataSets.{AllOf}
use Rattle.readout.specs.Numbers.{Decimal, sign_text, pointed, has_minus, unsigned, before_point, behind_point, is_decimal, size_of, in32_bits, whole_number}
use Rattle.readout.specs.Laws.{Written, NumberAsWritten}

-- From what is written to its number

-- digits, and perhaps a point with digits behind it
module _ (whole fraction : List ℕ) (some : 1 ≤ length whole) (h : AllOf is_digit whole) (g : AllOf is_digit fraction) where
  abbrev u : List ℕ
  u = whole ++ pointed fraction

  whole_count : (f : List ℕ) → leading is_digit (whole ++ pointed f) ≡ length whole
  whole_count [] = rw (append-nil whole) (leading_all is_digit whole h)
  whole_count (b ∷ rest) = leading_exactly is_digit whole 46 (b ∷ rest) h refl

  before_is : before_point u ≡ whole
  before_is = rw (whole_count fraction) (take-append_seam whole (pointed fraction))

  behind_is : (f : List ℕ) → behind_point (whole ++ pointed f) ≡ f
  behind_is [] =
      let past : length whole ≤ length whole + 1 = omega arith in
      rw (whole_count [], append-nil whole) (drop_of_length-le whole past)
  behind_is (b ∷ rest) = rw (whole_count (b ∷ rest)) (next_at (whole ++ (46 ∷ b ∷ rest)) (length whole) 46 (b ∷ rest) (drop-append_seam whole (46 ∷ b ∷ rest)))

  decimal_is : (f : List ℕ) → AllOf is_digit f → is_decimal (whole ++ pointed f) ≡ true
  unfolding is_decimal
  decimal_is [] k =
      let n = length whole in
      rw (whole_count [], append-nil whole, lt-ltb 0 n some, eq-eqb n n refl)
  decimal_is (b ∷ rest) k =
      let n = length whole in
      let line = whole ++ (46 ∷ b ∷ rest) in
      let from : drop n line ≡ 46 ∷ b ∷ rest = drop-append_seam whole (46 ∷ b ∷ rest) in
      let l = length_at line n 46 (b ∷ rest) from in
      rw (
        behind_is (b ∷ rest),
        whole_count (b ∷ rest),
        lt-ltb 0 n some,
        ne_eqb n (length line) (λ e. omega arith),
        head_at line n 46 (b ∷ rest) from,
        lt-ltb (n + 1) (length line) (omega arith),
        each_digits (b ∷ rest) k,
      )

  size_is : (d n : ℕ) → value_from 0 (whole ++ fraction) * 10 ^ d ≡ n * 10 ^ length fraction → size_of u d ≡ given n
  unfolding size_of
  size_is d n e =
      let over = 10 ^ length fraction in
      rw (
        decimal_is fraction g,
        before_is,
        behind_is fraction,
        e,
        mul-mod_left n over,
        mul-div_cancel n (one-le-pow (length fraction) 10 (omega arith)),
      )

  -- no digit is a minus
  no_minus : (w : List ℕ) → 1 ≤ length w → AllOf is_digit w → (r : List ℕ) → has_minus (w ++ r) ≡ false
  no_minus [] l k r = absurd (not-suc-le-zero l)
  no_minus (b ∷ rest) l k r = ne_eqb b 45 (λ e. let d = leb-true 48 b (and_left (leb 48 b) (leb b 57) k.0) in absurd (omega arith))

  number_is : (minus : Bool) (d n : ℕ) → d ≤ 9 → value_from 0 (whole ++ fraction) * 10 ^ d ≡ n * 10 ^ length fraction
      → whole_number (sign_text minus ++ u) d ≡ in32_bits minus (given n)
  unfolding whole_number
  number_is true d n l e = rw (le-ltb 9 d l, size_is d n e)
  number_is false d n l e = rw (le-ltb 9 d l, no_minus whole some h (pointed fraction), size_is d n e)

pub each : (text : List ℕ) (decimals n : ℕ) (w : Decimal) → decimals ≤ 9 → Written text decimals n w → whole_number text decimals ≡ in32_bits w.minus (given n)
each text decimals n w l r =
    let k = r.rules in
    rw (← r.same) (number_is w.whole w.fraction k.some k.whole_digits k.fraction_digits w.minus decimals n l r.is)

-- From a text to what is written

-- digits behind the point
pointed_some : (f : List ℕ) → 1 ≤ length f → pointed f ≡ 46 ∷ f
pointed_some [] h = absurd (not-suc-le-zero h)
pointed_some (b ∷ rest) h = refl

-- a text without its sign, taken apart
module _ (u : List ℕ) where
  -- the test of a decimal says how it is put together
  pub record Apart : Type 0 where
    pub some : 1 ≤ length (before_point u)
    pub fraction_digits : AllOf is_digit (behind_point u)
    pub same : before_point u ++ pointed (behind_point u) ≡ u

  apart : is_decimal u ≡ true → Apart
  unfolding is_decimal
  apart t =
      let n = leading is_digit u in
      let f = behind_point u in
      let with_point = eqb (get_or u n 0) 46 && ltb (n + 1) (length u) && digits f in
      let one = ltb-true 0 n (and_left (ltb 0 n) (eqb n (length u) || with_point) t) in
      let size : length (take n u) ≡ n = length-take-le n u (leading_most is_digit u) in
      by_test (eqb n (length u))
      (λ e.
      let all : n ≡ length u = eqb-true n (length u) e in
      let past : length u ≤ n + 1 = omega arith in
      let none : f ≡ [] = drop_of_length-le u past in
      record { some = rw size one; fraction_digits = rw none tt; same = rw none (append-nil (take n u) ∙ take_all n u (omega arith)) })
      (λ e.
      let p = or_right (eqb n (length u)) with_point e (and_right (ltb 0 n) (eqb n (length u) || with_point) t) in
      let front = and_left (eqb (get_or u n 0) 46 && ltb (n + 1) (length u)) (digits f) p in
      let point = eqb-true (get_or u n 0) 46 (and_left (eqb (get_or u n 0) 46) (ltb (n + 1) (length u)) front) in
      let more = ltb-true (n + 1) (length u) (and_right (eqb (get_or u n 0) 46) (ltb (n + 1) (length u)) front) in
      let k : length f ≡ length u - (n + 1) = length-drop (n + 1) u in
      record {
        some = rw size one;
        fraction_digits = digits_each f (and_right (eqb (get_or u n 0) 46 && ltb (n + 1) (length u)) (digits f) p);
        same = rw (pointed_some f (omega arith)) (ap (λ r. take n u ++ r) (sym (at_letter u n 46 (omega arith) point)) ∙ take-append-drop n u);
      })

-- a minus stands in front of what follows it
minus_front : (text : List ℕ) → has_minus text ≡ true → 45 ∷ drop 1 text ≡ text
minus_front text t = let e = eqb-true (get_or text 0 0) 45 t in sym (at_letter text 0 45 (omega arith) e)

sign_front : (text : List ℕ) → sign_text (has_minus text) ++ unsigned text ≡ text
sign_front text = by_test (has_minus text) (λ t. rw t (minus_front text t)) (λ t. rw t)

found : (text : List ℕ) (decimals : ℕ) → (whole_number text decimals ≡ refused 18 0) ⊎ ((decimals ≤ 9) × (n : ℕ) × (w : Decimal) × Written text decimals n w)
unfolding whole_number size_of
found text decimals =
    let u = unsigned text in
    let scaled = value_from 0 (before_point u ++ behind_point u) * 10 ^ decimals in
    let over = 10 ^ length (behind_point u) in
    by_test (ltb 9 decimals) (λ t. inl (rw t))
    (λ t.
    by_test (is_decimal u && eqb (scaled % over) 0)
    (λ k.
    let a = apart u (and_left (is_decimal u) (eqb (scaled % over) 0) k) in
    let z = eqb-true (scaled % over) 0 (and_right (is_decimal u) (eqb (scaled % over) 0) k) in
    inr (
      ltb-false 9 decimals t,
      scaled / over,
      record { minus = has_minus text; whole = before_point u; fraction = behind_point u },
      record {
        rules = record { some = a.some; whole_digits = leading_each is_digit u; fraction_digits = a.fraction_digits };
        same = ap (λ r. sign_text (has_minus text) ++ r) a.same ∙ sign_front text;
        is = let q = div-add-mod' scaled over in omega arith;
      },
    ))
    (λ k. inl (rw (t, k))))

pub number_as_written : NumberAsWritten
number_as_written = record { each = each; found = found }

-- The laws of specs/Laws.antt on numbers, registers' fields, dates and times: what is shown is the number, with its sign and at its width, and a reader of data sets reads it so.
use Rattle.std.specs.Prelude.{if◌then◌else◌}
use mathlib.Core.Path.{◌≡◌, refl, sym, ap, ◌∙◌}
use mathlib.Core.Bool.{Bool, true, false, true≢false}
use mathlib.Core.List.{List, [], ◌∷◌, ◌++◌, append_assoc}
use mathlib.Core.Logic.{inl, inr}
use Prim.Native.Nat.{ℕ, suc, ◌+◌, ◌-◌, ◌*◌, ◌/◌, ◌^◌, ◌≤◌, ◌<◌, max}
use native.Mathlib.Nat.{mul-one, lt_of_le_of_lt, lt_trans, div-le_self, div-eq_of_lt}
use native.Mathlib.Omega.{arith}
use borrow.Author.Tests.{le-leb, lt-leb, ltb-false}
use lib.Dec.{ltb, lit<}
use lib.IntN.{ℤ, pos, negsuc}
use lib.ListN.{length, replicate, length-replicate, length-append}
use mir.Syntax.{Width, w32, w64}
use mir.Val.{SFits, bits, hbits, of_z}
use Rattle.laws.specs.Decimals.{is_digit, value_from, last_digits, decimal_in, decimal_of}
use Rattle.laws.specs.Each.{Each}
use Rattle.laws.proofs.Decimals.{value_append}
use Rattle.laws.proofs.Digits.{front_digit, decimal_is, decimal_has, decimal_all, zeros_digits, zeros_before, zeros_behind, last_digits_lem, last_length, last_value}
use Rattle.laws.proofs.Each.{each_append}
use Rattle.laws.proofs.If.{if_cases}
use Rattle.laws.proofs.Tests.{by_test}
use Rattle.calendar.proofs.Moments.{day_few, month_high, found_is_moment, always_dated}
use Rattle.readout.specs.Numbers.{Decimal, sign_text, pointed, text_of, IsDecimal, Is, most}
use Rattle.readout.proofs.Written.{each}
use Rattle.display.specs.Fields.{signed_value}
use Rattle.display.specs.Laws.{NoZeroInFront, Reads, NumbersRead, ReadByMeters, FieldsFill, apart, SignedBack, InDigits, Three, DatesRead}
use Rattle.display.specs.Numbers.{whole_shown, fraction_shown, written_by, padding_of, number_shown}
use Rattle.display.specs.declared.fields.Value.{Value}
use Rattle.display.specs.declared.formats.Form.{Form}
use Rattle.display.proofs.Numerals.{fraction_length}
use Rattle.display.proofs.Registered.{fields_fill}

-- in decimal no zero is in front but a single one
no_zero_in_front : (n : ℕ) → n < 10 ^ 20 → NoZeroInFront (decimal_of n)
unfolding decimal_of decimal_in
no_zero_in_front n h =
    by_test (ltb n 10) (λ t. inl (rw t refl)) (λ t. let s = ltb-false n 10 t in inr (front_digit 20 n (omega arith) h))

-- What a number shows

-- a number with zeros in front
abbrev padded : ℕ → Decimal → Decimal
padded k w = record { minus = w.minus; whole = replicate k 48 ++ w.whole; fraction = w.fraction }

-- it meets the rules too
padded_rules : (k : ℕ) (w : Decimal) → IsDecimal w → IsDecimal (padded k w)
padded_rules k w r =
    let l = length-append (replicate k 48) w.whole in
    let s = r.some in
    record {
      some = omega arith;
      whole_digits = each_append (λ b. is_digit b ≡ true) (replicate k 48) w.whole (zeros_digits k) r.whole_digits;
      fraction_digits = r.fraction_digits;
    }

-- and is the same number
padded_is : (k : ℕ) (w : Decimal) (decimals n : ℕ) → Is w decimals n → Is (padded k w) decimals n
padded_is k w decimals n h =
    ap (λ (x : ℕ). x * 10 ^ decimals) (ap (value_from 0) (append_assoc (replicate k 48) w.whole w.fraction) ∙ zeros_before k (w.whole ++ w.fraction)) ∙ h

-- what stands between two texts makes them longer
more_length : (before behind : List ℕ) (k b : ℕ) → length (before ++ (replicate k b ++ behind)) ≡ k + length (before ++ behind)
more_length before behind k b =
    let l = length-append before (replicate k b ++ behind) in
    let m = length-append (replicate k b) behind in
    let n = length-append before behind in
    let o = length-replicate k b in
    omega arith

module _ (f : Form) (v : Value) where
  -- a number as it is written meets the rules
  written_rules : IsDecimal (written_by f v)
  written_rules =
      record {
        some = decimal_has (whole_shown f v.size);
        whole_digits = decimal_all (whole_shown f v.size);
        fraction_digits =
            if_cases (λ (l : List ℕ). Each (λ b. is_digit b ≡ true) l) f.shifted (λ t. last_digits_lem f.decimals v.size) (λ t. zeros_digits f.decimals);
      }

  -- it is shown at its width, unless it is longer
  shown_width : length (number_shown f v) ≡ max f.width (length (text_of (written_by f v)))
  unfolding number_shown
  shown_width =
      let text = text_of (written_by f v) in
      let p = padding_of f v in
      if_cases (λ (l : List ℕ). length l ≡ max f.width (length text)) f.zeros
      (λ t. let a = more_length (sign_text v.minus) ((written_by f v).whole ++ pointed (written_by f v).fraction) p 48 in omega arith)
      (λ t. let a = more_length [] text p 32 in omega arith)

module _ (f : Form) (v : Value) (small : v.size < 2 ^ 64) where
  -- what stands before the point has at most 20 digits
  whole_small : whole_shown f v.size < 10 ^ 20
  whole_small =
      let s : v.size < 10 ^ 20 = lt_trans small (lit< tt) in
      if_cases (λ (n : ℕ). n < 10 ^ 20) f.shifted (λ t. lt_of_le_of_lt (div-le_self v.size (10 ^ f.decimals)) s) (λ t. s)

  -- all its digits make what those behind the point make after it
  all_value : value_from 0 ((written_by f v).whole ++ (written_by f v).fraction) ≡ value_from (whole_shown f v.size) (fraction_shown f v.size)
  all_value =
      value_append 0 (decimal_of (whole_shown f v.size)) (fraction_shown f v.size)
      ∙ ap (λ (n : ℕ). value_from n (fraction_shown f v.size)) (decimal_is (whole_shown f v.size) whole_small)

  -- so it is the value
  written_is : Is (written_by f v) (if f.shifted then f.decimals else 0) v.size
  written_is =
      rw (all_value, fraction_length f v.size)
      (by_test f.shifted
      (λ t. rw t (ap (λ (n : ℕ). n * 10 ^ f.decimals) (last_value f.decimals v.size)))
      (λ t. rw t (mul-one (value_from v.size (replicate f.decimals 48)) ∙ zeros_behind f.decimals v.size)))

  -- with the zero it is read with zeros in front
  read_zeros : f.zeros ≡ true → Reads f v (padded (padding_of f v) (written_by f v))
  unfolding number_shown
  read_zeros t =
      let w = written_by f v in
      record {
        rules = padded_rules (padding_of f v) w (written_rules f v);
        sign = refl;
        decimals = fraction_length f v.size;
        is = padded_is (padding_of f v) w (if f.shifted then f.decimals else 0) v.size written_is;
        zeros = λ z. rw z (ap (λ (l : List ℕ). sign_text v.minus ++ l) (sym (append_assoc (replicate (padding_of f v) 48) w.whole (pointed w.fraction))));
        blanks = λ n. absurd (true≢false (sym t ∙ n));
        front = λ n. absurd (true≢false (sym t ∙ n));
      }

  -- else as it is written
  read_blanks : f.zeros ≡ false → Reads f v (written_by f v)
  unfolding number_shown
  read_blanks t =
      record {
        rules = written_rules f v;
        sign = refl;
        decimals = fraction_length f v.size;
        is = written_is;
        zeros = λ z. absurd (true≢false (sym z ∙ t));
        blanks = λ n. rw n;
        front = λ n. no_zero_in_front (whole_shown f v.size) whole_small;
      }

-- each number of 64 bits is shown so, at its width
pub numbers_read : NumbersRead
numbers_read =
    record {
      reads = λ f v small. by_test f.zeros (λ t. (padded (padding_of f v) (written_by f v), read_zeros f v small t)) (λ t. (written_by f v, read_blanks f v small t));
      width = shown_width;
    }

-- a number of 32 bits is one of 64
most_small : (minus : Bool) → most minus < 2 ^ 64
most_small true = lit< tt
most_small false = lit< tt

pub read_by_meters : ReadByMeters
read_by_meters f v few fits t =
    let r = read_zeros f v (lt_of_le_of_lt fits (most_small v.minus)) t in
    let d = if f.shifted then f.decimals else 0 in
    let l : d ≤ 9 = if_cases (λ (n : ℕ). n ≤ 9) f.shifted (λ s. few) (λ s. omega arith) in
    each (number_shown f v) d v.size (padded (padding_of f v) (written_by f v)) l (record { rules = r.rules; same = sym (r.zeros t); is = r.is })
    ∙ rw (le-leb v.size (most v.minus) fits)

-- Fields

-- the fields of each register are its bytes, as the code's proofs need it too
pub fields_fill_all : FieldsFill
fields_fill_all = fields_fill

-- a number of as many bytes as a width has: below half it is itself, and from half on what is missing to all
back : (w : Width) (n : ℕ) → 256 ^ n ≡ 2 ^ bits w → 256 ^ n / 2 ≡ 2 ^ hbits w → (z : ℤ) → SFits w z → signed_value true n (of_z w z) ≡ apart z
unfolding signed_value
back w n all half (pos m) h = let s = h.sfits in rw (lt-leb (256 ^ n / 2) m (omega arith))
back w n all half (negsuc m) h =
    let s = h.sfits in
    let e : 256 ^ n - (2 ^ bits w - suc m) ≡ suc m = omega arith in
    rw (le-leb (256 ^ n / 2) (2 ^ bits w - suc m) (omega arith), e)

pub signed_back : SignedBack
signed_back = record { four = back w32 4 refl refl; eight = back w64 8 refl refl }

-- Dates and times

-- a number that has at most k digits is what its last k digits are
in_digits : (k n : ℕ) → n < 10 ^ k → InDigits k n (last_digits k n)
in_digits k n h =
    let none : n / 10 ^ k ≡ 0 = div-eq_of_lt h in
    record { many = last_length k n; digits = last_digits_lem k n; is = ap (λ (m : ℕ). value_from m (last_digits k n)) (sym none) ∙ last_value k n }

three : (between x y k z : ℕ) → x < 100 → y < 100 → z < 10 ^ k → Three between x y k z (last_digits 2 x ++ (between ∷ last_digits 2 y ++ (between ∷ last_digits k z)))
three between x y k z a b c =
    record {
      first = last_digits 2 x;
      second = last_digits 2 y;
      third = last_digits k z;
      split = refl;
      is_first = in_digits 2 x a;
      is_second = in_digits 2 y b;
      is_third = in_digits k z c;
    }

pub dates_read : DatesRead
dates_read t h =
    let (m, e) = always_dated t h in
    let i = found_is_moment t m e in
    let d = i.date in
    let month = month_high m.year m.month m.day d in
    let day = day_few m.year m.month m.day d in
    let year = d.last_year in
    let hour = i.hour in
    let minute = i.minute in
    let second = i.second in
    record {
      moment = m;
      is = i;
      date = rw (← e) (three 46 m.day m.month 4 m.year (omega arith) (omega arith) (omega arith));
      time = rw (← e) (three 58 m.hour m.minute 2 m.second (omega arith) (omega arith) (omega arith));
    }

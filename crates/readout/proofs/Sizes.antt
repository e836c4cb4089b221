-- The size of a number as the code finds it (specs/Held.antt) is that of its definition (specs/Numbers.antt), held: without a point, and with digits behind one.
use Rattle.std.specs.Prelude.{if◌then◌else◌}
use mathlib.Core.Path.{◌≡◌, refl, sym, ap, ◌∙◌}
use mathlib.Core.Bool.{true, false, ◌&&◌, true≢false}
use mathlib.Core.List.{List, [], ◌∷◌, ◌++◌, append-nil}
use Prim.Native.Nat.{ℕ, ◌+◌, ◌-◌, ◌*◌, ◌/◌, ◌%◌, ◌^◌, ◌≤◌, ◌<◌, min}
use native.Mathlib.Nat.{add-zero, mul_left_comm, add-mul, mul_assoc, mul_comm, mul-lt-mul_of_pos_right, mul-le-mul_left, mod-one, div-one, mul-mod_left, mul-div_cancel, mod-eq_of_lt, mul-add-mod_self_right, one-le-pow}
use native.Mathlib.Omega.{arith}
use borrow.Author.Tests.{lt-ltb, eq-eqb, ne_eqb, eqb-true, ltb-true, ltb-false}
use lib.Dec.{ltb, eqb}
use lib.ListN.{length, get_or, take, drop, length-drop, drop_of_length-le, take-append-drop}
use lib.Pow.{pow-add}
use lib.Seq.{take_all, length-take-le, get_or-drop, drop-drop}
use Rattle.laws.specs.Answers.{given, refused}
use Rattle.laws.specs.Decimals.{is_digit, digits, value_from}
use Rattle.laws.specs.Each.{Each}
use Rattle.laws.specs.Leading.{leading}
use Rattle.laws.proofs.Decimals.{value_append, value_split, value_below, value_zero, zeros_value, digits_each, each_digits}
use Rattle.laws.proofs.Leading.{leading_most}
use Rattle.laws.proofs.Each.{each_take, each_drop, each_append, each_so}
use Rattle.laws.proofs.Tests.{by_test, and_left, and_right, and_both}
use Rattle.readout.specs.Numbers.{is_decimal, size_of}
use Rattle.readout.specs.Held.{held, all_zeros, held_answer, held_size, fraction_size}
use Rattle.readout.proofs.Held.{held_digits, held_pow}

-- no digit in front
no_digit : (u : List ℕ) (d : ℕ) → leading is_digit u ≡ 0 → held_size u d ≡ refused 18 0
unfolding size_of is_decimal
no_digit u d e = rw e

-- digits alone
all_digits : (u : List ℕ) (d : ℕ) → (leading is_digit u ≡ 0 → ⊥) → leading is_digit u ≡ length u
    → held_size u d ≡ given (held (held (value_from 0 u) * 10 ^ d))
unfolding size_of is_decimal
all_digits u d h e =
    let n = length u in
    let past : length u ≤ n + 1 = omega arith in
    let none : drop (n + 1) u ≡ [] = drop_of_length-le u past in
    let whole : take n u ≡ u = take_all n u (omega arith) in
    let some : ltb 0 n ≡ true = lt-ltb 0 n (let g : leading is_digit u ≡ 0 → ⊥ = h in omega arith) in
    rw (e, none, whole, append-nil u, some, eq-eqb n n refl, mod-one (value_from 0 u * 10 ^ d), div-one (value_from 0 u * 10 ^ d)) (ap given (sym (held_pow (value_from 0 u) d)))

-- another letter behind the digits than a point
no_point : (u : List ℕ) (d n : ℕ) → leading is_digit u ≡ n → n < length u → (get_or u n 0 ≡ 46 → ⊥) → held_size u d ≡ refused 18 0
unfolding size_of is_decimal
no_point u d n e h g = rw (e, ne_eqb n (length u) (λ k. omega arith), ne_eqb _ _ g) (by_test (ltb 0 n) (λ t. rw t) (λ t. rw t))

-- zeros: as a test, and of each
zeros_each : (l : List ℕ) → all_zeros l ≡ true → Each (λ b. b ≡ 48) l
zeros_each [] h = tt
zeros_each (b ∷ rest) h = (eqb-true b 48 (and_left (eqb b 48) (all_zeros rest) h), zeros_each rest (and_right (eqb b 48) (all_zeros rest) h))

each_zeros : (l : List ℕ) → Each (λ b. b ≡ 48) l → all_zeros l ≡ true
each_zeros [] h = refl
each_zeros (b ∷ rest) h = and_both (eqb b 48) (all_zeros rest) (eq-eqb b 48 h.0) (each_zeros rest h.1)

-- digits q, and r behind them in m digits, times ten to the decimals: where r is 0 nothing is left; where there are no more decimals, r is
module _ (q r m p : ℕ) where
  scaled_whole : (j : ℕ) → r ≡ 0 → (q * 10 ^ m + r) * 10 ^ (p + j) ≡ (q * 10 ^ j) * 10 ^ (p + m)
  scaled_whole j e = rw (e, pow-add 10 p j, pow-add 10 p m) (simp (add-zero, mul_assoc, mul_comm, mul_left_comm))

  scaled_rest : r < 10 ^ m → (q * 10 ^ m + r) * 10 ^ p % 10 ^ (p + m) ≡ r * 10 ^ p
  scaled_rest h =
      let e : (q * 10 ^ m + r) * 10 ^ p ≡ q * 10 ^ (p + m) + r * 10 ^ p = rw (pow-add 10 p m, add-mul (q * 10 ^ m) r (10 ^ p)) (simp (mul_assoc, mul_comm, mul_left_comm)) in
      let l : r * 10 ^ p < 10 ^ (p + m) = rw (pow-add 10 p m, mul_comm (10 ^ p) (10 ^ m)) (mul-lt-mul_of_pos_right h (one-le-pow p 10 (omega arith))) in
      rw (e, mul-add-mod_self_right q (10 ^ (p + m)) (r * 10 ^ p)) (mod-eq_of_lt l)

-- digits behind the point, v before it: the definition's size is the code's
module _ (v : ℕ) (f : List ℕ) (d : ℕ) (some : 0 < length f) where
  abbrev p : ℕ
  p = min (length f) d

  abbrev f₁ : List ℕ
  f₁ = take p f

  abbrev f₂ : List ℕ
  f₂ = drop p f

  abbrev exact : ℕ
  exact = value_from v f * 10 ^ d

  whole_list : f₁ ++ f₂ ≡ f
  whole_list = take-append-drop p f

  second_length : length f₂ ≡ length f - p
  second_length = length-drop p f

  -- all digits, and those past the decimals zeros
  digits_all : digits f₁ ≡ true → all_zeros f₂ ≡ true → digits f ≡ true
  digits_all a z =
      let g : Each (λ b. is_digit b ≡ true) f₂ = each_so (λ b. b ≡ 48) (λ b. is_digit b ≡ true) (λ b e. rw e) f₂ (zeros_each f₂ z) in
      each_digits f (rw whole_list at (each_append (λ b. is_digit b ≡ true) f₁ f₂ (digits_each f₁ a) g))

  value_of : value_from v f ≡ value_from v f₁ * 10 ^ length f₂ + value_from 0 f₂
  value_of = ap (value_from v) (sym whole_list) ∙ value_append v f₁ f₂ ∙ value_split (value_from v f₁) f₂

  -- where those past the decimals are zeros
  exact_whole : all_zeros f₂ ≡ true → exact ≡ value_from v f₁ * 10 ^ (d - p) * 10 ^ length f
  exact_whole z =
      let q = value_from v f₁ in
      let r = value_from 0 f₂ in
      let e : d ≡ p + (d - p) = omega arith in
      let k : length f ≡ p + length f₂ = rw second_length (omega arith) in
      ap (λ x. x * 10 ^ d) value_of
      ∙ ap (λ x. (q * 10 ^ length f₂ + r) * 10 ^ x) e
      ∙ scaled_whole q r (length f₂) p (d - p) (zeros_value f₂ (zeros_each f₂ z))
      ∙ ap (λ x. q * 10 ^ (d - p) * 10 ^ x) (sym k)

  -- and where they are not
  exact_rest : Each (λ b. is_digit b ≡ true) f → all_zeros f₂ ≡ false → eqb (exact % 10 ^ length f) 0 ≡ false
  exact_rest h z =
      let q = value_from v f₁ in
      let r = value_from 0 f₂ in
      let m = length f₂ in
      let digits₂ = each_drop (λ b. is_digit b ≡ true) p f h in
      let below : r < 10 ^ m = value_below f₂ digits₂ in
      let more : r ≡ 0 → ⊥ = λ e. true≢false (sym (each_zeros f₂ (value_zero f₂ digits₂ e)) ∙ z) in
      let left : m ≡ 0 → ⊥ = λ e. more (let b : r < 10 ^ 0 = rw e at below in omega arith) in
      let n : m ≡ length f - p = second_length in
      let e : d ≡ p = omega arith in
      let k : length f ≡ p + m = omega arith in
      let s : exact % 10 ^ length f ≡ r * 10 ^ p =
      ap (λ x. x * 10 ^ d % 10 ^ length f) value_of
      ∙ ap (λ x. (q * 10 ^ m + r) * 10 ^ x % 10 ^ length f) e
      ∙ ap (λ x. (q * 10 ^ m + r) * 10 ^ p % 10 ^ x) k
      ∙ scaled_rest q r m p below in
      let one : r * 1 ≤ r * 10 ^ p = mul-le-mul_left r (one-le-pow p 10 (omega arith)) in
      ne_eqb (exact % 10 ^ length f) 0 (λ t. more (omega arith))

  fraction : held_answer (if digits f && eqb (exact % 10 ^ length f) 0 then given (exact / 10 ^ length f) else refused 18 0) ≡ fraction_size (held v) f d
  unfolding fraction_size
  fraction =
      by_test (digits f)
      (λ t.
      let h = digits_each f t in
      let first : digits f₁ ≡ true = each_digits f₁ (each_take (λ b. is_digit b ≡ true) p f h) in
      by_test (all_zeros f₂)
      (λ z.
      let e = exact_whole z in
      let o : 0 < 10 ^ length f = one-le-pow (length f) 10 (omega arith) in
      rw (t, first, held_digits v f₁, lt-ltb 0 (length f) some, z, e, mul-mod_left (value_from v f₁ * 10 ^ (d - p)) (10 ^ length f), mul-div_cancel (value_from v f₁ * 10 ^ (d - p)) o)
      (ap given (sym (held_pow (value_from v f₁) (d - p)))))
      (λ z. rw (t, exact_rest h z, first, lt-ltb 0 (length f) some, z)))
      (λ t.
      rw (t, lt-ltb 0 (length f) some)
      (by_test (digits f₁) (λ a. by_test (all_zeros f₂) (λ z. absurd (true≢false (sym (digits_all a z) ∙ t))) (λ z. rw (a, z))) (λ a. rw a)))

-- a point behind the digits
behind : (u : List ℕ) (d n : ℕ) → leading is_digit u ≡ n → (n ≡ 0 → ⊥) → n < length u → get_or u n 0 ≡ 46
    → held_size u d ≡ fraction_size (held (value_from 0 (take n u))) (drop (n + 1) u) d
unfolding size_of is_decimal fraction_size
behind u d n e z h g =
    let f = drop (n + 1) u in
    let l : length f ≡ length u - (n + 1) = length-drop (n + 1) u in
    by_test (ltb (n + 1) (length u))
    (λ t.
    let some : 0 < length f = (let k = ltb-true (n + 1) (length u) t in omega arith) in
    rw (e, lt-ltb 0 n (omega arith), ne_eqb n (length u) (λ k. omega arith), eq-eqb (get_or u n 0) 46 g, t, value_append 0 (take n u) f)
    (fraction (value_from 0 (take n u)) f d some))
    (λ t.
    let k = ltb-false (n + 1) (length u) t in
    let none : f ≡ [] = drop_of_length-le u k in
    rw (e, lt-ltb 0 n (omega arith), ne_eqb n (length u) (λ k. omega arith), eq-eqb (get_or u n 0) 46 g, t, none))

-- the size of what stands behind a point, by the parts that the code has split it into
pub by_parts : (n : ℕ) (text : List ℕ) (d places : ℕ) (first rest : List ℕ) → places ≡ min (length text) d → first ≡ take places text → rest ≡ drop places text → 0 < length text
    → fraction_size n text d ≡ (if digits first && all_zeros rest then given (held (held (value_from n first) * 10 ^ (d - places))) else refused 18 0)
unfolding fraction_size
by_parts n text d places first rest e f g some = rw (f, g, e, lt-ltb 0 (length text) some)

-- what stands from a place on
pub from_there : (text : List ℕ) (n : ℕ) → n ≤ length text → take (length text - n) (drop n text) ≡ drop n text
from_there text n h = take_all (length text - n) (drop n text) (rw length-drop (omega arith))

-- a text split behind its digits: there are none; nothing follows them; a point does; another letter does
module _ (u : List ℕ) (d n : ℕ) (whole rest : List ℕ) (count : n ≡ leading is_digit u) (front : whole ≡ take n u) (back : rest ≡ drop n u) where
  enough : n ≤ length u
  enough = let m = leading_most is_digit u in omega arith

  long : length whole ≡ n
  long = rw front (length-take-le n u enough)

  left : length rest ≡ length u - n
  left = rw back (length-drop n u)

  at : get_or rest 0 0 ≡ get_or u n 0
  at = rw back (get_or-drop n u 0 0 ∙ ap (λ k. get_or u k 0) (let e : n + 0 ≡ n = omega arith in e))

  pub split_none : length whole ≡ 0 → held_size u d ≡ refused 18 0
  split_none e = no_digit u d (let l = long in omega arith)

  module _ (some : length whole ≡ 0 → ⊥) where
    digit : leading is_digit u ≡ 0 → ⊥
    digit e = some (long ∙ count ∙ e)

    pub split_all : length rest < 1 → held_size u d ≡ given (held (held (value_from 0 whole) * 10 ^ d))
    split_all h =
        let l = left in
        let m = enough in
        let all : whole ≡ u = rw front (take_all n u (omega arith)) in
        rw all (all_digits u d digit (omega arith))

    pub split_point : 1 ≤ length rest → get_or rest 0 0 ≡ 46 → held_size u d ≡ fraction_size (held (value_from 0 whole)) (drop 1 rest) d
    split_point h e =
        let l = left in
        let next : drop 1 rest ≡ drop (n + 1) u = rw back (drop-drop 1 n u) in
        rw (front, next) (behind u d n (sym count) (λ z. digit (sym count ∙ z)) (omega arith) (sym at ∙ e))

    pub split_other : 1 ≤ length rest → (get_or rest 0 0 ≡ 46 → ⊥) → held_size u d ≡ refused 18 0
    split_other h e = let l = left in no_point u d n (sym count) (omega arith) (λ z. e (at ∙ z))

-- nothing stands there
pub no_read : (n : ℕ) (text : List ℕ) (d : ℕ) → length text ≡ 0 → fraction_size n text d ≡ refused 18 0
unfolding fraction_size
no_read n text d e = rw e

-- an empty text
pub no_text : (text : List ℕ) (d : ℕ) → length text ≡ 0 → size_of text d ≡ refused 18 0
unfolding size_of is_decimal leading
no_text [] d e = refl
no_text (b ∷ rest) d e = absurd (omega arith)

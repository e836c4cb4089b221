-- Numbers in decimal digits (specs/Decimals.antt): that they are digits, how many, that they make the number, and that enough places are enough.
use mathlib.Core.Path.{◌≡◌, refl, sym, ap, ◌∙◌}
use mathlib.Core.Bool.{true}
use mathlib.Core.List.{List, [], ◌∷◌, ◌++◌}
use Prim.Native.Nat.{ℕ, zero, suc, ◌+◌, ◌-◌, ◌*◌, ◌/◌, ◌%◌, ◌^◌, ◌≤◌, ◌<◌, suc-le-suc, zero-le}
use native.Mathlib.Nat.{pow-suc, div-div-eq-div-mul, mul_comm, div-one, lt_trans}
use native.Mathlib.Omega.{arith}
use borrow.Author.Tests.{lt-ltb, le-ltb, le-leb, ltb-true, ltb-false}
use lib.Dec.{ltb, leb, lit<}
use lib.ListN.{length, get_or, replicate, length-replicate, length-append, get_or-append}
use Rattle.laws.specs.Decimals.{is_digit, value_from, digit, last_digits, decimal_in, decimal_of}
use Rattle.laws.specs.Each.{Each}
use Rattle.laws.proofs.Decimals.{value_append, value_split, zeros_value}
use Rattle.laws.proofs.Each.{each_append}
use Rattle.laws.proofs.Tests.{by_test, and_both}

-- a digit as a letter
pub digit_letter : (n : ℕ) → is_digit (digit n) ≡ true
digit_letter n = and_both (leb 48 (digit n)) (leb (digit n) 57) (le-leb 48 (48 + n % 10) (omega arith)) (le-leb (48 + n % 10) 57 (omega arith))

-- one digit behind a number
pub one_more_lem : (m n : ℕ) → value_from m (digit n ∷ []) ≡ m * 10 + n % 10
unfolding value_from
one_more_lem m n = let e : 48 + n % 10 - 48 ≡ n % 10 = omega arith in rw e

-- the number before the point: its digits, that there is one, and that they make it
pub decimal_digits : (k n : ℕ) → Each (λ b. is_digit b ≡ true) (decimal_in k n)
unfolding decimal_in
decimal_digits zero n = tt
decimal_digits (suc k) n =
    by_test (ltb n 10) (λ t. rw t (digit_letter n, tt))
    (λ t. rw t (each_append (λ b. is_digit b ≡ true) (decimal_in k (n / 10)) (digit n ∷ []) (decimal_digits k (n / 10)) (digit_letter n, tt)))

pub decimal_some : (k n : ℕ) → 1 ≤ length (decimal_in (suc k) n)
unfolding decimal_in
decimal_some k n =
    by_test (ltb n 10) (λ t. rw t (suc-le-suc zero-le))
    (λ t. rw t (let l = length-append (decimal_in k (n / 10)) (digit n ∷ []) in omega arith))

pub decimal_most : (k n : ℕ) → length (decimal_in k n) ≤ k
unfolding decimal_in
decimal_most zero n = zero-le
decimal_most (suc k) n =
    by_test (ltb n 10) (λ t. rw t (suc-le-suc zero-le))
    (λ t. rw t (let l = length-append (decimal_in k (n / 10)) (digit n ∷ []) in let s = decimal_most k (n / 10) in omega arith))

-- a number of digits has some
some_places : (k m : ℕ) → m < 10 ^ k → 1 ≤ m → 0 < k
some_places zero m h l = absurd (let g : m < 1 = h in omega arith)
some_places (suc k) m h l = suc-le-suc zero-le

pub decimal_value : (k n : ℕ) → n < 10 ^ k → 0 < k → value_from 0 (decimal_in k n) ≡ n
unfolding decimal_in
decimal_value zero n h z = absurd (omega arith)
decimal_value (suc k) n h z =
    by_test (ltb n 10)
    (λ t. let l = ltb-true n 10 t in rw t (one_more_lem 0 n ∙ (omega arith)))
    (λ t.
    let l = ltb-false n 10 t in
    let g : n < 10 ^ k * 10 = rw (pow-suc 10 k) at h in
    let s : n / 10 < 10 ^ k = omega arith in
    let k_some : 0 < k = some_places k (n / 10) s (omega arith) in
    rw (t, value_append 0 (decimal_in k (n / 10)) (digit n ∷ []), decimal_value k (n / 10) s k_some, one_more_lem (n / 10) n) (omega arith))

-- those behind the point
pub last_digits_lem : (k n : ℕ) → Each (λ b. is_digit b ≡ true) (last_digits k n)
unfolding last_digits
last_digits_lem zero n = tt
last_digits_lem (suc k) n = each_append (λ b. is_digit b ≡ true) (last_digits k (n / 10)) (digit n ∷ []) (last_digits_lem k (n / 10)) (digit_letter n, tt)

pub last_length : (k n : ℕ) → length (last_digits k n) ≡ k
unfolding last_digits
last_length zero n = refl
last_length (suc k) n = let l = length-append (last_digits k (n / 10)) (digit n ∷ []) in let s = last_length k (n / 10) in omega arith

pub last_value : (k n : ℕ) → value_from (n / 10 ^ k) (last_digits k n) ≡ n
unfolding last_digits value_from
last_value zero n = div-one n
last_value (suc k) n =
    let e : n / 10 ^ suc k ≡ n / 10 / 10 ^ k = rw (pow-suc 10 k, mul_comm (10 ^ k) 10) (sym (div-div-eq-div-mul n 10 (10 ^ k))) in
    rw (e, value_append (n / 10 / 10 ^ k) (last_digits k (n / 10)) (digit n ∷ []), last_value k (n / 10)) (one_more_lem (n / 10) n ∙ (omega arith))

-- a number below 10 is one digit
one_digit : (k n : ℕ) → n < 10 → decimal_in (suc k) n ≡ digit n ∷ []
unfolding decimal_in
one_digit k n h = rw (lt-ltb n 10 h)

-- one place more than a number has digits changes nothing
more_places : (k n : ℕ) → n < 10 ^ suc k → decimal_in (suc k) n ≡ decimal_in (suc (suc k)) n
unfolding decimal_in
more_places zero n h = let s : n < 10 = h in rw (lt-ltb n 10 s)
more_places (suc k) n h =
    let g : n < 10 ^ suc k * 10 = rw (pow-suc 10 (suc k)) at h in
    let s : n / 10 < 10 ^ suc k = omega arith in
    by_test (ltb n 10) (λ e. rw e) (λ e. rw (e, more_places k (n / 10) s))

-- a longer number
longer : (k n : ℕ) → 10 ≤ n → decimal_in (suc k) n ≡ decimal_in k (n / 10) ++ (digit n ∷ [])
unfolding decimal_in
longer k n h = rw (le-ltb n 10 h)

-- any other is the number without its last digit, and that digit
last_digit : (k n : ℕ) → 10 ≤ n → n < 10 ^ suc (suc k) → decimal_in (suc (suc k)) n ≡ decimal_in (suc (suc k)) (n / 10) ++ (digit n ∷ [])
last_digit k n h g =
    let l : n < 10 ^ suc k * 10 = rw (pow-suc 10 (suc k)) at g in
    let s : n / 10 < 10 ^ suc k = omega arith in
    rw (← more_places k (n / 10) s) (longer (suc k) n h)

-- they are the last digits, as many as there are
all_last : (k n : ℕ) → decimal_in k n ≡ last_digits (length (decimal_in k n)) n
unfolding decimal_in last_digits
all_last zero n = refl
all_last (suc k) n =
    by_test (ltb n 10) (λ t. rw t refl)
    (λ t.
    let l : length (decimal_in k (n / 10) ++ (digit n ∷ [])) ≡ suc (length (decimal_in k (n / 10))) = length-append (decimal_in k (n / 10)) (digit n ∷ []) ∙ (omega arith) in
    rw (t, l) (ap (λ (x : List ℕ). x ++ (digit n ∷ [])) (all_last k (n / 10))))

-- the same of a number of 64 bits
module _ (n : ℕ) where
  pub decimal_short : n < 10 → decimal_of n ≡ digit n ∷ []
  unfolding decimal_of
  decimal_short h = one_digit 19 n h

  pub decimal_long : 10 ≤ n → n < 2 ^ 64 → decimal_of n ≡ decimal_of (n / 10) ++ (digit n ∷ [])
  unfolding decimal_of
  decimal_long h g = last_digit 18 n h (lt_trans g (lit< tt))

  pub decimal_places : length (decimal_of n) ≤ 20
  unfolding decimal_of
  decimal_places = decimal_most 20 n

  pub decimal_last : decimal_of n ≡ last_digits (length (decimal_of n)) n
  unfolding decimal_of
  decimal_last = all_last 20 n

-- a number from 1 on has a digit
has_digit : (k n : ℕ) → 1 ≤ n → n < 10 ^ k → 0 < length (decimal_in k n)
has_digit zero n l h = absurd (let s : n < 1 = h in omega arith)
has_digit (suc k) n l h = decimal_some k n

-- and the first is no zero
pub front_digit : (k n : ℕ) → 1 ≤ n → n < 10 ^ k → get_or (decimal_in k n) 0 0 ≡ 48 → ⊥
unfolding decimal_in
front_digit zero n l h e = let s : n < 1 = h in omega arith
front_digit (suc k) n l h e =
    by_test (ltb n 10)
    (λ t. let s = ltb-true n 10 t in let d : 48 + n % 10 ≡ 48 = rw t at e in omega arith)
    (λ t.
    let s = ltb-false n 10 t in
    let g : n < 10 ^ k * 10 = rw (pow-suc 10 k) at h in
    let m : n / 10 < 10 ^ k = omega arith in
    let d : get_or (decimal_in k (n / 10) ++ (digit n ∷ [])) 0 0 ≡ 48 = rw t at e in
    front_digit k (n / 10) (omega arith) m (sym (get_or-append (decimal_in k (n / 10)) (digit n ∷ []) 0 0 (has_digit k (n / 10) (omega arith) m)) ∙ d))

-- a number is what its digits make
pub decimal_is : (n : ℕ) → n < 10 ^ 20 → value_from 0 (decimal_of n) ≡ n
unfolding decimal_of
decimal_is n h = decimal_value 20 n h (omega arith)

-- it has one digit at least
pub decimal_has : (n : ℕ) → 1 ≤ length (decimal_of n)
unfolding decimal_of
decimal_has n = decimal_some 19 n

-- and digits alone
pub decimal_all : (n : ℕ) → Each (λ b. is_digit b ≡ true) (decimal_of n)
unfolding decimal_of
decimal_all n = decimal_digits 20 n

-- zeros one after another
all_zeros_lem : (k : ℕ) → Each (λ (b : ℕ). b ≡ 48) (replicate k 48)
all_zeros_lem zero = tt
all_zeros_lem (suc k) = (refl, all_zeros_lem k)

-- they are digits
pub zeros_digits : (k : ℕ) → Each (λ b. is_digit b ≡ true) (replicate k 48)
zeros_digits zero = tt
zeros_digits (suc k) = (refl, zeros_digits k)

-- in front of others they change nothing
pub zeros_before : (k : ℕ) (l : List ℕ) → value_from 0 (replicate k 48 ++ l) ≡ value_from 0 l
zeros_before k l = value_append 0 (replicate k 48) l ∙ ap (λ (n : ℕ). value_from n l) (zeros_value (replicate k 48) (all_zeros_lem k))

-- behind a number each makes it ten times as large
pub zeros_behind : (k n : ℕ) → value_from n (replicate k 48) ≡ n * 10 ^ k
zeros_behind k n = value_split n (replicate k 48) ∙ rw (length-replicate {A = ℕ} k 48, zeros_value (replicate k 48) (all_zeros_lem k)) (omega arith)

-- Laws of specs/Masks.antt.
use Rattle.std.specs.Prelude.{if◌then◌else◌}
use mathlib.Core.Path.{◌≡◌, refl, sym, ap, ◌∙◌}
use mathlib.Core.Bool.{Bool, true, false, ◌&&◌, not, ◌||◌}
use mathlib.Core.Logic.{⊎_elim}
use Prim.Native.Nat.{ℕ, zero, suc, ◌+◌, ◌-◌, ◌*◌, ◌/◌, ◌%◌, ◌^◌, ◌<◌, ◌≤◌, min}
use native.Mathlib.Nat.{zero-add, add_comm, zero-mul, one-mul, pow-suc, mod-eq_of_lt, mod-lt, div-eq_of_lt, le_refl, le_antisymm, lt_of_lt_of_le, le_of_suc-le-suc, not-suc-le-zero, eq-or-lt_of_le, zero-min, div-one}
use native.Mathlib.Numerals.{add-one, one-add}
use native.Mathlib.Omega.{arith}
use lib.Bits.{bit_and, bit_or, and_step, and_le_l, or_shifted}
use lib.Dec.{eqb, ltb}
use lib.Pow.{pow_pos, high, split, field, shr_lt, mod-mod-pow, shr-shr, pow-lt, pow_mono}
use borrow.Author.Tests.{lt-ltb, ltb-true, ltb-false, eqb-true, eqb-false, eq-eqb, ne_eqb}
use Rattle.laws.proofs.Tests.{by_test}
use Rattle.laws.specs.Any.{any}
use Rattle.laws.proofs.Any.{any_low, any_none}
use Rattle.laws.specs.Masks.{bit, bit_at, mask_of, with_bit, or_bit}

-- one more bit keeps a mask below the next power
with_below : (b : Bool) (mask i : ℕ) → mask < 2 ^ i → with_bit mask i b < 2 ^ suc i
with_below true mask i l = rw (one-mul, pow-suc) (omega arith)
with_below false mask i l = rw (zero-mul, pow-suc) (omega arith)

-- a mask of n places is below 2 ^ n
pub mask_below : (n : ℕ) (p : ℕ → Bool) → mask_of n p < 2 ^ n
unfolding mask_of
mask_below zero p = le_refl 1
mask_below (suc n) p = with_below (p n) (mask_of n p) n (mask_below n p)

-- tests that agree below n make the same mask
pub mask_cong : (n : ℕ) (p q : ℕ → Bool) → ((i : ℕ) → i < n → p i ≡ q i) → mask_of n p ≡ mask_of n q
unfolding mask_of
mask_cong zero p q h = refl
mask_cong (suc n) p q h = rw (h n (le_refl (suc n)), mask_cong n p q (λ i l. h i (omega arith)))

-- before the first turn of a loop
pub mask_none : (p : ℕ → Bool) → 0 ≡ mask_of 0 p
unfolding mask_of
mask_none p = refl

-- a turn of a loop that adds bit i
pub mask_turn : (i : ℕ) (p : ℕ → Bool) {b : Bool} {mask r : ℕ} → mask ≡ mask_of i p → r ≡ with_bit mask i b → b ≡ p i → r ≡ mask_of (i + 1) p
unfolding mask_of
mask_turn i p m e q = rw (add-one, e, m, q)

-- bit i is past those of a mask below 2 ^ i, so nothing is carried
or_with : (b : Bool) (mask i : ℕ) → mask < 2 ^ i → (if b then bit_or (2 ^ i) mask else mask) ≡ with_bit mask i b
or_with true mask i h = rw one-mul (rw one-mul at (or_shifted 1 i mask h))
or_with false mask i h = rw (zero-mul, zero-add)

-- a turn of a loop that adds bit i of 32 by the code's `with_bit`
pub mask_more : (i : ℕ) (p : ℕ → Bool) {b : Bool} {mask r : ℕ} → i < 32 → mask ≡ mask_of i p → r ≡ or_bit mask i b → b ≡ p i → r ≡ mask_of (i + 1) p
unfolding or_bit
mask_more i p {b} {mask} l m e q = mask_turn i p m (e ∙ rw (lt-ltb i 32 l) (or_with b mask i (rw m (mask_below i p)))) q

-- after the last turn
pub mask_done : (n i : ℕ) (p : ℕ → Bool) (mask : ℕ) → mask ≡ mask_of i p → i ≤ n → n ≤ i → mask ≡ mask_of n p
mask_done n i p mask e l g = rw (e, le_antisymm l g)

-- the code's `1 << i` at a width of w bits
pub shl_is : (i w : ℕ) → i < w → 1 * 2 ^ i % 2 ^ w ≡ 2 ^ i
shl_is i w h = rw one-mul (mod-eq_of_lt (pow-lt h))

-- a turn that adds `1 << i` to a mask of the places before i does not wrap
pub mask_fits : (i : ℕ) (p : ℕ → Bool) (w : ℕ) → i < w → mask_of i p + 1 * 2 ^ i % 2 ^ w < 2 ^ w
mask_fits i p w h = rw (shl_is i w h) (omega (arith, mask_below i p, pow-suc 2 i, pow_mono h))

-- and makes that of one place more, if the test holds at i
pub mask_set : (i : ℕ) (p : ℕ → Bool) (w : ℕ) {mask : ℕ} → i < w → mask ≡ mask_of i p → true ≡ p i → mask + 1 * 2 ^ i % 2 ^ w ≡ mask_of (i + 1) p
unfolding mask_of
mask_set i p w h m t = rw (shl_is i w h, m, add-one, ← t, one-mul) (add_comm _ _)

-- so does a turn that adds nothing, if it does not hold there
pub mask_clear : (i : ℕ) (p : ℕ → Bool) {mask : ℕ} → mask ≡ mask_of i p → false ≡ p i → mask ≡ mask_of (i + 1) p
unfolding mask_of
mask_clear i p m f = rw (m, add-one, ← f, zero-mul, zero-add)

-- a bit further up does not change bit i
bit_above : (n i m : ℕ) → i < n → (m + 2 ^ n) / 2 ^ i % 2 ≡ m / 2 ^ i % 2
bit_above zero i m h = absurd (not-suc-le-zero h)
bit_above (suc n) zero m h = omega (arith, pow-suc 2 n)
bit_above (suc n) (suc i) m h =
    let half : (m + 2 ^ suc n) / 2 ≡ m / 2 + 2 ^ n = omega (arith, pow-suc 2 n) in
    rw (← one-add i, ← shr-shr (m + 2 ^ suc n) 1 i, ← shr-shr m 1 i, half) (bit_above n i (m / 2) (le_of_suc-le-suc h))

-- whether it is on or off
with_above : (b : Bool) (n i m : ℕ) → i < n → with_bit m n b / 2 ^ i % 2 ≡ m / 2 ^ i % 2
with_above true n i m h = let e : 1 * 2 ^ n + m ≡ m + 2 ^ n = omega arith in rw e (bit_above n i m h)
with_above false n i m h = let e : 0 * 2 ^ n + m ≡ m = omega arith in rw e

-- the highest bit is the one that was added last
with_top : (b : Bool) (n m : ℕ) → m < 2 ^ n → with_bit m n b / 2 ^ n % 2 ≡ bit b
with_top true n m h = rw (high 1 n h)
with_top false n m h = rw (high 0 n h)

-- bit i of a mask, as a number
bit_of : (n : ℕ) (p : ℕ → Bool) (i : ℕ) → i < n → mask_of n p / 2 ^ i % 2 ≡ bit (p i)
unfolding mask_of
bit_of zero p i h = absurd (not-suc-le-zero h)
bit_of (suc n) p i h =
    ⊎_elim (λ e. rw e (with_top (p n) n (mask_of n p) (mask_below n p)))
    (λ l. with_above (p n) n i (mask_of n p) l ∙ bit_of n p i l)
    (eq-or-lt_of_le (le_of_suc-le-suc h))

-- a test, from its bit
from_bit : (b : Bool) → eqb (bit b) 1 ≡ b
from_bit true = refl
from_bit false = refl

-- bit i of a mask says whether the test holds at i; past the mask's places it is off
pub bit_at_lem : (n : ℕ) (p : ℕ → Bool) (i : ℕ) → bit_at (mask_of n p) i ≡ (ltb i n && p i)
unfolding bit_at
bit_at_lem n p i =
    by_test (ltb i n)
    (λ l. rw (l, bit_of n p i (ltb-true i n l)) (from_bit (p i)))
    (λ g.
    let z : mask_of n p / 2 ^ i ≡ 0 = div-eq_of_lt (lt_of_lt_of_le (mask_below n p) (pow_mono (ltb-false i n g))) in
    rw (g, z))

-- no bit of 0 is on
pub bit_zero : (i : ℕ) → bit_at 0 i ≡ false
unfolding bit_at
bit_zero i = rw (div-eq_of_lt (pow_pos i))

-- where a mask is 0, the test holds nowhere
pub mask_zero : (n : ℕ) (p : ℕ → Bool) → mask_of n p ≡ 0 → (i : ℕ) → i < n → p i ≡ false
mask_zero n p e i l = let t : bit_at (mask_of n p) i ≡ (ltb i n && p i) = bit_at_lem n p i in sym (rw (e, bit_zero i, lt-ltb i n l) at t)

-- a bit below n is that of the number's remainder by 2 ^ n
bit_below : (n i x : ℕ) → i < n → bit_at (x % 2 ^ n) i ≡ bit_at x i
unfolding bit_at
bit_below n i x h =
    let j : n - i - 1 + 1 + i ≡ n = omega arith in
    let one : x / 2 ^ i % 2 ^ (n - i - 1 + 1) % 2 ^ 1 ≡ x / 2 ^ i % 2 ^ 1 = mod-mod-pow (x / 2 ^ i) (n - i - 1) 1 in
    rw (← j, field x (n - i - 1 + 1) i, one)

-- the highest bit of a number below 2 ^ (n + 1)
top_bit : (n x : ℕ) → x < 2 ^ suc n → x / 2 ^ n ≡ bit (bit_at x n)
unfolding bit_at
top_bit n x h =
    let small : x / 2 ^ n < 2 = shr_lt 1 n (rw one-add h) in
    by_test (eqb (x / 2 ^ n % 2) 1)
    (λ e. rw e (let d = eqb-true (x / 2 ^ n % 2) 1 e in omega arith))
    (λ e. rw e (let d = eqb-false (x / 2 ^ n % 2) 1 e in omega arith))

-- a number below 2 ^ n whose bits are a test is the test's mask
pub mask_ext : (n x : ℕ) (p : ℕ → Bool) → x < 2 ^ n → ((i : ℕ) → i < n → bit_at x i ≡ p i) → x ≡ mask_of n p
unfolding mask_of
mask_ext zero x p h same = omega arith
mask_ext (suc n) x p h same =
    let low = mask_ext n (x % 2 ^ n) p (mod-lt x (pow_pos n)) (λ i l. bit_below n i x l ∙ same i (omega arith)) in
    let top = top_bit n x h in
    sym (split x n) ∙ rw (← low, ← same n (le_refl (suc n))) (ap (λ t. t * 2 ^ n + x % 2 ^ n) top)

-- bit i + 1 is bit i of the half
pub bit_half : (x i : ℕ) → bit_at x (suc i) ≡ bit_at (x / 2) i
unfolding bit_at
bit_half x i = rw (← one-add i, ← shr-shr x 1 i)

-- two tests of equal numbers that hold together
eqb_same : (a b c d : ℕ) → (a ≡ b → c ≡ d) → (c ≡ d → a ≡ b) → eqb a b ≡ eqb c d
eqb_same a b c d f g =
    by_test (eqb c d) (λ e. rw (e, eq-eqb a b (g (eqb-true c d e)))) (λ e. rw (e, ne_eqb a b (λ q. eqb-false c d e (f q))))

-- the lowest bits of x and m: those of x stand within m exactly if the lowest does and the others do
covered_low : (x m rest : ℕ) → rest ≤ x / 2
    → eqb (rest * 2 + min (x % 2) (m % 2)) x ≡ (not (eqb (x % 2) 1 && not (eqb (m % 2) 1)) && eqb rest (x / 2))
covered_low x m rest h =
    by_test (eqb (x % 2) 1)
    (λ a.
    let a1 : x % 2 ≡ 1 = eqb-true (x % 2) 1 a in
    by_test (eqb (m % 2) 1)
    (λ b. let b1 : m % 2 ≡ 1 = eqb-true (m % 2) 1 b in rw (a1, b1) (eqb_same (rest * 2 + 1) x rest (x / 2) (λ e. omega arith) (λ e. omega arith)))
    (λ b. let b0 : m % 2 ≡ 0 = omega (arith, eqb-false (m % 2) 1 b) in rw (a1, b0) (ne_eqb (rest * 2 + 0) x (λ e. omega arith))))
    (λ a. let a0 : x % 2 ≡ 0 = omega (arith, eqb-false (x % 2) 1 a) in rw (a0, zero-min) (eqb_same (rest * 2 + 0) x rest (x / 2) (λ e. omega arith) (λ e. omega arith)))

-- the lowest bit
pub bit_low : (x : ℕ) → bit_at x 0 ≡ eqb (x % 2) 1
unfolding bit_at
bit_low x = rw div-one

not_or : (a b : Bool) → not (a || b) ≡ (not a && not b)
not_or true b = refl
not_or false b = refl

-- the code's `x & m == x`: no bit of x, of its n, stands outside m
pub covered : (n x m : ℕ) → x < 2 ^ n → eqb (bit_and x m) x ≡ not (any n (λ i. bit_at x i && not (bit_at m i)))
covered zero x m h = let z : x ≡ 0 = omega arith in rw (z, any_none 0 (λ i. bit_at 0 i && not (bit_at m i)) (λ j l. absurd (not-suc-le-zero l)))
covered (suc n) x m h =
    let q : x / 2 < 2 ^ n = omega (arith, pow-suc 2 n) in
    rw (any_low n (λ i. bit_at x i && not (bit_at m i)), bit_low x, bit_low m, not_or, and_step x m, covered_low x m (bit_and (x / 2) (m / 2)) (and_le_l (x / 2) (m / 2)), covered n (x / 2) (m / 2) q)
    (simp bit_half)

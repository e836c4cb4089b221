-- Months and years of the calendar: where a day lies, once the year and the month that hold it are known.
use mathlib.Core.Path.{◌≡◌, refl}
use mathlib.Core.Bool.{◌&&◌, ◌||◌}
use mathlib.Core.List.{◌∷◌}
use Prim.Native.Nat.{ℕ, suc, ◌+◌, ◌-◌, ◌/◌, ◌<◌, ◌≤◌, suc-le-suc}
use native.Mathlib.Omega.{arith}
use borrow.Author.Tests.{ne_eqb, lt-ltb, ltb-true, ltb-false, leb-true, lt-leb}
use lib.Dec.{eqb, ltb, leb}
use lib.ListN.{get_or, get_or-eq_default}
use Rattle.laws.proofs.Tests.{by_test, or_right}
use Rattle.laws.specs.First.{first}
use Rattle.laws.proofs.First.{computed}
use Rattle.laws.specs.Total.{total}
use Rattle.laws.proofs.Total.{total_grows}
use Rattle.laws.specs.Spans.{span}
use Rattle.laws.proofs.Spans.{span_is, span_none, span_low, span_high, span_below}
use Rattle.laws.specs.Answers.{given, refused}
use Rattle.calendar.specs.Dates.{leap_year, common_lengths, month_length, year_length, day_number}
use Rattle.calendar.specs.Moments.{year_day, moment_at, moment_of}
use Rattle.calendar.specs.declared.YearDay.{YearDay}

-- a number past December's has no days
pub no_month : (y m : ℕ) → 13 ≤ m → 0 ≡ month_length y m
unfolding month_length
no_month y m h = let n : m ≡ 2 → ⊥ = omega arith in simp (ne_eqb m 2 n, get_or-eq_default (0 ∷ common_lengths) 0 h)

-- each month has days
pub has_days : (y m : ℕ) → 1 ≤ m → m ≤ 12 → 1 ≤ month_length y m
unfolding month_length first
has_days y m h l =
    by_test (eqb m 2 && leap_year y) (λ e. rw e (omega arith))
    (λ e. rw e (leb-true 1 _ (or_right _ _ (lt-leb m 0 h) (computed 13 (λ k. leb k 0 || leb 1 (get_or (0 ∷ common_lengths) k 0)) refl m (omega arith)))))

-- and none more than 31
pub few_days : (y m : ℕ) → m ≤ 12 → month_length y m ≤ 31
unfolding month_length first
few_days y m l =
    by_test (eqb m 2 && leap_year y) (λ e. rw e (omega arith))
    (λ e. rw e (leb-true _ 31 (computed 13 (λ k. leb (get_or (0 ∷ common_lengths) k 0) 31) refl m (omega arith))))

-- no days are before January
pub year_begins : (y : ℕ) → total 1 (month_length y) ≡ 0
unfolding total month_length
year_begins y = refl

-- the months fill the year
pub months_fill : (k : ℕ) → total 13 (month_length (1970 + k)) ≡ year_length k
unfolding total month_length year_length
months_fill k = by_test (leap_year (1970 + k)) (λ e. simp e) (λ e. simp e)

-- the year of day n is the k-th from 1970 on, if n lies in it
pub year_is : (n k left : ℕ) → k < 137 → total k year_length + left ≡ n → n < total (suc k) year_length → record { years = k; left = left } ≡ year_day n
unfolding year_day
year_is n k left h e l =
    let s : span 137 year_length n ≡ k = span_is 137 year_length n k h (omega arith) l in
    let d : n - total k year_length ≡ left = omega arith in
    simp (s, d)

-- the years to 2106 have 50,038 days
years_have : total 137 year_length ≡ 50_038
unfolding total year_length
years_have = refl

-- so a day before has its year among them
pub year_below : (n : ℕ) → n < 50_038 → (year_day n).years < 137
unfolding year_day
year_below n h = span_below 137 year_length n (rw years_have h)

-- a date with one of their numbers is at most in 2106
pub year_ends : (y m d : ℕ) → day_number y m d < 50_038 → y ≤ 2106
unfolding day_number
year_ends y m d h =
    by_test (ltb y 2107) (λ l. omega (arith, ltb-true y 2107 l))
    (λ g. omega (arith, ltb-false y 2107 g, years_have, total_grows year_length 137 (y - 1970) (omega (arith, ltb-false y 2107 g))))

-- past them there is no year
pub no_year : (t : ℕ) → 50_038 ≤ t / 86_400 → refused 9 0 ≡ moment_of t
unfolding moment_of year_day
no_year t h = simp (span_none 137 year_length (t / 86_400) (rw years_have h))

-- the moment of t is in month m of its year, if left days of that month are over
pub month_is : (t : ℕ) (a : YearDay) (m left : ℕ) → a ≡ year_day (t / 86_400) → a.years < 137 → m ≤ 12
    → total m (month_length (1970 + a.years)) + left ≡ a.left → left < month_length (1970 + a.years) m
    → given (moment_at t (1970 + a.years) m (left + 1)) ≡ moment_of t
unfolding moment_of total
month_is t a m left e h b f l =
    let y = 1970 + a.years in
    let s : span 13 (month_length y) a.left ≡ m = span_is 13 (month_length y) a.left m (suc-le-suc b) (omega arith) (omega arith) in
    let d : a.left - total m (month_length y) ≡ left = omega arith in
    let w : y < 2107 = omega arith in
    simp (← e, lt-ltb y 2107 w, s, d)

-- the days left of a year are fewer than its months have
pub left_below : (n : ℕ) → n < 50_038 → (year_day n).left < total 13 (month_length (1970 + (year_day n).years))
unfolding year_day total
left_below n h =
    let k = span 137 year_length n in
    rw (months_fill k) (omega (arith, span_low 137 year_length n, span_high 137 year_length n (year_below n h)))

-- The years' starts in closed form, by one computed test, and that the code's arithmetic finds the year.
use mathlib.Core.Path.{◌≡◌, refl}
use Prim.Native.Nat.{ℕ, suc, ◌+◌, ◌-◌, ◌*◌, ◌/◌, ◌<◌, ◌≤◌, suc-le-suc}
use native.Mathlib.Nat.{lt_trans}
use native.Mathlib.Omega.{arith}
use lib.Dec.{eqb, ltb, lit<}
use borrow.Author.Tests.{eqb-true, ltb-true, ltb-false}
use Rattle.laws.specs.First.{first}
use Rattle.laws.proofs.First.{computed}
use Rattle.laws.proofs.Tests.{by_test}
use Rattle.laws.specs.Total.{total}
use Rattle.calendar.specs.Dates.{year_length}
use Rattle.calendar.specs.Moments.{year_day}
use Rattle.calendar.proofs.Months.{year_is}

-- four years have 1461 days, the third of them being the leap year; from 2101 on a day less, since 2100 is none
pub year_start : (k : ℕ) → k < 138 → total k year_length ≡ (k * 1461 + 1) / 4 - k / 131
unfolding first total year_length
year_start k h = eqb-true _ _ (computed 138 (λ k. eqb (total k year_length) ((k * 1461 + 1) / 4 - k / 131)) refl k h)

-- the code's year holds the day: before 2100, in 2100, and from 2101 on
year_holds : (n k q : ℕ) → n < 50038 → k ≡ ((n + q) * 4 + 2) / 1461 → q ≡ n / 47847
    → (k < 137) × ((k * 1461 + 1) / 4 ≤ n + k / 131) × (n + suc k / 131 < (suc k * 1461 + 1) / 4)
year_holds n k q h e d =
    by_test (ltb n 47847)
    (λ t.
    let l : n < 47847 = ltb-true _ _ t in
    let z : q ≡ 0 = omega arith in
    by_test (ltb k 130) (λ u. let v : k < 130 = ltb-true _ _ u in let w : suc k / 131 ≡ 0 = omega arith in omega arith)
    (λ u. let v : 130 ≤ k = ltb-false _ _ u in let w : k ≡ 130 = omega arith in omega arith))
    (λ t.
    let l : 47847 ≤ n = ltb-false _ _ t in
    let z : q ≡ 1 = omega arith in
    let y : 131 ≤ k = omega arith in
    omega arith)

-- and what the code returns is right
pub year_found : (n k q left : ℕ) → n < 50038 → k ≡ ((n + q) * 4 + 2) / 1461 → q ≡ n / 47847 → left ≡ n + k / 131 - (k * 1461 + 1) / 4
    → record { years = k; left = left } ≡ year_day n
year_found n k q left h e d l =
    let v = year_holds n k q h e d in
    let this = year_start k (lt_trans v.0 (lit< tt)) in
    let next = year_start (suc k) (suc-le-suc v.0) in
    year_is n k left v.0 (omega arith) (omega arith)

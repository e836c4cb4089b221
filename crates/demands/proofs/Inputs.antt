-- What the rule of an input's entry says: a fitted input has a denominator, one that is not has zeros.
use mathlib.Core.Path.{◌≡◌}
use mathlib.Core.Bool.{true, false, not, ◌&&◌, ◌||◌}
use mathlib.Core.List.{List}
use Prim.Native.Nat.{ℕ, ◌<◌}
use native.Mathlib.Omega.{arith}
use lib.Dec.{ltb, leb, eqb}
use borrow.Author.Tests.{not-true, not-false, eqb-true, leb-true}
use Rattle.laws.proofs.Tests.{by_test, and_left, and_right, or_right}
use Rattle.laws.proofs.Any.{any_not}
use Rattle.laws.specs.Masks.{bit_at}
use Rattle.settings.specs.Rules.{input_good, runs_good, ratio_good, six_zeros, fitted_in, sum_good}
use Rattle.settings.specs.declared.Input.{Input}
use Rattle.counting.specs.Filter.{input_at}

-- an input that has not six zeros has a denominator
some_denominator : (x : Input) → input_good x ≡ true → (eqb x.kind 0 && six_zeros x) ≡ false → 0 < x.denominator
some_denominator x good some =
    let fitted = (eqb x.kind 1 || eqb x.kind 2) && runs_good x in
    let top = leb 1 x.numerator && leb x.numerator 10_000 in
    let ratio = and_right fitted (ratio_good x) (or_right (eqb x.kind 0 && six_zeros x) (fitted && ratio_good x) some good) in
    leb-true 1 x.denominator (and_right top (leb 1 x.denominator) (and_left (top && leb 1 x.denominator) (leb x.denominator 10_000) ratio))

-- so has one of some kind
pub good_denominator : (x : Input) → input_good x ≡ true → eqb x.kind 0 ≡ false → 0 < x.denominator
good_denominator x good kind = some_denominator x good (rw kind)

-- and one without a denominator has no numerator
pub no_numerator : (x : Input) → input_good x ≡ true → x.denominator ≡ 0 → x.numerator ≡ 0
no_numerator x good none =
    let runs = eqb x.shortest 0 && eqb x.longest 0 in
    by_test (eqb x.kind 0 && six_zeros x)
    (λ t. eqb-true x.numerator 0 (and_right runs (eqb x.numerator 0) (and_left (runs && eqb x.numerator 0) (eqb x.denominator 0) (and_right (eqb x.kind 0) (six_zeros x) t))))
    (λ f. absurd (omega (arith, some_denominator x good f)))

-- an input that a good sum names is fitted
pub good_names : (inputs : List Input) (x i : ℕ) → sum_good (fitted_in inputs) x ≡ true → i < 16 → bit_at x i ≡ true → eqb (input_at inputs i).kind 0 ≡ false
unfolding sum_good fitted_in
good_names inputs x i e l on =
    let stray = any_not 16 (λ k. bit_at x k && not (fitted_in inputs k)) (not-true _ e) i l in
    let fitted : fitted_in inputs i ≡ true = not-false (fitted_in inputs i) (rw on at stray) in
    not-true (eqb (input_at inputs i).kind 0) (and_right (ltb i 16) (not (eqb (input_at inputs i).kind 0)) fitted)

-- The laws of specs/Laws.antt on the fleet.
use mathlib.Core.Path.{◌≡◌, refl, ap, ◌∙◌}
use mathlib.Core.Bool.{Bool, true, false, not, cond}
use mathlib.Core.List.{List}
use Prim.Native.Nat.{ℕ, zero, suc, ◌+◌, ◌*◌, ◌^◌, ◌≤◌, zero-le}
use native.Mathlib.Omega.{arith}
use borrow.Author.Tests.{ltb-true, ltb-false, ne_eqb}
use lib.Dec.{eqb, ltb}
use lib.IntN.{ℤ, pos, nat_abs}
use lib.ListN.{get_or}
use lib.Signed.{nat_abs-le}
use mir.Syntax.{w32, w64}
use mir.Val.{SFits}
use mir.Facts.{to_z-of_z}
use Rattle.laws.proofs.Tests.{by_test}
use Rattle.laws.proofs.Keys.{in_range_lem}
use Rattle.laws.specs.Masks.{bit}
use Rattle.laws.proofs.Tables.{table_at}
use Rattle.laws.specs.Total.{total}
use Rattle.laws.proofs.Total.{total_cong, total_plus}
use Rattle.laws.proofs.Counts.{ones_mask}
use Rattle.laws.specs.SignedTotal.{totalℤ}
use Rattle.laws.proofs.SignedTotal.{abs_add, abs_fits}
use Rattle.recorder.proofs.Ages.{class_cases}
use Rattle.sampling.specs.declared.Meter.{Meter}
use Rattle.recorder.specs.Meters.{meter_at}
use Rattle.registers.specs.Fleet.{meter_class, class_at, has_class, has_any, awake_value, awake_sum, classes_of, fleet_of}
use Rattle.registers.specs.Laws.{OnesAreCounts, FittedCounted, CountsAddUp, SumExact}

pub ones_are_counts : OnesAreCounts
ones_are_counts r class = ones_mask 32 (has_class (classes_of r) class)

-- a class is one of four exactly if the meter has a limit
fitted_is : (limit : ℕ) (m : Meter) (clock : ℕ) → ltb (meter_class limit m clock) 4 ≡ not (eqb limit 0)
unfolding meter_class
fitted_is limit m clock =
    by_test (eqb limit 0) (λ a. rw a)
    (λ a. rw a (class_cases (λ k. ltb k 4 ≡ true) limit m.read m.stamp m.status clock refl refl (λ d. refl) (λ d. refl)))

pub fitted_counted : FittedCounted
unfolding fleet_of has_any class_at
fitted_counted r =
    total_cong 32 _ _ (λ i l. ap bit (ap (λ k. ltb k 4) (table_at 32 _ i 0 l) ∙ fitted_is _ _ _))

-- a class is one of four as often as it is each of them
each_once : (x : ℕ) → bit (ltb x 4) ≡ bit (eqb x 0) + bit (eqb x 1) + bit (eqb x 2) + bit (eqb x 3)
each_once x =
    by_test (ltb x 4)
    (λ t. in_range_lem (λ k. bit (ltb k 4) ≡ bit (eqb k 0) + bit (eqb k 1) + bit (eqb k 2) + bit (eqb k 3)) 0 4 x (refl, (refl, (refl, (refl, tt)))) zero-le (ltb-true x 4 t))
    (λ f.
    let past : 4 ≤ x = ltb-false x 4 f in
    rw (f, ne_eqb x 0 (λ e. omega arith), ne_eqb x 1 (λ e. omega arith), ne_eqb x 2 (λ e. omega arith), ne_eqb x 3 (λ e. omega arith)))

pub counts_add_up : CountsAddUp
unfolding fleet_of has_any has_class
counts_add_up r =
    let f : ℕ → ℕ → ℕ = λ k i. bit (eqb (get_or (classes_of r) i 0) k) in
    total_cong 32 _ _ (λ i l. each_once (get_or (classes_of r) i 0))
    ∙ total_plus 32 (λ i. f 0 i + f 1 i + f 2 i) (f 3)
    ∙ ap (λ t. t + total 32 (f 3)) (total_plus 32 (λ i. f 0 i + f 1 i) (f 2) ∙ ap (λ t. t + total 32 (f 2)) (total_plus 32 (f 0) (f 1)))

-- a value of 32 bits, or 0
value_near : (b : Bool) (v : ℤ) → SFits w32 v → nat_abs (cond b v (pos 0)) ≤ 2 ^ 31
value_near true v fits = nat_abs-le v fits.sfits
value_near false v fits = zero-le

-- the sum of n values is at most n times 2 ^ 31 from 0
sum_near : (n : ℕ) (classes : List ℕ) (meters : List Meter) → ((i : ℕ) → SFits w32 (meter_at meters i).value) → nat_abs (totalℤ n (awake_value classes meters)) ≤ n * 2 ^ 31
unfolding totalℤ awake_value
sum_near zero classes meters fits = zero-le
sum_near (suc n) classes meters fits =
    omega (arith, sum_near n classes meters fits, value_near (has_class classes 0 n) (meter_at meters n).value (fits n), abs_add (totalℤ n (awake_value classes meters)) (awake_value classes meters n))

pub sum_exact : SumExact
unfolding fleet_of awake_sum
sum_exact r fits = to_z-of_z {w = w64} (abs_fits _ (omega (arith, sum_near 32 (classes_of r) r.state.meters fits)))

-- `registers::fleet::fleet_of` meets its contract. The loop's invariant: the masks of the meters before i by their classes, and the sum of the awake values, at most 2 ^ 31 from 0 for each.
-- The ones of each mask are the count of its class, and the fitted meters are those of any class.
use mathlib.Core.Path.{◌≡◌, refl, sym, ap, ◌∙◌}
use mathlib.Core.Bool.{Bool, ◌||◌}
use mathlib.Core.List.{List}
use Prim.Native.Nat.{ℕ, ◌+◌, ◌*◌, ◌^◌, ◌≤◌, ◌<◌, zero-le}
use native.Mathlib.Omega.{arith}
use borrow.Author.Rules.{rules}
use borrow.Author.Tests.{ltb-true, ltb-false, ne_eqb}
use lib.Bits.{bit_or}
use lib.Count.{ones}
use lib.Dec.{eqb, ltb}
use lib.IntN.{nat_abs}
use lib.ListN.{get_or}
use mir.Syntax.{w8, w32, w64}
use mir.Val.{Fits, to_z, of_z}
use mir.Facts.{to_z-of_z}
use Rattle.laws.proofs.Tests.{by_test}
use Rattle.laws.proofs.Keys.{in_range_lem}
use Rattle.laws.proofs.Tables.{table_at}
use Rattle.laws.specs.Masks.{mask_of}
use Rattle.laws.proofs.Masks.{mask_cong, mask_none, mask_more, mask_done}
use Rattle.laws.proofs.Counts.{ones_mask, ones_mask_le, mask_or}
use Rattle.laws.proofs.SignedTotal.{abs_fits, totalℤ-none, totalℤ-turn, totalℤ-done}
use Rattle.sampling.specs.declared.Meter.{Meter}
use Rattle.recorder.specs.Meters.{meter_at}
use Rattle.registers.specs.Fleet.{meter_class, class_at, has_class, has_any, awake_value, awake_sum, fleet_of}
use Rattle.recorder.specs.declared.meters.Age.TheVariants.{Awake, Stale, Invalid, Never}
use Rattle.registers.proofs.Classes.{class_is}
use Rattle.registers.proofs.fleet.fleet_of.Invariants.{classes}
use Rattle.registers.proofs.fleet.fleet_of.Goals as goal

-- the class of meter i is the one that they have there
class_there : (limits : List ℕ) (meters : List Meter) (clock i : ℕ) {class : ℕ} → i < 32 → class ≡ meter_class (get_or limits i 0) (meter_at meters i) clock
    → class ≡ get_or (classes limits meters clock) i 0
unfolding class_at
class_there limits meters clock i l e = e ∙ sym (table_at 32 (class_at limits meters clock) i 0 l)

pub loop-i-init : goal.loop-i-init
loop-i-init c = (search rules, mask_none _, mask_none _, mask_none _, mask_none _, totalℤ-none _, search rules)

pub loop-i-preserved : goal.loop-i-preserved
unfolding awake_value has_class
loop-i-preserved c =
    let r = c.plus_if-sum in
    let l = c.loop-i in
    let a = c.args.recorder in
    let limits = a.config.limits in
    let meters = a.state.meters in
    let clock = a.state.clock in
    let there = class_there limits meters clock l.i c.loop-i-test.true c.meter_class-class.ensures in
    let near : nat_abs r.result ≤ (l.i + 1) * 2 ^ 31 = omega (arith, r.ensures.1) in
    let back : to_z w64 (of_z w64 r.result) ≡ r.result = to_z-of_z {w = w64} (abs_fits r.result (omega arith)) in
    let v = (meter_at meters l.i).value in
    let value : to_z w32 (of_z w32 v) ≡ v = to_z-of_z {w = w32} {z = v} (search rules) in
    (omega arith, mask_more _ _ (omega arith) l.invariant.1 c.with_bit-awake.ensures (c.eq.ensures ∙ class_is _ Awake ∙ ap (λ k. eqb k 0) there), mask_more _ _ (omega arith) l.invariant.2 c.with_bit-stale.ensures (c.eq-in-loop-i.ensures ∙ class_is _ Stale ∙ ap (λ k. eqb k 1) there), mask_more _ _ (omega arith) l.invariant.3 c.with_bit-invalid.ensures (c.eq-in-loop-i-2.ensures ∙ class_is _ Invalid ∙ ap (λ k. eqb k 2) there), mask_more _ _ (omega arith) l.invariant.4 c.with_bit-never.ensures (c.eq-in-loop-i-3.ensures ∙ class_is _ Never ∙ ap (λ k. eqb k 3) there), rw back (totalℤ-turn _ _ l.invariant.5 (r.ensures.0 ∙ rw (value, c.eq-in-loop-i-4.ensures, class_is c.meter_class-class.result Awake, there))), rw back near)

-- the four classes of a fitted meter
any_of : (x : ℕ) → (((eqb x 0 || eqb x 1) || eqb x 2) || eqb x 3) ≡ ltb x 4
any_of x =
    by_test (ltb x 4)
    (λ t. in_range_lem (λ k. (((eqb k 0 || eqb k 1) || eqb k 2) || eqb k 3) ≡ ltb k 4) 0 4 x (refl, (refl, (refl, (refl, tt)))) zero-le (ltb-true x 4 t))
    (λ f.
    let past : 4 ≤ x = ltb-false x 4 f in
    rw (f, ne_eqb x 0 (λ e. omega arith), ne_eqb x 1 (λ e. omega arith), ne_eqb x 2 (λ e. omega arith), ne_eqb x 3 (λ e. omega arith)))

-- the masks of the four classes together are the mask of the fitted meters
fitted_mask : (classes : List ℕ)
    → bit_or (bit_or (bit_or (mask_of 32 (has_class classes 0)) (mask_of 32 (has_class classes 1))) (mask_of 32 (has_class classes 2))) (mask_of 32 (has_class classes 3))
    ≡ mask_of 32 (has_any classes)
unfolding has_class has_any
fitted_mask classes = rw (mask_or, mask_or, mask_or) (mask_cong 32 _ _ (λ i l. any_of (get_or classes i 0)))

-- a mask of 32 places has at most 32 ones, which a byte holds
ones_fit : (p : ℕ → Bool) {mask : ℕ} → mask ≡ mask_of 32 p → Fits w8 (ones mask)
ones_fit p e = record { fits = rw e (omega (arith, ones_mask_le 32 p)) }

-- the classes of all meters, after the loop
abbrev all : goal.After-loop-i → List ℕ
all c = let r = c.args.recorder in classes r.config.limits r.state.meters r.state.clock

-- the masks are then those of all 32
whole : (c : goal.After-loop-i) (class : ℕ) {mask : ℕ} → mask ≡ mask_of c.loop-i.i (has_class (all c) class) → mask ≡ mask_of 32 (has_class (all c) class)
whole c class e = mask_done 32 _ _ _ e c.loop-i.invariant.0 c.loop-i-test.false

pub overflow_cast-result : goal.overflow_cast-result
overflow_cast-result c =
    let i = c.loop-i.invariant in
    ones_fit (has_any (all c)) (rw (whole c 0 i.1, whole c 1 i.2, whole c 2 i.3, whole c 3 i.4) (fitted_mask _))

pub returns : goal.returns
unfolding fleet_of awake_sum
returns c =
    let i = c.loop-i.invariant in
    let sum = totalℤ-done 32 _ _ _ i.5 i.0 c.loop-i-test.false in
    rw (sum) (simp (whole c 0 i.1, whole c 1 i.2, whole c 2 i.3, whole c 3 i.4, fitted_mask, ones_mask))

pub overflow_cast-result-2 : goal.overflow_cast-result-2
overflow_cast-result-2 c = ones_fit _ (whole c 0 c.loop-i.invariant.1)

pub overflow_cast-result-3 : goal.overflow_cast-result-3
overflow_cast-result-3 c = ones_fit _ (whole c 1 c.loop-i.invariant.2)

pub overflow_cast-result-4 : goal.overflow_cast-result-4
overflow_cast-result-4 c = ones_fit _ (whole c 2 c.loop-i.invariant.3)

pub overflow_cast-result-5 : goal.overflow_cast-result-5
overflow_cast-result-5 c = ones_fit _ (whole c 3 c.loop-i.invariant.4)

-- `counting::levels::function_value` meets its contract. The loop's invariant: the value, read from its bits, is the sum of the terms before k, at most 2 ^ 44 from 0 for each.
use mathlib.Core.Path.{◌≡◌, ◌∙◌}
use Prim.Native.Nat.{◌+◌, ◌*◌, ◌^◌, ◌≤◌}
use native.Mathlib.Omega.{arith}
use lib.IntN.{pos, nat_abs}
use lib.ListN.{get_or}
use mir.Syntax.{w8, w64}
use mir.Val.{SFits, to_z, of_z}
use mir.Facts.{to_z-of_z}
use borrow.Author.Tests.{lt-ltb, le-ltb}
use borrow.Author.Rules.{rules}
use Rattle.laws.proofs.Arrays.{elem_sfits}
use Rattle.laws.proofs.SignedTotal.{abs_fits, totalℤ-none, totalℤ-turn, totalℤ-done}
use Rattle.counting.specs.Bills.{sum_at}
use Rattle.counting.specs.Levels.{level2, function_value}
use Rattle.counting.proofs.levels.function_value.Goals as goal

pub returns-then-function-ge4 : goal.returns-then-function-ge4
unfolding function_value
returns-then-function-ge4 c = rw (le-ltb _ _ c.if-function-ge4.true)

pub loop-k-init : goal.loop-k-init
loop-k-init c = (search rules, totalℤ-none _, search rules)

pub plus_times-value-requires : goal.plus_times-value-requires
plus_times-value-requires c = (omega arith, c.sum_units.ensures.1)

pub loop-k-preserved : goal.loop-k-preserved
unfolding sum_at
loop-k-preserved c =
    let r = c.plus_times-value in
    let l = c.loop-k in
    let known : SFits w8 (get_or c.args.coefficients (c.args.function * 8 + l.k) (pos 0)) = search elem_sfits in
    let near : nat_abs r.result ≤ (l.k + 1) * 2 ^ 44 = omega (arith, r.ensures.1) in
    let back : to_z w64 (of_z w64 r.result) ≡ r.result = to_z-of_z {w = w64} (abs_fits r.result (omega arith)) in
    (omega arith, rw back (totalℤ-turn _ _ l.invariant.1 (r.ensures.0 ∙ rw (to_z-of_z known, ← c.sum_units.ensures.0))), rw back near)

pub returns : goal.returns
unfolding function_value level2
returns c = rw (lt-ltb _ _ c.if-function-ge4.false) (totalℤ-done 8 _ _ _ c.loop-k.invariant.1 c.loop-k.invariant.0 c.loop-k-test.false)

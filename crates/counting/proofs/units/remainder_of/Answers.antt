-- `counting::units::remainder_of` meets its contract: what is left is below the denominator, which fits.
use Prim.Native.Nat.{◌+◌, ◌<◌}
use native.Mathlib.Nat.{mod-lt}
use native.Mathlib.Omega.{arith}
use borrow.Author.Tests.{eq-eqb, ne_eqb}
use Rattle.counting.specs.Units.{remainder_of}
use Rattle.counting.proofs.units.remainder_of.Goals as goal

pub returns-then-denominator-eq0 : goal.returns-then-denominator-eq0
unfolding remainder_of
returns-then-denominator-eq0 c = rw (eq-eqb _ _ c.if-denominator-eq0.true)

pub overflow_cast-result-3 : goal.overflow_cast-result-3
overflow_cast-result-3 c =
    let a = c.args in
    let some : 0 < a.input.denominator = omega arith in
    omega (arith, mod-lt (a.remainder + a.input.numerator) some)

pub returns : goal.returns
unfolding remainder_of
returns c = rw (ne_eqb _ _ c.if-denominator-eq0.false)

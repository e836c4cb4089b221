-- `display::numbers::over_tens` meets its contract: a power of ten that is past 64 bits is past every number.
use mathlib.Core.Path.{sym}
use Prim.Native.Nat.{◌^◌, ◌<◌, zero-le}
use native.Mathlib.Nat.{div-eq_of_lt, pow-le-pow_right}
use native.Mathlib.Omega.{arith}
use Rattle.display.proofs.numbers.over_tens.Goals as goal

pub nonzero_div-result : goal.nonzero_div-result
nonzero_div-result c = rw c.in-Some.ensures.1 (pow-le-pow_right {n = 10} (omega arith) {i = 0} {j = c.from.result} zero-le)

pub returns-in-Some : goal.returns-in-Some
returns-in-Some c = rw (c.in-Some.ensures.1, c.from.ensures)

pub returns-in-None : goal.returns-in-None
returns-in-None c =
    let n = c.args.n in
    let past : n < 10 ^ c.from.result = omega (arith, c.in-None.ensures, c.ranges.n.fits) in
    rw (← c.from.ensures) (sym (div-eq_of_lt past))

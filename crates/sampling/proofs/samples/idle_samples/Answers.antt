-- `sampling::samples::idle_samples` meets its contract. The invariant of both loops: no line is active in the samples from k to before `at`.
use mathlib.Core.Path.{◌≡◌}
use mathlib.Core.List.{List}
use Prim.Native.Nat.{ℕ, ◌+◌, ◌-◌, ◌≤◌}
use native.Mathlib.Nat.{add-zero}
use native.Mathlib.Omega.{arith}
use lib.Dec.{ltb}
use borrow.Author.Tests.{ltb-true, ltb-false}
use Rattle.laws.proofs.Tests.{by_test}
use Rattle.sampling.specs.Kept.{Idle}
use Rattle.sampling.proofs.samples.idle_samples.Invariants.{Passed}
use Rattle.sampling.proofs.samples.idle_samples.Goals as goal

-- some more samples have been passed
passed : (bits : List ℕ) (k room fitted s1r end at n : ℕ) → Passed bits k room fitted s1r end at → at + n ≤ end → Idle bits fitted s1r at n → Passed bits k room fitted s1r end (at + n)
passed bits k room fitted s1r end at n i l idle = (
  omega arith,
  l,
  i.2,
  i.3,
  λ x a b. by_test (ltb x at) (λ t. i.4 x a (ltb-true x at t)) (λ f. let past : at ≤ x = ltb-false x at f in let there : at + (x - at) ≡ x = omega arith in rw there at (idle (x - at) (omega arith))),
)

pub loop-at-init : goal.loop-at-init
loop-at-init c = let e = c.end_of-end.ensures in (omega arith, e.0, e.1, e.2, λ x a b. absurd (omega arith))

pub some_of_eight-requires : goal.some_of_eight-requires
some_of_eight-requires c = omega (arith, c.loop-at-test.true, c.loop-at.invariant.2)

pub loop-at-smaller : goal.loop-at-smaller
loop-at-smaller c = omega (arith, c.loop-at-test.true)

pub loop-at-preserved : goal.loop-at-preserved
loop-at-preserved c = let a = c.args in passed a.bits.now a.k a.room a.fitted a.s1r _ _ 8 c.loop-at.invariant (omega (arith, c.loop-at-test.true)) (c.some_of_eight.ensures (omega (arith, c.if-some_of_eight-gt0.false)))

pub loop-at-2-init : goal.loop-at-2-init
loop-at-2-init c = c.loop-at.invariant

pub returns-then-bits-at-gt0 : goal.returns-then-bits-at-gt0
returns-then-bits-at-gt0 c = let i = c.loop-at-2.invariant in (omega (arith, i), omega (arith, i), λ j l. i.4 _ (omega arith) (omega arith))

pub loop-at-2-preserved : goal.loop-at-2-preserved
loop-at-2-preserved c = let a = c.args in passed a.bits.now a.k a.room a.fitted a.s1r _ _ 1 c.loop-at-2.invariant (omega (arith, c.loop-at-2-test.true)) (λ j l. let z : j ≡ 0 = omega arith in rw (z, add-zero) (omega (arith, c.if-bits-at-gt0.false)))

pub returns : goal.returns
returns c = let i = c.loop-at-2.invariant in (omega (arith, i), omega (arith, i), λ j l. i.4 _ (omega arith) (omega arith))

pub bounds-bits-at : goal.bounds-bits-at
bounds-bits-at c = omega (arith, c.loop-at-2-test.true, c.loop-at-2.invariant.2)

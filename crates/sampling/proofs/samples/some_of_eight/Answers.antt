-- `sampling::samples::some_of_eight` meets its contract. The loop's invariant: where no bit is on yet, no line is active in the samples before j.
use mathlib.Core.Path.{◌≡◌}
use native.Mathlib.Omega.{arith}
use lib.Dec.{ltb}
use borrow.Author.Rules.{rules}
use borrow.Author.Tests.{ltb-true, ltb-false}
use Rattle.laws.proofs.Tests.{by_test}
use Rattle.laws.proofs.BitTests.{or_none}
use Rattle.sampling.proofs.samples.some_of_eight.Goals as goal

pub loop-j-init : goal.loop-j-init
loop-j-init c = (search rules, λ e x l. absurd (omega arith))

pub loop-j-preserved : goal.loop-j-preserved
loop-j-preserved c =
    let l = c.loop-j in
    (omega arith, λ e x h. let both = or_none _ _ e in by_test (ltb x l.j) (λ t. l.invariant.1 both.0 x (ltb-true x l.j t)) (λ f. let same : x ≡ l.j = omega (arith, ltb-false x l.j f) in rw same both.1))

pub returns : goal.returns
returns c = λ e j l. c.loop-j.invariant.1 e j (omega arith)

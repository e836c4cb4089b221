-- `counting::bills::register_units` meets its contract: past the sums there is none.
use mathlib.Core.Path.{◌≡◌, ◌∙◌}
use lib.Dec.{ltb}
use lib.ListN.{get_or}
use native.Mathlib.Omega.{arith}
use borrow.Author.Rules.{rules}
use borrow.Author.Tests.{ltb-false}
use Rattle.laws.proofs.Tests.{by_test}
use Rattle.std.proofs.lemmas.List.{get_or_past}
use Rattle.counting.specs.Bills.{register_units}
use Rattle.counting.proofs.bills.register_units.Goals as goal

pub returns : goal.returns
unfolding register_units
returns c =
    let read : c.unwrap_or.result ≡ get_or c.args.sums.now c.args.register.sum 0 = search rules in
    let n = c.args.register.sum in
    by_test (ltb n 8) (λ t. rw t read) (λ f. rw f (read ∙ get_or_past c.args.sums.now n 0 (omega (arith, ltb-false n 8 f))))

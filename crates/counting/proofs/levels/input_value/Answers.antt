-- `counting::levels::input_value` meets its contract: past the inputs there are none.
use mathlib.Core.Path.{◌≡◌}
use native.Mathlib.Omega.{arith}
use lib.Dec.{ltb}
use lib.ListN.{length, get_or}
use mir.Syntax.{w64}
use mir.Facts.{to_z-of_z}
use borrow.Author.Rules.{rules, sfits_of}
use borrow.Author.Tests.{ltb-false}
use Rattle.laws.proofs.Tests.{by_test}
use Rattle.std.proofs.lemmas.List.{get_or_past}
use Rattle.counting.specs.Levels.{input_value}
use Rattle.counting.proofs.levels.input_value.Goals as goal

pub returns : goal.returns
unfolding input_value
returns c =
    let read : c.unwrap_or.result ≡ get_or c.args.units c.args.input 0 = search rules in
    let n = c.args.input in
    let long : length c.args.units ≡ 16 = search rules in
    by_test (ltb n 16)
    (λ t. rw (t, to_z-of_z {w = w64} (sfits_of c.from.type_inv), c.from.ensures, read))
    (λ f. rw (f, to_z-of_z {w = w64} (sfits_of c.from.type_inv), c.from.ensures, read, get_or_past c.args.units n 0 (omega (arith, ltb-false n 16 f))))

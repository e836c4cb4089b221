-- `readout::numbers::all_zeros` meets its contract: the letters that are tested are those of the whole text.
use Rattle.std.proofs.Common.{rules, tests}
use Rattle.std.specs.Slice.Iter.{iter_rest}
use Rattle.std.proofs.lemmas.Iterator.{YieldsList-from_slice}
use Rattle.std.proofs.lemmas.Iterator.Search.{all_from_yields_List}
use mathlib.Core.Path.{◌≡◌, ◌∙◌}
use native.Mathlib.Omega.{arith}
use lib.Dec.{eqb}
use lib.Seq.{take_all}
use Rattle.readout.proofs.numbers.all_zeros.Goals as goal

pub returns : goal.returns
returns c =
    let text : iter_rest c.iter.result ≡ c.args.text.now = c.iter.ensures.rest ∙ search (rules, arith, take_all) in
    all_from_yields_List (λ b. eqb b 48) _ _ _ c.all.ensures.ran (YieldsList-from_slice _ text) (λ x b q k. search (rules, tests))

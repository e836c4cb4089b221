-- `sampling::clock::cleared` meets its contract: the closure gives a line whose level 0 begins anew.
use borrow.Author.Rules.{rules}
use Rattle.counting.proofs.Made.{made_table}
use Rattle.counting.specs.Filter.{line_at}
use Rattle.sampling.specs.Periods.{begun_anew, cleared_lines}
use Rattle.sampling.proofs.clock.cleared.Goals as goal

pub returns : goal.returns
unfolding cleared_lines begun_anew
returns c = made_table _ _ (λ i. begun_anew (line_at c.args.lines i)) (λ i y q k. search rules) _ 16 c.from_fn.ensures.items

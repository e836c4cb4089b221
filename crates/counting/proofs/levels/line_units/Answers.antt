-- `counting::levels::line_units` meets its contract: the closure gives a line's units.
use borrow.Author.Rules.{rules}
use Rattle.counting.proofs.Made.{made_table}
use Rattle.counting.specs.Levels.{level0}
use Rattle.counting.specs.Filter.{line_at}
use Rattle.counting.proofs.levels.line_units.Goals as goal

pub returns : goal.returns
unfolding level0
returns c = made_table _ _ (λ i. (line_at c.args.lines i).units) (λ i y q k. search rules) _ 16 c.from_fn.ensures.items

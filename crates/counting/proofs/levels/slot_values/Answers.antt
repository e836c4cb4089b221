-- `counting::levels::slot_values` meets its contract: the closure gives a slot's value.
use lib.ListN.{get_or}
use borrow.Author.Rules.{rules}
use Rattle.counting.proofs.Made.{made_table}
use Rattle.counting.specs.Levels.{slot_value, slot_values}
use Rattle.counting.proofs.levels.slot_values.Goals as goal

pub returns : goal.returns
unfolding slot_values
returns c = made_table _ _ (λ i. slot_value c.args.config c.args.units (get_or c.args.config.slots i (record { level = 0; index = 0 }))) (λ i y q k. search rules) _ 16 c.from_fn.ensures.items

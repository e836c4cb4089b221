-- `counting::levels::level9` meets its contract: the two calls in a row.
use mathlib.Core.Path.{ap, ◌∙◌}
use Rattle.counting.specs.Levels.{slot_values}
use Rattle.counting.proofs.levels.level9.Goals as goal

pub returns : goal.returns
returns c = c.slot_values.ensures ∙ ap (slot_values _) c.line_units.ensures

-- `tariff::weekly::weekly_map` meets its contract: the mask of the array that the closure makes of the weekly rules.
use mathlib.Core.Path.{◌∙◌}
use borrow.Author.Rules.{rules}
use Rattle.laws.proofs.Masks.{mask_below}
use Rattle.tariff.proofs.Made.{mask_made}
use Rattle.tariff.proofs.Maps.{used_at, weekly_made}
use Rattle.tariff.proofs.weekly.weekly_map.Goals as goal

pub overflow_cast-result : goal.overflow_cast-result
overflow_cast-result c = record { fits = rw c.mask_of.ensures (mask_below 16 _) }

pub returns : goal.returns
returns c =
    c.mask_of.ensures
    ∙ mask_made _ (used_at c.args.program.weeks c.daily_map-daily.result c.column_on-column.result) _ _ _ (λ x y q k. search rules) c.from_fn.ensures.items
    ∙ weekly_made _ _ _ _ _ c.daily_map-daily.ensures c.minute_of.ensures c.column_on-column.ensures

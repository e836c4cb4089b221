-- `tariff::rules::force_map` meets its contract: the mask of the array that the closure makes of the rules.
use mathlib.Core.Path.{◌∙◌}
use borrow.Author.Rules.{rules}
use Rattle.laws.proofs.Masks.{mask_below}
use Rattle.tariff.specs.Rules.{rule_at}
use Rattle.tariff.proofs.Made.{mask_made}
use Rattle.tariff.proofs.Maps.{applies_by, force_made}
use Rattle.tariff.proofs.rules.force_map.Goals as goal

pub overflow_cast-result : goal.overflow_cast-result
overflow_cast-result c = record { fits = rw c.mask_of.ensures (mask_below 16 _) }

pub returns : goal.returns
returns c =
    c.mask_of.ensures
    ∙ mask_made _ (λ i. applies_by c.weekly_map.result c.season_map-seasons.result (rule_at c.args.program i)) _ _ _ (λ x y q k. search rules) c.from_fn.ensures.items
    ∙ force_made _ _ _ _ _ c.weekly_map.ensures c.season_map-seasons.ensures c.date_of.ensures

-- `tariff::seasons::season_map` meets its contract: the mask of the array that the closure makes of the seasons.
use mathlib.Core.Path.{◌∙◌}
use borrow.Author.Rules.{rules}
use Rattle.tariff.specs.Seasons.{in_season, season_at, season_map}
use Rattle.tariff.proofs.Made.{mask_made}
use Rattle.tariff.proofs.seasons.season_map.Goals as goal

pub returns : goal.returns
unfolding season_map
returns c = c.mask_of.ensures ∙ mask_made _ (λ i. in_season (season_at c.args.program i) c.args.date) _ _ _ (λ x y q k. search rules) c.from_fn.ensures.items

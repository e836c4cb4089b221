-- `settings::rules::sum` meets its contract: no bit stands outside the mask.
use native.Mathlib.Omega.{arith}
use Rattle.laws.proofs.Masks.{covered}
use Rattle.settings.specs.Rules.{sum_good}
use Rattle.settings.proofs.rules.sum.Goals as goal

pub returns : goal.returns
unfolding sum_good
returns c = covered 16 c.args.x c.args.fitted (omega arith)

-- `settings::rules::fitted` meets its contract: the mask of the array that the closure makes of the inputs.
use mathlib.Core.Path.{◌∙◌, fun_ext}
use mathlib.Core.Bool.{not}
use borrow.Author.Rules.{rules}
use lib.Dec.{eqb}
use lib.ListN.{get_or}
use Rattle.tariff.proofs.Made.{mask_made}
use Rattle.laws.proofs.Masks.{bit_at_lem}
use Rattle.settings.specs.Rules.{fitted_in, zero_input}
use Rattle.settings.proofs.rules.fitted.Goals as goal

pub returns : goal.returns
unfolding fitted_in
returns c =
    let mask = c.mask_of.ensures ∙ mask_made _ (λ i. not (eqb (get_or c.args.inputs i zero_input).kind 0)) _ _ _ (λ x y q k. search rules) c.from_fn.ensures.items in
    fun_ext (λ i. rw (mask, bit_at_lem 16 _ i))

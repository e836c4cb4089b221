-- `image::read_image` meets its contract: the check's refusal, or what the bytes hold.
use mathlib.Core.Path.{sym, ap, ◌∙◌}
use native.Mathlib.Omega.{arith}
use Rattle.image.specs.Answers.{image_said, image_read}
use Rattle.image.proofs.Answers.{accepted_length, err_is, refused_on}
use Rattle.image.proofs.read_image.Goals as goal

pub config-requires : goal.config-requires
config-requires c = omega (arith, accepted_length _ (sym c.in_ok-check_image.ensures))

pub returns-in_err-check_image : goal.returns-in_err-check_image
unfolding image_read
returns-in_err-check_image c = ap image_said (err_is _ c.from_residual.ensures.1) ∙ refused_on _ _ _ c.in_err-check_image.ensures

pub returns : goal.returns
unfolding image_read
returns c = rw (← c.in_ok-check_image.ensures, c.config.ensures)

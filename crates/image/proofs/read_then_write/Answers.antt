-- `image::read_then_write` meets its contract: the elements of a slice are bytes, as the law asks.
use mathlib.Core.Path.{ap, ◌∙◌}
use Rattle.image.specs.Answers.{image_said, image_copy}
use Rattle.image.proofs.Answers.{err_is, refused_on, read_refused}
use Rattle.image.proofs.Trips.{written, copy_is}
use Rattle.image.proofs.read_then_write.Goals as goal

pub returns-in_err-config : goal.returns-in_err-config
unfolding image_copy
returns-in_err-config c = ap image_said (err_is _ c.from_residual.ensures.1) ∙ refused_on _ _ _ (read_refused _ _ c.in_err-config.ensures)

pub unwrap-requires : goal.unwrap-requires
unwrap-requires c = written _ c.in_ok-config.ensures _ c.write_image.ensures.said

pub returns : goal.returns
returns c = copy_is _ c.in_ok-config.ensures (λ i. (c.type_inv.bytes i).fits) c.write_image.ensures.buffer

-- `image::write_image` meets its contract: each answer by the tests that led to it.
use mathlib.Core.Path.{sym, ap, ◌∙◌}
use Rattle.image.specs.Answers.{write_said}
use Rattle.image.proofs.Answers.{write_value, write_no_room, write_image, err_is}
use Rattle.image.proofs.write_image.Goals as goal

pub returns-in_err-check_config : goal.returns-in_err-check_config
returns-in_err-check_config c =
    let p = write_value c.args.config c.args.buffer.now (sym c.in_err-check_config.ensures) in
    record { said = ap write_said (err_is _ c.from_residual.ensures.1) ∙ p.0; buffer = p.1 }

pub returns-then-buffer-lt-IMAGE_LENGTH : goal.returns-then-buffer-lt-IMAGE_LENGTH
returns-then-buffer-lt-IMAGE_LENGTH c =
    let p = write_no_room c.args.config c.args.buffer.now (sym c.in_ok-check_config.ensures) c.if-buffer-lt-IMAGE_LENGTH.true in
    record { said = p.0; buffer = p.1 }

pub returns : goal.returns
returns c =
    let p = write_image c.args.config c.args.buffer.now (sym c.in_ok-check_config.ensures) c.if-buffer-lt-IMAGE_LENGTH.false c.config.ensures in
    record { said = p.0; buffer = p.1 }

-- `image::check_image` meets its contract: each answer by the tests that led to it.
use mathlib.Core.Path.{◌≡◌, sym, ap, ◌∙◌}
use Rattle.settings.specs.Check.{checked}
use Rattle.image.specs.Answers.{image_said, image_answer}
use Rattle.image.proofs.Answers.{answer_length, answer_mark, answer_version, answer_checked, letters, version_is, err_is}
use Rattle.image.proofs.check_image.Goals as goal
use Rattle.image.proofs.check_image.Goals.{After-config}

pub returns-then-bytes-ne-IMAGE_LENGTH : goal.returns-then-bytes-ne-IMAGE_LENGTH
returns-then-bytes-ne-IMAGE_LENGTH c = sym (answer_length _ c.if-bytes-ne-IMAGE_LENGTH.true)

pub returns-then-not-starts_with : goal.returns-then-not-starts_with
returns-then-not-starts_with c =
    let n = c.if-bytes-ne-IMAGE_LENGTH.false in
    sym (answer_mark _ n (letters _ n c.starts_with.ensures.value ∙ c.if-not-starts_with.true))

pub returns-then-from_le_bytes-ne1 : goal.returns-then-from_le_bytes-ne1
returns-then-from_le_bytes-ne1 c =
    let n = c.if-bytes-ne-IMAGE_LENGTH.false in
    let m = letters _ n c.starts_with.ensures.value ∙ c.if-not-starts_with.false in
    sym (answer_version _ n m (λ e. c.if-from_le_bytes-ne1.true (version_is c.args.bytes.now c.from_le_bytes.ensures ∙ e)))

-- past the tests: what is left is the check of the configuration
passed : (c : After-config) → image_answer c.args.bytes.now ≡ checked c.config.result
passed c =
    let n = c.if-bytes-ne-IMAGE_LENGTH.false in
    let m = letters _ n c.starts_with.ensures.value ∙ c.if-not-starts_with.false in
    let v = sym (version_is c.args.bytes.now c.from_le_bytes.ensures) ∙ c.if-from_le_bytes-ne1.false in
    answer_checked _ n m v ∙ ap checked (sym c.config.ensures)

pub returns-in_err-check_config : goal.returns-in_err-check_config
returns-in_err-check_config c =
    ap image_said (err_is _ c.from_residual.ensures.1) ∙ c.in_err-check_config.ensures ∙ sym (passed (goal.at.returns-in_err-check_config c).After-config)

pub returns : goal.returns
returns c = c.in_ok-check_config.ensures ∙ sym (passed (goal.at.returns c).After-config)

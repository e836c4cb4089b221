-- `answers::Text::signed` meets its contract: by the sign.
use mir.Facts.{to_z-of_z}
use Rattle.answers.specs.Texts.{with_bytes}
use Rattle.answers.proofs.Laws.{signed_negative, signed_natural}
use Rattle.answers.proofs.Text.signed.Goals.{then-z-lt0, else-z-lt0}
use Rattle.answers.proofs.Text.signed.Goals as goal

pub returns : goal.returns
unfolding with_bytes
returns c =
    let z = to_z-of_z c.ranges.z in
    elim c.if-z-lt0.branch [
      | then-z-lt0 w ↦ rw (c.number.ensures, c.unsigned_abs.ensures.value, z, w.self-is, w.put.ensures, signed_negative _ (rw z at w.if-z-lt0.true))
      | else-z-lt0 w ↦ rw (c.number.ensures, c.unsigned_abs.ensures.value, z, w.self-is, signed_natural _ (rw z at w.if-z-lt0.false))
    ]

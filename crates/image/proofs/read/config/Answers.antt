-- `image::read::config` meets its contract: each section is read from its offset on.
use Rattle.image.specs.Image.{decode}
use Rattle.image.proofs.Sections.{rest_of}
use Rattle.image.proofs.read.config.Goals as goal

pub returns : goal.returns
unfolding decode
returns c =
    rw (
      c.section.ensures,
      c.section-2.ensures,
      c.section-3.ensures,
      c.section-4.ensures,
      c.section-5.ensures,
      c.program.ensures,
      c.section-6.ensures,
    )
    (simp rest_of)

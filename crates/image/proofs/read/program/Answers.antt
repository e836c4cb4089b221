-- `image::read::program` meets its contract: each section is read from its offset on.
use Rattle.image.specs.Image.{program_in}
use Rattle.image.proofs.Sections.{rest_of}
use Rattle.image.proofs.read.program.Goals as goal

pub returns : goal.returns
unfolding program_in
returns c =
    rw (
      c.section.ensures,
      c.section-2.ensures,
      c.section-3.ensures,
      c.section-4.ensures,
      c.section-5.ensures,
    )
    (simp rest_of)

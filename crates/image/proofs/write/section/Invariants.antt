-- `image::write::section` meets its contract. The loop's invariant: the entries before i are written.

use Rattle.image.proofs.Sections.{Written}
use Rattle.image.proofs.write.section.Given as goal

abbrev pub invariant-loop-i : goal.invariant-loop-i
invariant-loop-i g l = Written g.T.Entry.enc g.row.S l.initial.bytes l.entries l.bytes l.i

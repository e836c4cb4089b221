-- `answers::hex_part` meets its contract: by what is left.
use borrow.Author.Rules.{rules}
use mathlib.Core.Path.{sym}
use lib.Seq.{length-take-le}
use Rattle.answers.proofs.Laws.{part_last}
use Rattle.answers.proofs.hex_part.Goals as goal

pub returns-then-rest-le100 : goal.returns-then-rest-le100
returns-then-rest-le100 c = rw (c.hex_line.ensures, part_last _ _ _ c.min.ensures c.if-rest-le100.true)

pub slice_bounds-hex-end : goal.slice_bounds-hex-end
slice_bounds-hex-end c = sym (length-take-le _ _ (search rules))

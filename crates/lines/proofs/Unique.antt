-- No second result fits the contracts of `line_of`, `hex_bytes` and `text_after`. A part is a reference: where it stands and what it holds are the same.
use Rattle.std.proofs.Common.{sym, ◌∙◌}
use Rattle.laws.specs.Parts.{part_of}
use Rattle.laws.specs.Unique.{OneResult, OneSeen}
use Rattle.lines.proofs.line_of.Reads as line_of_reads
use Rattle.lines.proofs.hex_bytes.Reads as hex_bytes_reads
use Rattle.lines.proofs.text_after.Reads as text_after_reads

pub line_of : OneResult line_of_reads.Post
line_of κs a x y e f p q = p ∙ sym q

pub hex_bytes_lem : OneResult hex_bytes_reads.Post
hex_bytes_lem κs a x y e f p q = p.0 ∙ sym q.0

pub text_after_lem : OneSeen (λ κs r. part_of r) text_after_reads.Post
text_after_lem κs a x y e f p q = p ∙ sym q

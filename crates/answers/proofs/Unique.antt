-- No second result fits the contracts of the lines.
use mathlib.Core.Path.{sym, ◌∙◌}
use Rattle.laws.specs.Unique.{OneResult}
use Rattle.answers.proofs.ok.Reads as ok_reads
use Rattle.answers.proofs.check_line.Reads as check_line_reads
use Rattle.answers.proofs.start_line.Reads as start_line_reads
use Rattle.answers.proofs.samples_line.Reads as samples_line_reads
use Rattle.answers.proofs.set_line.Reads as set_line_reads
use Rattle.answers.proofs.reading_line.Reads as reading_line_reads
use Rattle.answers.proofs.readout_line.Reads as readout_line_reads
use Rattle.answers.proofs.block_line.Reads as block_line_reads
use Rattle.answers.proofs.dataset_line.Reads as dataset_line_reads
use Rattle.answers.proofs.register_line.Reads as register_line_reads
use Rattle.answers.proofs.list_line.Reads as list_line_reads
use Rattle.answers.proofs.maker_line.Reads as maker_line_reads
use Rattle.answers.proofs.record_line.Reads as record_line_reads
use Rattle.answers.proofs.display_line.Reads as display_line_reads
use Rattle.answers.proofs.image_part.Reads as image_part_reads
use Rattle.answers.proofs.fleet_line.Reads as fleet_line_reads
use Rattle.answers.proofs.date_line.Reads as date_line_reads
use Rattle.answers.proofs.error_line.Reads as error_line_reads

pub ok : OneResult ok_reads.Post
ok κs a x y e f p q = p ∙ sym q

pub check_line : OneResult check_line_reads.Post
check_line κs a x y e f p q = p ∙ sym q

pub start_line_lem : OneResult start_line_reads.Post
start_line_lem κs a x y e f p q = p ∙ sym q

pub samples_line_lem : OneResult samples_line_reads.Post
samples_line_lem κs a x y e f p q = p ∙ sym q

pub set_line : OneResult set_line_reads.Post
set_line κs a x y e f p q = p ∙ sym q

pub reading_line_lem : OneResult reading_line_reads.Post
reading_line_lem κs a x y e f p q = p ∙ sym q

pub readout_line : OneResult readout_line_reads.Post
readout_line κs a x y e f p q = p ∙ sym q

pub block_line_lem : OneResult block_line_reads.Post
block_line_lem κs a x y e f p q = p ∙ sym q

pub dataset_line : OneResult dataset_line_reads.Post
dataset_line κs a x y e f p q = p ∙ sym q

pub register_line_lem : OneResult register_line_reads.Post
register_line_lem κs a x y e f p q = p ∙ sym q

pub list_line : OneResult list_line_reads.Post
list_line κs a x y e f p q = p ∙ sym q

pub maker_line : OneResult maker_line_reads.Post
maker_line κs a x y e f p q = p ∙ sym q

pub record_line_lem : OneResult record_line_reads.Post
record_line_lem κs a x y e f p q = p ∙ sym q

pub display_line_lem : OneResult display_line_reads.Post
display_line_lem κs a x y e f p q = p ∙ sym q

pub image_part_lem : OneResult image_part_reads.Post
image_part_lem κs a x y e f p q = p ∙ sym q

pub fleet_line_lem : OneResult fleet_line_reads.Post
fleet_line_lem κs a x y e f p q = p ∙ sym q

pub date_line_lem : OneResult date_line_reads.Post
date_line_lem κs a x y e f p q = p ∙ sym q

pub error_line_lem : OneResult error_line_reads.Post
error_line_lem κs a x y e f p q = p ∙ sym q

-- No second result fits the contract of a function that C calls.
use mathlib.Core.Path.{sym, ◌∙◌}
use Rattle.laws.specs.Unique.{OneResult}
use Rattle.host.proofs.recorder_image_check.Reads as image_check_reads
use Rattle.host.proofs.recorder_calendar.Reads as calendar_reads
use Rattle.host.proofs.recorder_age_class.Reads as age_class_reads

pub image_check : OneResult image_check_reads.Post
image_check κs a x y e f p q = p ∙ sym q

pub calendar : OneResult calendar_reads.Post
calendar κs a x y e f p q = p ∙ sym q

pub age_class : OneResult age_class_reads.Post
age_class κs a x y e f p q = p ∙ sym q

-- No second result fits the contract of a public function of the calendar.
use mathlib.Core.Path.{◌≡◌, sym, ◌∙◌}
use Rattle.std.specs.Prelude.{Option, Some, None}
use Rattle.laws.specs.Unique.{OneResult}
use Rattle.calendar.specs.Moments.{dated_said}
use Rattle.calendar.specs.declared.Moment.{Moment}
use Rattle.calendar.proofs.is_leap.Reads as is_leap_reads
use Rattle.calendar.proofs.month_length.Reads as month_length_reads
use Rattle.calendar.proofs.day_exists.Reads as day_exists_reads
use Rattle.calendar.proofs.exists_in_some_year.Reads as exists_in_some_year_reads
use Rattle.calendar.proofs.moment_of.Reads as moment_of_reads

-- document 01's number and values tell all answers apart
pub said_apart : (x y : Option Moment) → dated_said x ≡ dated_said y → x ≡ y
said_apart (Some m) (Some n) e = cc
said_apart (Some m) None e = cc
said_apart None (Some n) e = cc
said_apart None None e = cc

pub is_leap : OneResult is_leap_reads.Post
is_leap κs a x y e f p q = p ∙ sym q

pub month_length_lem : OneResult month_length_reads.Post
month_length_lem κs a x y e f p q = p ∙ sym q

pub day_exists_lem : OneResult day_exists_reads.Post
day_exists_lem κs a x y e f p q = p ∙ sym q

pub exists_in_some_year_lem : OneResult exists_in_some_year_reads.Post
exists_in_some_year_lem κs a x y e f p q = p ∙ sym q

pub moment_of_lem : OneResult moment_of_reads.Post
moment_of_lem κs a x y e f p q = said_apart x y (p ∙ sym q)

-- No second result fits the contract of a public function of the image, and no second buffer that of writing.
use mathlib.Core.Path.{◌≡◌, refl, sym, ap, ◌∙◌}
use lib.Dec.{eqb}
use Rattle.std.specs.Prelude.{Result, Ok, Err, if◌then◌else◌}
use Rattle.laws.specs.Answers.{Answer, given, refused}
use Rattle.laws.specs.Unique.{OneResult, OneExit}
use Rattle.image.specs.Answers.{image_said, write_said}
use Rattle.image.specs.declared.ImageError.{ImageError}
use Rattle.image.specs.declared.ImageError.TheVariants as image
use Rattle.image.specs.declared.WriteError.{WriteError}
use Rattle.image.specs.declared.WriteError.TheVariants as write
use Rattle.image.proofs.blank_config.Reads as blank_config_reads
use Rattle.image.proofs.read_image.Reads as read_image_reads
use Rattle.image.proofs.check_image.Reads as check_image_reads
use Rattle.image.proofs.write_image.Reads as write_image_reads
use Rattle.image.proofs.write_then_read.Reads as write_then_read_reads
use Rattle.image.proofs.read_then_write.Reads as read_then_write_reads

-- the result that said this
unsaid : {A : Type 0} → Answer A → Result A ImageError
unsaid (given x) = Ok x
unsaid (refused n o) = Err (if eqb n 1 then image.Length else if eqb n 2 then image.Mark else if eqb n 3 then image.Version else image.Value o)

-- document 01's number and offset tell all answers to an image apart, whatever is asked for
pub image_apart : {A : Type 0} (x y : Result A ImageError) → image_said x ≡ image_said y → x ≡ y
unfolding unsaid
image_apart {A} x y e = sym (back x) ∙ ap unsaid e ∙ back y
  where
    back : (r : Result A ImageError) → unsaid (image_said r) ≡ r
    back (Ok x) = refl
    back (Err image.Length) = refl
    back (Err image.Mark) = refl
    back (Err image.Version) = refl
    back (Err (image.Value o)) = refl

-- and all answers to writing
pub write_apart : (x y : Result (Unit {0}) WriteError) → write_said x ≡ write_said y → x ≡ y
write_apart (Ok u) (Ok v) e = refl
write_apart (Ok u) (Err (write.Value o)) e = cc
write_apart (Ok u) (Err write.NoRoom) e = cc
write_apart (Err (write.Value o)) (Ok u) e = cc
write_apart (Err (write.Value o)) (Err (write.Value p)) e = cc
write_apart (Err (write.Value o)) (Err write.NoRoom) e = cc
write_apart (Err write.NoRoom) (Ok u) e = cc
write_apart (Err write.NoRoom) (Err (write.Value p)) e = cc
write_apart (Err write.NoRoom) (Err write.NoRoom) e = cc

pub blank_config_lem : OneResult blank_config_reads.Post
blank_config_lem κs a x y e f p q = p ∙ sym q

pub read_image : OneResult read_image_reads.Post
read_image κs a x y e f p q = image_apart x y (p ∙ sym q)

pub check_image : OneResult check_image_reads.Post
check_image κs a x y e f p q = image_apart x y (p ∙ sym q)

pub write_image : OneResult write_image_reads.Post
write_image κs a x y e f p q = write_apart x y (p.0 ∙ sym q.0)

-- the buffer is the second parameter
pub write_image_exit : OneExit (λ κs e. e.1.0.now) write_image_reads.Post
write_image_exit κs a x y e f p q = p.1 ∙ sym q.1

pub write_then_read : OneResult write_then_read_reads.Post
write_then_read κs a x y e f p q = image_apart x y (p ∙ sym q)

pub read_then_write : OneResult read_then_write_reads.Post
read_then_write κs a x y e f p q = image_apart x y (p ∙ sym q)

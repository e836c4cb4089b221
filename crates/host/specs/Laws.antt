-- What is proved of the numbers that C gets (proofs/Laws.antt): nothing is lost in them.
use Rattle.std.specs.Prelude.{◌≡◌, Bool, List, ℕ, ◌/◌, ◌%◌, ◌<◌}
use Rattle.laws.specs.Answers.{given, refused}
use Rattle.calendar.specs.Moments.{moment_of}
use Rattle.calendar.specs.declared.Moment.{Moment}
use Rattle.image.specs.Answers.{image_answer}
use Rattle.recorder.specs.Meters.{age_of}
use Rattle.host.specs.Host.{image_number, moment_number}

-- refusal and offset of an image come apart again, by `>> 16` and `& 0xffff`
abbrev pub ComesApart : Type 0
ComesApart =
    (image : List ℕ) (n offset : ℕ) → image_answer image ≡ refused n offset →
    let number = image_number (image_answer image) in
    (number / 65_536 ≡ n) × (number % 65_536 ≡ offset)

-- no moment is 0, the number for no date
abbrev pub MomentsAreSome : Type 0
MomentsAreSome = (t : ℕ) (m : Moment) → moment_of t ≡ given m → 0 < moment_number (moment_of t)

-- no class is a refusal's number, 8 or 10
abbrev pub ClassesBelow : Type 0
ClassesBelow = (limit : ℕ) (read : Bool) (stamp status clock class : ℕ) → age_of limit read stamp status clock ≡ given class → class < 4

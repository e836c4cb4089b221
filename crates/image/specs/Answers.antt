-- What checking, reading and writing an image answer, with document 01's numbers and offsets: "As offset 3 gives 3, 4 that of its entry, all others 0."
use Rattle.std.specs.Prelude.{Bool, ◌&&◌, List, ◌++◌, ℕ, eqb, ltb, length, get_or, drop, if◌then◌else◌, Result, Ok, Err}
use Rattle.laws.specs.Answers.{Answer, given, refused}
use Rattle.laws.specs.Bytes.{le}
use Rattle.image.specs.Image.{encode, decode, blank_config}
use Rattle.settings.specs.Check.{checked, or_else}
use Rattle.settings.specs.declared.Config.{Config}
pub use Rattle.settings.specs.Verdicts.{verdict_said}
use Rattle.image.specs.declared.ImageError.{ImageError}
use Rattle.image.specs.declared.ImageError.TheVariants as image
use Rattle.image.specs.declared.WriteError.{WriteError}
use Rattle.image.specs.declared.WriteError.TheVariants as write

-- what the answer to an image says, whatever is asked for: nothing but the check, its configuration, or its bytes
abbrev pub image_said : {A : Type 0} → Result A ImageError → Answer A
image_said (Ok x) = given x
image_said (Err image.Length) = refused 1 0
image_said (Err image.Mark) = refused 2 0
image_said (Err image.Version) = refused 3 3
image_said (Err (image.Value offset)) = refused 4 offset

-- what the answer to writing says
abbrev pub write_said : Result (Unit {0}) WriteError → Answer (Unit {0})
write_said (Ok u) = given tt
write_said (Err (write.Value offset)) = refused 4 offset
write_said (Err write.NoRoom) = refused 13 0

-- the first three bytes are the letters KRC
abbrev pub marked : List ℕ → Bool
marked b = (eqb (get_or b 0 0) 75 && eqb (get_or b 1 0) 82) && eqb (get_or b 2 0) 67

-- an image is answered: "1 LENGTH, 2 MARK, 3 VERSION: not 1,126 bytes; other letters; version not 1"; then 4 VALUE
unfoldable pub image_answer : List ℕ → Answer (Unit {0})
image_answer b =
    if eqb (length b) 1126
    then if marked b then if eqb (le 2 (drop 3 b)) 1 then checked (decode b) else refused 3 3 else refused 2 0
    else refused 1 0

-- a configuration that was asked for, or the blank one beside a refusal
abbrev pub or_blank : Answer (Unit {0}) → Config → Config
or_blank (given u) c = c
or_blank (refused n offset) c = blank_config

-- the configuration of an accepted image, and the blank one of any other
unfoldable pub image_config : List ℕ → Config
image_config b = or_blank (image_answer b) (decode b)

-- what was asked for, or the refusal in its place
abbrev pub or_refused : {A : Type 0} → Answer (Unit {0}) → A → Answer A
or_refused (given u) x = given x
or_refused (refused n offset) x = refused n offset

-- what reading an image gives: the configuration that its bytes hold, or its refusal
unfoldable pub image_read : List ℕ → Answer Config
image_read b = or_refused (image_answer b) (decode b)

-- "writing an image gives 4, with the offset the entry would have, then 13" where the buffer is shorter than 1,126 bytes
unfoldable pub write_answer : Config → ℕ → Answer (Unit {0})
write_answer c room = or_else (checked c) (if ltb room 1126 then refused 13 0 else given tt)

-- the bytes of an image before what stands after them, or the old bytes beside a refusal
abbrev pub or_kept : Answer (Unit {0}) → List ℕ → List ℕ → List ℕ
or_kept (given u) image old = image ++ drop 1126 old
or_kept (refused n offset) image old = old

-- the buffer after writing: "A refused call changes no byte of any buffer lent to it. Successful .. image writings change only as many first bytes of the
-- buffer as the .. image has."
unfoldable pub after_write : Config → List ℕ → List ℕ
after_write c old = or_kept (write_answer c (length old)) (encode c) old

-- what writing a configuration and reading it back gives: the configuration itself, or 4 VALUE
unfoldable pub come_back : Config → Answer Config
come_back c = or_refused (checked c) c

-- what reading an image and writing it anew gives: the image itself, or its refusal
unfoldable pub image_copy : List ℕ → Answer (List ℕ)
image_copy b = or_refused (image_answer b) b

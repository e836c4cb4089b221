-- What is proved of the lines: none is too long for a text, so that each text is its letters; that of empty input; and the parts of an image's line make the line.
use Rattle.std.specs.Prelude.{◌≡◌, List, [], ◌++◌, ℕ, zero, suc, ◌-◌, ◌*◌, ◌≤◌, ℤ, length, replicate}
use Rattle.laws.specs.Answers.{Answer}
use Rattle.laws.specs.Letters.{letters}
use Rattle.lines.specs.declared.Mistake.{Mistake}
use Rattle.calendar.specs.declared.Moment.{Moment}
use Rattle.image.specs.Answers.{image_answer}
use Rattle.readout.specs.declared.data_sets.Place.{Place}
use Rattle.recorder.specs.Meters.{Stamping}
use Rattle.registers.specs.declared.fleet.Fleet.{Fleet}
use Rattle.answers.specs.Texts.{as_text}
use Rattle.answers.specs.Answers.{line_end, number_line, reading_line, samples_line, start_line, register_line, record_line, display_line, image_line, image_part, block_line, data_set_line, date_line, fleet_line, error_line}

-- a text of at most 256 letters is the letters, with zeros behind them
abbrev pub TextIs : Type 0
TextIs = (l : List ℕ) → length l ≤ 256 → as_text l ≡ record { bytes = l ++ replicate (256 - length l) 0; length = length l }

-- letters that fit a text
abbrev pub Fits : List ℕ → Type 0
Fits l = length l ≤ 256

-- no line is cut
pub record NoneCut : Type 0 where
  pub number : (n : ℕ) → Fits (number_line n)
  pub reading : (a : Answer Stamping) → Fits (reading_line a)
  pub samples : (n k : ℕ) → Fits (samples_line n k)
  pub start : (a : Answer (Unit {0})) → Fits (start_line a)
  pub register : (a : Answer ℕ) (bytes : List ℕ) → length bytes ≡ 13 → Fits (register_line a bytes)
  pub profile_record : (a : Answer (Unit {0})) (bytes : List ℕ) → length bytes ≡ 69 → Fits (record_line a bytes)
  pub display : (a : Answer ℕ) (bytes : List ℕ) → Fits (display_line a bytes)
  pub image : (a : Answer (Unit {0})) (image : List ℕ) (from : ℕ) → Fits (image_part a image from)
  pub block : (a : Answer (Unit {0})) → Fits (block_line a)
  pub data_set : (place : Answer Place) (number : Answer ℤ) → Fits (data_set_line place number)
  pub date : (a : Answer Moment) → Fits (date_line a)
  pub fleet : (f : Fleet) → Fits (fleet_line f)
  pub error : (n : ℕ) (m : Mistake) → Fits (error_line n m)

-- "for empty input exactly `refused 1 at 0`"
abbrev pub EmptyLine : Type 0
EmptyLine = start_line (image_answer []) ≡ letters "refused 1 at 0" ++ line_end

-- parts k, k + 1, .. of an image's line, n of them, one after another
abbrev pub parts_from : Answer (Unit {0}) → List ℕ → ℕ → ℕ → List ℕ
parts_from a image k zero = []
parts_from a image k (suc n) = image_part a image (k * 100) ++ parts_from a image (suc k) n

-- the 12 parts of an image's line are the line
abbrev pub PartsJoin : Type 0
PartsJoin = (a : Answer (Unit {0})) (image : List ℕ) → length image ≡ 1126 → parts_from a image 0 12 ≡ image_line a image

-- CR 4: "Turn it into a whole number with a stated count of decimals, 0 to 9, and book it as a reading whose meter, STATUS and SEQ the caller gives. .. Refusals, in this order: 16 BLOCK, 17 LINE,
-- 18 NOT A NUMBER .., 19 DOES NOT FIT 32 BITS, then those of a reading."
use Rattle.std.specs.Prelude.{Result, Ok, Err, List, ℕ, ℤ, if◌then◌else◌}
use Rattle.laws.specs.Answers.{Answer, given, refused}
use Rattle.readout.specs.Answers.{line_number}
use Rattle.readout.specs.Blocks.{is_block}
use Rattle.readout.specs.declared.LineError.{LineError}
use Rattle.readout.specs.declared.LineError.TheVariants as line
use Rattle.recorder.specs.Meters.{Stamping, ReadingReply}
use Rattle.recorder.specs.Calls.{reading_number, reading_reply}
use Rattle.recorder.specs.declared.Recorder.{Recorder}
use Rattle.recorder.specs.declared.Answered.{Answered}
use Rattle.recorder.specs.declared.errors.Stamp.{Stamp}
use Rattle.recorder.specs.declared.errors.ReadoutError.{ReadoutError}
use Rattle.recorder.specs.declared.errors.ReadoutError.TheVariants as readout

-- a data set: 16 BLOCK, 17 LINE, 18 NOT A NUMBER, 19 DOES NOT FIT 32 BITS, or what the reading is answered
abbrev pub readout_number : Result Stamp ReadoutError → Answer Stamping
readout_number (Ok stamp) = reading_number (Ok stamp)
readout_number (Err readout.Block) = refused 16 0
readout_number (Err readout.Line) = refused 17 0
readout_number (Err readout.NotANumber) = refused 18 0
readout_number (Err readout.DoesNotFit) = refused 19 0
readout_number (Err (readout.Reading error)) = reading_number (Err error)

-- what is wrong with a line is why it is not booked
abbrev pub line_refusal : LineError → ReadoutError
line_refusal line.Line = readout.Line
line_refusal line.NotANumber = readout.NotANumber
line_refusal line.DoesNotFit = readout.DoesNotFit

-- what a number, or its refusal, comes to as a reading
abbrev pub booked_as : Recorder → ℕ → ℕ → ℕ → Answer ℤ → ReadingReply Recorder
booked_as r meter status seq (given value) = reading_reply r meter value status seq
booked_as r meter status seq (refused n offset) = record { answer = refused n offset; after = r }

-- the reply to a data set that is to be booked as a reading
unfoldable pub readout_reply : Recorder → ℕ → ℕ → ℕ → ℕ → List ℕ → ReadingReply Recorder
readout_reply r meter status seq decimals line = booked_as r meter status seq (line_number line decimals)

-- to one with a block around it, which is tested first
unfoldable pub block_readout_reply : Recorder → ℕ → ℕ → ℕ → ℕ → List ℕ → List ℕ → ReadingReply Recorder
block_readout_reply r meter status seq decimals block line =
    if is_block block then readout_reply r meter status seq decimals line else record { answer = refused 16 0; after = r }

-- what the code's answer says
abbrev pub readout_said : Answered Stamp ReadoutError → ReadingReply Recorder
readout_said r = record { answer = readout_number r.answer; after = r.recorder }

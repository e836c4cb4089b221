-- What each part of a format string shows, the two lines, and the reply. "Two lines of sixteen characters. .. Characters past the sixteenth of a line are dropped, and lines after the second too; what
-- isn't written is blank. .. Refusals: 13 NO ROOM first, for a buffer below 32 bytes; then in string order 21 FORMAT for a bad specification, 22 ARGUMENT when bytes are missing or name no readable field."
use Rattle.std.specs.Prelude.{List, [], ◌∷◌, ◌++◌, map, ℕ, zero, suc, ltb, length, get_or, drop, if◌then◌else◌, Result, Ok, Err}
use Rattle.laws.specs.Answers.{Answer, given, refused}
use Rattle.laws.specs.Tables.{table}
use Rattle.calendar.specs.Moments.{moment_of}
use Rattle.recorder.specs.declared.Recorder.{Recorder}
use Rattle.registers.specs.Registers.{RegisterReply, refusal, register_read}
use Rattle.display.specs.Formats.{FormatPart, letter, line_break, the_date, the_time, number, bad_format, meaning}
use Rattle.display.specs.Fields.{argument_of, read_by}
use Rattle.display.specs.Numbers.{date_shown, time_shown, number_shown}
use Rattle.display.specs.declared.DisplayError.{DisplayError}
use Rattle.display.specs.declared.DisplayError.TheVariants.{NoRoom, Format, Argument}
use Rattle.display.specs.declared.fields.Value.{Value}
use Rattle.display.specs.declared.formats.Form.{Form}

-- what parts come to: characters and line breaks
pub data Mark : Type 0 where
  character : ℕ → Mark
  new_line : Mark

-- text, a character each
abbrev pub characters : List ℕ → List Mark
characters text = map character text

-- what is shown, with something before it
abbrev pub preceded : List Mark → Answer (List Mark) → Answer (List Mark)
preceded marks (given later) = given (marks ++ later)
preceded marks (refused n offset) = refused n offset

-- a number before what is shown; 22 ARGUMENT where it cannot be read
abbrev pub number_before : Form → Answer Value → Answer (List Mark) → Answer (List Mark)
number_before form (given value) later = preceded (characters (number_shown form value)) later
number_before form (refused n offset) later = refused n offset

-- what parts show at a second of the clock, with a way to read registers: "in string order 21 FORMAT .., 22 ARGUMENT"; each number uses up three argument bytes
unfoldable pub shown_by : ℕ → (ℕ → ℕ → Answer (List ℕ)) → List ℕ → List FormatPart → Answer (List Mark)
shown_by clock read arguments [] = given []
shown_by clock read arguments (letter b ∷ parts) = preceded (character b ∷ []) (shown_by clock read arguments parts)
shown_by clock read arguments (line_break ∷ parts) = preceded (new_line ∷ []) (shown_by clock read arguments parts)
shown_by clock read arguments (the_date ∷ parts) = preceded (characters (date_shown (moment_of clock))) (shown_by clock read arguments parts)
shown_by clock read arguments (the_time ∷ parts) = preceded (characters (time_shown (moment_of clock))) (shown_by clock read arguments parts)
shown_by clock read arguments (number form ∷ parts) = number_before form (argument_of read arguments) (shown_by clock read (drop 3 arguments) parts)
shown_by clock read arguments (bad_format ∷ parts) = refused 21 0

-- line k: what stands behind the k-th line break, up to the next
unfoldable pub line_shown : ℕ → List Mark → List ℕ
line_shown k [] = []
line_shown zero (character b ∷ marks) = b ∷ line_shown zero marks
line_shown zero (new_line ∷ marks) = []
line_shown (suc k) (character b ∷ marks) = line_shown (suc k) marks
line_shown (suc k) (new_line ∷ marks) = line_shown k marks

-- sixteen characters of a line: those past them are dropped, and what isn't written is blank, 32
abbrev pub sixteen : List ℕ → List ℕ
sixteen line = table 16 (λ i. get_or line i 32)

-- the two lines: any after the second are dropped
abbrev pub two_lines : List Mark → List ℕ
two_lines marks = sixteen (line_shown 0 marks) ++ sixteen (line_shown 1 marks)

-- the reply with what is shown: 32 bytes, or the refusal
abbrev pub displayed : Answer (List Mark) → List ℕ → RegisterReply
displayed (given marks) buffer = register_read 32 (two_lines marks) buffer
displayed (refused n offset) buffer = refusal n buffer

-- the reply to a format string at a second of the clock, with a way to read registers
unfoldable pub display_with : ℕ → (ℕ → ℕ → Answer (List ℕ)) → List ℕ → List ℕ → List ℕ → RegisterReply
display_with clock read format arguments buffer =
    if ltb (length buffer) 32 then refusal 13 buffer else displayed (shown_by clock read arguments (meaning format)) buffer

-- the reply of a recorder
abbrev pub display_reply : Recorder → List ℕ → List ℕ → List ℕ → RegisterReply
display_reply r format arguments buffer = display_with r.state.clock (read_by r) format arguments buffer

-- document 02's number of a refusal
abbrev pub error_number : DisplayError → ℕ
error_number NoRoom = 13
error_number Format = 21
error_number Argument = 22

-- what the code's answer says: 32 bytes were given, or document 02's number
abbrev pub display_said : Result (Unit {0}) DisplayError → Answer ℕ
display_said (Ok u) = given 32
display_said (Err error) = refused (error_number error) 0

-- the code's answer with the buffer after the call
abbrev pub display_replied : Result (Unit {0}) DisplayError → List ℕ → RegisterReply
display_replied answer buffer = record { answer = display_said answer; buffer = buffer }

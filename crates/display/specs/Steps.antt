-- What only the code has: the screen on which it writes, character by character, and what its private answers say.
use Rattle.std.specs.Prelude.{Bool, List, [], ◌∷◌, ℕ, ◌+◌, leb, replicate, set, if◌then◌else◌, Option, Some, None, Result, Ok, Err}
use Rattle.laws.specs.Answers.{Answer, given, refused}
use Rattle.recorder.specs.declared.Recorder.{Recorder}
use Rattle.display.specs.Formats.{FormatPart, the_date, the_time, number, Begun, begun, bad_in, meaning, parts_behind, specification_in}
use Rattle.display.specs.Fields.{read_by}
use Rattle.display.specs.Displays.{Mark, character, new_line, shown_by, error_number}
use Rattle.display.specs.declared.DisplayError.{DisplayError}
use Rattle.display.specs.declared.fields.Value.{Value}
use Rattle.display.specs.declared.formats.Kind.{Kind}
use Rattle.display.specs.declared.formats.Kind.TheVariants as kind
use Rattle.display.specs.declared.formats.Specification.{Specification}
use Rattle.display.specs.declared.screen.Screen.{Screen}

-- nothing written: 32 blanks, and the first line to be written
abbrev pub blank_screen : Screen
blank_screen = record { at = 0; end = 16; cells = replicate 32 32 }

-- one character more; dropped where its line is full
unfoldable pub put_of : Screen → ℕ → Screen
put_of s b =
    if leb s.end s.at then s
    else if leb 32 s.at then s
    else record { at = s.at + 1; end = s.end; cells = set s.cells s.at b }

-- the characters of a text
unfoldable pub puts_of : Screen → List ℕ → Screen
puts_of s [] = s
puts_of s (b ∷ rest) = puts_of (put_of s b) rest

-- the line that begins where this one ends; it ends with the display
abbrev pub next_line : Screen → Screen
next_line s = record { at = s.end; end = 32; cells = s.cells }

-- a line break, or a character
abbrev pub text_put : Screen → Bool → ℕ → Screen
text_put s broken b = if broken then next_line s else put_of s b

-- characters and line breaks, one after another
unfoldable pub written_on : Screen → List Mark → Screen
written_on s [] = s
written_on s (character b ∷ marks) = written_on (put_of s b) marks
written_on s (new_line ∷ marks) = written_on (next_line s) marks

-- the 32 characters that come of it, or the refusal
abbrev pub cells_of : Screen → Answer (List Mark) → Answer (List ℕ)
cells_of s (given marks) = given (written_on s marks).cells
cells_of s (refused n offset) = refused n offset

-- what parts come to on a screen
abbrev pub parts_on : Recorder → List FormatPart → List ℕ → Screen → Answer (List ℕ)
parts_on r parts arguments s = cells_of s (shown_by r.state.clock (read_by r) arguments parts)

-- the text step: what a string comes to
unfoldable pub page_from : Recorder → List ℕ → List ℕ → Screen → Answer (List ℕ)
page_from r format arguments s = parts_on r (meaning format) arguments s

-- the specification step: what stands behind a per cent, and what follows it
unfoldable pub page_behind : Recorder → List ℕ → List ℕ → Screen → Answer (List ℕ)
page_behind r format arguments s = let first = specification_in format in parts_on r (first.part ∷ parts_behind first.bytes format) arguments s

-- what a step came to: the 32 characters, or the refusal
abbrev pub page_said : Result Screen DisplayError → Answer (List ℕ)
page_said (Ok shown) = given shown.cells
page_said (Err error) = refused (error_number error) 0

-- what the code's answer to an argument says
abbrev pub field_said : Option Value → Answer Value
field_said (Some value) = given value
field_said None = refused 22 0

-- the part that a specification of the code is
abbrev pub kind_said : Kind → FormatPart
kind_said kind.Date = the_date
kind_said kind.Time = the_time
kind_said (kind.Number form) = number form

-- and how many bytes it has; where the code finds none, the string has a bad one
abbrev pub specification_said : List ℕ → Option Specification → Begun
specification_said s (Some found) = begun (kind_said found.kind) found.bytes
specification_said s None = bad_in s

-- "The dashboard's host is written in C and asks three things directly, the image check, the calendar and a meter's age class, with numbers and bytes only."
use Rattle.std.specs.Prelude.{Bool, not, ℕ, ◌+◌, ◌*◌, ◌^◌, eqb}
use Rattle.laws.specs.Answers.{Answer, given, refused}
use Rattle.calendar.specs.declared.Moment.{Moment}

-- an image: 0 where it is accepted, else the number of the refusal times 65,536 and the offset
abbrev pub image_number : Answer (Unit {0}) → ℕ
image_number (given u) = 0
image_number (refused n offset) = n * 65_536 + offset

-- a moment: the year in the low two bytes, then month, day, weekday, hour, minute and second, one byte each upwards; 0 for no date
abbrev pub moment_number : Answer Moment → ℕ
moment_number (given m) =
    m.year + m.month * 256 ^ 2 + m.day * 256 ^ 3 + m.weekday * 256 ^ 4 + m.hour * 256 ^ 5 + m.minute * 256 ^ 6 + m.second * 256 ^ 7
moment_number (refused n offset) = 0

-- whether read: "0 no, any other number yes"
abbrev pub said_yes : ℕ → Bool
said_yes read = not (eqb read 0)

-- an age class: its number, 0 awake, 1 stale, 2 invalid, 3 never; else the number of the refusal
abbrev pub answer_number : Answer ℕ → ℕ
answer_number (given class) = class
answer_number (refused n offset) = n

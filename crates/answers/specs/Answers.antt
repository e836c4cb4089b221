-- The line of each answer, with its end.
use Rattle.std.specs.Prelude.{List, [], ◌∷◌, ◌++◌, ℕ, ◌+◌, ◌/◌, eqb, leb, ℤ, length, get_or, take, drop, if◌then◌else◌}
use Rattle.laws.specs.Answers.{Answer, given, refused}
use Rattle.laws.specs.Letters.{letters}
use Rattle.lines.specs.declared.Mistake.{Mistake}
use Rattle.calendar.specs.declared.Moment.{Moment}
use Rattle.registers.specs.declared.fleet.Fleet.{Fleet}
use Rattle.readout.specs.declared.data_sets.Place.{Place}
use Rattle.recorder.specs.Meters.{Stamping, renewed, kept}
use Rattle.answers.specs.Errors.{mistake_text}
use Rattle.laws.specs.Decimals.{decimal_of}
use Rattle.answers.specs.Numbers.{decimal_signed, two_digits, hex_of}

-- the end of a line
abbrev pub line_end : List ℕ
line_end = 10 ∷ []

-- a call that was taken
abbrev pub ok_line : List ℕ
ok_line = letters "ok" ++ line_end

-- `refused N`
abbrev pub refused_line : ℕ → List ℕ
refused_line n = letters "refused " ++ (decimal_of n ++ line_end)

-- `refused N at OFFSET`
abbrev pub refused_at : ℕ → ℕ → List ℕ
refused_at n offset = letters "refused " ++ (decimal_of n ++ (letters " at " ++ (decimal_of offset ++ line_end)))

-- `refused N after K`
abbrev pub refused_after : ℕ → ℕ → List ℕ
refused_after n k = letters "refused " ++ (decimal_of n ++ (letters " after " ++ (decimal_of k ++ line_end)))

-- the line of document 01's number of a call; 0 is none
abbrev pub number_line : ℕ → List ℕ
number_line n = if eqb n 0 then ok_line else refused_line n

-- the line of a reading: what became of the stamp, or the refusal
abbrev pub reading_line : Answer Stamping → List ℕ
reading_line (given renewed) = letters "renewed" ++ line_end
reading_line (given kept) = letters "kept" ++ line_end
reading_line (refused n offset) = refused_line n

-- the line of samples: the number of the refusal, or 0, and how many were taken
abbrev pub samples_line : ℕ → ℕ → List ℕ
samples_line n k = if eqb n 0 then ok_line else refused_after n k

-- the line of a start, and of the check of an image
abbrev pub start_line : Answer (Unit {0}) → List ℕ
start_line (given u) = ok_line
start_line (refused n offset) = refused_at n offset

-- the line of a register request: as many bytes of the buffer as were given, or the refusal
abbrev pub register_line : Answer ℕ → List ℕ → List ℕ
register_line (given n) bytes = hex_of (take n bytes) ++ line_end
register_line (refused n offset) bytes = refused_line n

-- the line of a request for a record: its bytes, or the refusal
abbrev pub record_line : Answer (Unit {0}) → List ℕ → List ℕ
record_line (given u) bytes = hex_of bytes ++ line_end
record_line (refused n offset) bytes = refused_line n

-- `|aaaaaaaaaaaaaaaa|bbbbbbbbbbbbbbbb|`: the two lines of the display, sixteen characters each
unfoldable pub shown_line : List ℕ → List ℕ
shown_line bytes = letters "|" ++ (take 16 bytes ++ (letters "|" ++ (take 16 (drop 16 bytes) ++ (letters "|" ++ line_end))))

-- the line of a display: what is shown, or the refusal
abbrev pub display_line : Answer ℕ → List ℕ → List ℕ
display_line (given n) bytes = shown_line bytes
display_line (refused n offset) bytes = refused_line n

-- the line of an image written back: its bytes, or the refusal
abbrev pub image_line : Answer (Unit {0}) → List ℕ → List ℕ
image_line (given u) image = hex_of image ++ line_end
image_line (refused n offset) image = refused_at n offset

-- what follows bytes up to a place: the line's end, once there are no more
abbrev pub end_after : List ℕ → ℕ → List ℕ
end_after image to = if leb (length image) to then line_end else []

-- the part of that line from a byte on: 100 bytes, or those that are left and the end; a refusal stands at 0
unfoldable pub image_part : Answer (Unit {0}) → List ℕ → ℕ → List ℕ
image_part (given u) image from = hex_of (take 100 (drop from image)) ++ end_after image (from + 100)
image_part (refused n offset) image from = if eqb from 0 then refused_at n offset else []

-- the line of the check of a block
abbrev pub block_line : Answer (Unit {0}) → List ℕ
block_line (given u) = ok_line
block_line (refused n offset) = refused_line n

-- `value OFFSET LENGTH NUMBER`
unfoldable pub value_line : Place → ℤ → List ℕ
value_line p z = letters "value " ++ (decimal_of p.start ++ (letters " " ++ (decimal_of p.length ++ (letters " " ++ (decimal_signed z ++ line_end)))))

-- the line of a data set: where its value stands and the whole number of it, or the refusal
abbrev pub data_set_line : Answer Place → Answer ℤ → List ℕ
data_set_line (given p) (given z) = value_line p z
data_set_line (given p) (refused n offset) = refused_line n
data_set_line (refused n offset) number = refused_line n

-- the weekdays before Sunday
abbrev pub weekday_names : List (List ℕ)
weekday_names = letters "Monday" ∷ letters "Tuesday" ∷ letters "Wednesday" ∷ letters "Thursday" ∷ letters "Friday" ∷ letters "Saturday" ∷ []

-- the name of a weekday, 0 is Monday
unfoldable pub weekday_name : ℕ → List ℕ
weekday_name d = get_or weekday_names d (letters "Sunday")

-- `03.03.1973`
abbrev pub day_text : Moment → List ℕ
day_text m = two_digits m.day ++ (letters "." ++ (two_digits m.month ++ (letters "." ++ (two_digits (m.year / 100) ++ two_digits m.year))))

-- `09:46:40`
abbrev pub time_text : Moment → List ℕ
time_text m = two_digits m.hour ++ (letters ":" ++ (two_digits m.minute ++ (letters ":" ++ two_digits m.second)))

-- `Saturday 03.03.1973 09:46:40`
unfoldable pub date_line : Answer Moment → List ℕ
date_line (given m) = weekday_name m.weekday ++ (letters " " ++ (day_text m ++ (letters " " ++ (time_text m ++ line_end))))
date_line (refused n offset) = refused_line n

-- the meters of each age class
abbrev pub classes_text : Fleet → List ℕ
classes_text f =
    letters " awake " ++ (decimal_of f.awake ++ (letters " stale " ++ (decimal_of f.stale
    ++ (letters " invalid " ++ (decimal_of f.invalid ++ (letters " never " ++ decimal_of f.never))))))

-- `fitted 31 awake 26 stale 4 invalid 1 never 0 sum 12345`
unfoldable pub fleet_line : Fleet → List ℕ
fleet_line f = letters "fitted " ++ (decimal_of f.fitted ++ (classes_text f ++ (letters " sum " ++ (decimal_signed f.sum ++ line_end))))

-- the line of a wrong line: its number, counted from 1, and what would be right there
unfoldable pub error_line : ℕ → Mistake → List ℕ
error_line n m = letters "error: line " ++ (decimal_of n ++ (letters ": " ++ (mistake_text m ++ line_end)))

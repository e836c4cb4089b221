-- What is proved of the display, for every recorder and every way to read registers: what is meant is what is written, numbers are those that were read, and what is dropped.
use Rattle.std.specs.Prelude.{◌≡◌, true, false, List, [], ◌∷◌, ◌++◌, ◌⊎◌, ℕ, suc, ◌+◌, ◌*◌, ◌^◌, ◌≤◌, ◌<◌, max, ℤ, pos, negsuc, length, get_or, drop, replicate, if◌then◌else◌}
use Rattle.std.specs.Int.{w32, w64}
use Rattle.std.proofs.Common.{SFits, of_z}
use Rattle.laws.specs.Answers.{Answer, given, refused}
use Rattle.laws.specs.Bytes.{bytes_of}
use Rattle.laws.specs.Decimals.{is_digit, value_from}
use Rattle.laws.specs.Each.{Each}
use Rattle.laws.specs.Total.{total}
use Rattle.calendar.specs.Moments.{IsMoment, moment_of}
use Rattle.calendar.specs.declared.Moment.{Moment}
use Rattle.readout.specs.DataSets.{AllOf}
use Rattle.readout.specs.Numbers.{Decimal, text_of, IsDecimal, Is, signed, most, whole_number}
use Rattle.registers.specs.Registers.{groups}
use Rattle.display.specs.Formats.{FormatPart, letter, line_break, the_date, the_time, number, bad_format, meaning}
use Rattle.display.specs.Written.{WrittenAs, NoSpecification}
use Rattle.display.specs.Fields.{field_bytes, is_signed, signed_value, value_in}
use Rattle.display.specs.Numbers.{date_shown, time_shown, written_by, padding_of, number_shown}
use Rattle.display.specs.Displays.{Mark, new_line, characters, preceded, shown_by, line_shown, two_lines, display_with}
use Rattle.display.specs.declared.fields.Value.{Value}
use Rattle.display.specs.declared.formats.Form.{Form}

-- What a format string means

-- a string in which the first bad specification stands behind some good parts
pub record BadBehind (format : List ℕ) : Type 0 where
  pub parts : List FormatPart
  pub text : List ℕ
  pub rest : List ℕ
  pub split : format ≡ text ++ (37 ∷ rest)
  pub good : WrittenAs parts text
  pub bad : NoSpecification rest
  pub means : meaning format ≡ parts ++ (bad_format ∷ [])

-- a string means the only parts that it can be written as; where there are none, those before its first bad specification, and FORMAT there
pub record MeansAsWritten : Type 0 where
  pub each : (parts : List FormatPart) (format : List ℕ) → WrittenAs parts format → meaning format ≡ parts
  pub found : (format : List ℕ) → WrittenAs (meaning format) format ⊎ BadBehind format

-- What a number shows

-- no zero in front but a single one
abbrev pub NoZeroInFront : List ℕ → Type 0
NoZeroInFront digits = (length digits ≡ 1) ⊎ (get_or digits 0 0 ≡ 48 → ⊥)

-- the characters of a number are a decimal number, w, with blanks in front or none
pub record Reads (f : Form) (v : Value) (w : Decimal) : Type 0 where
  -- a sign, digits, and where there are decimals a point with as many behind it
  pub rules : IsDecimal w
  pub sign : w.minus ≡ v.minus
  pub decimals : length w.fraction ≡ f.decimals
  -- read as a decimal number it is the value; with u, the value over ten to the decimals
  pub is : Is w (if f.shifted then f.decimals else 0) v.size
  -- if the zero stands, there are no blanks: zeros stand after the sign
  pub zeros : f.zeros ≡ true → number_shown f v ≡ text_of w
  -- else the blanks stand before the sign, and no zero is in front of the digits
  pub blanks : f.zeros ≡ false → number_shown f v ≡ replicate (padding_of f v) 32 ++ text_of w
  pub front : f.zeros ≡ false → NoZeroInFront w.whole

-- each number of 64 bits is shown so, and the width is met exactly, unless the number is longer without any padding
pub record NumbersRead : Type 0 where
  pub reads : (f : Form) (v : Value) → v.size < 2 ^ 64 → (w : Decimal) × Reads f v w
  pub width : (f : Form) (v : Value) → length (number_shown f v) ≡ max f.width (length (text_of (written_by f v)))

-- a number of 32 bits that is shown without blanks is read by the reader of data sets as what it is
abbrev pub ReadByMeters : Type 0
ReadByMeters =
    (f : Form) (v : Value) → f.decimals ≤ 9 → v.size ≤ most v.minus → f.zeros ≡ true
    → whole_number (number_shown f v) (if f.shifted then f.decimals else 0) ≡ given (signed v.minus v.size)

-- Fields

-- the fields of each register are its bytes, one after another
abbrev pub FieldsFill : Type 0
FieldsFill = Each (λ g. total 6 (λ k. get_or (field_bytes g.number) k 0) ≡ g.bytes) groups

-- numbers one after another, each in as many bytes as its field has
unfoldable pub one_after_another : List ℕ → List ℕ → List ℕ
one_after_another [] numbers = []
one_after_another (n ∷ fields) numbers = bytes_of n (get_or numbers 0 0) ++ one_after_another fields (drop 1 numbers)

-- "field from 0": field k of such bytes is the k-th number, with its sign
abbrev pub FieldsInOrder : Type 0
FieldsInOrder =
    (group : ℕ) (numbers : List ℕ) (k : ℕ) →
    let n = get_or (field_bytes group) k 0 in
    k < length (field_bytes group) → get_or numbers k 0 < 256 ^ n
    → value_in group k (one_after_another (field_bytes group) numbers) ≡ given (signed_value (is_signed group k) n (get_or numbers k 0))

-- a signed number with its sign apart
abbrev pub apart : ℤ → Value
apart (pos n) = record { minus = false; size = n }
apart (negsuc n) = record { minus = true; size = suc n }

-- a signed field of four or eight bytes, two's complement, is the number that was stored
pub record SignedBack : Type 0 where
  pub four : (z : ℤ) → SFits w32 z → signed_value true 4 (of_z w32 z) ≡ apart z
  pub eight : (z : ℤ) → SFits w64 z → signed_value true 8 (of_z w64 z) ≡ apart z

-- Dates and times

-- a number in exactly k digits
pub record InDigits (k n : ℕ) (text : List ℕ) : Type 0 where
  pub many : length text ≡ k
  pub digits : AllOf is_digit text
  pub is : value_from 0 text ≡ n

-- three numbers with a letter between them: the first two have two digits, and the last has k
pub record Three (between x y k z : ℕ) (shown : List ℕ) : Type 0 where
  pub first : List ℕ
  pub second : List ℕ
  pub third : List ℕ
  pub split : shown ≡ first ++ (between ∷ second ++ (between ∷ third))
  pub is_first : InDigits 2 x first
  pub is_second : InDigits 2 y second
  pub is_third : InDigits k z third

-- a second shows the date, with points, 46, and the time, with colons, 58, of its moment: the one that exists and counts to it
pub record MomentShown (t : ℕ) : Type 0 where
  pub moment : Moment
  pub is : IsMoment t moment
  pub date : Three 46 moment.day moment.month 4 moment.year (date_shown (moment_of t))
  pub time : Three 58 moment.hour moment.minute 2 moment.second (time_shown (moment_of t))

-- so does each second of the clock
abbrev pub DatesRead : Type 0
DatesRead = (t : ℕ) → t < 2 ^ 32 → MomentShown t

-- Arguments

-- how many numbers parts have
abbrev pub numbers_in : List FormatPart → ℕ
numbers_in [] = 0
numbers_in (letter b ∷ parts) = numbers_in parts
numbers_in (line_break ∷ parts) = numbers_in parts
numbers_in (the_date ∷ parts) = numbers_in parts
numbers_in (the_time ∷ parts) = numbers_in parts
numbers_in (number form ∷ parts) = suc (numbers_in parts)
numbers_in (bad_format ∷ parts) = numbers_in parts

-- each number uses up three argument bytes and nothing else does, wherever it stands; spare ones change nothing
pub record ArgumentsInOrder : Type 0 where
  pub shown : (clock : ℕ) (read : ℕ → ℕ → Answer (List ℕ)) (arguments : List ℕ) (parts later : List FormatPart) (marks : List Mark)
      → shown_by clock read arguments parts ≡ given marks
      → shown_by clock read arguments (parts ++ later) ≡ preceded marks (shown_by clock read (drop (3 * numbers_in parts) arguments) later)
  -- "in string order": the first refusal is given, whatever follows it
  pub refusals : (clock : ℕ) (read : ℕ → ℕ → Answer (List ℕ)) (arguments : List ℕ) (parts later : List FormatPart) (n offset : ℕ)
      → shown_by clock read arguments parts ≡ refused n offset → shown_by clock read arguments (parts ++ later) ≡ refused n offset
  pub spare : (clock : ℕ) (read : ℕ → ℕ → Answer (List ℕ)) (arguments more : List ℕ) (parts : List FormatPart) (marks : List Mark)
      → shown_by clock read arguments parts ≡ given marks → shown_by clock read (arguments ++ more) parts ≡ given marks

-- The two lines

-- the characters before a first line break are the first line, all of them where there is none, and the second line is the first of what stands behind it
pub record LinesAsBroken : Type 0 where
  pub alone : (text : List ℕ) → line_shown 0 (characters text) ≡ text
  pub no_second : (text : List ℕ) → line_shown 1 (characters text) ≡ []
  pub first : (text : List ℕ) (behind : List Mark) → line_shown 0 (characters text ++ (new_line ∷ behind)) ≡ text
  pub second : (text : List ℕ) (behind : List Mark) → line_shown 1 (characters text ++ (new_line ∷ behind)) ≡ line_shown 0 behind

-- "Characters past the sixteenth of a line are dropped, and lines after the second too": what is shown goes by the first sixteen of the first two lines alone, each at its place
pub record OnlyTwoLines : Type 0 where
  pub first : (marks : List Mark) (i : ℕ) → i < 16 → get_or (two_lines marks) i 0 ≡ get_or (line_shown 0 marks) i 32
  pub second : (marks : List Mark) (i : ℕ) → i < 16 → get_or (two_lines marks) (16 + i) 0 ≡ get_or (line_shown 1 marks) i 32
  pub characters : (marks : List Mark) → length (two_lines marks) ≡ 32
  pub dropped : (marks others : List Mark)
      → ((i : ℕ) → i < 16 → get_or (line_shown 0 marks) i 32 ≡ get_or (line_shown 0 others) i 32)
      → ((i : ℕ) → i < 16 → get_or (line_shown 1 marks) i 32 ≡ get_or (line_shown 1 others) i 32)
      → two_lines marks ≡ two_lines others

-- The buffer

-- "A refused call changes no byte of any buffer lent to it"
abbrev pub RefusedDisplay : Type 0
RefusedDisplay =
    (clock : ℕ) (read : ℕ → ℕ → Answer (List ℕ)) (format arguments buffer : List ℕ) (n offset : ℕ)
    → (display_with clock read format arguments buffer).answer ≡ refused n offset → (display_with clock read format arguments buffer).buffer ≡ buffer

-- a display that is shown writes the two lines into the first 32 bytes, and no more
pub record LinesWritten (clock : ℕ) (read : ℕ → ℕ → Answer (List ℕ)) (format arguments buffer : List ℕ) : Type 0 where
  pub marks : List Mark
  pub all : shown_by clock read arguments (meaning format) ≡ given marks
  pub room : 32 ≤ length buffer
  pub after : (display_with clock read format arguments buffer).buffer ≡ two_lines marks ++ drop 32 buffer

-- "Only the first 32 bytes are written, and only on success": each display that is answered has done so
abbrev pub ShownFirst : Type 0
ShownFirst =
    (clock : ℕ) (read : ℕ → ℕ → Answer (List ℕ)) (format arguments buffer : List ℕ) (n : ℕ)
    → (display_with clock read format arguments buffer).answer ≡ given n → (n ≡ 32) × LinesWritten clock read format arguments buffer

-- Dates, times and numbers as they are shown. "F shows one field of a register in decimal: 123 under %09.1F is 0000123.0. With a u before the F the value is shifted by the decimals, so 123456 under
-- %09.3uF is 00123.456. Width counts sign and point; a digit stands before each point, without u zeros after it; without decimals, or with 0, no point shows; padding stands on the left (blanks, or if
-- the zero stands, zeros after the sign), and a longer number is shown whole."
use Rattle.std.specs.Prelude.{List, [], ◌∷◌, ◌++◌, ℕ, ◌-◌, ◌/◌, ◌^◌, length, replicate, if◌then◌else◌}
use Rattle.laws.specs.Answers.{Answer, given, refused}
use Rattle.laws.specs.Decimals.{last_digits, decimal_of}
use Rattle.calendar.specs.declared.Moment.{Moment}
use Rattle.readout.specs.Numbers.{Decimal, sign_text, pointed, text_of}
use Rattle.display.specs.declared.fields.Value.{Value}
use Rattle.display.specs.declared.formats.Form.{Form}

-- "per cent D (03.03.1973)": day, month and year with points, 46, between them; a second without a date, which the clock has none, shows nothing
abbrev pub date_shown : Answer Moment → List ℕ
date_shown (given m) = last_digits 2 m.day ++ (46 ∷ last_digits 2 m.month ++ (46 ∷ last_digits 4 m.year))
date_shown (refused n offset) = []

-- "per cent T (09:46:40)": hour, minute and second with colons, 58, between them
abbrev pub time_shown : Answer Moment → List ℕ
time_shown (given m) = last_digits 2 m.hour ++ (58 ∷ last_digits 2 m.minute ++ (58 ∷ last_digits 2 m.second))
time_shown (refused n offset) = []

-- the number before the point: "with a u .. the value is shifted by the decimals"
abbrev pub whole_shown : Form → ℕ → ℕ
whole_shown f size = if f.shifted then size / 10 ^ f.decimals else size

-- the digits after it: with u the last ones of the value; "without u zeros", 48
abbrev pub fraction_shown : Form → ℕ → List ℕ
fraction_shown f size = if f.shifted then last_digits f.decimals size else replicate f.decimals 48

-- the number as it is written, without padding
abbrev pub written_by : Form → Value → Decimal
written_by f v = record { minus = v.minus; whole = decimal_of (whole_shown f v.size); fraction = fraction_shown f v.size }

-- "Width counts sign and point .. and a longer number is shown whole": how much is missing to the width
abbrev pub padding_of : Form → Value → ℕ
padding_of f v = f.width - length (text_of (written_by f v))

-- "padding stands on the left (blanks, 32, or if the zero stands, zeros after the sign)"
unfoldable pub number_shown : Form → Value → List ℕ
number_shown f v =
    let w = written_by f v in
    if f.zeros then sign_text w.minus ++ (replicate (padding_of f v) 48 ++ (w.whole ++ pointed w.fraction))
    else replicate (padding_of f v) 32 ++ text_of w

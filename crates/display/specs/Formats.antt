-- What a format string means: "plain text, a line break (backslash n; any other backslash is text), per cent D .., per cent T .., or per cent, optional zero, optional width 1 to 16 without leading
-- zero, optional point with one digit of decimals, optional u, and F. Text and specifications alternate until the string ends."
use Rattle.std.specs.Prelude.{Bool, not, ◌&&◌, ◌||◌, List, [], ◌∷◌, ℕ, zero, suc, ◌+◌, ◌-◌, ◌*◌, ltb, leb, eqb, length, get_or, drop, if◌then◌else◌}
use Rattle.laws.specs.Decimals.{is_digit}
use Rattle.laws.specs.Masks.{bit}
use Rattle.display.specs.declared.formats.Form.{Form}

-- a part of a format string: a character of plain text, a line break, the date, the time, a number in its form (zero, width, decimals, u), or FORMAT, a bad specification
pub data FormatPart : Type 0 where
  letter : ℕ → FormatPart
  line_break : FormatPart
  the_date : FormatPart
  the_time : FormatPart
  number : Form → FormatPart
  bad_format : FormatPart

-- the part that a string begins with, and how many bytes it has
pub record Begun : Type 0 where
  pub part : FormatPart
  pub bytes : ℕ

-- such a part
abbrev pub begun : FormatPart → ℕ → Begun
begun part bytes = record { part = part; bytes = bytes }

-- a line break: backslash, 92, and n, 110
abbrev pub is_break : List ℕ → Bool
is_break s = eqb (get_or s 0 0) 92 && eqb (get_or s 1 0) 110

-- "optional width 1 to 16 without leading zero": 10 to 16 in two digits, 1 to 9 in one; 0 where there is none
unfoldable pub width_of : ℕ → ℕ → ℕ
width_of first second =
    if eqb first 49 && (leb 48 second && leb second 54) then 10 + (second - 48)
    else if leb 49 first && leb first 57 then first - 48
    else 0

-- how many digits a width has
abbrev pub width_bytes : ℕ → ℕ
width_bytes width = if eqb width 0 then 0 else if ltb width 10 then 1 else 2

-- "one digit of decimals": that behind the point; 0 without one
abbrev pub decimals_of : Bool → ℕ → ℕ
decimals_of pointed byte = if pointed && is_digit byte then byte - 48 else 0

-- a bad specification: nothing behind it is read
abbrev pub bad_in : List ℕ → Begun
bad_in s = begun bad_format (length s)

-- "optional zero, optional width .., optional point with one digit of decimals, optional u, and F", 48, 46, 117 and 70, each where the one before it ends
unfoldable pub number_specified : List ℕ → Begun
number_specified s =
    let zeros = eqb (get_or s 0 0) 48 in
    let first = bit zeros in
    let width = width_of (get_or s first 0) (get_or s (first + 1) 0) in
    let point = first + width_bytes width in
    let pointed = eqb (get_or s point 0) 46 in
    let digit = get_or s (point + 1) 0 in
    let unit = point + 2 * bit pointed in
    let shifted = eqb (get_or s unit 0) 117 in
    let last = unit + bit shifted in
    if eqb (get_or s last 0) 70 && (not pointed || is_digit digit)
    then begun (number (record { zeros = zeros; width = width; decimals = decimals_of pointed digit; shifted = shifted })) (last + 1)
    else bad_in s

-- behind a per cent: D, 68, the date; T, 84, the time; or a number
unfoldable pub specification_in : List ℕ → Begun
specification_in s =
    if eqb (get_or s 0 0) 68 then begun the_date 1
    else if eqb (get_or s 0 0) 84 then begun the_time 1
    else number_specified s

-- the part that a string of some bytes begins with: behind a per cent, 37, a specification; else a line break or a character
unfoldable pub first_part : List ℕ → Begun
first_part s =
    let specified = specification_in (drop 1 s) in
    if eqb (get_or s 0 0) 37 then begun specified.part (1 + specified.bytes)
    else if is_break s then begun line_break 2
    else begun (letter (get_or s 0 0)) 1

-- the parts of a string from a place on; the bytes before it belong to the part before
unfoldable pub parts_behind : ℕ → List ℕ → List FormatPart
parts_behind n [] = []
parts_behind (suc n) (b ∷ s) = parts_behind n s
parts_behind zero (b ∷ s) = let first = first_part (b ∷ s) in first.part ∷ parts_behind (first.bytes - 1) s

-- what a format string means
abbrev pub meaning : List ℕ → List FormatPart
meaning format = parts_behind 0 format

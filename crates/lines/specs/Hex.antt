-- HEX: bytes in hexadecimal.
use Rattle.std.specs.Prelude.{bytes_eq, ◌≡◌, Bool, true, not, ◌&&◌, ◌||◌, List, [], ◌++◌, ℕ, ◌+◌, ◌-◌, ◌*◌, ◌/◌, ◌%◌, ◌≤◌, leb, eqb, length, get_or, take, replicate, if◌then◌else◌, Option, Some, None, is_some, unwrap_or}
use Rattle.std.specs.List.{list_all}
use Rattle.laws.specs.Decimals.{is_digit}
use Rattle.laws.specs.Letters.{letters}
use Rattle.laws.specs.Tables.{table}
use Rattle.lines.specs.Words.{without_return, word}
use Rattle.lines.specs.declared.Bytes.{Bytes}

-- the number of a letter that is a hexadecimal digit: 0 to 9, A to F (65 to 70) or a to f (97 to 102)
abbrev pub hex_digit_of : ℕ → Option ℕ
hex_digit_of b =
    if is_digit b then Some (b - 48)
    else if leb 65 b && leb b 70 then Some (b - 55)
    else if leb 97 b && leb b 102 then Some (b - 87)
    else None

-- all letters are hexadecimal digits
abbrev pub hex_digits : List ℕ → Bool
hex_digits w = list_all (λ b. is_some (hex_digit_of b)) w

-- a word is HEX: one pair of digits or more, or - for no bytes
unfoldable pub is_hex : List ℕ → Bool
is_hex w = bytes_eq w (letters "-") || (not (eqb (length w) 0) && (eqb (length w % 2) 0 && hex_digits w))

-- byte k of HEX: pair k of its digits
abbrev pub hex_byte : List ℕ → ℕ → ℕ
hex_byte w k = unwrap_or (hex_digit_of (get_or w (2 * k) 0)) 0 * 16 + unwrap_or (hex_digit_of (get_or w (2 * k + 1) 0)) 0

-- the bytes of HEX, one for each pair
unfoldable pub hex_values : List ℕ → List ℕ
hex_values w = table (length w / 2) (hex_byte w)

-- the bytes of a word that is HEX, at most 128; none of another
unfoldable pub bytes_of_hex : List ℕ → List ℕ
bytes_of_hex w = if is_hex w then take 128 (hex_values w) else []

-- those of word k of a line
abbrev pub hex_bytes : ℕ → List ℕ → List ℕ
hex_bytes k text = bytes_of_hex (word k (without_return text))

-- bytes by value: at most 128, and zeros behind them
abbrev pub as_bytes : List ℕ → Bytes
as_bytes l = record { bytes = take 128 l ++ replicate (128 - length l) 0; count = length (take 128 l) }

-- of a line of at most 255 letters no HEX is cut: the bytes are all bytes of the word, and so are those that are counted by value
abbrev pub HexWhole : Type 0
HexWhole = (k : ℕ) (text : List ℕ) →
    let line = without_return text in
    let w = word k line in
    let b = as_bytes (hex_bytes k text) in
    length line ≤ 255 → is_hex w ≡ true → (hex_bytes k text ≡ hex_values w) × (take b.count b.bytes ≡ hex_values w)

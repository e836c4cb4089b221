-- Numbers in letters.
use Rattle.std.specs.Prelude.{List, [], ◌∷◌, ℕ, suc, ◌+◌, ◌/◌, ◌%◌, ltb, ℤ, pos, negsuc, if◌then◌else◌}
use Rattle.laws.specs.Decimals.{digit, decimal_of}

-- a number with a sign in decimal; 45 is the minus
unfoldable pub decimal_signed : ℤ → List ℕ
decimal_signed (pos n) = decimal_of n
decimal_signed (negsuc n) = 45 ∷ decimal_of (suc n)

-- the last two decimal digits
abbrev pub two_digits : ℕ → List ℕ
two_digits n = digit (n / 10) ∷ digit n ∷ []

-- the last hexadecimal digit of a number; 97 is a
abbrev pub hex_digit : ℕ → ℕ
hex_digit n = if ltb (n % 16) 10 then 48 + n % 16 else 87 + n % 16

-- bytes in hexadecimal, two digits for each
unfoldable pub hex_of : List ℕ → List ℕ
hex_of [] = []
hex_of (b ∷ rest) = hex_digit (b / 16) ∷ hex_digit b ∷ hex_of rest

-- Decimal digits as letters, and the numbers that they make.
use Rattle.std.specs.Prelude.{Bool, true, ◌&&◌, List, [], ◌∷◌, ◌++◌, ℕ, zero, suc, ◌+◌, ◌-◌, ◌*◌, ◌/◌, ◌%◌, ltb, leb, if◌then◌else◌}

-- the letters 0 to 9
abbrev pub is_digit : ℕ → Bool
is_digit b = leb 48 b && leb b 57

-- all letters are digits
unfoldable pub digits : List ℕ → Bool
digits [] = true
digits (b ∷ rest) = is_digit b && digits rest

-- the number that the digits make after n
unfoldable pub value_from : ℕ → List ℕ → ℕ
value_from n [] = n
value_from n (b ∷ rest) = value_from (n * 10 + (b - 48)) rest

-- the last decimal digit of a number; 48 is 0
abbrev pub digit : ℕ → ℕ
digit n = 48 + n % 10

-- the last k digits of n
unfoldable pub last_digits : ℕ → ℕ → List ℕ
last_digits zero n = []
last_digits (suc k) n = last_digits k (n / 10) ++ (digit n ∷ [])

-- a number of at most k digits in decimal, with no zero in front: one digit, or the number without its last digit, and that digit
unfoldable pub decimal_in : ℕ → ℕ → List ℕ
decimal_in zero n = []
decimal_in (suc k) n = if ltb n 10 then digit n ∷ [] else decimal_in k (n / 10) ++ (digit n ∷ [])

-- a number of 64 bits in decimal: it has at most 20 digits
unfoldable pub decimal_of : ℕ → List ℕ
decimal_of n = decimal_in 20 n

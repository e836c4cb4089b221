-- "A number is an optional minus, digits, and perhaps a point with digits on both sides; missing decimals count as zeros." Refused: "18 NOT A NUMBER (also for a non-zero digit past the stated
-- decimals, or decimals above 9), 19 DOES NOT FIT 32 BITS".
use Rattle.std.specs.Prelude.{◌≡◌, Bool, true, false, ◌&&◌, ◌||◌, List, [], ◌∷◌, ◌++◌, ℕ, suc, ◌+◌, ◌*◌, ◌/◌, ◌%◌, ◌^◌, ◌≤◌, ◌<◌, ltb, leb, eqb, ℤ, pos, negsuc, neg_ℤ, length, get_or, take, drop, if◌then◌else◌}
use Rattle.laws.specs.Answers.{Answer, given, refused}
use Rattle.laws.specs.Decimals.{is_digit, digits, value_from, last_digits, decimal_in}
use Rattle.laws.specs.Leading.{leading}
use Rattle.readout.specs.DataSets.{AllOf}

-- A number as it is written

-- whether a minus stands in front, the digits before the point, and those after it; without these there is no point
pub record Decimal : Type 0 where
  pub minus : Bool
  pub whole : List ℕ
  pub fraction : List ℕ

-- perhaps a minus, 45
abbrev pub sign_text : Bool → List ℕ
sign_text true = 45 ∷ []
sign_text false = []

-- perhaps a point, 46, with digits after it
abbrev pub pointed : List ℕ → List ℕ
pointed [] = []
pointed (b ∷ rest) = 46 ∷ b ∷ rest

-- its text
abbrev pub text_of : Decimal → List ℕ
text_of w = sign_text w.minus ++ (w.whole ++ pointed w.fraction)

-- it meets the rules: a digit at least before the point, and digits alone
pub record IsDecimal (w : Decimal) : Type 0 where
  pub some : 1 ≤ length w.whole
  pub whole_digits : AllOf is_digit w.whole
  pub fraction_digits : AllOf is_digit w.fraction

-- it is n, without its sign, where the last `decimals` digits of n are decimals: all its digits over ten to those after the point are n over ten to the decimals
abbrev pub Is : Decimal → ℕ → ℕ → Type 0
Is w decimals n = value_from 0 (w.whole ++ w.fraction) * 10 ^ decimals ≡ n * 10 ^ length w.fraction

-- with its sign
abbrev pub signed : Bool → ℕ → ℤ
signed true n = neg_ℤ (pos n)
signed false n = pos n

-- the largest number of 32 bits without its sign: 2,147,483,648 with a minus, else one less
abbrev pub most : Bool → ℕ
most true = 2147483648
most false = 2147483647

-- A number as it is read

-- a minus stands in front
abbrev pub has_minus : List ℕ → Bool
has_minus text = eqb (get_or text 0 0) 45

-- the text without it
abbrev pub unsigned : List ℕ → List ℕ
unsigned text = if has_minus text then drop 1 text else text

-- the digits before the point
abbrev pub before_point : List ℕ → List ℕ
before_point u = take (leading is_digit u) u

-- what stands behind it
abbrev pub behind_point : List ℕ → List ℕ
behind_point u = drop (leading is_digit u + 1) u

-- "digits, and perhaps a point with digits on both sides"
unfoldable pub is_decimal : List ℕ → Bool
is_decimal u =
    let n = leading is_digit u in
    ltb 0 n && (eqb n (length u) || (eqb (get_or u n 0) 46 && ltb (n + 1) (length u) && digits (behind_point u)))

-- the number without its sign, any size: all digits over ten to those after the point, times ten to the decimals, must come out whole
unfoldable pub size_of : List ℕ → ℕ → Answer ℕ
size_of u decimals =
    let scaled = value_from 0 (before_point u ++ behind_point u) * 10 ^ decimals in
    let over = 10 ^ length (behind_point u) in
    if is_decimal u && eqb (scaled % over) 0 then given (scaled / over) else refused 18 0

-- with its sign, if it fits 32 bits
abbrev pub in32_bits : Bool → Answer ℕ → Answer ℤ
in32_bits minus (given n) = if leb n (most minus) then given (signed minus n) else refused 19 0
in32_bits minus (refused n offset) = refused n offset

-- the whole number of a text with a stated count of decimals
unfoldable pub whole_number : List ℕ → ℕ → Answer ℤ
whole_number text decimals = if ltb 9 decimals then refused 18 0 else in32_bits (has_minus text) (size_of (unsigned text) decimals)

-- A number as a person writes it, with the stated decimals

-- it has 32 bits: -2,147,483,648 to 2,147,483,647
abbrev pub Fits32 : ℤ → Type 0
Fits32 (pos n) = n ≤ 2147483647
Fits32 (negsuc n) = n < 2147483648

-- n with its last digits behind the point; a number of 32 bits has at most ten digits
abbrev pub decimal_for : Bool → ℕ → ℕ → Decimal
decimal_for minus n decimals = record { minus = minus; whole = decimal_in 10 (n / 10 ^ decimals); fraction = last_digits decimals n }

-- with a sign
abbrev pub written_with : ℤ → ℕ → List ℕ
written_with (pos n) decimals = text_of (decimal_for false n decimals)
written_with (negsuc n) decimals = text_of (decimal_for true (suc n) decimals)

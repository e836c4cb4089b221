-- Decimal numbers: one digit or more, and nothing else. Zeros in front are allowed, a plus sign is not.
use Rattle.std.specs.Prelude.{Bool, not, ◌&&◌, List, ℕ, ℤ, leb, eqb, pos, neg_ℤ, length, get_or, drop, if◌then◌else◌, Option, Some, None, option_map}
use Rattle.laws.specs.Decimals.{digits, value_from}

-- a word is a number of at most `most`
unfoldable pub is_number : ℕ → List ℕ → Bool
is_number most w = not (eqb (length w) 0) && (digits w && leb (value_from 0 w) most)

-- the number of a word, if it is one of at most `most`
unfoldable pub whole_of : ℕ → List ℕ → Option ℕ
whole_of most w = if is_number most w then Some (value_from 0 w) else None

-- a number that may have a minus sign (45) in front, -2,147,483,648 to 2,147,483,647
abbrev pub signed_of : List ℕ → Option ℤ
signed_of w =
    if eqb (get_or w 0 0) 45 then option_map (λ n. neg_ℤ (pos n)) (whole_of 2147483648 (drop 1 w))
    else option_map pos (whole_of 2147483647 w)

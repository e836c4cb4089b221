-- "An address, then the value and perhaps a star and a unit in brackets. .. Address at most 16 bytes, value 1 to 32, unit 1 to 16; printable ASCII without brackets, slash and exclamation mark,
-- and without a star in value or unit."
use Rattle.std.specs.Prelude.{◌≡◌, Bool, true, false, not, ◌&&◌, ◌||◌, List, [], ◌∷◌, ◌++◌, ℕ, ◌+◌, ◌≤◌, leb, eqb, length, get_or, drop, if◌then◌else◌}
use Rattle.laws.specs.Answers.{Answer, given, refused}
use Rattle.laws.specs.Each.{Each}
use Rattle.laws.specs.Leading.{leading}
use Rattle.readout.specs.declared.data_sets.Place.{Place}

-- A data set, taken apart

-- printable ASCII, 32 to 126, without ( 40, ) 41, / 47 and ! 33
abbrev pub address_letter : ℕ → Bool
address_letter b = leb 32 b && leb b 126 && not (eqb b 40) && not (eqb b 41) && not (eqb b 47) && not (eqb b 33)

-- of value and unit: no star, 42, either
abbrev pub value_letter : ℕ → Bool
value_letter b = address_letter b && not (eqb b 42)

-- the letters of a part that may have stars, or not
abbrev pub part_letter : Bool → ℕ → Bool
part_letter true = address_letter
part_letter false = value_letter

-- address, value and unit; an empty unit is none
pub record DataSet : Type 0 where
  pub address : List ℕ
  pub value : List ℕ
  pub unit : List ℕ

-- perhaps a star and a unit
abbrev pub starred : List ℕ → List ℕ
starred [] = []
starred (b ∷ rest) = 42 ∷ b ∷ rest

-- its line
abbrev pub line_of : DataSet → List ℕ
line_of d = d.address ++ (40 ∷ d.value ++ (starred d.unit ++ (41 ∷ [])))

-- each letter passes the test
abbrev pub AllOf : (ℕ → Bool) → List ℕ → Type 0
AllOf test text = Each (λ b. test b ≡ true) text

-- it meets the rules
pub record IsDataSet (d : DataSet) : Type 0 where
  pub address_letters : AllOf address_letter d.address
  pub address_length : length d.address ≤ 16
  pub value_letters : AllOf value_letter d.value
  pub value_length : (1 ≤ length d.value) × (length d.value ≤ 32)
  pub unit_letters : AllOf value_letter d.unit
  pub unit_length : length d.unit ≤ 16

-- Where the value stands in a line

-- a count from `least` to `most`
abbrev pub between : ℕ → ℕ → ℕ → Bool
between least most n = leb least n && leb n most

-- the closing bracket stands there, and nothing follows it
abbrev pub closes_at : List ℕ → ℕ → Bool
closes_at line at = eqb (get_or line at 0) 41 && eqb (length line) (at + 1)

-- how many letters a part of value or unit has that begins there
abbrev pub letters_at : List ℕ → ℕ → ℕ
letters_at line at = leading value_letter (drop at line)

-- behind the value: the closing bracket; or a star, a unit of 1 to 16 letters and the closing bracket
unfoldable pub ends_at : List ℕ → ℕ → Bool
ends_at line at =
    let unit = letters_at line (at + 1) in
    closes_at line at || (eqb (get_or line at 0) 42 && between 1 16 unit && closes_at line (at + 1 + unit))

-- where the value stands; 17 LINE where the line is no data set
unfoldable pub value_place : List ℕ → Answer Place
value_place line =
    let address = leading address_letter line in
    let start = address + 1 in
    let value = letters_at line start in
    if leb address 16 && eqb (get_or line address 0) 40 && between 1 32 value && ends_at line (start + value)
    then given (record { start = start; length = value })
    else refused 17 0

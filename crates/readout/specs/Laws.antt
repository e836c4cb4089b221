-- What is proved of data sets, numbers and blocks: what is found is what the rules say, and nothing else fits.
use Rattle.std.specs.Prelude.{◌≡◌, true, false, List, ◌⊎◌, ℕ, ◌+◌, ◌≤◌, ◌<◌, ℤ, length, get_or, take, drop, set}
use Rattle.laws.specs.Answers.{given, refused}
use Rattle.readout.specs.declared.data_sets.Place.{Place}
use Rattle.readout.specs.DataSets.{AllOf, DataSet, line_of, IsDataSet, value_place}
use Rattle.readout.specs.Numbers.{Decimal, text_of, IsDecimal, Is, in32_bits, whole_number, Fits32, written_with}
use Rattle.readout.specs.Blocks.{not_etx, block_around, is_block}
use Rattle.readout.specs.Answers.{line_number}

-- "Hand back the value text as the part of the caller's line where it stands"

-- the place found is that of the value of a data set, with this line
pub record Found (line : List ℕ) (p : Place) : Type 0 where
  pub set : DataSet
  pub rules : IsDataSet set
  pub split : line_of set ≡ line
  pub place : p ≡ record { start = length set.address + 1; length = length set.value }
  pub value : take p.length (drop p.start line) ≡ set.value

-- the value found is that of the only split of the line into address, bracket, value, perhaps star and unit, bracket, that meets the rules; 17 LINE exactly if there is none
pub record OneSplit : Type 0 where
  pub found : (line : List ℕ) (p : Place) → value_place line ≡ given p → Found line p
  pub only : (d e : DataSet) → IsDataSet d → IsDataSet e → line_of d ≡ line_of e → d ≡ e
  pub each : (d : DataSet) → IsDataSet d → value_place (line_of d) ≡ given (record { start = length d.address + 1; length = length d.value })
  pub none : (line : List ℕ) → ((d : DataSet) → IsDataSet d → line_of d ≡ line → ⊥) → value_place line ≡ refused 17 0

-- "Then turn it into a whole number with a stated count of decimals"

-- a text is this number without its sign, as it is written
pub record Written (text : List ℕ) (decimals n : ℕ) (w : Decimal) : Type 0 where
  pub rules : IsDecimal w
  pub same : text_of w ≡ text
  pub is : Is w decimals n

-- the value of a line is this number without its sign, with a stated count of decimals, 0 to 9
pub record Sent (line : List ℕ) (decimals n : ℕ) (w : Decimal) : Type 0 where
  pub set : DataSet
  pub rules : IsDataSet set
  pub split : line_of set ≡ line
  pub decimals_most : decimals ≤ 9
  pub number : Written set.value decimals n w

-- each number is read as what is written, with its sign, or is 19 where that does not fit; and each text that is not 18 is such a number
pub record NumberAsWritten : Type 0 where
  pub each : (text : List ℕ) (decimals n : ℕ) (w : Decimal) → decimals ≤ 9 → Written text decimals n w → whole_number text decimals ≡ in32_bits w.minus (given n)
  pub found : (text : List ℕ) (decimals : ℕ) → (whole_number text decimals ≡ refused 18 0) ⊎ ((decimals ≤ 9) × (n : ℕ) × (w : Decimal) × Written text decimals n w)

-- a number of 32 bits written with the stated decimals and read back is the same number
abbrev pub NumberReadBack : Type 0
NumberReadBack = (z : ℤ) (decimals : ℕ) → Fits32 z → decimals ≤ 9 → whole_number (written_with z decimals) decimals ≡ given z

-- also from the line of a data set, whatever its address and unit
abbrev pub LineReadBack : Type 0
LineReadBack =
    (z : ℤ) (decimals : ℕ) → Fits32 z → decimals ≤ 9 → (d : DataSet) → IsDataSet d
    → line_number (line_of (record { address = d.address; value = written_with z decimals; unit = d.unit })) decimals ≡ given z

-- "Also check the block around the lines"

-- a block is what stands around bytes other than ETX, and nothing else
pub record BlockAroundBytes : Type 0 where
  pub each : (bytes : List ℕ) → AllOf not_etx bytes → is_block (block_around bytes) ≡ true
  pub found : (block : List ℕ) → is_block block ≡ true → (bytes : List ℕ) × AllOf not_etx bytes × (block_around bytes ≡ block)

-- any one byte of an accepted block changed, whichever, makes it refused
abbrev pub OneByteChanged : Type 0
OneByteChanged = (block : List ℕ) → is_block block ≡ true → (i b : ℕ) → i < length block → (b ≡ get_or block i 0 → ⊥) → is_block (set block i b) ≡ false

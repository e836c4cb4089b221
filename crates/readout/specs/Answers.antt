-- What the answers of the code say in document 02's numbers.
use Rattle.std.specs.Prelude.{Option, Some, None, Result, Ok, Err, List, ℕ, ℤ, take, drop, if◌then◌else◌}
use Rattle.std.specs.Borrow.{Bor}
use Rattle.laws.specs.Answers.{Answer, given, refused}
use Rattle.laws.specs.Parts.{Part, part_at}
use Rattle.readout.specs.DataSets.{value_place}
use Rattle.readout.specs.Numbers.{whole_number}
use Rattle.readout.specs.Blocks.{is_block}
use Rattle.readout.specs.declared.data_sets.Place.{Place}
use Rattle.readout.specs.declared.numbers.NumberError.{NumberError}
use Rattle.readout.specs.declared.numbers.NumberError.TheVariants as number
use Rattle.readout.specs.declared.LineError.{LineError}
use Rattle.readout.specs.declared.LineError.TheVariants as line
use Rattle.readout.specs.declared.blocks.NoBlock.{NoBlock}

-- where the value stands, or 17 LINE
abbrev pub place_said : Option Place → Answer Place
place_said (Some p) = given p
place_said None = refused 17 0

-- the part of lent bytes at a place; where there is none, the empty part in front: no value is empty
abbrev pub part_in : Bor (List ℕ) → Answer Place → Part
part_in line (given p) = part_at line p.start p.length
part_in line (refused n offset) = part_at line 0 0

-- the value's bytes as the part of the caller's line where they stand
abbrev pub value_part : Bor (List ℕ) → Part
value_part line = part_in line (value_place line.now)

-- a whole number, 18 NOT A NUMBER or 19 DOES NOT FIT 32 BITS
abbrev pub number_said : Result ℤ NumberError → Answer ℤ
number_said (Ok z) = given z
number_said (Err number.NotANumber) = refused 18 0
number_said (Err number.DoesNotFit) = refused 19 0

-- the number at a place of a line
abbrev pub number_in : List ℕ → ℕ → Answer Place → Answer ℤ
number_in line decimals (given p) = whole_number (take p.length (drop p.start line)) decimals
number_in line decimals (refused n offset) = refused n offset

-- the whole number of a data set's value: 17, then 18 and 19
unfoldable pub line_number : List ℕ → ℕ → Answer ℤ
line_number line decimals = number_in line decimals (value_place line)

-- what the code's answer to a line says
abbrev pub line_said : Result ℤ LineError → Answer ℤ
line_said (Ok z) = given z
line_said (Err line.Line) = refused 17 0
line_said (Err line.NotANumber) = refused 18 0
line_said (Err line.DoesNotFit) = refused 19 0

-- what is wrong with the number is what is wrong with its line
abbrev pub line_error : NumberError → LineError
line_error number.NotANumber = line.NotANumber
line_error number.DoesNotFit = line.DoesNotFit

-- a block, or 16 BLOCK
abbrev pub block_answer : List ℕ → Answer (Unit {0})
block_answer bytes = if is_block bytes then given tt else refused 16 0

-- what the code's answer to a block says
abbrev pub block_said : Result (Unit {0}) NoBlock → Answer (Unit {0})
block_said (Ok u) = given tt
block_said (Err e) = refused 16 0

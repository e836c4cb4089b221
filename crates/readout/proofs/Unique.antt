-- No second result fits the contract of a public function of the readout. The value's text is a reference: where it stands and what it holds are the same.
use Rattle.std.specs.Prelude.{Option, Some, None, Result, Ok, Err, if◌then◌else◌}
use mathlib.Core.Path.{◌≡◌, refl, sym, ◌∙◌}
use lib.Dec.{eqb}
use lib.IntN.{ℤ}
use Rattle.laws.specs.Answers.{Answer, given, refused}
use Rattle.laws.specs.Parts.{part_of}
use Rattle.laws.specs.Unique.{OneResult, OneSeen}
use Rattle.laws.proofs.Unique.{told_apart}
use Rattle.readout.specs.Answers.{place_said, number_said, line_said, block_said}
use Rattle.readout.specs.declared.data_sets.Place.{Place}
use Rattle.readout.specs.declared.numbers.NumberError.{NumberError}
use Rattle.readout.specs.declared.numbers.NumberError.TheVariants as number
use Rattle.readout.specs.declared.LineError.{LineError}
use Rattle.readout.specs.declared.LineError.TheVariants as line
use Rattle.readout.specs.declared.blocks.NoBlock.{NoBlock}
use Rattle.readout.proofs.data_sets.value_place.Reads as value_place_reads
use Rattle.readout.proofs.data_sets.value_text.Reads as value_text_reads
use Rattle.readout.proofs.numbers.whole_number.Reads as whole_number_reads
use Rattle.readout.proofs.line_number.Reads as line_number_reads
use Rattle.readout.proofs.blocks.check_block.Reads as check_block_reads

-- document 02's number and the values tell all answers apart: to the place of a value
pub place_apart : (x y : Option Place) → place_said x ≡ place_said y → x ≡ y
place_apart = told_apart place_said back told
  where
    back : Answer Place → Option Place
    back (given p) = Some p
    back (refused n offset) = None

    told : (x : Option Place) → back (place_said x) ≡ x
    told (Some p) = refl
    told None = refl

-- to a number
pub number_apart : (x y : Result ℤ NumberError) → number_said x ≡ number_said y → x ≡ y
number_apart = told_apart number_said back told
  where
    back : Answer ℤ → Result ℤ NumberError
    back (given z) = Ok z
    back (refused n offset) = if eqb n 18 then Err number.NotANumber else Err number.DoesNotFit

    told : (x : Result ℤ NumberError) → back (number_said x) ≡ x
    told (Ok z) = refl
    told (Err number.NotANumber) = refl
    told (Err number.DoesNotFit) = refl

-- to a line
pub line_apart : (x y : Result ℤ LineError) → line_said x ≡ line_said y → x ≡ y
line_apart = told_apart line_said back told
  where
    back : Answer ℤ → Result ℤ LineError
    back (given z) = Ok z
    back (refused n offset) = if eqb n 17 then Err line.Line else if eqb n 18 then Err line.NotANumber else Err line.DoesNotFit

    told : (x : Result ℤ LineError) → back (line_said x) ≡ x
    told (Ok z) = refl
    told (Err line.Line) = refl
    told (Err line.NotANumber) = refl
    told (Err line.DoesNotFit) = refl

-- to a block
pub block_apart : (x y : Result (Unit {0}) NoBlock) → block_said x ≡ block_said y → x ≡ y
block_apart = told_apart block_said back told
  where
    back : Answer (Unit {0}) → Result (Unit {0}) NoBlock
    back (given u) = Ok tt
    back (refused n offset) = Err (record {})

    told : (x : Result (Unit {0}) NoBlock) → back (block_said x) ≡ x
    told (Ok u) = refl
    told (Err e) = refl

pub value_place_lem : OneResult value_place_reads.Post
value_place_lem κs a x y e f p q = place_apart x y (p ∙ sym q)

pub value_text : OneSeen (λ κs r. part_of r) value_text_reads.Post
value_text κs a x y e f p q = p ∙ sym q

pub whole_number_lem : OneResult whole_number_reads.Post
whole_number_lem κs a x y e f p q = number_apart x y (p ∙ sym q)

pub line_number_lem : OneResult line_number_reads.Post
line_number_lem κs a x y e f p q = line_apart x y (p ∙ sym q)

pub check_block : OneResult check_block_reads.Post
check_block κs a x y e f p q = block_apart x y (p ∙ sym q)

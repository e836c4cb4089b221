-- "An accepted impulse adds the numerator to the input's remainder; whole denominators leave it as units."
use Rattle.std.specs.Prelude.{List, ℕ, ◌+◌, ◌/◌, ◌%◌, ltb, eqb, if◌then◌else◌}
use Rattle.laws.specs.Masks.{bit_at}
use Rattle.laws.specs.Tables.{table}
use Rattle.settings.specs.declared.Input.{Input}
use Rattle.counting.specs.Filter.{input_at, line_at}
use Rattle.counting.specs.declared.Line.{Line}

-- the whole denominators in remainder and numerator; none without a denominator, which no image has
unfoldable pub units_of : Input → ℕ → ℕ
units_of input remainder = if eqb input.denominator 0 then 0 else (remainder + input.numerator) / input.denominator

-- what is left of remainder and numerator
unfoldable pub remainder_of : Input → ℕ → ℕ
remainder_of input remainder = if eqb input.denominator 0 then remainder else (remainder + input.numerator) % input.denominator

-- a sum of units, held at the largest number of 32 bits, which no period reaches
abbrev pub held_sum : ℕ → ℕ → ℕ
held_sum units more = if ltb 4_294_967_295 (units + more) then 4_294_967_295 else units + more

-- a line that takes an impulse: the units go to level 0 of its input
unfoldable pub credited : Input → Line → Line
credited input line =
    record {
      run = line.run;
      rejected = line.rejected;
      remainder = remainder_of input line.remainder;
      units = held_sum line.units (units_of input line.remainder);
    }

-- all lines with their impulses credited, and the units that each brings
pub record Credits : Type 0 where
  pub lines : List Line
  pub units : List ℕ

-- all lines, and the units that each brings
unfoldable pub credits_of : List Input → List Line → ℕ → Credits
credits_of inputs lines impulses =
    record {
      lines = table 16 (λ i. if bit_at impulses i then credited (input_at inputs i) (line_at lines i) else line_at lines i);
      units = table 16 (λ i. if bit_at impulses i then units_of (input_at inputs i) (line_at lines i).remainder else 0);
    }

-- How long the bytes of the tariff program and of the whole image are.
use mathlib.Core.Path.{◌≡◌, refl}
use Prim.Native.Nat.{ℕ}
use lib.ListN.{length, length-append}
use Rattle.laws.proofs.Codec.{section_wide, number}
use Rattle.tariff.specs.declared.Program.{Program}
use Rattle.image.specs.Image.{head_bytes, program_bytes, encode, Counted, CountedProgram}
use Rattle.settings.specs.declared.Config.{Config}
use Rattle.image.proofs.Entries.{input, coefficient, slot, window, season, holiday, rule, register}

-- a program is 832 bytes
pub length_program : (p : Program) → CountedProgram p → length (program_bytes p) ≡ 832
unfolding program_bytes
length_program p n =
    rw (
      length-append,
      section_wide window p.windows n.windows,
      length-append,
      section_wide (number 1) p.weeks n.weeks,
      length-append,
      section_wide season p.seasons n.seasons,
      length-append,
      section_wide holiday p.holidays n.holidays,
      section_wide rule p.rules n.rules,
    )

head_wide : (p : ℕ) → length (head_bytes p) ≡ 6
unfolding head_bytes
head_wide p = refl

-- an image is 1,126 bytes
pub length_encode : (c : Config) → Counted c → length (encode c) ≡ 1126
unfolding encode
length_encode c n =
    rw (
      length-append,
      head_wide c.period,
      length-append,
      section_wide (input 1) c.inputs n.inputs,
      length-append,
      section_wide (number 2) c.sums n.sums,
      length-append,
      section_wide coefficient c.coefficients n.coefficients,
      length-append,
      section_wide slot c.slots n.slots,
      length-append,
      section_wide (number 2) c.limits n.limits,
      length-append,
      length_program c.program n.program,
      section_wide register c.registers n.registers,
    )

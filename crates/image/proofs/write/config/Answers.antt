-- `image::write::config` meets its contract: the sections one after another are the image.
use mathlib.Core.Path.{refl}
use mathlib.Core.List.{append_assoc}
use borrow.Author.Rules.{rules}
use Rattle.laws.proofs.Arrays.{length_mapped}
use Rattle.laws.proofs.Codec.{section_wide, number}
use Rattle.image.specs.Image.{head_bytes, encode, Counted}
use Rattle.image.proofs.Entries.{input, coefficient, slot, register}
use Rattle.image.proofs.Lengths.{length_program}
use Rattle.image.proofs.Sections.{Begun, more_of, followed}
use Rattle.image.proofs.write.config.Goals as goal
use Rattle.image.proofs.write.config.Goals.{Start}

counted : (c : Start) → Counted c.args.c
counted c = search (rules, length_mapped)

pub returns : goal.returns
unfolding head_bytes encode
returns c =
    let n = counted (goal.at.returns c).Start in
    let head : Begun c.args.bytes.now _ (head_bytes c.args.c.period) 6 = record { wide = refl; is = rw c.copy_from_slice.ensures.after } in
    let inputs = more_of head _ 112 (section_wide (input 1) _ n.inputs) c.section.ensures in
    let sums = more_of inputs _ 16 (section_wide (number 2) _ n.sums) c.section-2.ensures in
    let coefficients = more_of sums _ 32 (section_wide coefficient _ n.coefficients) c.section-3.ensures in
    let slots = more_of coefficients _ 32 (section_wide slot _ n.slots) c.section-4.ensures in
    let limits = more_of slots _ 64 (section_wide (number 2) _ n.limits) c.section-5.ensures in
    let program = followed limits _ 832 (length_program _ n.program) c.program.ensures in
    let registers = more_of program _ 32 (section_wide register _ n.registers) c.section-6.ensures in
    rw registers.is (simp append_assoc)

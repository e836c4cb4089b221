-- `answers::dataset_line` meets its contract: the value stands within the line, and its number is that of the line.
use borrow.Author.Rules.{rules}
use mathlib.Core.Path.{◌≡◌, sym, ◌∙◌}
use mathlib.Core.List.{List}
use Prim.Native.Nat.{ℕ, ◌+◌, ◌-◌}
use native.Mathlib.Omega.{arith}
use lib.ListN.{take, drop}
use mir.Syntax.{w32}
use Rattle.std.proofs.Math.Facts.{to_z-of_z}
use Rattle.laws.specs.Answers.{given}
use Rattle.readout.specs.declared.data_sets.Place.{Place}
use Rattle.readout.specs.Numbers.{whole_number}
use Rattle.readout.specs.DataSets.{value_place}
use Rattle.readout.specs.Answers.{line_number}
use Rattle.readout.proofs.Places.{place_facts}
use Rattle.answers.proofs.dataset_line.Goals as goal

pub overflow_add-value : goal.overflow_add-value
overflow_add-value c = let p = place_facts _ _ (sym c.in-Some.ensures) in search rules

pub slice_bounds-value-end : goal.slice_bounds-value-end
slice_bounds-value-end c = let p = place_facts _ _ (sym c.in-Some.ensures) in search rules

-- the number at the place that was found is that of the line
at_place : (line : List ℕ) (decimals : ℕ) (p : Place) → given p ≡ value_place line
    → whole_number (take (p.start + p.length - p.start) (drop p.start line)) decimals ≡ line_number line decimals
unfolding line_number
at_place line decimals p e = let size : p.start + p.length - p.start ≡ p.length = omega arith in rw (sym e, size)

pub returns-in-Ok : goal.returns-in-Ok
returns-in-Ok c =
    let number = c.in-Ok.ensures ∙ at_place c.args.line.now c.args.decimals c.in-Some.place c.in-Some.ensures in
    rw (c.value_line.ensures, ← c.in-Some.ensures, ← number, to_z-of_z {w = w32} {z = c.in-Ok.number} (search rules))

pub returns-in-Err-NotANumber : goal.returns-in-Err-NotANumber
returns-in-Err-NotANumber c =
    let number = c.in-Err-NotANumber.ensures ∙ at_place c.args.line.now c.args.decimals c.in-Some.place c.in-Some.ensures in
    rw (c.refused-in-Err-NotANumber.ensures, ← c.in-Some.ensures, ← number, c.in-Err-NotANumber.field-0-is)

pub returns-in-Err-DoesNotFit : goal.returns-in-Err-DoesNotFit
returns-in-Err-DoesNotFit c =
    let number = c.in-Err-DoesNotFit.ensures ∙ at_place c.args.line.now c.args.decimals c.in-Some.place c.in-Some.ensures in
    rw (c.refused-in-Err-DoesNotFit.ensures, ← c.in-Some.ensures, ← number, c.in-Err-DoesNotFit.field-0-is)

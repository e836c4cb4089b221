-- `readout::line_number` meets its contract: an empty part is handed back exactly where the line is no data set.
use Rattle.std.specs.Prelude.{Err}
use mathlib.Core.Path.{◌≡◌, refl, sym, ap, ◌∙◌}
use mathlib.Core.List.{List}
use Prim.Native.Nat.{ℕ}
use native.Mathlib.Omega.{arith}
use borrow.Author.Rules.{rules}
use denote.Ref.{Bor}
use lib.ListN.{length}
use mir.Syntax.{w32}
use Rattle.std.proofs.Math.Facts.{to_z-of_z}
use Rattle.std.proofs.lemmas.Result.{err_from_is_err_and}
use Rattle.laws.specs.Parts.{Part}
use Rattle.readout.specs.Numbers.{whole_number}
use Rattle.readout.specs.declared.numbers.NumberError.{NumberError}
use Rattle.readout.specs.declared.numbers.NumberError.TheVariants as number
use Rattle.readout.specs.Answers.{number_said, line_number, line_said, line_error, value_part}
use Rattle.readout.proofs.Places.{no_value, some_value}
use Rattle.readout.proofs.line_number.Goals as goal

pub returns-then-is_empty : goal.returns-then-is_empty
returns-then-is_empty c =
    let v = c in
    let z : length (value_part v.args.line).bytes ≡ 0 = ap (λ p. length p.bytes) (sym v.value_text-text.ensures) ∙ grind (arith, v.is_empty.ensures, c.if-is_empty.true) in
    sym (no_value v.args.line _ z)

-- the number of a part that is not empty is that of the line
full : (line : Bor (List ℕ)) (decimals : ℕ) (part : Part) → part ≡ value_part line → (length part.bytes ≡ 0 → ⊥)
    → whole_number part.bytes decimals ≡ line_number line.now decimals
full line decimals part e h = rw e (sym (some_value line decimals (rw (sym e) h)))

-- its error keeps its number
same_error : (error : NumberError) → line_said (Err (line_error error)) ≡ number_said (Err error)
same_error number.NotANumber = refl
same_error number.DoesNotFit = refl

pub returns-in_err-whole_number : goal.returns-in_err-whole_number
returns-in_err-whole_number c =
    let v = c in
    let p = err_from_is_err_and c.from_residual.result c.from_residual.ensures.1 in
    let f : (length v.value_text-text.result.now ≡ 0 → ⊥) = λ e. grind (arith, e, v.is_empty.ensures, c.if-is_empty.false) in
    rw (p.1, p.2) (same_error c.in_err-whole_number.field-0.0 ∙ c.in_err-whole_number.ensures ∙ full v.args.line v.args.decimals _ v.value_text-text.ensures f)

pub returns : goal.returns
returns c =
    let v = c in
    let f : (length v.value_text-text.result.now ≡ 0 → ⊥) = λ e. grind (arith, e, v.is_empty.ensures, c.if-is_empty.false) in
    rw (to_z-of_z {w = w32} {z = c.in_ok-whole_number.field-0} (search rules))
    (c.in_ok-whole_number.ensures ∙ full v.args.line v.args.decimals _ v.value_text-text.ensures f)

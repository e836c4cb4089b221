-- `readout::numbers::size_of` meets its contract: by what follows the digits in front.
use mathlib.Core.Path.{sym, ap, ◌∙◌}
use Prim.Native.Nat.{◌*◌, ◌^◌}
use native.Mathlib.Omega.{arith}
use borrow.Author.Rules.{rules}
use Rattle.laws.specs.Answers.{given}
use Rattle.readout.specs.Held.{held, fraction_size}
use Rattle.readout.proofs.Sizes.{split_none, split_all, split_point, split_other, from_there}
use Rattle.readout.proofs.numbers.size_of.Goals as goal

pub returns-then-is_empty : goal.returns-then-is_empty
returns-then-is_empty c = let s = c.split_at in sym (split_none _ _ _ _ _ c.leading.ensures.count s.ensures.front s.ensures.back (search rules))

pub returns-in-empty : goal.returns-in-empty
returns-in-empty c =
    let s = c.split_at in
    ap given (c.with_zeros.ensures ∙ ap (λ m. held (m * 10 ^ c.args.decimals)) c.with_digits-n.ensures)
    ∙ sym (split_all _ _ _ _ _ c.leading.ensures.count s.ensures.front s.ensures.back (search rules) (omega arith))

pub returns-in-46 : goal.returns-in-46
returns-in-46 c =
    let s = c.split_at in
    let rest = s.result.1.now in
    c.with_fraction.ensures
    ∙ ap (λ l. fraction_size c.with_digits-n.result l c.args.decimals) (from_there rest 1 (omega arith))
    ∙ rw c.with_digits-n.ensures (sym (split_point _ _ _ _ _ c.leading.ensures.count s.ensures.front s.ensures.back (search rules) (omega arith) (omega arith)))

pub returns-in_default : goal.returns-in_default
returns-in_default c =
    let s = c.split_at in
    sym (split_other _ _ _ _ _ c.leading.ensures.count s.ensures.front s.ensures.back (search rules) (omega arith) (λ e. omega arith))

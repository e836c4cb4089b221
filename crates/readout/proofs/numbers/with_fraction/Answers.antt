-- `readout::numbers::with_fraction` meets its contract: by its tests, and what the calls ensure.
use mathlib.Core.Path.{sym, ap, ◌∙◌}
use Prim.Native.Nat.{◌*◌, ◌^◌, ◌-◌}
use borrow.Author.Rules.{rules}
use Rattle.laws.specs.Answers.{given}
use Rattle.readout.specs.Held.{held}
use Rattle.readout.proofs.Sizes.{by_parts, no_read}
use Rattle.readout.proofs.numbers.with_fraction.Goals as goal
use Rattle.readout.proofs.numbers.with_fraction.Goals.{then-is_empty-via-then-is_empty, then-is_empty-via-else-is_empty+then-not-all_digits, then-is_empty-via-else-is_empty+else-not-all_digits+then-not-all_zeros}

pub returns-then-is_empty : goal.returns-then-is_empty
returns-then-is_empty c =
    let a = c.args in
    let s = c.split_at in
    let tests = by_parts a.n a.text.now a.decimals c.min-places.result s.result.0.now s.result.1.now (c.min-places.ensures ∙ search rules) s.ensures.front s.ensures.back in
    elim c.then-is_empty.branch [
      | then-is_empty-via-then-is_empty w ↦ sym (no_read a.n a.text.now a.decimals (search rules))
      | then-is_empty-via-else-is_empty+then-not-all_digits w ↦ sym (tests (search rules) ∙ rw (sym w.all_digits.ensures ∙ w.if-not-all_digits.true))
      | then-is_empty-via-else-is_empty+else-not-all_digits+then-not-all_zeros w ↦
          sym (tests (search rules) ∙ rw (sym w.all_digits.ensures ∙ w.if-not-all_digits.false, sym w.all_zeros.ensures ∙ w.if-not-all_zeros.true))
    ]

pub returns : goal.returns
returns c =
    let a = c.args in
    let s = c.split_at in
    let tests = by_parts a.n a.text.now a.decimals c.min-places.result s.result.0.now s.result.1.now (c.min-places.ensures ∙ search rules) s.ensures.front s.ensures.back (search rules) in
    ap given (c.with_zeros.ensures ∙ ap (λ m. held (m * 10 ^ (a.decimals - c.min-places.result))) c.with_digits.ensures)
    ∙ sym (tests ∙ rw (sym c.all_digits.ensures ∙ c.if-not-all_digits.false, sym c.all_zeros.ensures ∙ c.if-not-all_zeros.false))

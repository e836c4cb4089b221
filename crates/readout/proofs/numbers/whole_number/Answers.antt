-- `readout::numbers::whole_number` meets its contract: by the letter in front, and what the calls ensure.
use mathlib.Core.Path.{◌≡◌, sym, ap, ◌∙◌}
use mathlib.Core.Bool.{true, false}
use mathlib.Core.List.{List}
use Prim.Native.Nat.{ℕ, ◌≤◌}
use native.Mathlib.Omega.{arith}
use borrow.Author.Tests.{lt-ltb, le-ltb, eq-eqb, ne_eqb}
use lib.ListN.{get_or, drop, get_or-eq_default}
use Rattle.readout.specs.Numbers.{in32_bits, size_of, whole_number}
use Rattle.readout.specs.Held.{held_answer, held_size}
use Rattle.readout.proofs.Held.{held_fits}
use Rattle.readout.proofs.Sizes.{no_text, from_there}
use Rattle.readout.proofs.numbers.whole_number.Goals as goal

pub returns-then-decimals-gt9 : goal.returns-then-decimals-gt9
unfolding whole_number
returns-then-decimals-gt9 c = rw (lt-ltb 9 _ c.if-decimals-gt9.true)

-- a minus in front, or none
module _ (text : List ℕ) (d : ℕ) (few : d ≤ 9) where
  below : get_or text 0 0 ≡ 45 → whole_number text d ≡ in32_bits true (held_size (drop 1 text) d)
  unfolding whole_number
  below e = rw (le-ltb 9 d few, eq-eqb (get_or text 0 0) 45 e, held_fits true (size_of (drop 1 text) d))

  from_zero : (get_or text 0 0 ≡ 45 → ⊥) → whole_number text d ≡ in32_bits false (held_size text d)
  unfolding whole_number
  from_zero h = rw (le-ltb 9 d few, ne_eqb (get_or text 0 0) 45 h, held_fits false (size_of text d))

pub returns-in-empty : goal.returns-in-empty
returns-in-empty c =
    let a = c.args in
    let none = get_or-eq_default a.text.now 0 {n = 0} (omega arith) in
    sym (from_zero a.text.now a.decimals c.if-decimals-gt9.false (λ e. omega arith) ∙ ap (λ s. in32_bits false (held_answer s)) (no_text a.text.now a.decimals (omega arith)))

pub returns-in-45 : goal.returns-in-45
returns-in-45 c =
    let a = c.args in
    c.signed.ensures
    ∙ ap (in32_bits true) (c.size_of.ensures ∙ ap (λ l. held_size l a.decimals) (from_there a.text.now 1 (omega arith)))
    ∙ sym (below a.text.now a.decimals c.if-decimals-gt9.false (omega arith))

pub returns-in_default : goal.returns-in_default
returns-in_default c =
    let a = c.args in
    c.signed-in_default.ensures ∙ ap (in32_bits false) c.size_of-in_default.ensures ∙ sym (from_zero a.text.now a.decimals c.if-decimals-gt9.false (λ e. omega arith))

-- `lines::numbers::read_number` meets its contract: each digit goes on with the number, and another letter or a number that is too large ends it.
use Rattle.std.proofs.Common.{◌≡◌, ℕ, List, length, eqb, true, false, sym, ◌∙◌, arith, Some, None}
use Rattle.laws.proofs.Tests.{by_test}
use Rattle.laws.proofs.Decimals.{value_turn, value_end}
use Rattle.laws.specs.Decimals.{value_from}
use Rattle.lines.specs.Numbers.{is_number, whole_of}
use Rattle.lines.proofs.Digits.{goes_on, too_large, on_turn, on_letter, on_end}
use Rattle.lines.proofs.numbers.read_number.Goals as goal

module _ (most : ℕ) (w : List ℕ) where
  none_of : goes_on most 0 w ≡ false → None ≡ whole_of most w
  unfolding whole_of is_number goes_on
  none_of e = rw e (by_test (eqb (length w) 0) (λ t. rw t) (λ t. rw t))

  one_of : (value : ℕ) → eqb (length w) 0 ≡ false → goes_on most 0 w ≡ true → value_from 0 w ≡ value → Some value ≡ whole_of most w
  unfolding whole_of is_number goes_on
  one_of value h e v = rw (h, e, v)

pub returns-then-is_empty-clause-value : goal.returns-then-is_empty-clause-value
unfolding whole_of is_number
returns-then-is_empty-clause-value c = rw (sym c.is_empty.ensures ∙ c.if-is_empty.true)

pub returns-then-not-is_ascii_digit-clause-value : goal.returns-then-not-is_ascii_digit-clause-value
returns-then-not-is_ascii_digit-clause-value c =
    let l = c.loop-b in
    let other = sym c.is_ascii_digit.ensures.value ∙ c.if-not-is_ascii_digit.true in
    none_of _ _ (l.invariant.1 ∙ on_letter _ l.value _ l.b-index c.loop-b-test.true other)

pub returns-then-from-value-clause-value : goal.returns-then-from-value-clause-value
returns-then-from-value-clause-value c =
    let l = c.loop-b in
    let digit = sym c.is_ascii_digit.ensures.value ∙ c.if-not-is_ascii_digit.false in
    none_of _ _ (l.invariant.1 ∙ (on_turn _ l.value _ l.b-index c.loop-b-test.true digit ∙ too_large _ _ _ (omega arith)))

pub loop-b-preserved : goal.loop-b-preserved
loop-b-preserved c =
    let l = c.loop-b in
    let digit = sym c.is_ascii_digit.ensures.value ∙ c.if-not-is_ascii_digit.false in
    rw c.from.ensures (
      omega arith,
      l.invariant.1 ∙ on_turn _ l.value _ l.b-index c.loop-b-test.true digit,
      l.invariant.2 ∙ value_turn l.value _ l.b-index c.loop-b-test.true,
    )

pub returns-clause-value : goal.returns-clause-value
returns-clause-value c =
    let l = c.loop-b in
    one_of _ _ _ (sym c.is_empty.ensures ∙ c.if-is_empty.false) (l.invariant.1 ∙ on_end _ _ _ _ c.loop-b-test.false l.invariant.0) (l.invariant.2 ∙ value_end _ _ _ c.loop-b-test.false)

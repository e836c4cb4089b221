-- `text` and `specification` meet their contracts: the one proof of the cycle of calls.
use mathlib.Core.Path.{◌≡◌, refl, sym, ap, ◌∙◌}
use mathlib.Core.List.{List}
use Prim.Native.Nat.{ℕ}
use native.Mathlib.Omega.{arith}
use borrow.Author.Rules.{rules}
use lib.ListN.{length-drop}
use Rattle.std.specs.Prelude.{Option, Some, None, Ok, Err}
use Rattle.std.specs.Option.{ok_or}
use Rattle.laws.specs.Answers.{given, refused}
use Rattle.display.specs.Formats.{begun, bad_in, specification_in}
use Rattle.display.specs.Steps.{field_said, kind_said, specification_said}
use Rattle.display.specs.declared.DisplayError.{DisplayError}
use Rattle.display.specs.declared.DisplayError.TheVariants.{Format, Argument}
use Rattle.display.specs.declared.fields.Value.{Value}
use Rattle.display.specs.declared.formats.Kind.{Kind}
use Rattle.display.specs.declared.formats.Kind.TheVariants as kind
use Rattle.display.specs.declared.formats.Specification.{Specification}
use Rattle.display.proofs.Pages.{left, text_percent, text_break, text_letter, behind_bad, behind_none, behind_number}
use Rattle.display.proofs.+specification_text.Goals as goal

-- The text step

pub text-returns-then-byte-eq37 : goal.text-returns-then-byte-eq37
text-returns-then-byte-eq37 t c =
    let a = c.args in
    let l = c.loop-rest in
    c.specification.ensures ∙ rw left (sym (l.invariant.1 ∙ text_percent a.recorder.now a.arguments.now l.shown l.rest.now c.in-len1-up.len_at_least c.if-byte-eq37.true))

pub text-loop-rest-preserved-then-starts_with : goal.text-loop-rest-preserved-then-starts_with
text-loop-rest-preserved-then-starts_with t c =
    let a = c.args in
    let l = c.loop-rest in
    let fewer = length-drop 2 l.rest.now in
    rw left (omega (arith, l.invariant.0), l.invariant.1 ∙ text_break a.recorder.now a.arguments.now l.shown l.rest.now (sym c.if-starts_with.ensures.value) ∙ rw c.next_line-shown.ensures)

pub text-loop-rest-preserved : goal.text-loop-rest-preserved
text-loop-rest-preserved t c =
    let a = c.args in
    let l = c.loop-rest in
    let fewer = length-drop 1 l.rest.now in
    rw left (omega (arith, l.invariant.0), l.invariant.1 ∙ text_letter a.recorder.now a.arguments.now l.shown l.rest.now c.in-len1-up.len_at_least c.if-byte-eq37.false (sym c.if-starts_with.ensures.value) ∙ rw c.put-shown.ensures)

-- The specification step

-- what stands behind the per cent, and where there is none
module _ (l : List ℕ) (o : Option Specification) (e : specification_said l o ≡ specification_in l) where
  found : (f : Specification) → Ok f ≡ ok_or o Format → (k : Kind) → f.kind ≡ k → begun (kind_said k) f.bytes ≡ specification_in l
  found f is k kind = ap (λ (x : Kind). begun (kind_said x) f.bytes) (sym kind) ∙ said o is ∙ e
    where
      said : (o : Option Specification) → Ok f ≡ ok_or o Format → begun (kind_said f.kind) f.bytes ≡ specification_said l o
      said (Some x) is = let same : f ≡ x = cc in ap (λ (x : Specification). begun (kind_said x.kind) x.bytes) same
      said None is = absurd cc

  none : (x : DisplayError) → Err x ≡ ok_or o Format → (x ≡ Format) × (bad_in l ≡ specification_in l)
  none x is = of o is e
    where
      of : (o : Option Specification) → Err x ≡ ok_or o Format → specification_said l o ≡ specification_in l → (x ≡ Format) × (bad_in l ≡ specification_in l)
      of (Some f) is e = absurd cc
      of None is e = (cc, e)

-- what the arguments name, and where they name nothing
valued : (o : Option Value) (v : Value) → Ok v ≡ ok_or o Argument → given v ≡ field_said o
valued (Some w) v is = let same : v ≡ w = cc in ap given same
valued None v is = absurd cc

unvalued : (o : Option Value) (x : DisplayError) → Err x ≡ ok_or o Argument → (x ≡ Argument) × (refused 22 0 ≡ field_said o)
unvalued (Some w) x is = absurd cc
unvalued None x is = (cc, refl)

pub specification-returns-in_err-found : goal.specification-returns-in_err-found
specification-returns-in_err-found t c =
    let a = c.args in
    let none = none _ _ c.specification_at.ensures _ c.in_err-found.ensures.value in
    let r : c.from_residual.result ≡ Err Format = search (rules, none) in
    rw r (sym (behind_bad a.recorder.now a.format.now a.arguments.now a.screen _ none.1))

pub specification-returns-in_err-value-in-Number : goal.specification-returns-in_err-value-in-Number
specification-returns-in_err-value-in-Number t c =
    let a = c.args in
    let f = c.in_ok-found in
    let none = unvalued _ _ c.in_err-value-in-Number.ensures.value in
    let r : c.from_residual-in_err-value-in-Number.result ≡ Err Argument = search (rules, none) in
    rw r (sym (behind_none a.recorder.now a.format.now a.arguments.now a.screen _ c.in-Number.form (found _ _ c.specification_at.ensures f.found f.ensures.value (kind.Number c.in-Number.form) c.in-Number.is) (none.1 ∙ c.argument_at.ensures)))

pub specification-returns-in_ok-value-in-Number : goal.specification-returns-in_ok-value-in-Number
specification-returns-in_ok-value-in-Number t c =
    let a = c.args in
    let f = c.in_ok-found in
    let v = c.in_ok-value-in-Number in
    c.text-in-Number.ensures
    ∙ rw (left f.found.bytes a.format.now, left 3 a.arguments.now, c.put_number-numbered.ensures)
    (sym (behind_number a.recorder.now a.format.now a.arguments.now a.screen _ c.in-Number.form v.value (found _ _ c.specification_at.ensures f.found f.ensures.value (kind.Number c.in-Number.form) c.in-Number.is) (valued _ _ v.ensures.value ∙ c.argument_at.ensures)))

-- `readout::blocks::check_block` meets its contract: bytes that are a block have all of these parts, and bytes that have them are one.
use mathlib.Core.Path.{◌≡◌, sym, ◌∙◌}
use mathlib.Core.Bool.{false, true≢false}
use mathlib.Core.List.{List}
use Prim.Native.Nat.{ℕ, ◌-◌}
use native.Mathlib.Omega.{arith}
use lib.Dec.{eqb}
use lib.ListN.{length, take, drop}
use Rattle.std.specs.List.{list_any}
use Rattle.laws.proofs.Tests.{by_test}
use Rattle.readout.specs.Answers.{block_answer}
use Rattle.readout.specs.Blocks.{is_block}
use Rattle.laws.specs.Answers.{refused}
use Rattle.readout.proofs.Framed.{Parts, parts, whole}
use Rattle.readout.proofs.blocks.check_block.Goals as goal
use Rattle.readout.proofs.blocks.check_block.Goals.{then-contains-via-then-contains, then-contains-via-else-contains+then-check-check_byte}

-- a block without one of its parts
none : (b : List ℕ) → (Parts b → ⊥) → refused 16 0 ≡ block_answer b
none b h = by_test (is_block b) (λ t. absurd (h (parts b t))) (λ t. rw t)

pub returns-in_default : goal.returns-in_default
returns-in_default c = none _ (λ p. let l = p.long in omega arith)

pub returns-in_default-2 : goal.returns-in_default-2
returns-in_default-2 c = none _ (λ p. let e = p.etx in omega arith)

pub returns-in_default-3 : goal.returns-in_default-3
returns-in_default-3 c = none _ (λ p. let e = p.stx in omega arith)

pub returns-then-contains : goal.returns-then-contains
returns-then-contains c =
    elim c.then-contains.branch [
      | then-contains-via-then-contains w ↦ none _ (λ p. true≢false (sym w.if-contains.true ∙ c.contains.ensures.value ∙ p.inside))
      | then-contains-via-else-contains+then-check-check_byte w ↦ none _ (λ p. w.if-check-check_byte.true (p.check ∙ sym w.check_byte.ensures))
    ]

pub returns : goal.returns
returns c =
    let inside : list_any (λ b. eqb b 3) (take (length c.args.bytes.now - 2 - 1) (drop 1 c.args.bytes.now)) ≡ false = sym c.contains.ensures.value ∙ c.if-contains.false in
    rw (whole c.args.bytes.now (record { long = omega arith; stx = omega arith; etx = omega arith; inside = inside; check = c.if-check-check_byte.false ∙ c.check_byte.ensures }))

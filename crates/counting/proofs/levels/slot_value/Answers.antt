-- `counting::levels::slot_value` meets its contract: each return knows the level.
use mathlib.Core.Path.{◌∙◌}
use mir.Syntax.{w64}
use mir.Facts.{to_z-of_z}
use borrow.Author.Rules.{sfits_of}
use borrow.Author.Tests.{eq-eqb, ne_eqb}
use Rattle.counting.specs.Levels.{slot_value}
use Rattle.counting.proofs.levels.slot_value.Goals as goal

pub returns-then-slot-eq0 : goal.returns-then-slot-eq0
unfolding slot_value
returns-then-slot-eq0 c = simp (eq-eqb _ _ c.if-slot-eq0.true) (to_z-of_z {w = w64} (sfits_of c.input_value.type_inv) ∙ c.input_value.ensures)

pub returns-then-slot-eq1 : goal.returns-then-slot-eq1
unfolding slot_value
returns-then-slot-eq1 c = simp (ne_eqb _ _ c.if-slot-eq0.false, eq-eqb _ _ c.if-slot-eq1.true) (to_z-of_z {w = w64} (sfits_of c.sum_value.type_inv) ∙ c.sum_value.ensures)

pub returns-then-slot-eq2 : goal.returns-then-slot-eq2
unfolding slot_value
returns-then-slot-eq2 c = simp (ne_eqb _ _ c.if-slot-eq0.false, ne_eqb _ _ c.if-slot-eq1.false, eq-eqb _ _ c.if-slot-eq2.true) (to_z-of_z {w = w64} (sfits_of c.function_value.type_inv) ∙ c.function_value.ensures)

pub returns : goal.returns
unfolding slot_value
returns c = simp (ne_eqb _ _ c.if-slot-eq0.false, ne_eqb _ _ c.if-slot-eq1.false, ne_eqb _ _ c.if-slot-eq2.false)

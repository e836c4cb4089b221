-- `sampling::booking::end_runs` meets its contract: without units nothing is booked, with some the sums are those of the lines that end.
use mathlib.Core.Path.{◌≡◌, refl, sym, ap, ◌∙◌}
use mathlib.Core.Bool.{true, false}
use mathlib.Core.List.{List}
use Prim.Native.Nat.{ℕ}
use native.Mathlib.Omega.{arith}
use lib.ListN.{length}
use Rattle.std.specs.Result.{is_err}
use Rattle.laws.proofs.BitTests.{or_none}
use Rattle.laws.proofs.Sparse.{Half, half_start, half_done}
use Rattle.laws.specs.Tables.{table}
use Rattle.laws.proofs.Tables.{table_self, table_at, length_table}
use Rattle.settings.specs.declared.Input.{Input}
use Rattle.counting.specs.Filter.{input_at, line_at}
use Rattle.counting.specs.ByMask.{settled, settled_units, settled_of}
use Rattle.counting.specs.declared.Line.{Line}
use Rattle.counting.specs.declared.units.Settled.{Settled}
use Rattle.counting.proofs.Steps.{step_old, step_done}
use Rattle.sampling.specs.Kept.{Nothing}
use Rattle.sampling.proofs.Books.{still_none, others_none, put_back, ended_nothing, ended_booked}
use Rattle.sampling.proofs.booking.end_runs.Invariants.{blank}
use Rattle.sampling.proofs.booking.end_runs.Goals as goal

pub loop-i-init : goal.loop-i-init
unfolding table
loop-i-init c =
    rw c.into_iter-i-iterator.ensures.into_iter_gives
    (half_start _ _ _ (sym (table_self 16 _ _ c.told-lines)), half_start _ _ _ refl, half_start _ _ _ refl, λ e i h. table_at 16 (λ j. 0) i 0 h)

pub loop-i-preserved : goal.loop-i-preserved
loop-i-preserved c =
    let h = c.loop-i.invariant in
    let step = c.in-Some.ensures.steps in
    let n = step_old step h.0 in
    let e = c.settle-settled.ensures in
    let sixteen : length c.loop-i.units ≡ 16 = rw h.1.list (length_table 16 _) in (
      step_done step h.0 (ap (λ (r : Settled). r.line) e ∙ rw n),
      step_done step h.1 (ap (λ (r : Settled). r.units) e ∙ rw n),
      step_done step h.2 (n blank),
      λ z. let both = or_none _ _ z in still_none c.loop-i.units c.in-Some.i c.settle-settled.result.units (omega (arith, step.3)) both.1 (h.3 both.0),
    )

-- after the last line all of them are settled
settles : (inputs : List Input) (lines : List Line) (ending left : ℕ) (now : List Line)
    → left ≡ 0 → Half ending left (λ i. settled (input_at inputs i) (line_at lines i)) (line_at lines) now → now ≡ (settled_of inputs lines ending).lines
unfolding settled_of
settles inputs lines ending left now z h = half_done _ _ _ z h

-- and their units are there
brings : (inputs : List Input) (lines : List Line) (ending left : ℕ) (units : List ℕ)
    → left ≡ 0 → Half ending left (λ i. settled_units (input_at inputs i) (line_at lines i)) (λ i. 0) units → units ≡ (settled_of inputs lines ending).units
unfolding settled_of
brings inputs lines ending left units z h = half_done _ _ _ z h

pub returns-then-brought-eq0 : goal.returns-then-brought-eq0
returns-then-brought-eq0 c =
    let a = c.args in
    let h = c.loop-i.invariant in
    let z = c.in-None.ensures.steps.0 in
    let none : Nothing c.loop-i.units = h.3 c.if-brought-eq0.true in
    let units = brings a.config.now.inputs a.lines.now a.ending _ _ z h.1 in
    rw (settles a.config.now.inputs a.lines.now a.ending _ _ z h.0)
    (ended_nothing a.config.now a.fed a.lines.now a.amounts.now a.ending (rw units at none) c.told-amounts)

pub book-booked-requires : goal.book-booked-requires
book-booked-requires c =
    let a = c.args in
    λ i l e. rw (brings a.config.now.inputs a.lines.now a.ending _ _ c.in-None.ensures.steps.0 c.loop-i.invariant.1) (others_none a.config.now.inputs a.lines.now a.ending i l e)

pub returns-then-is_err : goal.returns-then-is_err
returns-then-is_err c =
    let a = c.args in
    let h = c.loop-i.invariant in
    let z = c.in-None.ensures.steps.0 in
    let units = brings a.config.now.inputs a.lines.now a.ending _ _ z h.1 in
    let e = c.book-booked.ensures in
    let err : is_err c.book-booked.result ≡ true = sym c.is_err.ensures.value ∙ c.if-is_err.true in
    let as_they_were = c.restore.ensures ∙ put_back a.lines.now c.loop-i.lines c.loop-i.before _ blank a.ending c.told-lines (half_done _ _ _ z h.0) (half_done _ _ _ z h.2) in
    rw as_they_were
    (rw err at (ended_booked a.config.now a.fed a.lines.now a.amounts.now a.ending c.loop-i.units _ _ units e.full e.amounts))

pub returns-else-is_err : goal.returns-else-is_err
returns-else-is_err c =
    let a = c.args in
    let h = c.loop-i.invariant in
    let z = c.in-None.ensures.steps.0 in
    let units = brings a.config.now.inputs a.lines.now a.ending _ _ z h.1 in
    let e = c.book-booked.ensures in
    let fine : is_err c.book-booked.result ≡ false = sym c.is_err.ensures.value ∙ c.if-is_err.false in
    rw (settles a.config.now.inputs a.lines.now a.ending _ _ z h.0)
    (rw fine at (ended_booked a.config.now a.fed a.lines.now a.amounts.now a.ending c.loop-i.units _ _ units e.full e.amounts))

-- `sampling::booking::add_due` meets its contract. The loop's invariant: the registers that have been gone through have their units booked.
use mathlib.Core.Path.{sym, ◌∙◌}
use Rattle.laws.proofs.Tables.{table_self}
use Rattle.laws.proofs.Sparse.{half_start, half_done}
use Rattle.counting.proofs.Steps.{step_on, step_old, step_done}
use Rattle.counting.proofs.Full.{not_filled, booked_of_fed}
use Rattle.sampling.proofs.booking.add_due.Goals as goal

pub loop-j-init : goal.loop-j-init
loop-j-init c = rw c.into_iter-j-iterator.ensures.into_iter_gives (half_start _ _ _ (sym (table_self 16 _ _ c.told-amounts)))

pub with_due-requires : goal.with_due-requires
with_due-requires c =
    let a = c.args in
    let h = c.loop-j.invariant in
    let step = c.in-Some.ensures.steps in
    rw (step_old step h 0, c.register_units.ensures)
    (not_filled a.registers a.amounts.now a.fed a.sums.now c.requires c.in-Some.j step.3 (h.within c.in-Some.j (step_on step)))

pub loop-j-preserved : goal.loop-j-preserved
loop-j-preserved c =
    let step = c.in-Some.ensures.steps in
    let h = c.loop-j.invariant in
    step_done step h (c.with_due.ensures ∙ rw (c.register_units.ensures, step_old step h 0))

pub returns : goal.returns
returns c = half_done _ _ _ c.in-None.ensures.steps.0 c.loop-j.invariant ∙ booked_of_fed _ _ _ _ c.requires

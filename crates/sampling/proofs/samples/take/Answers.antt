-- `sampling::samples::take` meets its contract. The loop's invariant: what is left to take from the state put together of its parts, counted on from k, is the whole run.
use mathlib.Core.Path.{◌≡◌, refl, sym, ◌∙◌}
use mathlib.Core.List.{List}
use Prim.Native.Nat.{ℕ, ◌+◌, ◌<◌, ◌≤◌}
use native.Mathlib.Omega.{arith}
use native.Mathlib.Nat.{zero-add}
use lib.Bits.{bit_and, bit_or, bit_xor}
use lib.ListN.{get_or}
use borrow.Author.Rules.{rules}
use Rattle.laws.proofs.Arrays.{length_mapped}
use Rattle.laws.proofs.Tables.{length_table}
use Rattle.counting.specs.ByMask.{kind_mask, advanced_lines, with_amounts}
use Rattle.sampling.specs.Samples.{active_lines}
use Rattle.counting.proofs.Parts.{own_amounts}
use Rattle.sampling.proofs.Books.{Left, unended, ended, refused_booking}
use Rattle.sampling.proofs.Laps.{goes_on, closes_there, is_refused, is_done}
use Rattle.sampling.proofs.Turns.{active_mask, counts_on, sample_end, sample_full, sample_counted, sample_ticked, running_after, aged_in_force, idle_on, not_at_end}
use Rattle.settings.specs.declared.Input.{Input}
use Rattle.sampling.proofs.samples.take.Goals as goal
use Rattle.sampling.proofs.samples.take.Goals.{After-advance_lines, then-ending-gt0+in_default, else-ending-gt0, else-loop-k-test, then-loop-k-test+then-clock-count, then-loop-k-test+else-clock-count+then-ending-gt0+in-Err, then-loop-k-test+else-clock-count+else-count-lt-LAST+then-is_multiple}

-- the mask of active lines of a sample, by the kinds' masks
abbrev mask : ℕ → ℕ → ℕ → ℕ
mask word s1r s1a = bit_and (bit_xor word s1r) (bit_or s1a s1r)

-- it is the definition's
on : (inputs : List Input) (word s1r s1a : ℕ) → s1r ≡ kind_mask inputs 2 → s1a ≡ kind_mask inputs 1 → mask word s1r s1a ≡ active_lines inputs word
on inputs word s1r s1a r a = active_mask _ _ _ _ _ a r refl

pub loop-k-init : goal.loop-k-init
loop-k-init c =
    let a = c.args in
    let amounts = own_amounts a.start.bills (search (rules, length_mapped)) in
    (search rules, rw (c.amounts_of-amounts.ensures, amounts, zero-add), c.running_lines-running.ensures, search (rules, length_mapped), search (rules, length_mapped), search rules, tt, refl, refl)

-- where samples only count, the second is not full
still : (c : goal.Then-idle-gt0) → c.loop-k.count + c.idle_samples-idle.result ≤ 99
still c = omega (arith, c.room.ensures, c.idle_samples-idle.ensures.0, c.if-idle-gt0.true)

pub loop-k-preserved-then-idle-gt0 : goal.loop-k-preserved-then-idle-gt0
unfolding with_amounts
loop-k-preserved-then-idle-gt0 c =
    let l = c.loop-k in
    let a = c.args in
    let i = l.invariant in
    let e = c.idle_samples-idle.ensures in
    let idle : (j : ℕ) → j < c.idle_samples-idle.result → 0 ≡ active_lines a.config.inputs (get_or a.bits.now (l.k + j) 0) =
    λ j h. sym (e.2 j h) ∙ on a.config.inputs (get_or a.bits.now (l.k + j) 0) _ _ c.kind_mask-s1r.ensures c.kind_mask.ensures in
    let more = idle_on a.config a.start a.start l.clock l.count _ _ a.bits.now l.k c.idle_samples-idle.result i.1 e.1 (still c) idle (sym i.2 ∙ c.if-running-eq0.true) i.3 (length_table 16 _) in
    (e.1, more, i.2, i.3, i.4, i.5, i.6, i.7, i.8)

-- what a sample leaves before the runs go on, by the branch that was taken
joined : (c : After-advance_lines)
    → let l = c.loop-k in
    let m = mask (get_or c.args.bits.now l.k 0) c.kind_mask-s1r.result c.kind_mask.result in
    let t = c.if-ending-gt0 in
    Left c.args.config l.clock l.lines c.args.start.bills l.amounts m l.running _ l.invariant.2 refl t.lines t.amounts t.tariffs
joined c =
    let l = c.loop-k in
    let a = c.args in
    let i = l.invariant in
    let m = mask (get_or a.bits.now l.k 0) c.kind_mask-s1r.result c.kind_mask.result in
    elim c.if-ending-gt0.branch [
      | then-ending-gt0+in_default w ↦
          rw (w.lines-is, w.amounts-is)
          (ended a.config l.clock l.lines a.start.bills l.amounts m l.running _ i.2 refl w.end_runs.array_long2 w.fed_by-fed.ensures.fed w.in_default.ensures (w.tariffs-is ∙ w.fed_by-fed.ensures.kept))
      | else-ending-gt0 w ↦
          unended a.config l.clock l.lines a.start.bills l.amounts m l.running _ i.2 refl (omega (arith, w.if-ending-gt0.false)) i.3 i.4 i.6 w.lines-is w.amounts-is w.tariffs-is
    ]

pub loop-k-preserved-then-count-lt-LAST : goal.loop-k-preserved-then-count-lt-LAST
loop-k-preserved-then-count-lt-LAST c =
    let l = c.loop-k in
    let a = c.args in
    let i = l.invariant in
    let word = get_or a.bits.now l.k 0 in
    let bills = with_amounts a.start.bills l.amounts in
    let m = mask word c.kind_mask-s1r.result c.kind_mask.result in
    let active = on a.config.inputs word _ _ c.kind_mask-s1r.ensures c.kind_mask.ensures in
    let now = c.if-ending-gt0 in
    let j = joined (goal.at.loop-k-preserved-then-count-lt-LAST c).After-advance_lines in
    let counted = sample_counted a.config a.start l.clock l.count l.lines bills word _ m active j.books c.if-count-lt-LAST.true refl in
    let open_on = counts_on a.config a.start l.clock l.count (advanced_lines now.lines m) (with_amounts a.start.bills now.amounts) in
    let next = goes_on a.config a.start _ a.bits.now l.k i.1 _ c.loop-k-test.true counted open_on in
    let run = running_after a.config a.start l.clock l.count l.lines bills word _ m active j.books in
    (omega (arith, c.loop-k-test.true), rw c.advance_lines.ensures next, rw c.advance_lines.ensures run, c.type_inv.lines, j.amounts_sixteen, i.5, j.in_force_lem, i.7, i.8)

pub loop-k-preserved : goal.loop-k-preserved
loop-k-preserved c =
    let l = c.loop-k in
    let a = c.args in
    let i = l.invariant in
    let word = get_or a.bits.now l.k 0 in
    let bills = with_amounts a.start.bills l.amounts in
    let m = mask word c.kind_mask-s1r.result c.kind_mask.result in
    let active = on a.config.inputs word _ _ c.kind_mask-s1r.ensures c.kind_mask.ensures in
    let j = joined (goal.at.loop-k-preserved c).After-advance_lines in
    let ticked = sample_ticked a.config a.start l.clock l.count l.lines bills word _ m active j.books c.if-clock-count.false c.if-count-lt-LAST.false refl in
    let next = goes_on a.config a.start _ a.bits.now l.k i.1 _ c.loop-k-test.true ticked (sym c.is_multiple.ensures ∙ c.if-is_multiple.false) in
    let run = running_after a.config a.start l.clock l.count l.lines bills word _ m active j.books in
    let later = not_at_end l.clock l.count c.if-clock-count.false c.if-count-lt-LAST.false i.5 in
    (omega (arith, c.loop-k-test.true), rw c.advance_lines.ensures next, rw c.advance_lines.ensures run, c.type_inv.lines, j.amounts_sixteen, omega arith, rw c.aged-tariffs.ensures (aged_in_force a.config l.clock c.if-ending-gt0.tariffs j.in_force_lem), i.7, i.8)

-- the four ways out of the loop: the samples are used up, the clock is at its end, a register would be full, or a period is to close
pub returns : goal.returns
returns c =
    let l = c.loop-k in
    let a = c.args in
    let i = l.invariant in
    let word = get_or a.bits.now l.k 0 in
    let bills = with_amounts a.start.bills l.amounts in
    let m = mask word c.kind_mask-s1r.result c.kind_mask.result in
    let active = on a.config.inputs word _ _ c.kind_mask-s1r.ensures c.kind_mask.ensures in
    rw (c.put_in-state.ensures, c.put_amounts.ensures)
    (elim c.loop-k-test.branch [
      | else-loop-k-test w ↦
          rw (w.clock-is, w.count-is, w.lines-is, w.amounts-is, w.answer-is, w.closes-is, w.k-is, i.7, i.8)
          (sym (is_done a.config a.start _ a.bits.now l.k i.1 i.0 w.loop-k-test.false))
      | then-loop-k-test+then-clock-count w ↦
          let end = sample_end a.config a.start l.clock l.count l.lines bills word w.if-clock-count.true in
          rw (w.clock-is, w.count-is, w.lines-is, w.amounts-is, w.answer-is, w.closes-is, w.k-is, i.8)
          (sym (is_refused a.config a.start _ a.bits.now l.k i.1 5 0 w.loop-k-test.true end))
      | then-loop-k-test+else-clock-count+then-ending-gt0+in-Err w ↦
          let now = w.end_runs.new in
          let full = refused_booking a.config l.clock l.lines a.start.bills l.amounts m l.running _ i.2 refl now.lines now.amounts w.in-Err.error (rw w.fed_by-fed.ensures.fed at w.in-Err.ensures) in
          let refuses = sample_full a.config a.start l.clock l.count l.lines bills word m active w.if-clock-count.false full.3 in
          rw (w.clock-is, w.count-is, w.lines-is, w.amounts-is, w.answer-is, w.closes-is, w.k-is, full.0, full.1, full.2, i.8)
          (sym (is_refused a.config a.start _ a.bits.now l.k i.1 6 0 w.loop-k-test.true refuses))
      | then-loop-k-test+else-clock-count+else-count-lt-LAST+then-is_multiple w ↦
          let t = w.if-ending-gt0 in
          let j : Left a.config l.clock l.lines a.start.bills l.amounts m l.running _ i.2 refl t.lines t.amounts t.tariffs =
          elim t.branch [
            | then-ending-gt0+in_default v ↦
                rw (v.lines-is, v.amounts-is)
                (ended a.config l.clock l.lines a.start.bills l.amounts m l.running _ i.2 refl v.end_runs.array_long2 v.fed_by-fed.ensures.fed v.in_default.ensures (v.tariffs-is ∙ v.fed_by-fed.ensures.kept))
            | else-ending-gt0 v ↦
                unended a.config l.clock l.lines a.start.bills l.amounts m l.running _ i.2 refl (omega (arith, v.if-ending-gt0.false)) i.3 i.4 i.6 v.lines-is v.amounts-is v.tariffs-is
          ] in
          let ticked = sample_ticked a.config a.start l.clock l.count l.lines bills word _ m active j.books w.if-clock-count.false w.if-count-lt-LAST.false refl in
          let lines = w.lines-is ∙ w.advance_lines.ensures in
          rw (w.clock-is, w.count-is, lines, w.amounts-is, w.answer-is, w.closes-is, w.k-is, i.7)
          (sym (closes_there a.config a.start _ a.bits.now l.k i.1 _ w.loop-k-test.true ticked (sym w.is_multiple.ensures ∙ w.if-is_multiple.true)))
    ])

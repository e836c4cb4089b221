-- `registers::read_register` meets its contract: the register's bytes, as many as its layout says, are the first of the 13.
use mathlib.Core.Path.{◌≡◌, ap, sym, ◌∙◌}
use mathlib.Core.Bool.{not}
use mathlib.Core.List.{List, ◌++◌}
use Prim.Native.Nat.{ℕ}
use native.Mathlib.Omega.{arith}
use borrow.Author.Rules.{rules}
use borrow.Author.Tests.{le-leb}
use lib.ListN.{length}
use Rattle.std.proofs.lemmas.List.{length-take-le}
use Rattle.std.specs.Prelude.{Ok}
use Rattle.recorder.specs.declared.Recorder.{Recorder}
use Rattle.registers.specs.Registers.{register_reply, group_of, held_by, replied}
use Rattle.registers.proofs.Groups.{Found, laid, few, reply_read, given_out}
use Rattle.registers.proofs.Laws.{held_long}
use Rattle.registers.proofs.read_register.Goals as goal

-- a register holds as many bytes as its layout says
held_as_said : (n : ℕ) {registers bytes : ℕ} → Found (group_of n) registers bytes → (r : Recorder) (i : ℕ) → length (held_by (group_of n) r i) ≡ bytes
held_as_said n found r i = rw (found.is, ← found.long) (held_long n _ found.is r i)

pub slice_bounds-held-end : goal.slice_bounds-held-end
slice_bounds-held-end c =
    let long : length c.contents-held.result ≡ 13 = search rules in
    omega (arith, few _ (laid _ _ _ c.layout_of.ensures c.in_ok-registers.ensures.value))

pub slice_bounds-copy_from_slice-end-3 : goal.slice_bounds-copy_from_slice-end-3
slice_bounds-copy_from_slice-end-3 c =
    let long : length c.contents-held.result ≡ 13 = search rules in
    let n = few _ (laid _ _ _ c.layout_of.ensures c.in_ok-registers.ensures.value) in
    sym (length-take-le _ _ (omega (arith, n)))

pub copy_from_slice-requires : goal.copy_from_slice-requires
copy_from_slice-requires c =
    let long : length c.contents-held.result ≡ 13 = search rules in
    let n = few _ (laid _ _ _ c.layout_of.ensures c.in_ok-registers.ensures.value) in
    search rules

-- the register in front, and what stands behind it
parts : {front now tail rest : List ℕ} → front ≡ now → tail ≡ rest → front ++ tail ≡ now ++ rest
parts e f = rw (e, f)

pub returns : goal.returns
unfolding register_reply
returns c =
    let line = laid _ _ _ c.layout_of.ensures c.in_ok-registers.ensures.value in
    let a = c.args in
    let n = c.in_ok-registers.field-0.bytes in
    let after = parts c.copy_from_slice.ensures.after (search rules) in
    ap (replied (Ok n)) (given_out n (held_by (group_of a.group) a.recorder a.register) a.buf.now (held_as_said a.group line a.recorder a.register) c.contents-held.ensures after)
    ∙ reply_read line _ _ _ c.if-register-registers.false (ap not (sym c.if-not-is_fitted.ensures)) (ap not (le-leb _ _ c.if-bytes-buf.false))

-- `registers::contents::level9` meets its contract: the numbers stand one after another.
use mathlib.Core.Path.{◌≡◌, ◌∙◌}
use Prim.Native.Nat.{◌<◌}
use native.Mathlib.Nat.{mod-eq_of_lt}
use borrow.Author.Rules.{rules}
use borrow.Author.Tests.{ne_eqb}
use lib.IntN.{pos}
use lib.ListN.{get_or}
use mir.Syntax.{w64}
use mir.Val.{SFits, to_z, of_z}
use mir.Facts.{to_z-of_z}
use Rattle.laws.proofs.Arrays.{elem_sfits}
use Rattle.laws.specs.Bytes.{bytes_of}
use Rattle.registers.specs.Contents.{level9_bytes}
use Rattle.registers.proofs.Numbers.{le_bytes}
use Rattle.registers.proofs.contents.level9.Goals as goal

pub returns : goal.returns
unfolding bytes_of level9_bytes
returns c =
    let closed = c.args.closed in
    let state : closed.state < 256 = search rules in
    let v = get_or closed.values c.args.i (pos 0) in
    let fits : SFits w64 v = search (rules, elem_sfits) in
    let value : to_z w64 (of_z w64 v) ≡ v = to_z-of_z {w = w64} fits in
    rw (ne_eqb _ _ c.if-closed-eq0.false) (rw (c.copy_from_slice.ensures.after, c.to_le_bytes.ensures ∙ le_bytes 4 closed.stamp, c.copy_from_slice-2.ensures.after, c.to_le_bytes-2.ensures ∙ le_bytes 8 _, c.bits64.ensures, value, mod-eq_of_lt state))

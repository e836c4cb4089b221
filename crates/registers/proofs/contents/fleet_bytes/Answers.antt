-- `registers::contents::fleet_bytes` meets its contract: the numbers stand one after another.
use mathlib.Core.Path.{◌≡◌, ◌∙◌}
use Prim.Native.Nat.{◌<◌}
use native.Mathlib.Nat.{mod-eq_of_lt}
use borrow.Author.Rules.{rules}
use mir.Syntax.{w64}
use mir.Val.{SFits, to_z, of_z}
use mir.Facts.{to_z-of_z}
use Rattle.laws.specs.Bytes.{bytes_of}
use Rattle.registers.specs.Contents.{fleet_bytes}
use Rattle.registers.proofs.Numbers.{le_bytes}
use Rattle.registers.proofs.contents.fleet_bytes.Goals as goal

pub returns : goal.returns
unfolding bytes_of fleet_bytes
returns c =
    let f = c.args.fleet in
    let fits : SFits w64 f.sum = search rules in
    let sum : to_z w64 (of_z w64 f.sum) ≡ f.sum = to_z-of_z {w = w64} fits in
    let fitted : f.fitted < 256 = search rules in
    let awake : f.awake < 256 = search rules in
    let stale : f.stale < 256 = search rules in
    let invalid : f.invalid < 256 = search rules in
    let never : f.never < 256 = search rules in
    rw (c.copy_from_slice.ensures.after, c.to_le_bytes.ensures ∙ le_bytes 8 _, c.bits64.ensures, sum, mod-eq_of_lt fitted, mod-eq_of_lt awake, mod-eq_of_lt stale, mod-eq_of_lt invalid, mod-eq_of_lt never)

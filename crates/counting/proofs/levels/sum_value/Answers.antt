-- `counting::levels::sum_value` meets its contract: a sum of 16 inputs fits 64 bits with a sign.
use mathlib.Core.Path.{◌≡◌, sym, ◌∙◌}
use Prim.Native.Nat.{◌<◌, ◌≤◌}
use native.Mathlib.Omega.{arith}
use lib.ListN.{length, get_or}
use mir.Syntax.{w64}
use mir.Facts.{to_z_pos}
use borrow.Author.Rules.{rules}
use borrow.Author.Tests.{lt-ltb, le-ltb, ltb-true}
use Rattle.std.proofs.lemmas.List.{get_or_default}
use Rattle.counting.specs.Bills.{sum_at}
use Rattle.counting.specs.Levels.{sum_value}
use Rattle.counting.proofs.levels.sum_value.Goals as goal

pub returns-in-Some : goal.returns-in-Some
unfolding sum_value sum_at
returns-in-Some c =
    let n = c.args.sum in
    let long : length c.args.sums ≡ 8 = search rules in
    let h = c.in-Some.ensures.lookup in
    let l : n < length c.args.sums = ltb-true n _ (sym h.0) in
    let read : c.in-Some.sum.now ≡ get_or c.args.sums n 0 = h.1 ∙ get_or_default c.args.sums n _ 0 l in
    rw (lt-ltb n 8 (omega arith), to_z_pos w64 {n = c.sum_units.result} (omega (arith, c.sum_units.ensures.1)), c.sum_units.ensures.0, read)

pub returns-in-None : goal.returns-in-None
unfolding sum_value sum_at
returns-in-None c =
    let n = c.args.sum in
    let long : length c.args.sums ≡ 8 = search rules in
    let l : length c.args.sums ≤ n = c.in-None.ensures.lookup.3 in
    rw (le-ltb n 8 (omega arith))

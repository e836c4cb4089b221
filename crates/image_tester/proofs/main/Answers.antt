-- `image_tester::main` is safe and ends: the letters of the line stand in its text.
use mathlib.Core.Path.{◌≡◌, sym}
use Prim.Native.Nat.{◌≤◌}
use native.Mathlib.Omega.{arith}
use borrow.Author.Rules.{rules}
use lib.ListN.{length}
use lib.Seq.{length-take-le}
use Rattle.image.specs.Answers.{image_answer}
use Rattle.answers.proofs.Whole.{none_cut, text_within}
use Rattle.image_tester.proofs.main.Goals as goal

pub shared_ref_as_front-write_all : goal.shared_ref_as_front-write_all
shared_ref_as_front-write_all c =
    let line = c.check_line-line in
    let within : line.result.length ≤ length line.result.bytes = rw line.ensures (text_within _ (none_cut.start (image_answer _))) in
    let size : length line.result.bytes ≡ 256 = search rules in
    omega (arith, within, size)

pub slice_bounds-write_all-end : goal.slice_bounds-write_all-end
slice_bounds-write_all-end c =
    let line = c.check_line-line in
    let within : line.result.length ≤ length line.result.bytes = rw line.ensures (text_within _ (none_cut.start (image_answer _))) in
    sym (length-take-le _ _ within)

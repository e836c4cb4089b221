-- `display::show` meets its contract: the screen has 32 characters.
use mathlib.Core.Path.{◌≡◌, sym, ◌∙◌}
use borrow.Author.Rules.{rules}
use lib.ListN.{length}
use Rattle.std.proofs.lemmas.List.{length-take-le}
use Rattle.display.proofs.show.Goals as goal

pub copy_from_slice-requires : goal.copy_from_slice-requires
copy_from_slice-requires c =
    let cells : length c.in_ok-shown.shown.cells ≡ 32 = search rules in
    length-take-le 32 c.args.buf.now c.if-buf-lt32.false ∙ sym cells

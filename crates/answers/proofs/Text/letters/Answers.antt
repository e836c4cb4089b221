-- `answers::Text::letters` meets its contract: what fits is copied behind the letters that are there.
use borrow.Author.Rules.{rules}
use Rattle.answers.proofs.Laws.{letters_copied}
use Rattle.answers.proofs.Text.letters.Goals as goal

pub returns : goal.returns
returns c =
    rw c.copy_from_slice.ensures.after
    (letters_copied c.args.self c.args.letters.now c.min-at.result c.min-fitting.result (search rules) c.min-at.ensures c.min-fitting.ensures)

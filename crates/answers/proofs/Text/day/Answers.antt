-- `answers::Text::day` meets its contract: one part after the other. By equations, so that an exchange is refused by what it writes, and not at a limit of the search.
use Rattle.laws.specs.Letters.{letters}
use Rattle.answers.specs.Texts.{with_bytes}
use Rattle.answers.proofs.Text.day.Goals as goal

pub returns : goal.returns
unfolding letters with_bytes
returns c =
    rw (c.two_digits-4.ensures, c.two_digits-3.ensures, c.letters-month.ensures, c.two_digits-2.ensures, c.letters-day.ensures, c.two_digits.ensures)

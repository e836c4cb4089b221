-- `answers::dates::moment_line` meets its contract: one part after the other.
use Rattle.laws.specs.Letters.{letters}
use Rattle.answers.specs.Answers.{date_line}
use Rattle.answers.specs.Texts.{with_bytes}
use Rattle.answers.proofs.Laws.{split}
use Rattle.answers.proofs.dates.moment_line.Goals as goal

pub returns : goal.returns
unfolding letters with_bytes date_line
returns c =
    rw (c.letters-3.ensures, c.time.ensures, c.letters-2.ensures, c.day.ensures, c.letters.ensures, c.letters-weekday.ensures, c.weekday.ensures, c.blank.ensures) (simp split)

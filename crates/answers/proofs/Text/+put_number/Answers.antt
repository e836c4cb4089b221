-- `answers::Text::put_number` meets its contract: by its test. Every number of 64 bits has at most 20 digits.
use Rattle.laws.proofs.Digits.{decimal_short, decimal_long}
use Rattle.answers.specs.Texts.{with_bytes}
use Rattle.answers.proofs.Laws.{split}
use Rattle.answers.proofs.Text.+put_number.Goals.{then-n-ge10, else-n-ge10}
use Rattle.answers.proofs.Text.+put_number.Goals as goal

pub returns : goal.returns
unfolding with_bytes
returns t c =
    elim c.if-n-ge10.branch [
      | then-n-ge10 w ↦ rw (c.put.ensures, c.digit.ensures, w.self-is, w.put_number.ensures, decimal_long _ w.if-n-ge10.true c.ranges.n.fits, split)
      | else-n-ge10 w ↦ rw (c.put.ensures, c.digit.ensures, w.self-is, decimal_short _ w.if-n-ge10.false)
    ]

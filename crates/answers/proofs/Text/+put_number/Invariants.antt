-- `answers::Text::put_number` ends: by the number, which falls.
use Rattle.answers.proofs.Text.+put_number.Given as goal

abbrev pub decreases-put_number : goal.decreases-put_number
decreases-put_number l = l.n

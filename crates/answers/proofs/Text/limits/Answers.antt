-- `answers::Text::limits` meets its contract: the letters of each variant.
use Rattle.laws.specs.Letters.{letters}
use Rattle.answers.specs.Errors.{numbers_text}
use Rattle.answers.specs.Texts.{with_bytes}
use Rattle.answers.proofs.Laws.{split}
use Rattle.answers.proofs.Text.limits.Goals as goal

pub returns-in-Slot : goal.returns-in-Slot
unfolding letters numbers_text with_bytes
returns-in-Slot c = rw (c.letters-in-Slot-2.ensures, c.number-slot.ensures, c.letters-in-Slot.ensures, c.in-Slot.is) (simp split)

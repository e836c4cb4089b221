-- `calendar::day_exists` meets its contract: the month's length is what its function ensures.
use Rattle.calendar.proofs.day_exists.Goals as goal

pub returns : goal.returns
returns c = rw c.month_length.ensures

-- `calendar::exists_in_some_year` meets its contract: what the call ensures of the year 2000.
use Rattle.calendar.proofs.exists_in_some_year.Goals as goal

pub returns : goal.returns
returns c = c.day_exists.ensures

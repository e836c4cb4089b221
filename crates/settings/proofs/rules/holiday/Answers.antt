-- `settings::rules::holiday` meets its contract: the year is within the clock, and the day is one of the calendar.
use mathlib.Core.Path.{◌≡◌}
use mathlib.Core.Bool.{true, ◌&&◌, and-false, or-false}
use borrow.Author.Rules.{rules}
use borrow.Author.Tests.{ne_eqb}
use lib.Dec.{leb}
use Rattle.settings.proofs.rules.holiday.Goals as goal

pub returns-then-contains : goal.returns-then-contains
returns-then-contains c =
    let within : (leb 1970 c.args.x.year && leb c.args.x.year 2106) ≡ true = search rules in
    rw within (simp (c.day_exists.ensures, ne_eqb _ _ c.if-x-eq0.false, and-false, or-false))

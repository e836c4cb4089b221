-- `display::screen::Screen::put_last` ends: by the digits that are left, which fall.
use Rattle.display.proofs.screen.Screen.+put_last.Given as goal

abbrev pub decreases-put_last : goal.decreases-put_last
decreases-put_last l = l.k

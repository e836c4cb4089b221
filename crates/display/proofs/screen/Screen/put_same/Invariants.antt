-- `display::screen::Screen::put_same` meets its contract. The loop's invariant: what is shown and what is left make the whole.
use mathlib.Core.Path.{◌≡◌}
use Prim.Native.Nat.{◌-◌, ◌≤◌}
use lib.ListN.{replicate}
use Rattle.display.specs.Steps.{puts_of}
use Rattle.display.proofs.screen.Screen.put_same.Given as goal

abbrev pub invariant-loop : goal.invariant-loop
invariant-loop l = (l.counter ≤ l.count) × (puts_of l.next (replicate (l.count - l.counter) l.byte) ≡ puts_of l.initial.next (replicate l.count l.byte))

abbrev pub decreases-loop : goal.decreases-loop
decreases-loop l = l.count - l.counter

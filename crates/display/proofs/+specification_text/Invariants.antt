-- `text` and `specification` end: the measure of both counts the bytes left in the format string. The text loop's invariant: what the string comes to from its beginning is what it comes to from here.
use mathlib.Core.Path.{◌≡◌}
use Prim.Native.Nat.{◌+◌, ◌*◌, ◌≤◌}
use lib.ListN.{length}
use Rattle.display.specs.Steps.{page_from}
use Rattle.display.proofs.+specification_text.Given as goal

abbrev pub decreases-specification : goal.decreases-specification
decreases-specification l = 2 * length l.format.now + 1

abbrev pub decreases-text : goal.decreases-text
decreases-text l = 2 * length l.format.now

abbrev pub invariant-text-loop-rest : goal.invariant-text-loop-rest
invariant-text-loop-rest l =
    (length l.rest ≤ length l.format)
    × (page_from l.recorder l.format l.arguments l.initial.shown ≡ page_from l.recorder l.rest l.arguments l.shown)

abbrev pub decreases-text-loop-rest : goal.decreases-text-loop-rest
decreases-text-loop-rest l = length l.rest

-- `lines::slots_of` meets its contract. The loop's invariant: the words before k are the slots before k.
use Rattle.std.proofs.Common.{◌≡◌, ℕ, ◌+◌, ◌<◌, length, get_or, Some}
use Rattle.lines.specs.Lines.{number8}
use Rattle.lines.proofs.slots_of.Given as goal

abbrev pub invariant-loop-k : goal.invariant-loop-k
invariant-loop-k l =
    (length l.slot-items ≡ 8) × ((j : ℕ) → j < l.k → number8 (j + 2) l.text ≡ Some (get_or l.slot-items j 0))

-- `lines::numbers::read_number` meets its contract. The invariant: the word is a number if digits go on from here, and then it is the number that they make.
use Rattle.std.proofs.Common.{◌≡◌, ◌≤◌, drop}
use Rattle.laws.specs.Decimals.{value_from}
use Rattle.lines.proofs.Digits.{goes_on}
use Rattle.lines.proofs.numbers.read_number.Given as goal

abbrev pub invariant-loop-b : goal.invariant-loop-b
invariant-loop-b l =
    (l.value ≤ l.most) × (goes_on l.most 0 l.w ≡ goes_on l.most l.value (drop l.b-index l.w)) × (value_from 0 l.w ≡ value_from l.value (drop l.b-index l.w))

-- `lines::numbers::read_signed` meets its contract. Where what stands behind the minus sign is no number, the most is named: another is refused by what it is, and not at a limit of the search.
use mathlib.Core.Path.{◌≡◌}
use Prim.Native.Nat.{◌-◌}
use native.Mathlib.Omega.{arith}
use lib.ListN.{length, get_or, take, drop, length-drop}
use lib.Seq.{take_all}
use borrow.Author.Rules.{rules}
use Rattle.std.proofs.Common.{None}
use Rattle.lines.specs.Numbers.{whole_of}
use Rattle.lines.proofs.numbers.read_signed.Goals as goal

pub returns-in_err-n : goal.returns-in_err-n
returns-in_err-n c =
    let w = c.args.w.now in
    let all : take (length w - 1) (drop 1 w) ≡ drop 1 w = take_all (length w - 1) (drop 1 w) (rw length-drop (omega arith)) in
    let number : c.read_number.result ≡ whole_of 2147483648 (take (length w - 1) (drop 1 w)) = c.read_number.ensures.value in
    let none : c.read_number.result ≡ None = search rules in
    let minus : get_or w 0 0 ≡ 45 = search rules in
    rw (minus, ← all, ← number, none) (search rules)

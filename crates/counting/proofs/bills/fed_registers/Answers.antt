-- `counting::bills::fed_registers` meets its contract. The loop's invariant: the mask of the places before i.
use mathlib.Core.Path.{◌≡◌, ap}
use mathlib.Core.Bool.{Bool, ◌&&◌, ◌||◌}
use Prim.Native.Nat.{ℕ}
use native.Mathlib.Omega.{arith}
use lib.Dec.{ltb, eqb}
use borrow.Author.Rules.{rules}
use Rattle.laws.proofs.Masks.{mask_none, mask_more, mask_below, mask_done}
use Rattle.counting.specs.Bills.{register_at}
use Rattle.counting.specs.ByMask.{fed_registers}
use Rattle.counting.proofs.bills.fed_registers.Goals as goal

-- a register's test, by its rule's bit
either_rule : (sum rule : ℕ) {b d : Bool} → b ≡ d → (ltb sum 8 && (eqb rule 255 || b)) ≡ (ltb sum 8 && (eqb rule 255 || d))
either_rule sum rule e = ap (λ x. ltb sum 8 && (eqb rule 255 || x)) e

pub loop-j-init : goal.loop-j-init
loop-j-init c = (search rules, mask_none _)

pub loop-j-preserved : goal.loop-j-preserved
loop-j-preserved c =
    let l = c.loop-j in
    let r = register_at c.args.registers l.j in
    (omega arith, mask_more _ _ (omega arith) l.invariant.1 c.with_bit-mask.ensures (either_rule r.sum r.rule c.bit_at.ensures))

pub overflow_cast-result : goal.overflow_cast-result
overflow_cast-result c = record { fits = rw (mask_done 16 _ _ _ c.loop-j.invariant.1 c.loop-j.invariant.0 c.loop-j-test.false) (mask_below 16 _) }

pub returns : goal.returns
unfolding fed_registers
returns c = mask_done 16 _ _ _ c.loop-j.invariant.1 c.loop-j.invariant.0 c.loop-j-test.false

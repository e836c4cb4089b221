-- `tariff::masks::mask_of` meets its contract. The loop's invariant: the mask of the places before i, of the first 32.
use mathlib.Core.Path.{◌≡◌, refl, ◌∙◌}
use mathlib.Core.Bool.{Bool}
use Prim.Native.Nat.{ℕ, ◌+◌, min}
use native.Mathlib.Omega.{arith}
use lib.Dec.{ltb}
use borrow.Author.Tests.{ltb-true, ltb-false}
use Rattle.laws.specs.Masks.{mask_of, or_bit}
use Rattle.laws.proofs.Masks.{mask_none, mask_more}
use Rattle.laws.proofs.Tests.{by_test}
use Rattle.tariff.proofs.masks.mask_of.Goals as goal

-- a turn: of the first 32 places the bit is added, past them none is
turn : (i : ℕ) (p : ℕ → Bool) (mask r : ℕ) → mask ≡ mask_of (min i 32) p → r ≡ or_bit mask i (p i) → r ≡ mask_of (min (i + 1) 32) p
unfolding or_bit
turn i p mask r e f =
    by_test (ltb i 32)
    (λ t.
    let l = ltb-true i 32 t in
    let before : min i 32 ≡ i = omega arith in
    let after : min (i + 1) 32 ≡ i + 1 = omega arith in
    rw after (mask_more i p l (rw before at e) f refl))
    (λ t.
    let l = ltb-false i 32 t in
    let before : min i 32 ≡ 32 = omega arith in
    let after : min (i + 1) 32 ≡ 32 = omega arith in
    rw after (rw t at f ∙ rw before at e))

pub loop-i-init : goal.loop-i-init
loop-i-init g c = mask_none _

pub loop-i-preserved : goal.loop-i-preserved
loop-i-preserved g c = turn _ _ _ _ c.loop-i.invariant c.with_bit-mask.ensures

-- `registers::contents::status_shown` meets its contract: `| 1` sets the lowest bit.
use mathlib.Core.Path.{◌≡◌, ◌∙◌}
use Prim.Native.Nat.{ℕ, ◌%◌, max, ◌<◌}
use native.Mathlib.Nat.{mod-lt}
use native.Mathlib.Omega.{arith}
use lib.Bits.{bit_or, or_step, or_zero_r}
use lib.Dec.{lit<}
use Rattle.recorder.specs.declared.meters.Age.TheVariants.{Awake}
use Rattle.registers.specs.Contents.{with_iv, status_shown}
use Rattle.registers.proofs.Classes.{class_is}
use Rattle.registers.proofs.contents.status_shown.Goals as goal

or_one : (s : ℕ) → bit_or s 1 ≡ with_iv s
or_one s = or_step s 1 ∙ rw (or_zero_r, one_max (s % 2) (mod-lt s (lit< tt)))
  where
    one_max : (x : ℕ) → x < 2 → max x 1 ≡ 1
    one_max x h = omega arith

pub returns : goal.returns
unfolding status_shown
returns c = rw (← class_is c.args.class Awake, ← c.if-eq.ensures) (or_one c.args.status)

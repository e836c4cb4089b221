-- A loop over the bits of a mask: the laws of crates/laws/proofs/Sparse.antt at a step of the iterator.
use Rattle.std.specs.Prelude.{Some}
use mathlib.Core.Path.{◌≡◌}
use mathlib.Core.Bool.{Bool, true, false, ◌&&◌}
use mathlib.Core.List.{List}
use Prim.Native.Nat.{ℕ}
use lib.ListN.{get_or, set}
use Rattle.laws.specs.Any.{any}
use Rattle.laws.specs.Masks.{bit_at}
use Rattle.laws.proofs.Sparse.{Half, half_next, half_turn, Looked, look_turn, look_found, lowest_on}
use Rattle.counting.specs.Bits.{NextBit}

module _ {left i after : ℕ} (step : NextBit left (Some i) after) where
  -- the bit is on
  pub step_on : bit_at left i ≡ true
  step_on = rw step.2 (lowest_on 16 left step.0 step.1)

  -- the element at its place is still the old one
  pub step_old : {A : Type 0} {mask : ℕ} {f old : ℕ → A} {xs : List A} → Half mask left f old xs → (d : A) → get_or xs i d ≡ old i
  step_old {mask = mask} {f = f} {old = old} h d = rw step.2 (half_next mask f old step.0 step.1 h d)

  -- and then it is done
  pub step_done : {A : Type 0} {mask : ℕ} {f old : ℕ → A} {xs : List A} {v : A} → Half mask left f old xs → v ≡ f i → Half mask after f old (set xs i v)
  step_done {mask = mask} {f = f} {old = old} h e = rw (step.4, step.2) (half_turn mask f old step.0 step.1 h (rw step.2 at e))

  -- the test does not hold there
  pub step_looked : {mask : ℕ} {p : ℕ → Bool} → Looked mask left p → p i ≡ false → Looked mask after p
  step_looked {mask = mask} {p = p} h e = rw step.4 (look_turn mask p step.0 step.1 h (rw step.2 at e))

  -- or it does
  pub step_found : {mask : ℕ} {p : ℕ → Bool} → Looked mask left p → p i ≡ true → any 16 (λ j. bit_at mask j && p j) ≡ true
  step_found {mask = mask} {p = p} h e = look_found mask p step.0 step.1 h (rw step.2 at e)

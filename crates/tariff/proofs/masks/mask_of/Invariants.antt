-- `tariff::masks::mask_of` meets its contract. The loop's invariant: the mask of the places before i, of the first 32.
use mathlib.Core.Path.{◌≡◌}
use mathlib.Core.Bool.{false}
use Prim.Native.Nat.{min}
use lib.ListN.{get_or}
use Rattle.laws.specs.Masks.{mask_of}
use Rattle.tariff.proofs.masks.mask_of.Given as goal

abbrev pub invariant-loop-i : goal.invariant-loop-i
invariant-loop-i g l = l.mask ≡ mask_of (min l.i 32) (λ k. get_or l.fn.bits k false)

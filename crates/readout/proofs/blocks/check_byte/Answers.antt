-- `readout::blocks::check_byte` meets its contract: its definition is a fold.
use mathlib.Core.Path.{◌≡◌, refl}
use mathlib.Core.List.{List, [], ◌∷◌}
use Prim.Native.Nat.{ℕ}
use borrow.Author.Rules.{rules}
use lib.Bits.{bit_xor}
use Rattle.std.specs.List.{fold}
use Rattle.readout.specs.Blocks.{xor_from}
use Rattle.readout.proofs.blocks.check_byte.Goals as goal

folded : (n : ℕ) (l : List ℕ) → fold bit_xor n l ≡ xor_from n l
unfolding xor_from
folded n [] = refl
folded n (b ∷ rest) = folded (bit_xor n b) rest

pub returns : goal.returns
returns c = rw (← folded) (search rules)

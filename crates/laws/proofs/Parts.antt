-- Parts of lent bytes (specs/Parts.antt): two with the same place and the same bytes are the same.
use mathlib.Core.Path.{◌≡◌}
use mathlib.Core.List.{List}
use Prim.Native.Nat.{ℕ}
use Rattle.laws.specs.Parts.{Part}

pub part_same : (block o p : ℕ) (b c : List ℕ) → o ≡ p → b ≡ c
    → ◌≡◌ {A = Part} (record { block = block; offset = o; bytes = b }) (record { block = block; offset = p; bytes = c })
part_same block o p b c e f = rw (e, f)

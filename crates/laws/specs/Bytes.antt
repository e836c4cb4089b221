-- "Numbers in images and registers have the least significant byte first": a number as bytes and back, stated once over the width.
use Rattle.std.specs.Prelude.{List, [], ◌∷◌, ℕ, zero, suc, ◌+◌, ◌*◌, ◌/◌, ◌%◌, ◌<◌, get_or, drop}

-- each element is a byte
abbrev pub Bytes : List ℕ → Type 0
Bytes b = (i : ℕ) → get_or b i 0 < 256

-- the number x as n bytes, the least significant first
unfoldable pub bytes_of : ℕ → ℕ → List ℕ
bytes_of zero x = []
bytes_of (suc n) x = x % 256 ∷ bytes_of n (x / 256)

-- the number that the first n bytes of b are
unfoldable pub le : ℕ → List ℕ → ℕ
le zero b = 0
le (suc n) b = get_or b 0 0 + 256 * le n (drop 1 b)

-- Letters as numbers.
use Rattle.std.specs.Prelude.{List, [], ◌∷◌, ℕ}
use Prim.Native.Char.{code}
use Prim.Native.String.{String}
use Prim.Native.String as string

-- the numbers of the letters of a quoted text
unfoldable pub letters : String → List ℕ
letters string.[] = []
letters (string.◌∷◌ c rest) = code c ∷ letters rest

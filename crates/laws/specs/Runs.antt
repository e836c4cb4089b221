-- Entries one after another in bytes.
use Rattle.std.specs.Prelude.{List, [], ◌∷◌, ◌++◌, ℕ, zero, suc, ◌*◌, drop}

-- the bytes of the entries xs, one after another
unfoldable pub joined : {A : Type 0} → (A → List ℕ) → List A → List ℕ
joined enc [] = []
joined enc (x ∷ xs) = enc x ++ joined enc xs

-- the first n entries of b, each of `size` bytes
unfoldable pub entries : {A : Type 0} → (List ℕ → A) → ℕ → ℕ → List ℕ → List A
entries dec size zero b = []
entries dec size (suc n) b = entries dec size n b ++ (dec (drop (size * n) b) ∷ [])

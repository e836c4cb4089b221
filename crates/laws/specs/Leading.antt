-- How far a test holds from the front of a list on. A look for the end of a part is stated by it.
use Rattle.std.specs.Prelude.{Bool, List, [], ◌∷◌, ℕ, suc, if◌then◌else◌}

-- how many elements in front pass the test, up to the first that does not
unfoldable pub leading : (ℕ → Bool) → List ℕ → ℕ
leading p [] = 0
leading p (b ∷ rest) = if p b then suc (leading p rest) else 0

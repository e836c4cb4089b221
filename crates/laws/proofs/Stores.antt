-- Stores into a list: a number byte by byte, a copy element by element, and the parts of a list beside what was stored.
use mathlib.Core.Path.{◌≡◌, refl, sym, ap, ◌∙◌}
use mathlib.Core.List.{List, [], ◌∷◌, ◌++◌, append_assoc}
use Prim.Native.Nat.{ℕ, zero, suc, ◌+◌, ◌-◌, ◌/◌, ◌%◌, ◌≤◌, ◌<◌}
use native.Mathlib.Nat.{le_of_lt}
use native.Mathlib.Numerals.{add-one, unary_clauses}
use native.Mathlib.Omega.{arith}
use lib.ListN.{length, take, drop, set, get_or, replicate, length-replicate}
use lib.Seq.{sets, sets-eq, take-suc, drop-cons, append_snoc, set_at, take_at, drop_at, length-take-le, take-set-le, drop-set-lt, drop-drop}
use Rattle.laws.specs.Bytes.{bytes_of}

-- a byte of a number is stored, and the others are left to store
pub byte_stored : (l : List ℕ) (at k n x : ℕ) → k < n → sets (set l (at + k) (x % 256)) (at + (k + 1)) (bytes_of (n - (k + 1)) (x / 256)) ≡ sets l (at + k) (bytes_of (n - k) x)
unfolding bytes_of
byte_stored l at k n x h =
    let left : n - k ≡ suc (n - (k + 1)) = omega arith in
    let place : at + (k + 1) ≡ suc (at + k) = omega arith in
    rw (left, place)

-- no byte is left
pub bytes_stored : (l : List ℕ) (at k n x : ℕ) → n ≤ k → sets l (at + k) (bytes_of (n - k) x) ≡ l
unfolding bytes_of
bytes_stored l at k n x h = let left : n - k ≡ 0 = omega arith in rw left

-- one element more of a copy stands in front of what is left
pub one_copied : (from to : List ℕ) (i : ℕ) → i < length from → i < length to
    → set (take i from ++ drop i to) i (get_or from i 0) ≡ take (i + 1) from ++ drop (i + 1) to
one_copied from to i h k =
    rw (add-one, take-suc from i 0, drop-cons to i 0)
    (set_at (take i from) (get_or to i 0) (drop (suc i) to) (get_or from i 0) i (length-take-le i from (le_of_lt h))
    ∙ sym (append_snoc (take i from) (get_or from i 0) (drop (suc i) to)))

-- what is left of equal elements
drop_replicate : (k n x : ℕ) → drop k (replicate n x) ≡ replicate (n - k) x
drop_replicate zero n x = simp unary_clauses
drop_replicate (suc k) zero x = let none : 0 - suc k ≡ 0 = omega arith in rw none
drop_replicate (suc k) (suc n) x = simp unary_clauses (drop_replicate k n x)

-- the same in front of equal elements
pub one_padded : (from : List ℕ) (n x i : ℕ) → i < length from → i < n
    → set (take i from ++ replicate (n - i) x) i (get_or from i 0) ≡ take (i + 1) from ++ replicate (n - (i + 1)) x
one_padded from n x i h k =
    rw (← drop_replicate i n x, ← drop_replicate (i + 1) n x) (one_copied from (replicate n x) i h (rw (length-replicate n x) k))

-- what was stored stands there
pub part_stored : (l : List ℕ) (at : ℕ) (xs : List ℕ) → at + length xs ≤ length l → take (length xs) (drop at (sets l at xs)) ≡ xs
part_stored l at xs h =
    let there : at ≤ length l = omega arith in
    rw (sets-eq xs l at h, append_assoc, drop_at (take at l) (xs ++ drop (at + length xs) l) at (length-take-le at l there)) (take_at xs _ (length xs) refl)

-- lists that are the same from a place on are so from a later one on
pub drop_later : {A : Type 0} (m n : ℕ) (l l' : List A) → m ≤ n → drop m l ≡ drop m l' → drop n l ≡ drop n l'
drop_later m n l l' h e =
    let later : m + (n - m) ≡ n = omega arith in rw (← later, ← drop-drop (n - m) m l, ← drop-drop (n - m) m l') (ap (drop (n - m)) e)

-- what stands behind it is as it was
pub drop_behind : (l : List ℕ) (at k : ℕ) (xs : List ℕ) → at + length xs ≤ k → drop k (sets l at xs) ≡ drop k l
drop_behind l at k [] h = refl
drop_behind l at k (x ∷ xs) h = drop_behind (set l at x) (suc at) k xs (omega arith) ∙ drop-set-lt k l at x (omega arith)

-- an element that is stored behind a part leaves it
part_set : (l : List ℕ) (at k n x : ℕ) → k + n ≤ at → take n (drop k (set l at x)) ≡ take n (drop k l)
part_set [] at k n x h = refl
part_set (y ∷ l) at zero n x h = take-set-le n (y ∷ l) at x (omega arith)
part_set (y ∷ l) zero (suc k) n x h = absurd (omega arith)
part_set (y ∷ l) (suc at) (suc k) n x h = part_set l at k n x (omega arith)

-- a part before what was stored is as it was
pub part_before : (l : List ℕ) (at k n : ℕ) (xs : List ℕ) → k + n ≤ at → take n (drop k (sets l at xs)) ≡ take n (drop k l)
part_before l at k n [] h = refl
part_before l at k n (x ∷ xs) h = part_before (set l at x) (suc at) k n xs (omega arith) ∙ part_set l at k n x h

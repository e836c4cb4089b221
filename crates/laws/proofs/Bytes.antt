-- Laws of specs/Bytes.antt.
use mathlib.Core.Path.{◌≡◌, refl, sym, ap, ◌∙◌}
use mathlib.Core.List.{List, [], ◌∷◌, ◌++◌}
use Prim.Native.Nat.{ℕ, zero, suc, ◌+◌, ◌*◌, ◌/◌, ◌%◌, ◌^◌, ◌≤◌, ◌<◌}
use native.Mathlib.Nat.{pow-suc, add-zero, le_of_suc-le-suc, not-suc-le-zero, div-lt_iff_lt-mul}
use native.Mathlib.Omega.{arith}
use lib.ListN.{length, get_or, take, drop, length-drop}
use lib.Seq.{get_or-take, get_or-drop, drop-drop}
use Rattle.laws.specs.Bytes.{Bytes, bytes_of, le}

-- n bytes are n
pub length_bytes_of : (n x : ℕ) → length (bytes_of n x) ≡ n
unfolding bytes_of
length_bytes_of zero x = refl
length_bytes_of (suc n) x = ap suc (length_bytes_of n (x / 256))

-- a number that n bytes hold is read back from its n bytes, whatever stands after them
pub le_bytes_of : (n x : ℕ) (t : List ℕ) → x < 256 ^ n → le n (bytes_of n x ++ t) ≡ x
unfolding le bytes_of
le_bytes_of zero x t h = omega arith
le_bytes_of (suc n) x t h =
    let g : x < 256 ^ n * 256 = rw pow-suc at h in
    let q : x / 256 < 256 ^ n = (div-lt_iff_lt-mul {k = 256} {x = x} {y = 256 ^ n} (omega arith)).1 g in
    rw (le_bytes_of n (x / 256) t q) (omega arith)

-- bytes are the bytes of the number that they are
pub bytes_of_le : (n : ℕ) (b : List ℕ) → Bytes b → n ≤ length b → bytes_of n (le n b) ≡ take n b
unfolding le bytes_of
bytes_of_le zero b byte h = refl
bytes_of_le (suc n) [] byte h = absurd (not-suc-le-zero h)
bytes_of_le (suc n) (a ∷ b) byte h =
    let low : a < 256 = byte 0 in
    let e : (a + 256 * le n b) % 256 ≡ a = omega arith in
    let f : (a + 256 * le n b) / 256 ≡ le n b = omega arith in
    rw (e, f, bytes_of_le n b (λ i. byte (suc i)) (le_of_suc-le-suc h))

-- the number of two bytes at a place
pub le_2 : (b : List ℕ) (at : ℕ) → get_or b at 0 + 256 * get_or b (at + 1) 0 ≡ le 2 (drop at b)
unfolding le
le_2 b at =
    let e : get_or (drop at b) 0 0 ≡ get_or b at 0 = rw (get_or-drop, add-zero) in
    let f : get_or (drop 1 (drop at b)) 0 0 ≡ get_or b (at + 1) 0 = rw (drop-drop, get_or-drop, add-zero) in
    omega arith

-- bytes from a place on are bytes
pub bytes_drop : (n : ℕ) (b : List ℕ) → Bytes b → Bytes (drop n b)
bytes_drop n b h i = rw get_or-drop (h (n + i))

-- the first n elements, one by one
abbrev firsts : ℕ → List ℕ → List ℕ
firsts zero b = []
firsts (suc n) b = get_or b 0 0 ∷ firsts n (drop 1 b)

-- the first n elements are those
pub take_firsts : (n : ℕ) (b : List ℕ) → n ≤ length b → take n b ≡ firsts n b
take_firsts zero b h = refl
take_firsts (suc n) [] h = absurd (not-suc-le-zero h)
take_firsts (suc n) (x ∷ b) h = ap (λ (l : List ℕ). x ∷ l) (take_firsts n b (le_of_suc-le-suc h))

-- n bytes at a place, read and written back
pub bytes_of_at : (n at : ℕ) (b : List ℕ) → Bytes b → at + n ≤ length b → bytes_of n (le n (drop at b)) ≡ take n (drop at b)
bytes_of_at n at b byte h = bytes_of_le n (drop at b) (bytes_drop at b byte) (rw length-drop (omega arith))

-- the number of one byte at a place
pub le_1 : (b : List ℕ) (at : ℕ) → get_or b at 0 ≡ le 1 (drop at b)
unfolding le
le_1 b at = let e : get_or (drop at b) 0 0 ≡ get_or b at 0 = rw (get_or-drop, add-zero) in omega arith

-- a byte is its one byte
pub bytes_of_1 : (x : ℕ) → x < 256 → x ∷ [] ≡ bytes_of 1 x
unfolding bytes_of
bytes_of_1 x h = let e : x % 256 ≡ x = omega arith in rw e

-- the number of one byte more, from a place on
pub le_turn : (n at : ℕ) (b : List ℕ) → le (suc n) (drop at b) ≡ get_or b at 0 + 256 * le n (drop (at + 1) b)
unfolding le
le_turn n at b = rw (get_or-drop at b 0 0, drop-drop 1 at b, add-zero) refl

-- n bytes hold less than 256 ^ n
pub le_below : (n : ℕ) (b : List ℕ) → Bytes b → le n b < 256 ^ n
unfolding le
le_below zero b byte = omega arith
le_below (suc n) b byte =
    let low : get_or b 0 0 < 256 = byte 0 in
    let rest = le_below n (drop 1 b) (bytes_drop 1 b byte) in
    rw (pow-suc 256 n) (omega arith)

-- what stands behind n bytes makes no difference to a number within them
pub le_take : (n at m : ℕ) (b : List ℕ) → at + n ≤ m → le n (drop at (take m b)) ≡ le n (drop at b)
unfolding le
le_take zero at m b h = refl
le_take (suc n) at m b h =
    le_turn n at (take m b) ∙ rw (get_or-take m b at 0 (omega arith), le_take n (at + 1) m b (omega arith)) (sym (le_turn n at b))

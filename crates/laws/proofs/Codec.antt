-- What makes an entry's bytes and its value one and the same; and then a section of such entries is read back and written back.
use mathlib.Core.Path.{◌≡◌, refl, ap, ◌∙◌}
use mathlib.Core.List.{List, [], ◌∷◌, ◌++◌, append_assoc, append-nil}
use Prim.Native.Nat.{ℕ, zero, suc, ◌+◌, ◌*◌, ◌^◌, ◌≤◌, ◌<◌}
use native.Mathlib.Nat.{mul-suc, add_comm, not-suc-le-zero, le_of_suc-le-suc}
use native.Mathlib.Omega.{arith}
use lib.ListN.{length, take, drop, get_or, length-drop, take-append-drop}
use lib.Seq.{drop-drop, drop_at, take-add, take-suc, take_all, drop-cons}
use Rattle.laws.specs.Each.{Each}
use Rattle.laws.specs.Bytes.{Bytes, bytes_of, le}
use Rattle.laws.proofs.Bytes.{length_bytes_of, le_bytes_of, bytes_of_le, bytes_drop}
use Rattle.laws.specs.Runs.{joined, entries}
use Rattle.laws.proofs.Runs.{joined_append, length_joined}

-- two parts that follow one another are the part that both make
pub part_join : (b : List ℕ) (at n : ℕ) {t : List ℕ} → t ≡ drop (at + n) b → take n (drop at b) ++ t ≡ drop at b
part_join b at n e = rw (e, ← drop-drop) (take-append-drop n (drop at b))

-- what follows a part of known length
pub part_after : (l : List ℕ) (at n : ℕ) (x : List ℕ) {y : List ℕ} → drop at l ≡ x ++ y → length x ≡ n → drop (at + n) l ≡ y
part_after l at n x {y} e h = rw (← drop-drop n at l, e) (drop_at x y n h)

-- a claim that asks nothing holds of each entry
pub each_any : {A : Type 0} (xs : List A) → Each (λ _. Unit {0}) xs
each_any [] = tt
each_any (x ∷ xs) = (tt, each_any xs)

module _ {A : Type 0} where
  -- the bytes `enc x` of an entry, `size` of them, and the entry `dec b` that b starts with
  pub record Codec (enc : A → List ℕ) (dec : List ℕ → A) (size : ℕ) (Typed : A → Type 0) : Type 0 where
    pub wide : (x : A) → length (enc x) ≡ size
    pub back : (x : A) (t : List ℕ) → Typed x → dec (enc x ++ t) ≡ x
    pub forth : (b : List ℕ) → Bytes b → size ≤ length b → enc (dec b) ≡ take size b

  module _ {enc : A → List ℕ} {dec : List ℕ → A} {size : ℕ} {Typed : A → Type 0} (k : Codec enc dec size Typed) where
    -- a section's length
    pub section_wide : (xs : List A) {n : ℕ} → length xs ≡ n → length (joined enc xs) ≡ size * n
    section_wide xs e = length_joined enc size k.wide xs ∙ ap (λ (j : ℕ). size * j) e

    -- entry i stands at size * i
    drop_joined : (xs : List A) (t : List ℕ) (i : ℕ) → i ≤ length xs → drop (size * i) (joined enc xs ++ t) ≡ joined enc (drop i xs) ++ t
    unfolding joined
    drop_joined xs t zero h = let e : size * 0 ≡ 0 = omega arith in rw e
    drop_joined [] t (suc i) h = absurd (not-suc-le-zero h)
    drop_joined (x ∷ xs) t (suc i) h =
        rw (mul-suc, add_comm (size * i) size, ← drop-drop, append_assoc, drop_at (enc x) (joined enc xs ++ t) size (k.wide x))
        (drop_joined xs t i (le_of_suc-le-suc h))

    each_at : (xs : List A) (i : ℕ) (d : A) → Each Typed xs → i < length xs → Typed (get_or xs i d)
    each_at [] i d a h = absurd (not-suc-le-zero h)
    each_at (x ∷ xs) zero d a h = a.0
    each_at (x ∷ xs) (suc i) d a h = each_at xs i d a.1 (le_of_suc-le-suc h)

    first_back : (xs : List A) (t : List ℕ) (i : ℕ) → Each Typed xs → i ≤ length xs → entries dec size i (joined enc xs ++ t) ≡ take i xs
    unfolding entries joined
    first_back xs t zero a h = refl
    first_back xs t (suc i) a h =
        let x = get_or xs i (dec []) in
        let e : dec (drop (size * i) (joined enc xs ++ t)) ≡ x =
        rw (drop_joined xs t i (omega arith), drop-cons xs i (dec []) h, append_assoc)
        (k.back x (joined enc (drop (suc i) xs) ++ t) (each_at xs i (dec []) a h)) in
        rw (first_back xs t i a (omega arith), e, take-suc xs i (dec []) h)

    -- a section that was written is read back
    pub section_back : (xs : List A) (t : List ℕ) (n : ℕ) → Each Typed xs → length xs ≡ n → entries dec size n (joined enc xs ++ t) ≡ xs
    section_back xs t n a e = first_back xs t n a (omega (arith, e)) ∙ take_all n xs (omega (arith, e))

    -- a section that was read is written back
    pub section_forth : (b : List ℕ) (n : ℕ) → Bytes b → size * n ≤ length b → joined enc (entries dec size n b) ≡ take (size * n) b
    unfolding entries joined
    section_forth b zero byte h = let e : size * 0 ≡ 0 = omega arith in rw e
    section_forth b (suc n) byte h =
        let m : size * n + size ≤ length b = rw mul-suc at h in
        let l : size ≤ length (drop (size * n) b) = rw length-drop (omega arith) in
        rw (joined_append, section_forth b n byte (omega arith), append-nil, k.forth (drop (size * n) b) (bytes_drop (size * n) b byte) l, mul-suc, take-add)

    -- a section of b at a place, read and written back
    pub forth_at : (b : List ℕ) (at n : ℕ) → Bytes b → at + size * n ≤ length b → joined enc (entries dec size n (drop at b)) ≡ take (size * n) (drop at b)
    forth_at b at n byte h = section_forth (drop at b) n (bytes_drop at b byte) (rw length-drop (omega arith))

-- a number of n bytes is an entry
pub number : (n : ℕ) → Codec (bytes_of n) (le n) n (λ x. x < 256 ^ n)
number n = record { wide = length_bytes_of n; back = le_bytes_of n; forth = bytes_of_le n }

-- Laws of HEX (specs/Hex.antt): each byte by its pair of letters, and that none of a line is cut.
use Rattle.std.proofs.Common.{◌≡◌, ℕ, zero, suc, ◌+◌, ◌*◌, ◌/◌, ◌<◌, ◌≤◌, min, List, [], ◌∷◌, ◌++◌, length, get_or, take, drop, replicate, arith, refl, ap, sym, ◌∙◌, add-zero, get_or-take, get_or-drop}
use Rattle.std.proofs.lemmas.List.{drop-drop, drop-replicate}
use Rattle.std.proofs.Math.Seq.{take_all, take-append_seam}
use Rattle.std.specs.Simd.{first_chunks}
use Rattle.laws.specs.Tables.{table}
use Rattle.laws.proofs.Tables.{length_table, table_append}
use Rattle.lines.specs.Words.{without_return, word}
use Rattle.lines.specs.Hex.{hex_byte, hex_values, bytes_of_hex, hex_bytes, as_bytes, HexWhole}
use Rattle.lines.proofs.Splits.{word_length}

-- letter i of pair k
pair_of : (n k : ℕ) (w : List ℕ) → k < n → get_or (first_chunks 2 n w) k [] ≡ take 2 (drop (2 * k) w)
pair_of zero k w h = absurd (omega arith)
pair_of (suc n) zero w h = refl
pair_of (suc n) (suc k) w h =
    let more : 2 + 2 * k ≡ 2 * suc k = omega arith in
    rw (pair_of n k (drop 2 w) (omega arith), drop-drop (2 * k) 2 w, more)

pub letter_of : (n m k i j : ℕ) (w : List ℕ) → k < n → k < m → i < 2 → 2 * k + i ≡ j → get_or (get_or (take m (first_chunks 2 n w)) k []) i 0 ≡ get_or w j 0
letter_of n m k i j w h g e p = rw (get_or-take, pair_of n k w h, get_or-take, get_or-drop, p)

-- one value more
pub table_more : (f : ℕ → ℕ) (k v : ℕ) (l : List ℕ) → l ≡ table k f → v ≡ f k → l ++ (v ∷ []) ≡ table (k + 1) f
unfolding table
table_more f k v l e h = let last = ap f (add-zero k) in rw (table_append k 1 f, e, h) (ap (λ x. table k f ++ (x ∷ [])) (sym last))

-- the first values
pub table_taken : (n m : ℕ) (f : ℕ → ℕ) → take n (table m f) ≡ table (min m n) f
unfolding table
table_taken zero m f = let none : min m 0 ≡ 0 = omega arith in rw none
table_taken (suc n) zero f = let none : min 0 (suc n) ≡ 0 = omega arith in rw none
table_taken (suc n) (suc m) f =
    let more : min (suc m) (suc n) ≡ suc (min m n) = omega arith in
    rw (more, table_taken n m (λ i. f (suc i)))

-- bytes by value: with their zeros as they are put there, and counted
pub by_value : (l s : List ℕ) (n : ℕ) → s ≡ l → n ≡ length l → n ≤ 128 → record { bytes = s ++ drop n (replicate 128 0); count = n } ≡ as_bytes l
by_value l s n e size h = rw (e, size, take_all 128 l (omega arith), drop-replicate {X = ℕ} (length l) 128 0)

pub counted : (l : List ℕ) → length l ≤ 128 → take (as_bytes l).count (as_bytes l).bytes ≡ l
counted l h = rw (take_all 128 l h) (take-append_seam l _)

pub hex_whole : HexWhole
unfolding bytes_of_hex hex_values
hex_whole k text h e =
    let w = word k (without_return text) in
    let size = length_table (length w / 2) (hex_byte w) in
    let all : hex_bytes k text ≡ hex_values w = rw (e, take_all 128 (hex_values w) (omega (arith, word_length (without_return text) k, size))) in
    (all, counted (hex_bytes k text) (rw all (omega (arith, word_length (without_return text) k, size))) ∙ all)

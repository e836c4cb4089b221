-- Numbers as bytes, copied to their place: `to_le_bytes` gives the document's bytes, the least significant first, and a copy into a part of a list stores them there.
use mathlib.Core.Path.{◌≡◌, refl, sym, ap, ◌∙◌}
use mathlib.Core.List.{List, ◌∷◌, ◌++◌, append_assoc}
use Prim.Native.Nat.{ℕ, zero, suc, ◌+◌, ◌/◌, ◌%◌, ◌^◌, ◌≤◌}
use native.Mathlib.Nat.{pow-suc, div-div-eq-div-mul}
use borrow.Rule.Slice.PartMut.{put_mid}
use lib.ListN.{length, take, drop}
use lib.Seq.{sets, sets-eq, drop-drop}
use Rattle.std.specs.Int.{bytes_low_first}
use Rattle.laws.specs.Bytes.{bytes_of}

-- those from a later byte on
later_bytes : (i n x : ℕ) → bytes_low_first (suc i) n x ≡ bytes_of n (x / 256 ^ suc i)
unfolding bytes_of
later_bytes i zero x = refl
later_bytes i (suc n) x =
    let next : x / 256 ^ suc (suc i) ≡ x / 256 ^ suc i / 256 = ap (λ d. x / d) (pow-suc 256 (suc i)) ∙ sym (div-div-eq-div-mul x (256 ^ suc i) 256) in
    ap (λ t. x / 256 ^ suc i % 256 ∷ t) (later_bytes (suc i) n x ∙ ap (bytes_of n) next)

pub le_bytes : (n x : ℕ) → bytes_low_first 0 n x ≡ bytes_of n x
unfolding bytes_of
le_bytes zero x = refl
le_bytes (suc n) x = ap (λ t. x % 256 ∷ t) (later_bytes 0 n x)

-- a copy into a part
pub copied : (l : List ℕ) (at k : ℕ) (ys : List ℕ) → length ys ≡ k → at + k ≤ length l → put_mid at k l ys ≡ sets l at ys
copied l at k ys e h =
    rw (← e)
    (sym (sets-eq ys l at (rw e h) ∙ append_assoc (take at l) ys (drop (at + length ys) l) ∙ ap (λ r. take at l ++ (ys ++ r)) (sym (drop-drop (length ys) at l))))

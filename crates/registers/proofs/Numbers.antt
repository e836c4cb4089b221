-- Numbers as bytes: those that `to_le_bytes` gives are the document's, the least significant first.
use mathlib.Core.Path.{◌≡◌, refl, sym, ap, ◌∙◌}
use mathlib.Core.List.{◌∷◌}
use Prim.Native.Nat.{ℕ, zero, suc, ◌/◌, ◌%◌, ◌^◌}
use native.Mathlib.Nat.{pow-suc, div-div-eq-div-mul}
use Rattle.std.specs.Int.{bytes_low_first}
use Rattle.laws.specs.Bytes.{bytes_of}

-- those from a later byte on
later_bytes : (i n x : ℕ) → bytes_low_first (suc i) n x ≡ bytes_of n (x / 256 ^ suc i)
unfolding bytes_of
later_bytes i zero x = refl
later_bytes i (suc n) x =
    let next : x / 256 ^ suc (suc i) ≡ x / 256 ^ suc i / 256 = ap (λ d. x / d) (pow-suc 256 (suc i)) ∙ sym (div-div-eq-div-mul x (256 ^ suc i) 256) in
    ap (λ t. x / 256 ^ suc i % 256 ∷ t) (later_bytes (suc i) n x ∙ ap (bytes_of n) next)

pub le_bytes : (n x : ℕ) → bytes_low_first 0 n x ≡ bytes_of n x
unfolding bytes_of
le_bytes zero x = refl
le_bytes (suc n) x = ap (λ t. x % 256 ∷ t) (later_bytes 0 n x)

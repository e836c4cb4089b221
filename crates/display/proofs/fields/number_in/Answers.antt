-- `display::fields::number_in` meets its contract: zeros behind a number's bytes change nothing.
use mathlib.Core.Path.{◌≡◌, refl, ap, ◌∙◌}
use mathlib.Core.List.{List, [], ◌∷◌, ◌++◌}
use Prim.Native.Nat.{ℕ, zero, suc, ◌+◌, ◌-◌, ◌*◌, ◌≤◌}
use native.Mathlib.Nat.{not-suc-le-zero}
use native.Mathlib.Omega.{arith}
use mir.Syntax.{w8, w64}
use mir.Val.{Fits}
use lib.ListN.{length, get_or, take, drop, replicate, length-drop}
use Rattle.std.specs.Int.{from_le_bytes}
use Rattle.std.proofs.lemmas.List.{drop-replicate}
use Rattle.laws.specs.Bytes.{le}
use Rattle.laws.proofs.Arrays.{elem_fits}
use Rattle.laws.proofs.Bytes.{le_turn, le_1, le_below, bytes_drop}
use Rattle.display.proofs.fields.number_in.Goals as goal

-- what is behind the bytes of a number does not count where it is zero
zeros : (k m : ℕ) → le k (replicate m 0) ≡ 0
unfolding le
zeros zero m = refl
zeros (suc k) zero = omega (arith, zeros k zero)
zeros (suc k) (suc m) = omega (arith, zeros k m)

before_zeros : (n k m : ℕ) (s : List ℕ) → n ≤ length s → le (n + k) (take n s ++ replicate m 0) ≡ le n s
unfolding le
before_zeros zero k m s h = let e : 0 + k ≡ k = omega arith in rw e (zeros k m)
before_zeros (suc n) k m [] h = absurd (not-suc-le-zero h)
before_zeros (suc n) k m (b ∷ s) h =
    let e : suc n + k ≡ suc (n + k) = omega arith in rw e (ap (λ x. b + 256 * x) (before_zeros n k m s (omega arith)))

-- eight bytes are the same number to the library
eight : (b : List ℕ) → from_le_bytes w64 b ≡ le 8 b
eight b =
    omega (arith, le_turn 7 0 b, le_turn 6 1 b, le_turn 5 2 b, le_turn 4 3 b, le_turn 3 4 b, le_turn 2 5 b, le_turn 1 6 b, le_1 b 7)

pub returns : goal.returns
returns c =
    let a = c.args in
    let s = drop a.start a.bytes in
    let known : (i : ℕ) → Fits w8 (get_or a.bytes i 0) = λ i. search elem_fits in
    let long = length-drop a.start a.bytes in
    let part : c.copy_from_slice.new.self ≡ take a.n s = c.copy_from_slice.ensures.after ∙ ap (λ k. take k s) (omega arith) in
    let rest = drop-replicate {X = ℕ} a.n 8 0 in
    let whole : 8 ≡ a.n + (8 - a.n) = omega arith in
    let padded : le 8 (take a.n s ++ replicate (8 - a.n) 0) ≡ le a.n s =
    ap (λ k. le k (take a.n s ++ replicate (8 - a.n) 0)) whole ∙ before_zeros a.n (8 - a.n) (8 - a.n) s (omega arith) in
    let number : c.from_le_bytes.result ≡ le a.n s = c.from_le_bytes.ensures ∙ eight (c.copy_from_slice.new.self ++ drop a.n (replicate 8 0)) ∙ rw (part, rest) padded in
    (number, rw number (le_below a.n s (bytes_drop a.start a.bytes (λ i. (known i).fits))))

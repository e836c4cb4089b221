-- Laws of texts (specs/Texts.antt), of numbers in letters (specs/Numbers.antt) and of the line of an image.
use mathlib.Core.Path.{◌≡◌, refl}
use mathlib.Core.Bool.{true, false, true≢false}
use mathlib.Core.List.{List, [], ◌∷◌, ◌++◌}
use Prim.Native.Nat.{ℕ, suc, min, ◌+◌, ◌-◌, ◌/◌, ◌≤◌, ◌<◌}
use native.Mathlib.Nat.{not-suc-le-zero}
use borrow.Author.Tests.{ltb-true, ltb-false, leb-true, leb-false, lt-ltb, le-ltb, le-leb}
use borrow.Rule.Slice.PartMut.{put_mid}
use native.Mathlib.Numerals.{add-one}
use native.Mathlib.Omega.{arith}
use lib.Dec.{ltb, leb}
use lib.IntN.{ℤ, pos, negsuc, nat_abs}
use lib.Signed.{lt_z}
use lib.ListN.{length, take, drop, get_or, set, length-drop, drop_of_length-le}
use lib.Seq.{sets, take_all, length-take-le, drop-cons}
use Rattle.std.proofs.lemmas.List.{drop_min}
use Rattle.laws.proofs.Tests.{by_test}
use Rattle.laws.specs.Answers.{given}
use Rattle.profile.proofs.Bytes.{copied}
use Rattle.answers.specs.declared.Text.{Text}
use Rattle.answers.specs.Texts.{with_byte, with_bytes}
use Rattle.laws.specs.Decimals.{decimal_of}
use Rattle.answers.specs.Numbers.{decimal_signed, hex_digit, hex_of}
use Rattle.answers.specs.Answers.{line_end, image_part}

-- letters after letters
pub split : (t : Text) (a b : List ℕ) → with_bytes t (a ++ b) ≡ with_bytes (with_bytes t a) b
unfolding with_bytes
split t [] b = refl
split t (x ∷ a) b = split (with_byte t x) a b

-- a full text is left as it is
full : (t : Text) (l : List ℕ) → 256 ≤ t.length → with_bytes t l ≡ t
unfolding with_byte with_bytes
full t [] h = refl
full t (b ∷ l) h = rw (le-ltb _ 256 h) (full t l h)

-- letters one after another are as many as there is room for, stored behind those that are there
stored : (t : Text) (l : List ℕ) (n : ℕ) → n ≡ min (length l) (256 - t.length)
    → with_bytes t l ≡ record { bytes = sets t.bytes t.length (take n l); length = t.length + n }
unfolding with_byte with_bytes
stored t [] n e = let z : n ≡ 0 = omega arith in let k : t.length + 0 ≡ t.length = omega arith in rw (z, k)
stored t (b ∷ l) n e =
    by_test (ltb t.length 256)
    (λ c.
    let room = ltb-true t.length 256 c in
    let m = min (length l) (256 - (t.length + 1)) in
    let s : n ≡ suc m = omega arith in
    let k : t.length + 1 + m ≡ t.length + suc m = omega arith in
    rw (lt-ltb t.length 256 room, s, stored (record { bytes = set t.bytes t.length b; length = t.length + 1 }) l m refl, k, add-one))
    (λ c. let most = ltb-false t.length 256 c in let z : n ≡ 0 = omega arith in let k : t.length + 0 ≡ t.length = omega arith in rw (le-ltb t.length 256 most, z, full t l most, k))

-- and so is a copy into the part behind them
pub letters_copied : (t : Text) (l : List ℕ) (at n : ℕ) → length t.bytes ≡ 256 → at ≡ min t.length 256 → n ≡ min (length l) (256 - at)
    → record { bytes = put_mid at (at + n - at) t.bytes (take n l); length = t.length + n } ≡ with_bytes t l
letters_copied t l at n size place count =
    let long : length (take n l) ≡ n = length-take-le n l (omega arith) in
    let copy : put_mid at (at + n - at) t.bytes (take n l) ≡ sets t.bytes at (take n l) = copied t.bytes at (at + n - at) (take n l) (omega arith) (omega arith) in
    let all = stored t l n (omega arith) in
    by_test (leb t.length 256)
    (λ c. let fits = leb-true t.length 256 c in let here : at ≡ t.length = omega arith in rw (copy, all, here))
    (λ c. let over = leb-false t.length 256 c in let z : n ≡ 0 = omega arith in rw (copy, all, z))

module _ (t : Text) (l : List ℕ) (i : ℕ) where
  -- a turn of the loop over bytes in hexadecimal: one fewer is left
  pub hex_turn : i < length l
      → with_bytes t (hex_of (drop i l)) ≡ with_bytes (with_byte (with_byte t (hex_digit (get_or l i 0 / 16))) (hex_digit (get_or l i 0))) (hex_of (drop (i + 1) l))
  unfolding with_bytes hex_of
  hex_turn h = rw (add-one i, drop-cons l i 0)

  -- none is left
  pub hex_done : length l ≤ i → with_bytes t (hex_of (drop i l)) ≡ t
  unfolding with_bytes hex_of
  hex_done h = rw (drop_of_length-le l h)

-- a negative number: the minus, and what stands behind it
pub signed_negative : (z : ℤ) → lt_z z (pos 0) ≡ true → decimal_signed z ≡ 45 ∷ decimal_of (nat_abs z)
unfolding decimal_signed
signed_negative (pos n) t = absurd (not-suc-le-zero (ltb-true n 0 t))
signed_negative (negsuc n) t = refl

-- any other
pub signed_natural : (z : ℤ) → lt_z z (pos 0) ≡ false → decimal_signed z ≡ decimal_of (nat_abs z)
unfolding decimal_signed
signed_natural (pos n) t = refl
signed_natural (negsuc n) t = absurd (true≢false t)

-- of the line of an image, what is left from a place on: with the line's end, or more than a part
module _ (b : List ℕ) (from at : ℕ) (e : at ≡ min from (length b)) where
  rest_is : take (length b - at) (drop at b) ≡ drop from b
  rest_is = rw (e, take_all (length b - min from (length b)) (drop (min from (length b)) b) (omega (arith, length-drop (min from (length b)) b)), drop_min)

  pub part_last : length (take (length b - at) (drop at b)) ≤ 100 → hex_of (take (length b - at) (drop at b)) ++ line_end ≡ image_part (given tt) b from
  unfolding image_part
  part_last h =
      let short = rw rest_is at h in
      let g : length b ≤ from + 100 = omega (arith, length-drop from b) in
      rw (rest_is, le-leb _ _ g, take_all 100 (drop from b) short)

-- Laws of numbers as they are shown (specs/Numbers.antt): the length of their parts.
use mathlib.Core.Path.{◌≡◌, refl, sym, ap, ◌∙◌}
use mathlib.Core.Bool.{Bool, true, false}
use mathlib.Core.List.{List, [], ◌∷◌, ◌++◌}
use Prim.Native.Nat.{ℕ, zero, suc, ◌+◌, ◌*◌, ◌/◌, ◌^◌, ◌≤◌, ◌<◌}
use native.Mathlib.Nat.{pow-suc}
use native.Mathlib.Omega.{arith}
use borrow.Author.Rules.{rules}
use borrow.Author.Tests.{lt-ltb, le-ltb}
use mir.Val.{bool_byte}
use lib.ListN.{length, length-replicate, length-append}
use Rattle.laws.specs.Decimals.{digit, decimal_in, decimal_of}
use Rattle.laws.proofs.Digits.{last_length}
use Rattle.laws.proofs.If.{if_cases}
use Rattle.readout.specs.Numbers.{sign_text, pointed, text_of}
use Rattle.display.specs.Numbers.{whole_shown, fraction_shown, written_by}
use Rattle.display.specs.declared.fields.Value.{Value}
use Rattle.display.specs.declared.formats.Form.{Form}

-- as many digits stand behind the point as there are decimals
pub fraction_length : (f : Form) (size : ℕ) → length (fraction_shown f size) ≡ f.decimals
fraction_length f size =
    if_cases (λ (l : List ℕ). length l ≡ f.decimals) f.shifted (λ t. last_length f.decimals size) (λ t. length-replicate f.decimals 48)

-- a point stands where there is a digit behind it
pointed_none : (l : List ℕ) → length l ≡ 0 → pointed l ≡ []
pointed_none [] h = refl
pointed_none (b ∷ l) h = absurd (omega arith)

pub pointed_some : (l : List ℕ) → (length l ≡ 0 → ⊥) → pointed l ≡ 46 ∷ l
pointed_some [] h = absurd (h refl)
pointed_some (b ∷ l) h = refl

module _ (f : Form) (size : ℕ) where
  pub nothing : f.decimals ≡ 0 → pointed (fraction_shown f size) ≡ []
  nothing e = pointed_none (fraction_shown f size) (fraction_length f size ∙ e)

  pub something : (f.decimals ≡ 0 → ⊥) → pointed (fraction_shown f size) ≡ 46 ∷ fraction_shown f size
  something h = pointed_some (fraction_shown f size) (λ e. h (sym (fraction_length f size) ∙ e))

  pub no_point : f.decimals ≡ 0 → 0 ≡ length (pointed (fraction_shown f size))
  no_point e = sym (ap length (nothing e))

  pub a_point : (f.decimals ≡ 0 → ⊥) → 1 + f.decimals ≡ length (pointed (fraction_shown f size))
  a_point h = let l = fraction_length f size in let p = ap length (something h) in omega arith

-- the length of a number as it is written
pub text_length : (f : Form) (v : Value) → length (text_of (written_by f v))
    ≡ length (sign_text v.minus) + (length (decimal_of (whole_shown f v.size)) + length (pointed (fraction_shown f v.size)))
text_length f v =
    length-append (sign_text v.minus) (decimal_of (whole_shown f v.size) ++ pointed (fraction_shown f v.size))
    ∙ ap (λ (n : ℕ). length (sign_text v.minus) + n) (length-append (decimal_of (whole_shown f v.size)) (pointed (fraction_shown f v.size)))

-- the code counts the letters of a sign
pub sign_bytes : (minus : Bool) → bool_byte minus ≡ length (sign_text minus)
sign_bytes true = refl
sign_bytes false = refl

-- a sign is one letter at most
pub sign_most : (minus : Bool) → length (sign_text minus) ≤ 1
sign_most true = omega arith
sign_most false = omega arith

-- a number from ten to the k on, and below the next power, has a digit more
pub digits_at : (k n places : ℕ) → 10 ^ k ≤ n → n < 10 * 10 ^ k → k < places → length (decimal_in places n) ≡ k + 1
unfolding decimal_in
digits_at k n zero low high few = absurd (omega arith)
digits_at zero n (suc places) low high few = rw (lt-ltb n 10 (omega arith))
digits_at (suc k) n (suc places) low high few =
    let p = pow-suc 10 k in
    let some : 1 ≤ 10 ^ k = search rules in
    let shorter = digits_at k (n / 10) places (omega arith) (omega arith) (omega arith) in
    let app = length-append (decimal_in places (n / 10)) (digit n ∷ []) in
    rw (le-ltb n 10 (omega arith)) (omega arith)

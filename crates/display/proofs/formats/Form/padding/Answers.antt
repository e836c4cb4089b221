-- `display::formats::Form::padding` meets its contract: the length is that of sign, digits and point, and what is missing to the width is the difference.
use mathlib.Core.Path.{◌∙◌}
use Prim.Native.Nat.{◌+◌, ◌≤◌}
use native.Mathlib.Nat.{add_assoc}
use native.Mathlib.Omega.{arith}
use Rattle.laws.proofs.Digits.{decimal_places}
use Rattle.display.proofs.Numerals.{sign_bytes, text_length, sign_most}
use Rattle.display.proofs.formats.Form.padding.Goals as goal
use Rattle.display.proofs.formats.Form.padding.Goals.{After-from}

-- sign and digits are few
few : (c : After-from) → c.from.result + c.digits_of-digits.result ≤ 21
few c =
    let digits : c.digits_of-digits.result ≤ 20 = rw c.digits_of-digits.ensures (decimal_places c.whole_of.result) in
    let sign : c.from.result ≤ 1 = rw (c.from.ensures ∙ sign_bytes _) (sign_most c.args.value.minus) in
    omega arith

pub overflow_add-length : goal.overflow_add-length
overflow_add-length c = record { fits = omega (arith, few c) }

pub overflow_add-length-2 : goal.overflow_add-length-2
overflow_add-length-2 c = record { fits = omega (arith, few (goal.at.overflow_add-length-2 c).After-from, c.point_bytes.ensures.1) }

pub returns : goal.returns
returns c =
    let a = c.args in
    c.saturating_sub.ensures
    ∙ rw (add_assoc, c.from.ensures ∙ sign_bytes a.value.minus, c.digits_of-digits.ensures, c.whole_of.ensures, c.point_bytes.ensures.0, ← text_length a.self a.value)

-- `display::fields::value_of` meets its contract: what is past half of what the bytes can hold is negative.
use mathlib.Core.Path.{◌≡◌, refl, ap, ◌∙◌}
use mathlib.Core.Bool.{true}
use Prim.Native.Nat.{ℕ, zero, suc, ◌+◌, ◌-◌, ◌*◌, ◌/◌, ◌^◌, ◌≤◌}
use native.Mathlib.Nat.{pow-suc}
use native.Mathlib.Omega.{arith}
use borrow.Author.Tests.{le-leb, lt-leb, lt-ltb, le-ltb, ltb-true, ltb-false}
use lib.Dec.{ltb, leb}
use Rattle.laws.proofs.Tests.{by_test}
use Rattle.display.specs.Fields.{signed_value}
use Rattle.display.proofs.fields.value_of.Goals as goal
use Rattle.display.proofs.fields.value_of.Goals.{else-signed-via-then-signed+else-most-number, else-signed-via-else-signed}

-- half of what some bytes can hold
half : (n most x : ℕ) → 1 ≤ n → most + 1 ≡ 256 ^ n → leb (256 ^ n / 2) x ≡ ltb (most / 2) x
half zero most x h e = absurd (omega arith)
half (suc n) most x h e =
    let f : most + 1 ≡ 256 ^ n * 256 = e ∙ pow-suc 256 n in
    rw (pow-suc 256 n)
    (by_test (ltb (most / 2) x) (λ t. let l = ltb-true (most / 2) x t in rw (t, le-leb (256 ^ n * 256 / 2) x (omega arith)) refl)
    (λ t. let l = ltb-false (most / 2) x t in rw (t, lt-leb (256 ^ n * 256 / 2) x (omega arith)) refl))

pub returns-then-most-number : goal.returns-then-most-number
unfolding signed_value
returns-then-most-number c =
    let a = c.args in
    let size : c.most_of-most.result - a.number + 1 ≡ 256 ^ a.n - a.number = omega (arith, c.most_of-most.ensures, c.requires.2) in
    rw (half _ _ _ c.requires.0 c.most_of-most.ensures, c.if-signed.true, lt-ltb _ _ c.if-most-number.true) (ap (λ (x : ℕ). record { minus = true; size = x }) size)

pub returns : goal.returns
unfolding signed_value
returns c =
    elim c.else-signed.branch [
      | else-signed-via-then-signed+else-most-number w ↦ rw (half _ _ _ c.requires.0 c.most_of-most.ensures, w.if-signed.true, le-ltb _ _ w.if-most-number.false)
      | else-signed-via-else-signed w ↦ rw w.if-signed.false
    ]

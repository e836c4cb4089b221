-- Proofs by the outcome of a test, and from a test of several parts to its parts.
use mathlib.Core.Path.{◌≡◌, refl}
use mathlib.Core.Bool.{Bool, true, false, not, ◌&&◌, ◌||◌, cond}

-- by cases on a test, with its outcome as an equation
pub by_test : {P : Type 0} (b : Bool) → (b ≡ true → P) → (b ≡ false → P) → P
by_test true t e = t refl
by_test false t e = e refl

-- both, so the first
pub and_left : (a b : Bool) → (a && b) ≡ true → a ≡ true
and_left true b h = refl
and_left false b h = h

-- both, so the second
pub and_right : (a b : Bool) → (a && b) ≡ true → b ≡ true
and_right true b h = h
and_right false b h = cc

-- each, so both
pub and_both : (a b : Bool) → a ≡ true → b ≡ true → (a && b) ≡ true
and_both a b h k = rw (h, k)

-- not both, where the second is so: not the first
pub and_not : (a : Bool) → (a && true) ≡ false → not a ≡ true
and_not true h = cc
and_not false h = refl

-- one of two, and not the first, so the second
pub or_right : (a b : Bool) → a ≡ false → (a || b) ≡ true → b ≡ true
or_right true b f h = cc
or_right false b f h = h

-- two tests after one another are both
pub cond_both : {A : Type 0} (a b : Bool) (x y : A) → cond (a && b) x y ≡ cond a (cond b x y) y
cond_both true b x y = refl
cond_both false b x y = refl

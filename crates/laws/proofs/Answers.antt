-- A proof by cases on an answer (specs/Answers.antt), with an equation.
use mathlib.Core.Path.{◌≡◌, refl}
use Prim.Native.Nat.{ℕ}
use Rattle.laws.specs.Answers.{Answer, given, refused}

pub by_answer : {A : Type 0} {P : Type 0} (a : Answer A) → ((x : A) → a ≡ given x → P) → ((n offset : ℕ) → a ≡ refused n offset → P) → P
by_answer (given x) f g = f x refl
by_answer (refused n offset) f g = g n offset refl

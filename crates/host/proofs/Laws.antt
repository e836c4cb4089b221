-- The numbers that C gets: nothing is lost in them.
use mathlib.Core.Path.{◌≡◌, sym}
use mathlib.Core.Bool.{Bool}
use Prim.Native.Nat.{ℕ, ◌<◌}
use native.Mathlib.Omega.{arith}
use lib.Dec.{ltb, eqb}
use Rattle.laws.proofs.If.{if_cases}
use Rattle.laws.specs.Answers.{Answer, given}
use Rattle.recorder.specs.Meters.{class_of, age_of}
use Rattle.recorder.proofs.Ages.{class_cases}
use Rattle.calendar.proofs.Moments.{found_is_moment}
use Rattle.image.proofs.Refusals.{refusal_within}
use Rattle.host.specs.Laws.{ComesApart, MomentsAreSome, ClassesBelow}

pub comes_apart : ComesApart
comes_apart image n offset e = let small = refusal_within image n offset e in rw e (omega arith, omega arith)

pub moments_are_some : MomentsAreSome
moments_are_some t m e = let first = (found_is_moment t m (sym e)).date.first_year in rw e (omega arith)

-- the classes are 0 to 3
class_below : (limit : ℕ) (read : Bool) (stamp status clock : ℕ) → class_of limit read stamp status clock < 4
class_below limit read stamp status clock =
    class_cases (λ k. k < 4) limit read stamp status clock (omega arith) (omega arith) (λ d. omega arith) (λ d. omega arith)

pub classes_below : ClassesBelow
unfolding age_of
classes_below limit read stamp status clock class =
    let P : Answer ℕ → Type 0 = λ a. a ≡ given class → class < 4 in
    if_cases P (eqb limit 0) (λ a e. let q : ◌≡◌ {A = ℕ} 0 1 = cc in absurd (omega arith))
    (λ a.
    if_cases P (ltb 7 status) (λ b e. let q : ◌≡◌ {A = ℕ} 0 1 = cc in absurd (omega arith))
    (λ b e. let same : class_of limit read stamp status clock ≡ class = cc in omega (arith, class_below limit read stamp status clock)))

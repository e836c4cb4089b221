-- No second result, and no second buffer, fits the contract of a public function of this crate.
use Rattle.std.specs.Prelude.{if◌then◌else◌, Result, Ok, Err}
use mathlib.Core.Path.{◌≡◌, refl, sym, ap, ◌∙◌}
use Prim.Native.Nat.{ℕ}
use lib.Dec.{eqb}
use Rattle.laws.specs.Answers.{Answer, given, refused}
use Rattle.laws.specs.Unique.{OneResult, OneExit}
use Rattle.laws.proofs.Unique.{told_apart}
use Rattle.registers.specs.Registers.{RegisterReply}
use Rattle.display.specs.Displays.{display_said}
use Rattle.display.specs.declared.DisplayError.{DisplayError}
use Rattle.display.specs.declared.DisplayError.TheVariants.{NoRoom, Format, Argument}
use Rattle.display.proofs.show.Reads as show_reads

-- the number tells all answers apart
pub display_apart : (x y : Result (Unit {0}) DisplayError) → display_said x ≡ display_said y → x ≡ y
display_apart = told_apart display_said back told
  where
    back : Answer ℕ → Result (Unit {0}) DisplayError
    back (given n) = Ok tt
    back (refused n offset) = Err (if eqb n 13 then NoRoom else if eqb n 21 then Format else Argument)

    told : (x : Result (Unit {0}) DisplayError) → back (display_said x) ≡ x
    told (Ok u) = refl
    told (Err NoRoom) = refl
    told (Err Format) = refl
    told (Err Argument) = refl

pub show_once : OneResult show_reads.Post
show_once κs a x y e f p q = display_apart x y (ap (λ (r : RegisterReply). r.answer) (p ∙ sym q))

-- the buffer is the fourth parameter
pub show_exit : OneExit (λ κs e. e.1.1.1.0.now) show_reads.Post
show_exit κs a x y e f p q = ap (λ (r : RegisterReply). r.buffer) (p ∙ sym q)

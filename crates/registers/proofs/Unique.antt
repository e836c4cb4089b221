-- No second result, and no second buffer, fits the contract of a public function of the registers.
use Rattle.std.specs.Prelude.{if◌then◌else◌, Result, Ok, Err}
use mathlib.Core.Path.{◌≡◌, refl, sym, ap, ◌∙◌}
use Prim.Native.Nat.{ℕ}
use lib.Dec.{eqb}
use Rattle.laws.specs.Answers.{Answer, given, refused}
use Rattle.laws.specs.Unique.{OneResult, OneExit}
use Rattle.laws.proofs.Unique.{told_apart}
use Rattle.registers.specs.Registers.{register_said, RegisterReply}
use Rattle.registers.specs.declared.RegisterError.{RegisterError}
use Rattle.registers.specs.declared.RegisterError.TheVariants.{NoGroup, NoRegister, NotFitted, NoRoom}
use Rattle.registers.proofs.read_register.Reads as read_register_reads
use Rattle.registers.proofs.fleet.fleet_of.Reads as fleet_of_reads

-- document 01's number, and how many bytes were given, tell all answers to a request apart
pub register_apart : (x y : Result ℕ RegisterError) → register_said x ≡ register_said y → x ≡ y
register_apart = told_apart register_said back told
  where
    back : Answer ℕ → Result ℕ RegisterError
    back (given n) = Ok n
    back (refused n offset) = Err (if eqb n 11 then NoGroup else if eqb n 12 then NoRegister else if eqb n 8 then NotFitted else NoRoom)

    told : (x : Result ℕ RegisterError) → back (register_said x) ≡ x
    told (Ok n) = refl
    told (Err NoGroup) = refl
    told (Err NoRegister) = refl
    told (Err NotFitted) = refl
    told (Err NoRoom) = refl

pub read_register_once : OneResult read_register_reads.Post
read_register_once κs a x y e f p q = register_apart x y (ap (λ (r : RegisterReply). r.answer) (p ∙ sym q))

-- the buffer is the fourth parameter
pub read_register_exit : OneExit (λ κs e. e.1.1.1.0.now) read_register_reads.Post
read_register_exit κs a x y e f p q = ap (λ (r : RegisterReply). r.buffer) (p ∙ sym q)

pub fleet_of_once : OneResult fleet_of_reads.Post
fleet_of_once κs a x y e f p q = p ∙ sym q

-- No second result, and no second buffer, fits the contract of a public function of this crate.
use Rattle.std.specs.Prelude.{if◌then◌else◌, Result, Ok, Err}
use mathlib.Core.Path.{◌≡◌, refl, sym, ap, ◌∙◌}
use Prim.Native.Nat.{ℕ}
use lib.Dec.{eqb}
use Rattle.laws.specs.Answers.{Answer, given, refused, Reply, reply_to}
use Rattle.laws.specs.Unique.{OneResult, OneExit}
use Rattle.laws.proofs.Unique.{told_apart}
use Rattle.recorder.specs.declared.Setup.{Setup}
use Rattle.registers.specs.Registers.{RegisterReply}
use Rattle.registers.specs.declared.RegisterError.TheVariants.{NoGroup, NoRegister, NotFitted, NoRoom}
use Rattle.makers.specs.Lists.{list_number, listing_said}
use Rattle.makers.specs.Requests.{maker_said}
use Rattle.makers.specs.declared.MakerError.{MakerError}
use Rattle.makers.specs.declared.MakerError.TheVariants as maker
use Rattle.makers.specs.declared.NoMaker.{NoMaker}
use Rattle.makers.proofs.give_list.Reads as give_list_reads
use Rattle.makers.proofs.read_own.Reads as read_own_reads

-- the number tells all answers to a list apart
pub list_apart : (x y : Result (Unit {0}) NoMaker) → list_number x ≡ list_number y → x ≡ y
list_apart = told_apart list_number back told
  where
    back : ℕ → Result (Unit {0}) NoMaker
    back n = if eqb n 20 then Err (record {}) else Ok tt

    told : (x : Result (Unit {0}) NoMaker) → back (list_number x) ≡ x
    told (Ok done) = refl
    told (Err error) = refl

-- the number and what is there after it tell all answers to a list apart
pub listing_apart : (setup : Setup) (x y : Result Setup NoMaker) → reply_to setup (listing_said x) ≡ reply_to setup (listing_said y) → x ≡ y
listing_apart setup = told_apart (λ x. reply_to setup (listing_said x)) back told
  where
    back : Reply Setup → Result Setup NoMaker
    back r = if eqb r.number 20 then Err (record {}) else Ok r.after

    told : (x : Result Setup NoMaker) → back (reply_to setup (listing_said x)) ≡ x
    told (Ok next) = refl
    told (Err error) = refl

pub give_list_once : OneResult give_list_reads.Post
give_list_once κs a x y e f p q = listing_apart _ x y (p ∙ sym q)

-- the number, and how many bytes were given, tell all answers to a maker's request apart
pub maker_apart : (x y : Result ℕ MakerError) → maker_said x ≡ maker_said y → x ≡ y
maker_apart = told_apart maker_said back told
  where
    back : Answer ℕ → Result ℕ MakerError
    back (given n) = Ok n
    back (refused n offset) =
        Err
        (if eqb n 20 then maker.NoMaker
        else if eqb n 11 then maker.Register NoGroup
        else if eqb n 12 then maker.Register NoRegister
        else if eqb n 8 then maker.Register NotFitted
        else maker.Register NoRoom)

    told : (x : Result ℕ MakerError) → back (maker_said x) ≡ x
    told (Err maker.NoMaker) = refl
    told (Ok n) = refl
    told (Err (maker.Register NoGroup)) = refl
    told (Err (maker.Register NoRegister)) = refl
    told (Err (maker.Register NotFitted)) = refl
    told (Err (maker.Register NoRoom)) = refl

pub read_own_once : OneResult read_own_reads.Post
read_own_once κs a x y e f p q = maker_apart x y (ap (λ (r : RegisterReply). r.answer) (p ∙ sym q))

-- the buffer is the fifth parameter
pub read_own_exit : OneExit (λ κs e. e.1.1.1.1.0.now) read_own_reads.Post
read_own_exit κs a x y e f p q = ap (λ (r : RegisterReply). r.buffer) (p ∙ sym q)

-- `image::write_then_read` meets its contract: a value of the code's type has the lengths and the ranges that the law asks for.
use mathlib.Core.Path.{◌∙◌}
use mathlib.Core.List.{List, [], ◌∷◌}
use Prim.Native.Nat.{ℕ}
use borrow.Author.Rules.{rules}
use mir.Syntax.{w8, w16}
use mir.Val.{Val, SFits}
use denote.RattleType.{RattleType}
use denote.Plain.{UInt}
use denote.Signed.{SInt}
use denote.Shadow.{shadow}
use denote.Array.{each, Array}
use Rattle.laws.specs.Each.{Each}
use Rattle.laws.proofs.Arrays.{length_mapped}
use Rattle.image.specs.Image.{Counted, Typed, TypedInput, TypedWindow, TypedHoliday, Wide}
use Rattle.tariff.specs.contracts.Window as window
use Rattle.tariff.specs.contracts.Holiday as holiday
use Rattle.settings.specs.contracts.Input as input
use Rattle.image.proofs.Trips.{value_back, room, comes_back}
use Rattle.image.proofs.write_then_read.Goals as goal
use Rattle.image.proofs.write_then_read.Goals.{Start}

-- a claim that each value of the elements' type keeps holds of each element of an array
module _ (R : RattleType) (claim : R.Denot → Type 0) (keeps : (x : R.Denot) (us : List Val) → shadow (R.own_val x us) → claim x) where
  each_element : (xs : List R.Denot) (us : List Val) → shadow (each R.Denot R.own_val xs us) → Each claim xs
  each_element [] us p = tt
  each_element (x ∷ xs) [] p = absurd p
  each_element (x ∷ xs) (u ∷ us) p = (keeps x (u ∷ []) p.0, each_element xs us p.1)

  each_array : (n : ℕ) (xs : List R.Denot) (vs : List Val) → shadow ((Array R n).own_val xs vs) → Each claim xs
  each_array n xs vs p = each_element xs p.0 p.1.1

counted : (c : Start) → Counted c.args.config
counted c = search (rules, length_mapped)

-- the fields one after another, then those of the program
typed : (c : Start) → Typed c.args.config
typed c =
    let v = c.args.config in
    let f = c.well_formed.0.1.1 in
    let p = f.1.1.1.1.1.1.0.1.1 in
    record {
      inputs =
          each_array input.the_row (TypedInput 1)
          (λ x us s. let y = s.1.1 in (y.0.1, y.1.0.1, y.1.1.0.1, y.1.1.1.0.1, y.1.1.1.1.0.1)) 16 v.inputs _ f.1.0;
      sums = each_array (UInt w16) (Wide 2) (λ x us s. s.1) 8 v.sums _ f.1.1.0;
      coefficients = each_array (SInt w8) (SFits w8) (λ x us s. record { sfits = s.1 }) 32 v.coefficients _ f.1.1.1.0;
      limits = each_array (UInt w16) (Wide 2) (λ x us s. s.1) 32 v.limits _ f.1.1.1.1.1.0;
      program =
          record {
            windows = each_array window.the_row TypedWindow (λ x us s. let y = s.1.1 in (y.0.1, y.1.0.1)) 128 v.program.windows _ p.0;
            weeks = each_array (UInt w8) (Wide 1) (λ x us s. s.1) 128 v.program.weeks _ p.1.0;
            holidays = each_array holiday.the_row TypedHoliday (λ x us s. let y = s.1.1 in y.1.1.0.1) 32 v.program.holidays _ p.1.1.1.0;
          };
    }

pub returns-in-Ok : goal.returns-in-Ok
returns-in-Ok c =
    let s = (goal.at.returns-in-Ok c).Start in
    c.read_image.ensures ∙ comes_back _ (counted s) (typed s) c.in-Ok.ensures.said c.write_image.ensures.buffer

pub returns-in-Err-Value : goal.returns-in-Err-Value
returns-in-Err-Value c =
    let e = c.in-Err-Value.field-0-is in
    rw e (value_back _ (rw e at c.in-Err-Value.ensures.said))

pub unreachable-requires : goal.unreachable-requires
unreachable-requires c = room _ (rw c.in-Err-NoRoom.field-0-is at c.in-Err-NoRoom.ensures.said)

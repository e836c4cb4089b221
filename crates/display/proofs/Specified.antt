-- Laws of specifications (specs/Formats.antt): a number's specification from a place of the string on, as the code reads it; how many bytes it has.
use Rattle.std.specs.Prelude.{if◌then◌else◌}
use mathlib.Core.Path.{◌≡◌, refl}
use mathlib.Core.Bool.{Bool, not, ◌&&◌, ◌||◌}
use mathlib.Core.List.{List}
use Prim.Native.Nat.{ℕ, ◌+◌, ◌*◌, ◌≤◌}
use native.Mathlib.Omega.{arith}
use borrow.Author.Tests.{eqb-true}
use lib.Dec.{eqb}
use lib.ListN.{length, get_or}
use Rattle.laws.specs.Decimals.{is_digit}
use Rattle.laws.specs.Masks.{bit}
use Rattle.laws.proofs.If.{if_cases}
use Rattle.laws.proofs.Suffixes.{inside}
use Rattle.laws.proofs.Tests.{and_left}
use Rattle.display.specs.Formats.{number, Begun, begun, width_of, width_bytes, decimals_of, bad_in, number_specified, specification_in}
use Rattle.display.specs.declared.formats.Form.{Form}

-- a number's specification, part by part
module _ (s : List ℕ) where
  abbrev pub zeros : Bool
  zeros = eqb (get_or s 0 0) 48

  abbrev pub first : ℕ
  first = bit zeros

  abbrev pub width : ℕ
  width = width_of (get_or s first 0) (get_or s (first + 1) 0)

  abbrev pub point : ℕ
  point = first + width_bytes width

  abbrev pub pointed : Bool
  pointed = eqb (get_or s point 0) 46

  abbrev pub digit : ℕ
  digit = get_or s (point + 1) 0

  abbrev pub unit : ℕ
  unit = point + 2 * bit pointed

  abbrev pub shifted : Bool
  shifted = eqb (get_or s unit 0) 117

  abbrev pub last : ℕ
  last = unit + bit shifted

  abbrev pub form : Form
  form = record { zeros = zeros; width = width; decimals = decimals_of pointed digit; shifted = shifted }

  -- its test
  abbrev pub whole : Bool
  whole = eqb (get_or s last 0) 70 && (not pointed || is_digit digit)

  pub number_is : number_specified s ≡ (if whole then begun (number form) (last + 1) else bad_in s)
  unfolding number_specified
  number_is = refl

-- a specification has no more bytes than are left
number_most : (s : List ℕ) → (number_specified s).bytes ≤ length s
number_most s =
    rw (number_is s)
    (if_cases (λ (x : Begun). x.bytes ≤ length s) (whole s)
    (λ t.
    let f = eqb-true (get_or s (last s) 0) 70 (and_left (eqb (get_or s (last s) 0) 70) (not (pointed s) || is_digit (digit s)) t) in
    let in_string = inside s (last s) 70 (omega arith) f in
    omega arith)
    (λ t. omega arith))

pub specified_most : (s : List ℕ) → (specification_in s).bytes ≤ length s
unfolding specification_in
specified_most s =
    if_cases (λ (x : Begun). x.bytes ≤ length s) (eqb (get_or s 0 0) 68) (λ t. inside s 0 68 (omega arith) (eqb-true (get_or s 0 0) 68 t))
    (λ t.
    if_cases (λ (x : Begun). x.bytes ≤ length s) (eqb (get_or s 0 0) 84) (λ u. inside s 0 84 (omega arith) (eqb-true (get_or s 0 0) 84 u)) (λ u. number_most s))

-- `display::fields::field_of` meets its contract: the register request's bytes are those that the definition reads, and the field lies within them.
use mathlib.Core.Path.{◌≡◌, ◌∙◌}
use mathlib.Core.List.{List}
use Prim.Native.Nat.{ℕ, ◌<◌}
use native.Mathlib.Omega.{arith}
use lib.ListN.{length, get_or, take, length-take}
use Rattle.std.specs.Prelude.{sum}
use Rattle.display.specs.Fields.{field_bytes, start_of}
use Rattle.display.proofs.Registered.{widths, six_fields, field_refused, field_sized, field_few, field_fits, field_some, widths_before}
use Rattle.display.proofs.fields.field_of.Goals as goal

pub returns-in_err-ok : goal.returns-in_err-ok
returns-in_err-ok c =
    let a = c.args in
    rw c.from_residual.ensures (field_refused a.recorder a.group a.register _ _ c.read_register.ensures a.field c.in_err-ok.ensures.value)

-- the field is there, how many bytes it has, and where it begins
module _ (l : List ℕ) (group field n : ℕ) (e : l ≡ field_bytes group) (h : (field < length l) × ((d : ℕ) → n ≡ get_or l field d)) where
  there : field < length (field_bytes group)
  there = let t = h.0 in rw e at t

  size : n ≡ widths group field
  size = let t = h.1 0 in rw e at t

  begins : (start : ℕ) → start ≡ sum (take field l) → start ≡ start_of group field
  begins start is = (rw e at is) ∙ widths_before (field_bytes group) field (omega (arith, there))

pub start_of-requires : goal.start_of-requires
start_of-requires c =
    let a = c.args in
    let few = length-take a.field (field_bytes a.group) in
    rw c.field_bytes-widths.ensures (omega (arith, six_fields a.group))

pub number_in-number-requires : goal.number_in-number-requires
number_in-number-requires c =
    let a = c.args in
    let e = c.field_bytes-widths.ensures in
    let h = c.in_ok-n.ensures.lookup.3 in
    let low : a.field < 6 = omega (arith, there _ _ _ _ e h, six_fields a.group) in
    rw (begins _ _ _ _ e h _ c.start_of.ensures, size _ _ _ _ e h)
    (field_fits a.recorder a.group a.register _ _ c.read_register.ensures a.field _ c.in_ok-ok.ensures.value low, field_few a.group a.field)

pub value_of-requires : goal.value_of-requires
value_of-requires c =
    let a = c.args in
    let e = c.field_bytes-widths.ensures in
    let h = c.in_ok-n.ensures.lookup.3 in
    let sized = field_sized a.group a.field (there _ _ _ _ e h) in
    let size = size _ _ _ _ e h in
    (omega (arith, sized.0), omega (arith, sized.1), c.number_in-number.ensures.1)

pub returns : goal.returns
returns c =
    let a = c.args in
    let e = c.field_bytes-widths.ensures in
    let h = c.in_ok-n.ensures.lookup.3 in
    let low : a.field < 6 = omega (arith, there _ _ _ _ e h, six_fields a.group) in
    let sized = field_sized a.group a.field (there _ _ _ _ e h) in
    rw (c.value_of.ensures, c.is_signed.ensures, c.number_in-number.ensures.0, begins _ _ _ _ e h _ c.start_of.ensures, size _ _ _ _ e h)
    (field_some a.recorder a.group a.register _ _ c.read_register.ensures a.field _ c.in_ok-ok.ensures.value low (λ z. omega (arith, sized.0)))

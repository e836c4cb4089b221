-- `profile::Profile::read` meets its contract: a record that is held stands within the buffer, and its bytes are copied.
use Rattle.std.specs.Prelude.{Ok}
use mathlib.Core.Path.{◌≡◌, sym, ◌∙◌}
use mathlib.Core.Bool.{Bool, true}
use mathlib.Core.List.{List, ◌++◌}
use Prim.Native.Nat.{ℕ, ◌+◌, ◌-◌, ◌*◌, ◌≤◌, ◌<◌}
use native.Mathlib.Omega.{arith}
use borrow.Author.Tests.{le-ltb, lt-leb}
use lib.ListN.{length, take, drop, length-take, length-drop}
use Rattle.profile.specs.Room.{as_at_start}
use Rattle.profile.specs.Reading.{held_in, place_at, record_replied, record_reply}
use Rattle.profile.specs.declared.Profile.{Profile}
use Rattle.profile.proofs.Places.{held_bytes}
use Rattle.profile.proofs.Profile.read.Goals as goal

pub copy_from_slice-requires : goal.copy_from_slice-requires
copy_from_slice-requires c =
    let a = c.args in
    let f = held_bytes a.self (length a.buffer.now) c.as_at_start.ensures c.if-not-as_at_start.false a.index c.count.ensures c.if-count-i.false c.place_at-at.ensures in
    rw (length-take, length-take, length-drop) (omega arith)

-- the record that is read
given_record : (p : Profile) (index : ℕ) (buffer result new : List ℕ) {held place : ℕ} {right : Bool} → right ≡ as_at_start p (length buffer) → right ≡ true
    → held ≡ held_in p → index < held → 69 ≤ length result → place ≡ place_at p index → new ≡ take (69 * place + 69 - 69 * place) (drop (69 * place) buffer)
    → record_replied (Ok tt) (new ++ drop 69 result) ≡ record_reply p index buffer result
unfolding record_reply
given_record p index buffer result new {held} {place} is e count h enough at copied =
    let size : 69 * place + 69 - 69 * place ≡ 69 = omega arith in
    rw (sym is ∙ e, lt-leb (held_in p) index (rw (← count) h), le-ltb (length result) 69 enough, copied, size, at)

pub returns : goal.returns
returns c =
    let a = c.args in
    given_record a.self a.index a.buffer.now a.res.now _ c.as_at_start.ensures c.if-not-as_at_start.false c.count.ensures c.if-count-i.false c.if-res-lt-RECORD_LENGTH.false c.place_at-at.ensures
    c.copy_from_slice.ensures.after

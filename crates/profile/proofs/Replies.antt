-- What putting and reading a record come to, from the tests that the code makes.
use Rattle.std.specs.Prelude.{Ok}
use mathlib.Core.Path.{◌≡◌, sym, ◌∙◌}
use mathlib.Core.Bool.{Bool, true, false}
use mathlib.Core.List.{List, ◌++◌, append_assoc}
use Prim.Native.Nat.{ℕ, ◌+◌, ◌*◌, ◌<◌, ◌≤◌}
use borrow.Author.Tests.{lt-ltb, le-ltb, le-leb, lt-leb}
use lib.ListN.{length, take, drop, length-append}
use lib.Seq.{sets}
use Rattle.laws.specs.Bytes.{bytes_of}
use Rattle.laws.proofs.Bytes.{length_bytes_of}
use Rattle.laws.specs.Runs.{joined}
use Rattle.laws.proofs.Runs.{sets_then}
use Rattle.profile.specs.Records.{value_bytes, record_bytes}
use Rattle.profile.specs.Room.{as_at_start, next_place, moved_on, written, kept, with_record}
use Rattle.profile.specs.Reading.{held_in, place_at, record_refused, record_replied, record_reply}
use Rattle.profile.specs.declared.Profile.{Profile}
use Rattle.profile.specs.declared.records.Record.{Record}

-- the parts of a record stored one after another are the record stored
pub record_stored : (l : List ℕ) (at : ℕ) (r : Record) {l₁ l₂ l₃ : List ℕ}
    → l₁ ≡ sets l at (bytes_of 4 r.stamp) → l₂ ≡ sets l₁ (at + 4) (bytes_of 1 r.state) → l₃ ≡ sets l₂ (at + 5) (joined value_bytes r.values)
    → l₃ ≡ sets l at (record_bytes r)
unfolding record_bytes
record_stored l at r e₁ e₂ e₃ =
    let stamp = bytes_of 4 r.stamp in
    let state = bytes_of 1 r.state in
    rw (e₃, e₂, e₁, sets_then l at 4 stamp state (length_bytes_of 4 r.stamp), sets_then l at 5 (stamp ++ state) (joined value_bytes r.values) (simp (length-append, length_bytes_of)))
    (simp append_assoc)

-- a profile, a buffer, and what the code found of the buffer's length
module _ (p : Profile) (buffer : List ℕ) (lent : Bool) (is : lent ≡ as_at_start p (length buffer)) where
  -- another length: nothing is put
  pub left_alone : (r : Record) → lent ≡ false → kept p buffer ≡ with_record (kept p buffer) r
  unfolding with_record
  left_alone r e = rw (sym is ∙ e)

  -- that of the start: the record is put in the next place
  pub one_put : (r : Record) (place : ℕ) (p' : Profile) (buffer' : List ℕ) → lent ≡ true → place ≡ next_place p → p' ≡ moved_on p
      → buffer' ≡ sets buffer (69 * place) (record_bytes r) → kept p' buffer' ≡ with_record (kept p buffer) r
  unfolding with_record written
  one_put r place p' buffer' e at moved put = rw (sym is ∙ e, moved, put, at)

  -- 14
  pub reply_14 : (index : ℕ) (result : List ℕ) → lent ≡ false → record_refused 14 result ≡ record_reply p index buffer result
  unfolding record_reply
  reply_14 index result e = rw (sym is ∙ e)

  module _ (index held : ℕ) (result : List ℕ) (right : lent ≡ true) (count : held ≡ held_in p) where
    -- 15
    pub reply_15 : held ≤ index → record_refused 15 result ≡ record_reply p index buffer result
    unfolding record_reply
    reply_15 e = rw (sym is ∙ right, le-leb (held_in p) index (rw (← count) e))

    -- 13
    pub reply_13 : index < held → length result < 69 → record_refused 13 result ≡ record_reply p index buffer result
    unfolding record_reply
    reply_13 e few = rw (sym is ∙ right, lt-leb (held_in p) index (rw (← count) e), lt-ltb (length result) 69 few)

    -- the record
    pub reply_read : (place : ℕ) (result' : List ℕ) → index < held → 69 ≤ length result → place ≡ place_at p index
        → result' ≡ take 69 (drop (69 * place) buffer) ++ drop 69 result → record_replied (Ok tt) result' ≡ record_reply p index buffer result
    unfolding record_reply
    reply_read place result' e enough at copied = rw (sym is ∙ right, lt-leb (held_in p) index (rw (← count) e), le-ltb (length result) 69 enough, copied, at)

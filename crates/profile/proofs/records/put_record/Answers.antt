-- `profile::records::put_record` meets its contract: the parts of a record stored one after another are the record stored.
use mathlib.Core.Path.{◌≡◌, ◌∙◌}
use mathlib.Core.List.{List}
use Prim.Native.Nat.{ℕ, ◌+◌, ◌-◌, ◌%◌, ◌≤◌}
use native.Mathlib.Nat.{mod-eq_of_lt}
use native.Mathlib.Omega.{arith}
use borrow.Author.Rules.{rules}
use borrow.Rule.Slice.PartMut.{put_mid}
use lib.ListN.{length, set}
use lib.Seq.{sets}
use Rattle.laws.specs.Bytes.{bytes_of}
use Rattle.laws.proofs.Bytes.{length_bytes_of}
use Rattle.profile.proofs.Bytes.{le_bytes, copied}
use Rattle.profile.proofs.Replies.{record_stored}
use Rattle.profile.proofs.records.put_record.Goals as goal

-- the stamp, copied
stamp_stored : (l : List ℕ) (at stamp : ℕ) (new : List ℕ) → new ≡ bytes_of 4 stamp → at + 69 ≤ length l → put_mid at (at + 4 - at) l new ≡ sets l at (bytes_of 4 stamp)
stamp_stored l at stamp new e h = let size : at + 4 - at ≡ 4 = omega arith in rw (e, size) (copied l at 4 (bytes_of 4 stamp) (length_bytes_of 4 stamp) (omega arith))

-- the state, one byte
state_stored : (l : List ℕ) (at state : ℕ) {byte : ℕ} → byte ≡ state % 256 → set l at byte ≡ sets l at (bytes_of 1 state)
unfolding bytes_of
state_stored l at state e = rw e

pub returns : goal.returns
returns c =
    let a = c.args in
    record_stored a.buffer.now a.at a.newest
    (stamp_stored _ _ _ _ (c.copy_from_slice.ensures.after ∙ c.to_le_bytes.ensures ∙ le_bytes 4 _) c.requires)
    (state_stored _ _ a.newest.state (search (rules, mod-eq_of_lt)))
    c.put_values.ensures

-- Records put one after another into a buffer as long as at the start.
use mathlib.Core.Path.{◌≡◌, refl, ap, ◌∙◌}
use mathlib.Core.Bool.{true}
use mathlib.Core.List.{List, [], ◌∷◌, ◌++◌}
use Prim.Native.Nat.{ℕ}
use lib.ListN.{length}
use lib.Seq.{length-sets}
use Rattle.laws.proofs.Tests.{by_test}
use Rattle.profile.specs.Records.{record_bytes}
use Rattle.profile.specs.Room.{as_at_start, moved_on, written, Kept, kept, with_record, with_records, moved_by}
use Rattle.profile.specs.declared.Profile.{Profile}
use Rattle.profile.specs.declared.records.Record.{Record}

-- a record leaves the buffer's length
pub written_long : (p : Profile) (r : Record) (buffer : List ℕ) → length (written p r buffer) ≡ length buffer
unfolding written
written_long p r buffer = length-sets buffer _ (record_bytes r)

module _ (p : Profile) (buffer : List ℕ) (right : as_at_start p (length buffer) ≡ true) (r : Record) where
  -- a record is put in the next place
  pub put_is : with_record (kept p buffer) r ≡ kept (moved_on p) (written p r buffer)
  unfolding with_record
  put_is = rw right

  -- and the buffer is still as long as at the start
  pub still_right : as_at_start (moved_on p) (length (written p r buffer)) ≡ true
  unfolding moved_on
  still_right = ap (as_at_start p) (written_long p r buffer) ∙ right

-- a record leaves the buffer's length, whatever it is
pub put_long : (k : Kept) (r : Record) → length (with_record k r).buffer ≡ length k.buffer
unfolding with_record
put_long k r = by_test (as_at_start k.profile (length k.buffer)) (λ t. rw t (written_long k.profile r k.buffer)) (λ f. rw f)

-- the profile goes on by as many records
pub moved_with : (p : Profile) (buffer : List ℕ) → as_at_start p (length buffer) ≡ true → (rs : List Record) → (with_records (kept p buffer) rs).profile ≡ moved_by p rs
moved_with p buffer right [] = refl
moved_with p buffer right (r ∷ later) =
    ap (λ (k : Kept). (with_records k later).profile) (put_is p buffer right r) ∙ moved_with (moved_on p) (written p r buffer) (still_right p buffer right r) later

-- and keeps the length of the start
pub same_length : (p : Profile) (rs : List Record) → (moved_by p rs).length ≡ p.length
unfolding moved_on
same_length p [] = refl
same_length p (r ∷ later) = same_length (moved_on p) later

-- some records and then others
pub moved_append : (p : Profile) (rs later : List Record) → moved_by p (rs ++ later) ≡ moved_by (moved_by p rs) later
moved_append p [] later = refl
moved_append p (r ∷ rs) later = moved_append (moved_on p) rs later

pub records_append : (k : Kept) (rs later : List Record) → with_records k (rs ++ later) ≡ with_records (with_records k rs) later
records_append k [] later = refl
records_append k (r ∷ rs) later = records_append (with_record k r) rs later

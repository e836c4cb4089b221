-- What follows from these definitions: the buffer holds the last records, as many as fit, and no other byte of it changes (proofs/Ring.antt).
use Rattle.std.specs.Prelude.{◌≡◌, true, List, [], ◌∷◌, reverse, ℕ, suc, ◌*◌, ◌%◌, ◌<◌, ◌≤◌, min, length, get_or, take, drop}
use Rattle.laws.specs.Each.{Each}
use Rattle.profile.specs.Records.{record_bytes}
use Rattle.profile.specs.Room.{legal_length, room_for, moved_on, fresh_profile, Kept, kept, with_record, with_records}
use Rattle.profile.specs.Reading.{place_at, record_at}
use Rattle.profile.specs.declared.Profile.{Profile}
use Rattle.profile.specs.declared.records.Record.{Record}

-- a profile after so many records from a start with a buffer of a length on: the next place goes round the room, and as many are held as fit
abbrev pub profile_after : ℕ → ℕ → Profile
profile_after n count = record { length = n; next = count % room_for n; held = min count (room_for n) }

-- one record more is one more
abbrev pub MovesOn : Type 0
MovesOn = (n count : ℕ) → 69 ≤ n → moved_on (profile_after n count) ≡ profile_after n (suc count)

-- records put one after another from a start with a buffer on, the newest first in the list
abbrev pub put_all : List ℕ → List Record → Kept
put_all buffer [] = kept (fresh_profile (length buffer)) buffer
put_all buffer (newest ∷ earlier) = with_record (put_all buffer earlier) newest

-- the last of them, as many as a buffer of this length has room for, the oldest first
abbrev pub last_of : ℕ → List Record → List Record
last_of n records = reverse (take (room_for n) records)

-- a record has eight values
abbrev pub EightValues : Record → Type 0
EightValues r = length r.values ≡ 8

-- "Bytes past the last whole record's room are never written", and the buffer stays as long: whatever the profile is, and whatever the buffer holds
abbrev pub RoomAlone : Type 0
RoomAlone =
    (k : Kept) (records : List Record) → Each EightValues records →
    let past = 69 * room_for (length k.buffer) in
    (drop past (with_records k records).buffer ≡ drop past k.buffer) × (length (with_records k records).buffer ≡ length k.buffer)

-- what a profile and its buffer are after records that were put from a start on
pub record HoldsLast (buffer : List ℕ) (records : List Record) (k : Kept) : Type 0 where
  pub profile : k.profile ≡ profile_after (length buffer) (length records)
  -- each of the last records stands where its index is read
  pub each : (none : Record) (i : ℕ) → i < length (last_of (length buffer) records)
      → record_at k.buffer (place_at k.profile i) ≡ record_bytes (get_or (last_of (length buffer) records) i none)
  -- what stands behind them is as it was: the places that no record has taken yet, and the bytes past the room; and the buffer stays as long
  pub rest : let held = min (length records) (room_for (length buffer)) in drop (69 * held) k.buffer ≡ drop (69 * held) buffer
  pub same : length k.buffer ≡ length buffer

-- after any records that is so
abbrev pub LastRecords : Type 0
LastRecords = (buffer : List ℕ) → legal_length (length buffer) ≡ true → (records : List Record) → Each EightValues records → HoldsLast buffer records (put_all buffer records)

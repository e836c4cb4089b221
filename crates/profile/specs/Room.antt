-- CR 1: "a lent buffer of 69 to 65,536 bytes. When the room is used up, the oldest record's room is taken for the newest. .. Bytes past the last whole record's room are never written."
use Rattle.std.specs.Prelude.{Bool, ◌&&◌, List, [], ◌∷◌, ℕ, ◌+◌, ◌*◌, ◌/◌, min, ltb, leb, eqb, length, if◌then◌else◌}
use Rattle.std.proofs.lemmas.List.Edits.{sets}
use Rattle.profile.specs.Records.{record_bytes}
use Rattle.profile.specs.declared.Profile.{Profile}
use Rattle.profile.specs.declared.records.Record.{Record}

-- the limits: 69 to 65,536 bytes
abbrev pub legal_length : ℕ → Bool
legal_length n = leb 69 n && leb n 65_536

-- a length that is no 14 PROFILE BUFFER: within the limits, and that of the start
abbrev pub as_at_start : Profile → ℕ → Bool
as_at_start p n = legal_length n && eqb n p.length

-- how many whole records a buffer of this length has room for
abbrev pub room_for : ℕ → ℕ
room_for n = n / 69

-- the room of a profile
abbrev pub room_of : Profile → ℕ
room_of p = room_for p.length

-- a place, counted in records, from the first again past the last
unfoldable pub within : ℕ → ℕ → ℕ
within room place = if ltb place room then place else 0

-- the place of the next record
abbrev pub next_place : Profile → ℕ
next_place p = within (room_of p) p.next

-- a profile after one record more: the place behind it is next, and as many are held as fit
unfoldable pub moved_on : Profile → Profile
moved_on p = record { length = p.length; next = within (room_of p) (next_place p + 1); held = min (p.held + 1) (room_of p) }

-- the buffer with a record in the next place
unfoldable pub written : Profile → Record → List ℕ → List ℕ
written p r buffer = sets buffer (69 * next_place p) (record_bytes r)

-- a profile and the buffer that is lent to it
pub record Kept : Type 0 where
  pub profile : Profile
  pub buffer : List ℕ

-- the two together
abbrev pub kept : Profile → List ℕ → Kept
kept p buffer = record { profile = p; buffer = buffer }

-- one record more; a buffer that is not as long as at the start is left alone
unfoldable pub with_record : Kept → Record → Kept
with_record k r =
    if as_at_start k.profile (length k.buffer) then kept (moved_on k.profile) (written k.profile r k.buffer) else k

-- several records one after another, the oldest first
abbrev pub with_records : Kept → List Record → Kept
with_records k [] = k
with_records k (r ∷ later) = with_records (with_record k r) later

-- the profile after as many records
abbrev pub moved_by : Profile → List Record → Profile
moved_by p [] = p
moved_by p (r ∷ later) = moved_by (moved_on p) later

-- a profile at a start: no record yet
abbrev pub fresh_profile : ℕ → Profile
fresh_profile length = record { length = length; next = 0; held = 0 }

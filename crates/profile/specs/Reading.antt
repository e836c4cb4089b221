-- CR 1: "Reading goes in writing order, oldest first (index 0). .. 14 PROFILE BUFFER, .. 15 NO RECORD, for an index not held, then 13 for a result below 69 bytes."
use Rattle.std.specs.Prelude.{Result, Ok, Err, not, List, ◌++◌, ℕ, ◌+◌, ◌-◌, ◌*◌, min, ltb, leb, length, take, drop, if◌then◌else◌}
use Rattle.laws.specs.Answers.{Answer, given, refused}
use Rattle.profile.specs.Room.{as_at_start, room_of, next_place}
use Rattle.profile.specs.declared.Profile.{Profile}
use Rattle.profile.specs.declared.RecordError.{RecordError}
use Rattle.profile.specs.declared.RecordError.TheVariants.{ProfileBuffer, NoRecord, NoRoom}

-- how many records are held, as many as fit
abbrev pub held_in : Profile → ℕ
held_in p = min p.held (room_of p)

-- the place of the oldest record: the first, or where the room is used up the one that is taken next
abbrev pub oldest_of : Profile → ℕ
oldest_of p = if ltb p.held (room_of p) then 0 else next_place p

-- the place of a record by its index, in writing order, from the first again past the last
unfoldable pub place_at : Profile → ℕ → ℕ
place_at p index = let place = oldest_of p + index in if ltb place (room_of p) then place else place - room_of p

-- the 69 bytes at a place
abbrev pub record_at : List ℕ → ℕ → List ℕ
record_at buffer place = take 69 (drop (69 * place) buffer)

-- a reply: the answer, and the result's bytes after the call
pub record RecordReply : Type 0 where
  pub answer : Answer (Unit {0})
  pub result : List ℕ

-- a refused request changes no byte of the result
abbrev pub record_refused : ℕ → List ℕ → RecordReply
record_refused n result = record { answer = refused n 0; result = result }

-- a request for a record: 14, 15, 13, else its bytes in the first 69 of the result
unfoldable pub record_reply : Profile → ℕ → List ℕ → List ℕ → RecordReply
record_reply p index buffer result =
    if not (as_at_start p (length buffer)) then record_refused 14 result
    else if leb (held_in p) index then record_refused 15 result
    else if ltb (length result) 69 then record_refused 13 result
    else record { answer = given tt; result = record_at buffer (place_at p index) ++ drop 69 result }

-- what the code's answer says
abbrev pub record_said : Result (Unit {0}) RecordError → Answer (Unit {0})
record_said (Ok u) = given tt
record_said (Err ProfileBuffer) = refused 14 0
record_said (Err NoRecord) = refused 15 0
record_said (Err NoRoom) = refused 13 0

-- the code's answer with the result after the call
abbrev pub record_replied : Result (Unit {0}) RecordError → List ℕ → RecordReply
record_replied answer result = record { answer = record_said answer; result = result }

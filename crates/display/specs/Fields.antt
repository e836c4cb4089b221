-- "F uses up three argument bytes each (group, register, field from 0). .. F shows one field of a register." A field is read through the register request.
use Rattle.std.specs.Prelude.{Bool, true, false, ◌&&◌, List, [], ◌∷◌, ℕ, ◌-◌, ◌/◌, ◌^◌, ltb, leb, eqb, length, get_or, take, drop, replicate, if◌then◌else◌}
use Rattle.laws.specs.Answers.{Answer, given, refused}
use Rattle.laws.specs.Bytes.{le}
use Rattle.laws.specs.Total.{total}
use Rattle.recorder.specs.declared.Recorder.{Recorder}
use Rattle.registers.specs.Registers.{register_reply}
use Rattle.display.specs.declared.fields.Value.{Value}

-- how many bytes each field of a group's registers has, in the order of document 01's table
unfoldable pub field_bytes : ℕ → List ℕ
field_bytes group =
    if eqb group 82 then 4 ∷ 4 ∷ 1 ∷ 1 ∷ []
    else if eqb group 89 then 2 ∷ []
    else if eqb group 90 then 1 ∷ []
    else if eqb group 91 then 1 ∷ []
    else if eqb group 201 then 1 ∷ 4 ∷ 8 ∷ []
    else if eqb group 202 then 1 ∷ 4 ∷ 4 ∷ 4 ∷ []
    else if eqb group 203 then 2 ∷ 2 ∷ []
    else if eqb group 204 then 1 ∷ 1 ∷ 1 ∷ 1 ∷ 1 ∷ 8 ∷ []
    else if eqb group 206 then 4 ∷ 1 ∷ []
    else []

-- the signed ones: 82.1, the serial value; 201.2, the level 9 value; 204.5, the sum of the awake values
abbrev pub is_signed : ℕ → ℕ → Bool
is_signed group field =
    if eqb group 82 then eqb field 1
    else if eqb group 201 then eqb field 2
    else if eqb group 204 then eqb field 5
    else false

-- where a field begins: behind those before it
abbrev pub start_of : ℕ → ℕ → ℕ
start_of group field = total field (λ j. get_or (field_bytes group) j 0)

-- a number of n bytes with its sign: "signed ones are two's complement", negative from half of 256 ^ n on
unfoldable pub signed_value : Bool → ℕ → ℕ → Value
signed_value signed n x =
    if signed && leb (256 ^ n / 2) x then record { minus = true; size = 256 ^ n - x } else record { minus = false; size = x }

-- the value of a field in the bytes of its register; 22 ARGUMENT where the group has no such field
abbrev pub value_in : ℕ → ℕ → List ℕ → Answer Value
value_in group field bytes =
    let n = get_or (field_bytes group) field 0 in
    if eqb n 0 then refused 22 0 else given (signed_value (is_signed group field) n (le n (drop (start_of group field) bytes)))

-- the same of what a register request gave; 22 where it gave nothing
abbrev pub field_given : ℕ → ℕ → Answer (List ℕ) → Answer Value
field_given group field (given bytes) = value_in group field bytes
field_given group field (refused n offset) = refused 22 0

-- a field, with a way to read registers: "22 ARGUMENT when bytes .. name no readable field"
abbrev pub field_of : (ℕ → ℕ → Answer (List ℕ)) → ℕ → ℕ → ℕ → Answer Value
field_of read group register field = field_given group field (read group register)

-- the field that the next three argument bytes name: "22 ARGUMENT when bytes are missing"
unfoldable pub argument_of : (ℕ → ℕ → Answer (List ℕ)) → List ℕ → Answer Value
argument_of read arguments =
    if ltb (length arguments) 3 then refused 22 0 else field_of read (get_or arguments 0 0) (get_or arguments 1 0) (get_or arguments 2 0)

-- the bytes that a register request gives
abbrev pub bytes_given : Answer ℕ → List ℕ → Answer (List ℕ)
bytes_given (given n) buffer = given (take n buffer)
bytes_given (refused n offset) buffer = refused n offset

-- the way to read registers of a recorder: the register request, with room for the longest
unfoldable pub read_by : Recorder → ℕ → ℕ → Answer (List ℕ)
read_by r group register = let reply = register_reply r group register (replicate 13 0) in bytes_given reply.answer reply.buffer

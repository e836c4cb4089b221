-- CR 1: "Each closed period puts one 69-byte record (stamp 4, state 1, eight values of 8 bytes; an empty slot gives 0)".
use Rattle.std.specs.Prelude.{Bool, not, List, ◌++◌, ℕ, ltb, ℤ, pos, get_or}
use Rattle.std.specs.Int.{w64}
use Rattle.std.proofs.Common.{of_z}
use Rattle.laws.specs.Any.{any}
use Rattle.laws.specs.Bytes.{bytes_of}
use Rattle.laws.specs.Runs.{joined}
use Rattle.laws.specs.Tables.{table}
use Rattle.profile.specs.declared.records.Record.{Record}

-- no chosen slot is above 15, which is 8 NOT FITTED
abbrev pub slots_fit : List ℕ → Bool
slots_fit slots = not (any 8 (λ k. ltb 15 (get_or slots k 0)))

-- the value of a slot among the sixteen of a closed period, 0 of an empty one; a slot past them, which no start chooses, has 0 too
abbrev pub value_at : List ℤ → ℕ → ℤ
value_at values slot = get_or values slot (pos 0)

-- the values of the eight chosen slots
unfoldable pub chosen_values : List ℕ → List ℤ → List ℤ
chosen_values slots values = table 8 (λ k. value_at values (get_or slots k 0))

-- a value as 8 bytes, in two's complement
abbrev pub value_bytes : ℤ → List ℕ
value_bytes v = bytes_of 8 (of_z w64 v)

-- the 69 bytes: "stamp 4, state 1, eight values of 8 bytes"
unfoldable pub record_bytes : Record → List ℕ
record_bytes r = bytes_of 4 r.stamp ++ (bytes_of 1 r.state ++ joined value_bytes r.values)

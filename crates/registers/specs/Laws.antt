-- What is proved of the registers (proofs/Laws.antt and proofs/Fleets.antt), for the layers above and for a reader who doubts the definitions.
use Rattle.std.specs.Prelude.{◌≡◌, not, List, ◌++◌, ℕ, ◌+◌, ◌%◌, ◌≤◌, eqb, length, get_or, drop}
use Rattle.std.specs.Int.Count.{ones}
use Rattle.std.specs.Int.{w32, w64}
use Rattle.std.proofs.Common.{SFits, to_z, of_z}
use Rattle.laws.specs.Answers.{given, refused}
use Rattle.laws.specs.Counts.{count_of}
use Rattle.laws.specs.Each.{Each}
use Rattle.laws.specs.Masks.{mask_of}
use Rattle.recorder.specs.declared.Recorder.{Recorder}
use Rattle.recorder.specs.Meters.{meter_at}
use Rattle.registers.specs.Fleet.{class_at, classes_of, has_class, fleet_of}
use Rattle.registers.specs.Registers.{groups, contents_of, register_reply}

-- each register holds as many bytes as its line of the table has
abbrev pub BytesAsTable : Type 0
BytesAsTable = Each (λ g. (r : Recorder) (i : ℕ) → length (g.holds r i) ≡ g.bytes) groups

-- "A refused call changes no byte of any buffer lent to it"
abbrev pub RefusedLeaves : Type 0
RefusedLeaves =
    (r : Recorder) (group register : ℕ) (buffer : List ℕ) (n offset : ℕ)
    → (register_reply r group register buffer).answer ≡ refused n offset → (register_reply r group register buffer).buffer ≡ buffer

-- "Successful reads .. change only as many first bytes of the buffer as the register .. has": these are the register's, and there was room for them
abbrev pub GivenFirst : Type 0
GivenFirst =
    (r : Recorder) (group register : ℕ) (buffer : List ℕ) (n : ℕ)
    → (register_reply r group register buffer).answer ≡ given n
    → (length (contents_of r group register) ≡ n) × (n ≤ length buffer)
    × ((register_reply r group register buffer).buffer ≡ contents_of r group register ++ drop n buffer)

-- a serial value from a meter of another class than awake, 0, carries IV, the lowest bit of STATUS, byte 8 of a register of group 82; crate `demands` spells the class out
abbrev pub MarkedByClass : Type 0
MarkedByClass =
    (r : Recorder) (meter : ℕ) (buffer : List ℕ) (n : ℕ)
    → (register_reply r 82 meter buffer).answer ≡ given n
    → (class_at r.config.limits r.state.meters r.state.clock meter ≡ 0 → ⊥)
    → get_or (register_reply r 82 meter buffer).buffer 8 0 % 2 ≡ 1

-- and that of an awake meter never does
abbrev pub UnmarkedByClass : Type 0
UnmarkedByClass =
    (r : Recorder) (meter : ℕ) (buffer : List ℕ) (n : ℕ)
    → (register_reply r 82 meter buffer).answer ≡ given n
    → class_at r.config.limits r.state.meters r.state.clock meter ≡ 0
    → get_or (register_reply r 82 meter buffer).buffer 8 0 % 2 ≡ 0

-- the ones of the mask of a class are the count of its meters
abbrev pub OnesAreCounts : Type 0
OnesAreCounts = (r : Recorder) (class : ℕ) → ones (mask_of 32 (has_class (classes_of r) class)) ≡ count_of 32 (has_class (classes_of r) class)

-- the fitted meters counted are those with an age limit
abbrev pub FittedCounted : Type 0
FittedCounted = (r : Recorder) → (fleet_of r).fitted ≡ count_of 32 (λ i. not (eqb (get_or r.config.limits i 0) 0))

-- "awake + stale + invalid + never = fitted"
abbrev pub CountsAddUp : Type 0
CountsAddUp = (r : Recorder) → (fleet_of r).fitted ≡ (fleet_of r).awake + (fleet_of r).stale + (fleet_of r).invalid + (fleet_of r).never

-- the eight bytes of the sum are the sum exactly, as each value is one of 32 bits
abbrev pub SumExact : Type 0
SumExact = (r : Recorder) → ((i : ℕ) → SFits w32 (meter_at r.state.meters i).value) → to_z w64 (of_z w64 (fleet_of r).sum) ≡ (fleet_of r).sum

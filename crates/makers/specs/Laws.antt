-- What is proved of a maker's requests (proofs/Laws.antt), for every recorder: what a maker can learn.
use Rattle.std.specs.Prelude.{◌≡◌, ◌&&◌, cond, List, [], ◌∷◌, ℕ, ◌-◌, ◌^◌, ◌<◌, ◌≤◌, pos, length, replicate}
use Rattle.laws.specs.Answers.{given, refused}
use Rattle.laws.specs.Counts.{count_of}
use Rattle.laws.specs.Each.{Each}
use Rattle.laws.specs.Masks.{bit_at}
use Rattle.laws.specs.SignedTotal.{totalℤ}
use Rattle.recorder.specs.Lists.{empty_list, list_of}
use Rattle.recorder.specs.declared.MakerList.{MakerList}
use Rattle.recorder.specs.declared.Recorder.{Recorder}
use Rattle.registers.specs.Fleet.{has_class, has_any, awake_value, classes_of, fleet_of}
use Rattle.registers.specs.Registers.{refusal, register_read, register_reply}
use Rattle.makers.specs.Requests.{only_meters, maker_reply}

-- the groups that ask the list: serial meters, level 9 slots, bill registers and inputs
abbrev pub listed_groups : List ℕ
listed_groups = 82 ∷ 201 ∷ 202 ∷ 203 ∷ []

-- "groups 89, 90, 91 and 206 are common"
abbrev pub common_groups : List ℕ
common_groups = 89 ∷ 90 ∷ 91 ∷ 206 ∷ []

-- "A refused call changes no byte of any buffer lent to it"
abbrev pub RefusedToMaker : Type 0
RefusedToMaker =
    (r : Recorder) (maker group register : ℕ) (buffer : List ℕ) (n offset : ℕ)
    → (maker_reply r maker group register buffer).answer ≡ refused n offset → (maker_reply r maker group register buffer).buffer ≡ buffer

-- whatever is given to a maker is, the fleet aside, what the operator would be given: the answer and each byte of the buffer
abbrev pub AsTheOperator : Type 0
AsTheOperator =
    (r : Recorder) (maker group register : ℕ) (buffer : List ℕ) (n : ℕ) → (group ≡ 204 → ⊥)
    → (maker_reply r maker group register buffer).answer ≡ given n → maker_reply r maker group register buffer ≡ register_reply r group register buffer

-- "group 204 covers that maker's meters only": each class is counted among them, and the awake values of these are added
abbrev pub FleetOfList : Type 0
FleetOfList =
    (r : Recorder) (mask : ℕ) →
    let classes = classes_of r in
    fleet_of (only_meters r mask)
    ≡ record {
      fitted = count_of 32 (λ i. bit_at mask i && has_any classes i);
      awake = count_of 32 (λ i. bit_at mask i && has_class classes 0 i);
      stale = count_of 32 (λ i. bit_at mask i && has_class classes 1 i);
      invalid = count_of 32 (λ i. bit_at mask i && has_class classes 2 i);
      never = count_of 32 (λ i. bit_at mask i && has_class classes 3 i);
      sum = totalℤ 32 (λ i. cond (bit_at mask i) (awake_value classes r.state.meters i) (pos 0));
    }

-- a list with everything on it
abbrev pub everything : MakerList
everything = record { meters = 2 ^ 32 - 1; inputs = 2 ^ 16 - 1; slots = 2 ^ 16 - 1; bills = 2 ^ 16 - 1 }

-- such a list gives the operator's answers, refusals and fleet too
abbrev pub EverythingListed : Type 0
EverythingListed =
    (r : Recorder) (maker : ℕ) → maker < 3 → list_of r.setup.lists maker ≡ everything → (group register : ℕ) (buffer : List ℕ)
    → maker_reply r maker group register buffer ≡ register_reply r group register buffer

-- an empty list gives the common groups as the operator has them, and an empty fleet; no meter, slot, bill register or input
abbrev pub NothingListed : Type 0
NothingListed =
    (r : Recorder) (maker : ℕ) → maker < 3 → list_of r.setup.lists maker ≡ empty_list → (register : ℕ) (buffer : List ℕ)
    → Each (λ group. maker_reply r maker group register buffer ≡ refusal 12 buffer) listed_groups
    × Each (λ group. maker_reply r maker group register buffer ≡ register_reply r group register buffer) common_groups
    × (13 ≤ length buffer → maker_reply r maker 204 0 buffer ≡ register_read 13 (replicate 13 0) buffer)

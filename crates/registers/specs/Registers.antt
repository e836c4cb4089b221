-- Document 01's table of registers, one line for each group, and what a request answers. "Order: .. register 11, 12, 8, 13."
use Rattle.std.specs.Prelude.{Bool, true, not, List, [], ◌∷◌, ◌++◌, ℕ, leb, eqb, length, drop, get_or, if◌then◌else◌, Option, Some, None, Result, Ok, Err}
use Rattle.laws.specs.Answers.{Answer, given, refused}
use Rattle.settings.specs.Rules.{zero_input, zero_slot, zero_register}
use Rattle.settings.specs.declared.Config.{Config}
use Rattle.counting.specs.Filter.{line_at}
use Rattle.counting.specs.Bills.{bill_at}
use Rattle.recorder.specs.declared.Recorder.{Recorder}
use Rattle.registers.specs.Fleet.{fleet_of}
use Rattle.registers.specs.Contents.{meter_bytes, map_bytes, daily_bytes, weekly_bytes, level_bytes, bill_bytes, filter_bytes, fleet_bytes, clock_bytes}
use Rattle.registers.specs.declared.Layout.{Layout}
use Rattle.registers.specs.declared.RegisterError.{RegisterError}
use Rattle.registers.specs.declared.RegisterError.TheVariants.{NoGroup, NoRegister, NotFitted, NoRoom}

-- a line of the table: the group, how many registers it has, how many bytes each, which of them are in use, and what they hold
pub record Group : Type 0 where
  pub number : ℕ
  pub registers : ℕ
  pub bytes : ℕ
  pub in_use : Config → ℕ → Bool
  pub holds : Recorder → ℕ → List ℕ

-- such a line, by its parts
abbrev row : ℕ → ℕ → ℕ → (Config → ℕ → Bool) → (Recorder → ℕ → List ℕ) → Group
row number registers bytes in_use holds = record { number = number; registers = registers; bytes = bytes; in_use = in_use; holds = holds }

-- a register that every configuration has
abbrev in_every : Config → ℕ → Bool
in_every c i = true

-- "8 NOT FITTED: meter .. not in use": one without an age limit
abbrev meter_fitted : Config → ℕ → Bool
meter_fitted c i = not (eqb (get_or c.limits i 0) 0)

-- "slot .. not in use": an empty one has level 255
abbrev slot_in_use : Config → ℕ → Bool
slot_in_use c i = not (eqb (get_or c.slots i zero_slot).level 255)

-- "bill register .. not in use": an unused one has sum 255
abbrev bill_in_use : Config → ℕ → Bool
bill_in_use c i = not (eqb (get_or c.registers i zero_register).sum 255)

-- "input not in use": one of kind 0
abbrev input_fitted : Config → ℕ → Bool
input_fitted c i = not (eqb (get_or c.inputs i zero_input).kind 0)

-- the table: group, registers, bytes, registers in use, what they hold
unfoldable pub groups : List Group
groups =
    row 82 32 10 meter_fitted (λ r i. meter_bytes r.config r.state i)
    ∷ row 89 1 2 in_every (λ r i. map_bytes r.config.program r.state.clock)
    ∷ row 90 32 1 in_every (λ r i. daily_bytes r.config.program i r.state.clock)
    ∷ row 91 16 1 in_every (λ r i. weekly_bytes r.config.program i r.state.clock)
    ∷ row 201 16 13 slot_in_use (λ r i. level_bytes r.state i)
    ∷ row 202 16 13 bill_in_use (λ r i. bill_bytes (bill_at r.state.bills i))
    ∷ row 203 16 4 input_fitted (λ r i. filter_bytes (line_at r.state.lines i))
    ∷ row 204 1 13 in_every (λ r i. fleet_bytes (fleet_of r))
    ∷ row 206 1 5 in_every (λ r i. clock_bytes r.state.clock r.state.samples)
    ∷ []

-- the line of a group; 11 NO GROUP where the table has none
unfoldable pub look_up : List Group → ℕ → Answer Group
look_up [] n = refused 11 0
look_up (g ∷ gs) n = if eqb n g.number then given g else look_up gs n

-- the line of a group's number
abbrev pub group_of : ℕ → Answer Group
group_of n = look_up groups n

-- how many registers a group has; none where there is no group
abbrev pub registers_in : Answer Group → ℕ
registers_in (given g) = g.registers
registers_in (refused n offset) = 0

-- how many registers the group of a number has
abbrev pub registers_of : ℕ → ℕ
registers_of n = registers_in (group_of n)

-- a register of a group is in use
abbrev pub used_in : Answer Group → Config → ℕ → Bool
used_in (given g) c i = g.in_use c i
used_in (refused n offset) c i = true

-- a register of the group of a number is in use
abbrev pub fitted : Config → ℕ → ℕ → Bool
fitted c n i = used_in (group_of n) c i

-- what a register of a group holds
abbrev pub held_by : Answer Group → Recorder → ℕ → List ℕ
held_by (given g) r i = g.holds r i
held_by (refused n offset) r i = []

-- what a register of the group of a number holds
abbrev pub contents_of : Recorder → ℕ → ℕ → List ℕ
contents_of r n i = held_by (group_of n) r i

-- registers and bytes
pub record Shape : Type 0 where
  pub registers : ℕ
  pub bytes : ℕ

-- the shape of a group
abbrev pub shape_of : Answer Group → Answer Shape
shape_of (given g) = given (record { registers = g.registers; bytes = g.bytes })
shape_of (refused n offset) = refused n offset

-- the layout of the group of a number
abbrev pub layout_of : ℕ → Answer Shape
layout_of n = shape_of (group_of n)

-- what the code's layout says
abbrev pub layout_said : Option Layout → Answer Shape
layout_said (Some layout) = given (record { registers = layout.registers; bytes = layout.bytes })
layout_said None = refused 11 0

-- what the code's answer says: how many bytes were given, or document 01's number
abbrev pub register_said : Result ℕ RegisterError → Answer ℕ
register_said (Ok n) = given n
register_said (Err NoGroup) = refused 11 0
register_said (Err NoRegister) = refused 12 0
register_said (Err NotFitted) = refused 8 0
register_said (Err NoRoom) = refused 13 0

-- a reply: the answer, and the buffer after the call
pub record RegisterReply : Type 0 where
  pub answer : Answer ℕ
  pub buffer : List ℕ

-- the code's answer with the buffer after the call
abbrev pub replied : Result ℕ RegisterError → List ℕ → RegisterReply
replied answer buffer = record { answer = register_said answer; buffer = buffer }

-- a refusal: "a refused call changes no byte of any buffer lent to it"
abbrev pub refusal : ℕ → List ℕ → RegisterReply
refusal n buffer = record { answer = refused n 0; buffer = buffer }

-- a register read: "only as many first bytes of the buffer as the register .. has" are changed
abbrev pub register_read : ℕ → List ℕ → List ℕ → RegisterReply
register_read n bytes buffer = record { answer = given n; buffer = bytes ++ drop n buffer }

-- the reply to a request of a group: 11, 12, 8, 13, else the register
abbrev pub reply_of : Answer Group → Recorder → ℕ → List ℕ → RegisterReply
reply_of (refused n offset) r i buffer = refusal n buffer
reply_of (given g) r i buffer =
    if leb g.registers i then refusal 12 buffer
    else if not (g.in_use r.config i) then refusal 8 buffer
    else if not (leb g.bytes (length buffer)) then refusal 13 buffer
    else register_read g.bytes (g.holds r i) buffer

-- the reply to a request of a group's number and a register
unfoldable pub register_reply : Recorder → ℕ → ℕ → List ℕ → RegisterReply
register_reply r group register buffer = reply_of (group_of group) r register buffer

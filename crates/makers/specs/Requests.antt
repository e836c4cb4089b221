-- "A maker's register request for something not on the list gets NO REGISTER; group 204 covers that maker's meters only; groups 89, 90, 91 and 206 are common. .. Refusals: 20 NO MAKER, for a maker
-- above 2, before 11; 12 now also for what isn't on the list." Bit i of a mask names meter, input, slot or bill register i.
use Rattle.std.specs.Prelude.{Bool, true, not, List, ℕ, ltb, eqb, get_or, if◌then◌else◌, Result, Ok, Err}
use Rattle.laws.specs.Answers.{Answer, given, refused}
use Rattle.laws.specs.Masks.{bit_at}
use Rattle.laws.specs.Tables.{table}
use Rattle.settings.specs.declared.Config.{Config}
use Rattle.recorder.specs.Lists.{list_of}
use Rattle.recorder.specs.declared.MakerList.{MakerList}
use Rattle.recorder.specs.declared.Recorder.{Recorder}
use Rattle.registers.specs.Registers.{register_said, RegisterReply, refusal, register_reply}
use Rattle.makers.specs.declared.MakerError.{MakerError}
use Rattle.makers.specs.declared.MakerError.TheVariants.{NoMaker, Register}

-- a register of a group is on a list: serial meters, level 9 slots, bill registers and inputs are asked, each by its mask; all other groups are common
unfoldable pub on_list : MakerList → ℕ → ℕ → Bool
on_list list group register =
    if eqb group 82 then bit_at list.meters register
    else if eqb group 201 then bit_at list.slots register
    else if eqb group 202 then bit_at list.bills register
    else if eqb group 203 then bit_at list.inputs register
    else true

-- a configuration in which only the meters of a mask are fitted
abbrev pub only_fitted : Config → ℕ → Config
only_fitted c mask =
    record {
      period = c.period;
      inputs = c.inputs;
      sums = c.sums;
      coefficients = c.coefficients;
      slots = c.slots;
      limits = table 32 (λ i. if bit_at mask i then get_or c.limits i 0 else 0);
      program = c.program;
      registers = c.registers;
    }

-- a recorder of which only these meters are fitted
unfoldable pub only_meters : Recorder → ℕ → Recorder
only_meters r mask = record { config = only_fitted r.config mask; setup = r.setup; state = r.state; profile = r.profile }

-- the reply to a maker's request: 20; 12 for what is not on the list; the fleet, group 204, of the list's meters alone; all else as the operator is given it
unfoldable pub maker_reply : Recorder → ℕ → ℕ → ℕ → List ℕ → RegisterReply
maker_reply r maker group register buffer =
    let list = list_of r.setup.lists maker in
    if ltb 2 maker then refusal 20 buffer
    else if not (on_list list group register) then refusal 12 buffer
    else if eqb group 204 then register_reply (only_meters r list.meters) group register buffer
    else register_reply r group register buffer

-- what the code's answer says
abbrev pub maker_said : Result ℕ MakerError → Answer ℕ
maker_said (Ok n) = given n
maker_said (Err NoMaker) = refused 20 0
maker_said (Err (Register error)) = register_said (Err error)

-- the code's answer with the buffer after the call
abbrev pub maker_replied : Result ℕ MakerError → List ℕ → RegisterReply
maker_replied answer buffer = record { answer = maker_said answer; buffer = buffer }

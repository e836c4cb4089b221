-- "At the start give three makers each a list of meters, inputs, slots and bill registers. .. Refusals: 20 NO MAKER, for a maker above 2."
use Rattle.std.specs.Prelude.{ℕ, ltb, set, if◌then◌else◌, Result, Ok, Err}
use Rattle.laws.specs.Answers.{Answer, given, refused, Reply}
use Rattle.recorder.specs.declared.MakerList.{MakerList}
use Rattle.recorder.specs.declared.Setup.{Setup}
use Rattle.makers.specs.declared.NoMaker.{NoMaker}

-- what a start is given, with another list for a maker
abbrev pub with_list : Setup → ℕ → MakerList → Setup
with_list setup maker l = record { slots = setup.slots; lists = set setup.lists maker l }

-- the reply to a list for a maker: 20 where there is no such maker, and then nothing changes
unfoldable pub list_reply : Setup → ℕ → MakerList → Reply Setup
list_reply setup maker l = if ltb 2 maker then record { number = 20; after = setup } else record { number = 0; after = with_list setup maker l }

-- the number of the code's answer
abbrev pub list_number : {A : Type 0} → Result A NoMaker → ℕ
list_number (Ok x) = 0
list_number (Err error) = 20

-- what the code's answer says
abbrev pub listing_said : Result Setup NoMaker → Answer Setup
listing_said (Ok next) = given next
listing_said (Err error) = refused 20 0

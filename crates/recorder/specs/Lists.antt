-- CR 6: "At the start give three makers each a list of meters, inputs, slots and bill registers." A list is four masks: bit i names number i.
use Rattle.std.specs.Prelude.{List, ℕ, get_or}
use Rattle.recorder.specs.declared.MakerList.{MakerList}

-- a list with nothing on it
abbrev pub empty_list : MakerList
empty_list = record { meters = 0; inputs = 0; slots = 0; bills = 0 }

-- the list of a maker; a maker that there is not has nothing on it
abbrev pub list_of : List MakerList → ℕ → MakerList
list_of lists maker = get_or lists maker empty_list

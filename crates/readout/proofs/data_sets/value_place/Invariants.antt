-- `readout::data_sets::value_place` meets its contract: the tests are those of an address and of a value.
use Rattle.readout.specs.DataSets.{address_letter, value_letter}
use Rattle.readout.proofs.data_sets.value_place.Given as goal

abbrev pub ghost-leading : goal.ghost-leading
ghost-leading a = address_letter

abbrev pub ghost-leading-2 : goal.ghost-leading-2
ghost-leading-2 a = value_letter

-- `readout::numbers::size_of` meets its contract: the test is that of a digit.
use Rattle.laws.specs.Decimals.{is_digit}
use Rattle.readout.proofs.numbers.size_of.Given as goal

abbrev pub ghost-leading : goal.ghost-leading
ghost-leading a = is_digit

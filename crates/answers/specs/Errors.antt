-- What is wrong with a line, and what would be right there.
use Rattle.std.specs.Prelude.{List, ◌++◌, ℕ}
use Rattle.laws.specs.Letters.{letters}
use Rattle.lines.specs.declared.Mistake.{Mistake}
use Rattle.lines.specs.declared.Mistake.TheVariants as mistake
use Rattle.lines.specs.declared.Command.{Command}
use Rattle.lines.specs.declared.Command.TheVariants as command
use Rattle.lines.specs.declared.Parameter.{Parameter}
use Rattle.lines.specs.declared.Parameter.TheVariants as parameter
use Rattle.laws.specs.Decimals.{decimal_of}

-- the words that a command needs
unfoldable pub words_text : Command → List ℕ
words_text command.Start = letters "start needs SECONDS"
words_text command.Sample = letters "sample needs BITS or BITS COUNT"
words_text command.Set = letters "set needs SECONDS"
words_text command.Reading = letters "reading needs METER VALUE STATUS SEQ"
words_text command.Reset = letters "reset stands alone"
words_text command.Register = letters "register needs GROUP NUMBER or GROUP NUMBER ROOM"
words_text command.Image = letters "image stands alone"
words_text command.Date = letters "date needs SECONDS"
words_text command.Fleet = letters "fleet stands alone"
words_text command.Profile = letters "profile needs LENGTH S0 S1 S2 S3 S4 S5 S6 S7"
words_text command.Record = letters "record needs INDEX or INDEX ROOM"
words_text command.Dataset = letters "dataset needs DECIMALS TEXT"
words_text command.Readout = letters "readout needs METER STATUS SEQ DECIMALS TEXT"
words_text command.Block = letters "block needs HEX"
words_text command.Blockreadout = letters "blockreadout needs METER STATUS SEQ DECIMALS HEX TEXT"
words_text command.List = letters "list needs MAKER METERS INPUTS SLOTS BILLS"
words_text command.Maker = letters "maker needs MAKER GROUP NUMBER or MAKER GROUP NUMBER ROOM"
words_text command.Display = letters "display needs ROOM HEX TEXT"

-- what a parameter can be
unfoldable pub numbers_text : Parameter → List ℕ
numbers_text parameter.Seconds = letters "SECONDS is not a number from 0 to 4294967295"
numbers_text parameter.Bits = letters "BITS is not a number from 0 to 65535"
numbers_text parameter.Count = letters "COUNT is not a number from 0 to 4294967295"
numbers_text parameter.Meter = letters "METER is not a number from 0 to 255"
numbers_text parameter.Value = letters "VALUE is not a number from -2147483648 to 2147483647"
numbers_text parameter.Status = letters "STATUS is not a number from 0 to 255"
numbers_text parameter.Seq = letters "SEQ is not a number from 0 to 255"
numbers_text parameter.Group = letters "GROUP is not a number from 0 to 4294967295"
numbers_text parameter.Number = letters "NUMBER is not a number from 0 to 4294967295"
numbers_text parameter.Room = letters "ROOM is not a number from 0 to 4294967295"
numbers_text parameter.Length = letters "LENGTH is not a number from 0 to 4294967295"
numbers_text parameter.Index = letters "INDEX is not a number from 0 to 4294967295"
numbers_text parameter.Decimals = letters "DECIMALS is not a number from 0 to 255"
numbers_text parameter.Hex = letters "HEX is not pairs of hexadecimal digits or -"
numbers_text parameter.Maker = letters "MAKER is not a number from 0 to 255"
numbers_text parameter.Meters = letters "METERS is not a number from 0 to 4294967295"
numbers_text parameter.Inputs = letters "INPUTS is not a number from 0 to 65535"
numbers_text parameter.Slots = letters "SLOTS is not a number from 0 to 65535"
numbers_text parameter.Bills = letters "BILLS is not a number from 0 to 65535"
numbers_text (parameter.Slot k) = letters "S" ++ (decimal_of k ++ letters " is not a number from 0 to 255")

-- what is wrong with a line
unfoldable pub mistake_text : Mistake → List ℕ
mistake_text mistake.TooLong = letters "longer than 255 bytes"
mistake_text mistake.Unknown = letters "no such command"
mistake_text (mistake.Words c) = words_text c
mistake_text (mistake.Number p) = numbers_text p

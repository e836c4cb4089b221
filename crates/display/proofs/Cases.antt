-- The cases of specs/Cases.antt hold: antt computes both sides of each.
use mathlib.Core.Path.{refl}
use Rattle.laws.specs.Bytes.{bytes_of, le}
use Rattle.laws.specs.Decimals.{last_digits, decimal_in, decimal_of}
use Rattle.laws.specs.Each.{Each}
use Rattle.laws.specs.First.{first}
use Rattle.laws.specs.Letters.{letters}
use Rattle.laws.specs.Spans.{span}
use Rattle.laws.specs.Tables.{table}
use Rattle.laws.specs.Total.{total}
use Rattle.calendar.specs.Dates.{month_length, year_length}
use Rattle.calendar.specs.Moments.{year_day, moment_of}
use Rattle.recorder.specs.Meters.{class_of}
use Rattle.registers.specs.Contents.{status_shown, serial_bytes, meter_bytes}
use Rattle.registers.specs.Fleet.{meter_class, class_at}
use Rattle.registers.specs.Registers.{groups, look_up, register_reply}
use Rattle.display.specs.Formats.{width_of, number_specified, specification_in, first_part, parts_behind}
use Rattle.display.specs.Fields.{field_bytes, signed_value, argument_of, read_by}
use Rattle.display.specs.Numbers.{number_shown}
use Rattle.display.specs.Displays.{shown_by, line_shown, display_with}
use Rattle.display.specs.Cases.{DisplayClaim, display_cases}

pub cases_hold : Each DisplayClaim display_cases
unfolding bytes_of le last_digits decimal_in decimal_of first letters span table total month_length year_length year_day moment_of class_of status_shown serial_bytes meter_bytes meter_class class_at groups look_up register_reply width_of number_specified specification_in first_part parts_behind field_bytes signed_value argument_of read_by number_shown shown_by line_shown display_with
cases_hold = (refl, (refl, (refl, (refl, (refl, (refl, (refl, (refl, (refl, (refl, (refl, (refl, (refl, (refl, (refl, (refl, (refl, (refl, (refl, (refl, (refl, (refl, (refl, (refl, (refl, (refl, (refl, (refl, (refl, (refl, (refl, (refl, (refl, (refl, (refl, (refl, (refl, (refl, (refl, (refl, (refl, tt)))))))))))))))))))))))))))))))))))))))))

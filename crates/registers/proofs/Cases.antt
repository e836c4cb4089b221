-- The lines of document 01's table in specs/Cases.antt hold.
use mathlib.Core.Path.{refl}
use Rattle.laws.specs.Bytes.{bytes_of}
use Rattle.laws.specs.Each.{Each}
use Rattle.recorder.specs.Meters.{class_of}
use Rattle.registers.specs.Fleet.{meter_class, class_at}
use Rattle.registers.specs.Contents.{status_shown, serial_bytes, meter_bytes}
use Rattle.registers.specs.Registers.{groups, look_up, register_reply}
use Rattle.registers.specs.Cases.{AgeClaim, age_cases}

-- all of them hold: antt computes both sides of each
pub cases_hold : Each AgeClaim age_cases
unfolding bytes_of class_of meter_class class_at status_shown serial_bytes meter_bytes groups look_up register_reply
cases_hold = (refl, (refl, (refl, (refl, tt))))

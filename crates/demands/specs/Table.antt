-- "The ten lines above are one proved statement over one list of cases": document 01's table, lines 1 to 10.
use Rattle.std.specs.Prelude.{List, ◌++◌, map}
use Rattle.laws.specs.Each.{Each}
use Rattle.calendar.specs.Cases as calendar
use Rattle.tariff.specs.Cases as tariff
use Rattle.recorder.specs.Cases as recorder
use Rattle.registers.specs.Cases as registers

-- a case of the table: a moment, a window or season, runs and units and bills, a meter's age
pub data TableCase : Type 0 where
  moment : calendar.MomentCase → TableCase
  in_time : tariff.TariffCase → TableCase
  booked : recorder.ImpulseCase → TableCase
  aged : registers.AgeCase → TableCase

-- what a case claims
abbrev pub TableClaim : TableCase → Type 0
TableClaim (moment case) = calendar.MomentClaim case
TableClaim (in_time case) = tariff.TariffClaim case
TableClaim (booked case) = recorder.ImpulseClaim case
TableClaim (aged case) = registers.AgeClaim case

-- lines 1 to 4; 5 to 7; 8 and 9; 10
abbrev pub ten_lines : List TableCase
ten_lines = map moment calendar.moment_cases ++ (map booked recorder.impulse_cases ++ (map in_time tariff.tariff_cases ++ map aged registers.age_cases))

-- all lines hold
abbrev pub TableHolds : Type 0
TableHolds = Each TableClaim ten_lines

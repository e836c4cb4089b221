-- The lines of document 01's table in specs/Cases.antt hold.
use mathlib.Core.Path.{refl}
use Rattle.laws.specs.Each.{Each}
use Rattle.laws.specs.First.{first}
use Rattle.laws.specs.Any.{any}
use Rattle.laws.specs.Total.{total}
use Rattle.laws.specs.Spans.{span}
use Rattle.laws.specs.Masks.{mask_of, bit_at}
use Rattle.laws.specs.Tables.{table}
use Rattle.calendar.specs.Dates.{month_length, year_length}
use Rattle.calendar.specs.Moments.{year_day, moment_of}
use Rattle.tariff.specs.Daily.{daily_active}
use Rattle.tariff.specs.Weekly.{first_holiday, column_on, reference_at, weekly_active}
use Rattle.tariff.specs.Seasons.{in_season, season_active}
use Rattle.tariff.specs.Rules.{applies, in_force, force_map, force_of}
use Rattle.counting.specs.Filter.{accepted, filtered, stepped_of}
use Rattle.counting.specs.Units.{units_of, remainder_of, credited, credits_of}
use Rattle.counting.specs.Bills.{sum_of, sum_at, sums_of, register_units, due_of, billed, booked_of}
use Rattle.counting.specs.Levels.{level0, level2, input_value, sum_value, function_value, slot_value, slot_values}
use Rattle.sampling.specs.Periods.{multiple, begun_anew, cleared_lines, closed_as, tick_of}
use Rattle.sampling.specs.Samples.{booking_of, active_at, active_lines, counted_of, sample_of, samples_of}
use Rattle.recorder.specs.Calls.{fresh_state}
use Rattle.recorder.specs.Cases.{ImpulseClaim, impulse_cases}

-- all of them hold: antt computes both sides of each
pub cases_hold : Each ImpulseClaim impulse_cases
unfolding first any total span mask_of bit_at table month_length year_length year_day moment_of daily_active first_holiday column_on reference_at weekly_active in_season season_active applies in_force force_map force_of accepted filtered stepped_of units_of remainder_of credited credits_of sum_of sum_at sums_of register_units due_of billed booked_of level0 level2 input_value sum_value function_value slot_value slot_values multiple begun_anew cleared_lines closed_as tick_of booking_of active_at active_lines counted_of sample_of samples_of fresh_state
cases_hold = ((refl, refl), ((refl, refl), ((refl, refl), ((refl, refl), ((refl, refl), ((refl, refl), ((refl, refl), ((refl, refl), ((refl, refl, refl), tt)))))))))

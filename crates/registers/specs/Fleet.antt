-- "204 fleet: fitted, awake, stale, invalid, never 1 each; signed sum of awake values 8."
use Rattle.std.specs.Prelude.{Bool, cond, List, ℕ, ltb, eqb, ℤ, pos, get_or, if◌then◌else◌, Option, Some, None}
use Rattle.laws.specs.Counts.{count_of}
use Rattle.laws.specs.SignedTotal.{totalℤ}
use Rattle.laws.specs.Tables.{table}
use Rattle.recorder.specs.Meters.{age_number, class_of, meter_at}
use Rattle.recorder.specs.declared.meters.Age.{Age}
use Rattle.sampling.specs.declared.Meter.{Meter}
use Rattle.recorder.specs.declared.Recorder.{Recorder}
use Rattle.registers.specs.declared.fleet.Fleet.{Fleet}

-- the class of a meter: 0 awake, 1 stale, 2 invalid, 3 never; 4 where it has no limit and is not fitted
unfoldable pub meter_class : ℕ → Meter → ℕ → ℕ
meter_class limit m clock = if eqb limit 0 then 4 else class_of limit m.read m.stamp m.status clock

-- the number of the code's class
abbrev pub class_number : Option Age → ℕ
class_number (Some age) = age_number age
class_number None = 4

-- the class of meter i
unfoldable pub class_at : List ℕ → List Meter → ℕ → ℕ → ℕ
class_at limits meters clock i = meter_class (get_or limits i 0) (meter_at meters i) clock

-- place i of a list of classes has a class
unfoldable pub has_class : List ℕ → ℕ → ℕ → Bool
has_class classes class i = eqb (get_or classes i 0) class

-- place i of a list of classes has one of the four of a fitted meter
unfoldable pub has_any : List ℕ → ℕ → Bool
has_any classes i = ltb (get_or classes i 0) 4

-- the value of meter i if it is awake, else 0
unfoldable pub awake_value : List ℕ → List Meter → ℕ → ℤ
awake_value classes meters i = cond (has_class classes 0 i) (meter_at meters i).value (pos 0)

-- the signed sum of the awake values
unfoldable pub awake_sum : List ℕ → List Meter → ℤ
awake_sum classes meters = totalℤ 32 (awake_value classes meters)

-- the classes of all 32 meters
abbrev pub classes_of : Recorder → List ℕ
classes_of r = table 32 (class_at r.config.limits r.state.meters r.state.clock)

-- how many meters are of each class, and the sum of the awake values
unfoldable pub fleet_of : Recorder → Fleet
fleet_of r =
    let classes = classes_of r in
    record {
      fitted = count_of 32 (has_any classes);
      awake = count_of 32 (has_class classes 0);
      stale = count_of 32 (has_class classes 1);
      invalid = count_of 32 (has_class classes 2);
      never = count_of 32 (has_class classes 3);
      sum = awake_sum classes r.state.meters;
    }

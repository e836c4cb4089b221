-- The table's lines, each proved by computation in the crate that it is about, as one statement.
use mathlib.Core.List.{List, [], ◌∷◌, ◌++◌, map}
use Rattle.laws.specs.Each.{Each}
use Rattle.laws.proofs.Each.{each_append}
use Rattle.calendar.specs.Cases as calendar
use Rattle.calendar.proofs.Cases as calendar_holds
use Rattle.tariff.specs.Cases as tariff
use Rattle.tariff.proofs.Cases as tariff_holds
use Rattle.recorder.specs.Cases as recorder
use Rattle.recorder.proofs.Cases as recorder_holds
use Rattle.registers.specs.Cases as registers
use Rattle.registers.proofs.Cases as registers_holds
use Rattle.demands.specs.Table.{TableCase, moment, in_time, booked, aged, TableClaim, TableHolds}

-- the cases of a crate, as cases of the table
lift : {A : Type 0} (f : A → TableCase) (xs : List A) → Each (λ x. TableClaim (f x)) xs → Each TableClaim (map f xs)
lift f [] h = tt
lift f (x ∷ xs) h = (h.0, lift f xs h.1)

pub table_holds : TableHolds
table_holds =
    each_append TableClaim (map moment calendar.moment_cases) (map booked recorder.impulse_cases ++ (map in_time tariff.tariff_cases ++ map aged registers.age_cases)) (lift moment calendar.moment_cases calendar_holds.cases_hold)
    (each_append TableClaim (map booked recorder.impulse_cases) (map in_time tariff.tariff_cases ++ map aged registers.age_cases) (lift booked recorder.impulse_cases recorder_holds.cases_hold)
    (each_append TableClaim (map in_time tariff.tariff_cases) (map aged registers.age_cases) (lift in_time tariff.tariff_cases tariff_holds.cases_hold)
    (lift aged registers.age_cases registers_holds.cases_hold)))

-- The classes of meters: the code's, compared, are their numbers, compared.
use mathlib.Core.Path.{◌≡◌, refl}
use lib.Dec.{eqb}
use Rattle.std.specs.Prelude.{Option, Some, None}
use Rattle.std.specs.Option.{option_eq}
use Rattle.recorder.specs.Meters.{age_number}
use Rattle.recorder.specs.contracts.meters.AgePartialEq.TheImpl as age
use Rattle.recorder.specs.declared.meters.Age.{Age}
use Rattle.recorder.specs.declared.meters.Age.TheVariants.{Awake, Stale, Invalid, Never}
use Rattle.registers.specs.Fleet.{class_number}

pub class_is : (class : Option Age) (a : Age) → option_eq age.eq-value.it class (Some a) ≡ eqb (class_number class) (age_number a)
class_is None Awake = refl
class_is None Stale = refl
class_is None Invalid = refl
class_is None Never = refl
class_is (Some Awake) Awake = refl
class_is (Some Awake) Stale = refl
class_is (Some Awake) Invalid = refl
class_is (Some Awake) Never = refl
class_is (Some Stale) Awake = refl
class_is (Some Stale) Stale = refl
class_is (Some Stale) Invalid = refl
class_is (Some Stale) Never = refl
class_is (Some Invalid) Awake = refl
class_is (Some Invalid) Stale = refl
class_is (Some Invalid) Invalid = refl
class_is (Some Invalid) Never = refl
class_is (Some Never) Awake = refl
class_is (Some Never) Stale = refl
class_is (Some Never) Invalid = refl
class_is (Some Never) Never = refl

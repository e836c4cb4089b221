-- Which periods samples close, the oldest first.
use Rattle.std.specs.Prelude.{List, [], ◌∷◌, ◌++◌, ℕ, if◌then◌else◌}
use Rattle.laws.specs.Answers.{Answer, given, refused}
use Rattle.settings.specs.declared.Config.{Config}
use Rattle.sampling.specs.Samples.{sample_of}
use Rattle.sampling.specs.Laps.{closing}
use Rattle.sampling.specs.declared.Period.{Period}
use Rattle.sampling.specs.declared.State.{State}

-- the period that a sample closed: after it the clock has stepped, onto a multiple; a refused one closes none
abbrev pub closed_by : Config → Answer State → List Period
closed_by c (given s) = if closing c s then s.closed ∷ [] else []
closed_by c (refused n offset) = []

-- a run goes on after a sample that was taken
abbrev pub closed_on : Answer State → (State → List Period) → List Period
closed_on (given next) rest = rest next
closed_on (refused n offset) rest = []

-- those that a run of samples closes, up to the first refusal
unfoldable pub closed_in : Config → State → List ℕ → List Period
closed_in c s [] = []
closed_in c s (bits ∷ more) = closed_by c (sample_of c s bits) ++ closed_on (sample_of c s bits) (λ next. closed_in c next more)

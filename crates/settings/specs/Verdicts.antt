-- What a check says: "4 VALUE: an entry breaks its rule; with the offset of the first such entry".
use Rattle.std.specs.Prelude.{Result, Ok, Err}
use Rattle.laws.specs.Answers.{Answer, given, refused}
use Rattle.settings.specs.declared.BadValue.{BadValue}

-- what a check says
abbrev pub verdict_said : Result (Unit {0}) BadValue → Answer (Unit {0})
verdict_said (Ok u) = given tt
verdict_said (Err bad) = refused 4 bad.offset

-- No second verdict fits the contract of the check.
use mathlib.Core.Path.{◌≡◌, refl, sym, ap, ◌∙◌}
use Rattle.std.specs.Prelude.{Result, Ok, Err}
use Rattle.laws.specs.Unique.{OneResult}
use Rattle.settings.specs.Verdicts.{verdict_said}
use Rattle.settings.specs.declared.BadValue.{BadValue}
use Rattle.settings.proofs.check_config.Reads as check_config_reads

-- document 01's number and offset tell all verdicts apart
pub verdict_apart : (x y : Result (Unit {0}) BadValue) → verdict_said x ≡ verdict_said y → x ≡ y
verdict_apart (Ok u) (Ok v) e = refl
verdict_apart (Ok u) (Err bad) e = cc
verdict_apart (Err bad) (Ok u) e = cc
verdict_apart (Err bad) (Err worse) e = let o : bad.offset ≡ worse.offset = cc in ap Err (λ i. record { offset = o i })

pub check_config : OneResult check_config_reads.Post
check_config κs a x y e f p q = verdict_apart x y (p ∙ sym q)

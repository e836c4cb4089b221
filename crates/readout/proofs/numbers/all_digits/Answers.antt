-- `readout::numbers::all_digits` meets its contract: its definition is the library's test of each.
use Rattle.std.proofs.Common.{rules, tests}
use Rattle.std.proofs.lemmas.Iterator.{YieldsList-from_slice}
use Rattle.std.proofs.lemmas.Iterator.Search.{all_from_yields_List}
use Rattle.std.proofs.lemmas.List.Recursion.{same_from_clauses}
use mathlib.Core.Path.{◌≡◌, refl, ◌∙◌}
use mathlib.Core.Bool.{◌&&◌}
use mathlib.Core.List.{List}
use Prim.Native.Nat.{ℕ}
use Rattle.std.specs.List.{list_all}
use Rattle.laws.specs.Decimals.{is_digit, digits}
use Rattle.readout.proofs.numbers.all_digits.Goals as goal

same : (text : List ℕ) → list_all is_digit text ≡ digits text
unfolding digits
same text = same_from_clauses (list_all is_digit) digits (λ b rest. is_digit b && rest) refl (λ b rest. refl) (λ b rest. refl) text

pub returns : goal.returns
returns c =
    all_from_yields_List is_digit _ _ _ c.all.ensures.ran (YieldsList-from_slice _ c.iter.ensures.rest) (λ x b q k. search (rules, tests)) ∙ same c.args.text.now

-- Laws of specs/Unique.antt.
use mathlib.Core.Path.{◌≡◌, sym, ap, ◌∙◌}

-- a saying from which the answer can be told back tells all answers apart
pub told_apart : {A B : Type 0} (said : A → B) (back : B → A) → ((x : A) → back (said x) ≡ x) → (x y : A) → said x ≡ said y → x ≡ y
told_apart said back told x y e = sym (told x) ∙ (ap back e ∙ told y)

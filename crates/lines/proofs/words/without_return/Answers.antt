-- `lines::words::without_return` meets its contract: a line without its last letter is what `strip_suffix` gives, where that is a carriage return.
use Rattle.std.proofs.Common.{◌≡◌, ℕ, ◌+◌, ◌-◌, List, [], ◌∷◌, length, take, drop, true, false, ◌∙◌, sym, bytes_eq, Option, Some, None, MatchOption, Bor, unwrap_or}
use Rattle.lines.specs.Words.{without_return}
use Rattle.lines.proofs.Splits.{ends_in}
use Rattle.lines.proofs.words.without_return.Goals as goal

stripped : (l : Bor (List ℕ)) (r : Option (Bor (List ℕ)))
    → MatchOption r (bytes_eq (drop (length l.now - 1) l.now) (13 ∷ []) ≡ false)
    (λ x. (bytes_eq (drop (length l.now - 1) l.now) (13 ∷ []) ≡ true) × (x.now ≡ take (length l.now - 1) l.now) × (length x.now + 1 ≡ length l.now))
    → (unwrap_or r l).now ≡ without_return l.now
unfolding without_return
stripped l None h = rw (sym (ends_in l.now) ∙ h)
stripped l (Some x) h = rw (sym (ends_in l.now) ∙ h.0) h.1

pub returns-clause-value : goal.returns-clause-value
returns-clause-value c = rw c.unwrap_or.ensures (stripped _ _ c.strip_suffix.ensures.cases)

-- The verdicts of the sections, in order.
use mathlib.Core.Path.{◌≡◌, refl, sym, ◌∙◌}
use mathlib.Core.Bool.{Bool, true, false, not}
use mathlib.Core.List.{List, [], ◌∷◌}
use Prim.Native.Nat.{ℕ, ◌+◌, ◌*◌, ◌<◌}
use native.Mathlib.Nat.{le_refl}
use borrow.Author.Tests.{lt-ltb, le-ltb}
use Rattle.std.specs.Prelude.{Result, IsErrAnd}
use Rattle.std.proofs.lemmas.Result.{err_from_is_err_and}
use Rattle.laws.specs.Answers.{Answer, given, refused}
use Rattle.laws.specs.Broken.{first_broken}
use Rattle.laws.proofs.First.{first_is, first_none}
use Rattle.settings.specs.Check.{Section, verdict_at, or_else, first_bad}
use Rattle.settings.specs.Verdicts.{verdict_said}
use Rattle.settings.specs.declared.BadValue.{BadValue}

module _ (base size : ℕ) {n : ℕ} {good : ℕ → Bool} where
  -- the first entry that breaks its rule
  pub found : {i : ℕ} → i < n → good i ≡ false → ((j : ℕ) → j < i → good j ≡ true) → refused 4 (base + size * i) ≡ verdict_at base size n (first_broken n good)
  found {i} h e before = rw (first_is n (λ j. not (good j)) i h (rw e) (λ j l. rw (before j l)), lt-ltb i n h)

  -- each entry keeps its rule
  pub none_found : ((j : ℕ) → j < n → good j ≡ true) → given tt ≡ verdict_at base size n (first_broken n good)
  none_found holds = rw (first_none n (λ j. not (good j)) (λ j l. rw (holds j l)), le-ltb n n (le_refl _))

-- what is said of a section
abbrev pub verdict_on : Section → Answer (Unit {0})
verdict_on s = verdict_at s.base s.size s.count (first_broken s.count s.good)

-- what is found in sections; a record, so that the lemmas below find the sections
pub record Found (ss : List Section) (a : Answer (Unit {0})) : Type 0 where
  pub is : a ≡ first_bad ss

module _ {s : Section} {rest : List Section} where
  -- no rule of a section is broken: the sections after it are looked through
  pub past : {a : Answer (Unit {0})} → given tt ≡ verdict_on s → Found rest a → Found (s ∷ rest) a
  unfolding first_bad
  past e h = record { is = rw (← e) h.is }

  -- an entry of a section breaks its rule
  pub stop : {n offset : ℕ} → refused n offset ≡ verdict_on s → Found (s ∷ rest) (refused n offset)
  unfolding first_bad
  stop e = record { is = rw (← e) }

-- a section whose entries are legal whatever they are
pub past_any : {s : Section} {rest : List Section} {a : Answer (Unit {0})} → ((i : ℕ) → s.good i ≡ true) → Found rest a → Found (s ∷ rest) a
past_any {s} legal h = past (none_found s.base s.size (λ j l. legal j)) h

-- the last section
pub last : {s : Section} {a : Answer (Unit {0})} → a ≡ verdict_on s → Found (s ∷ []) a
unfolding first_bad
last {s} e = record { is = e ∙ sym (alone (verdict_on s)) }
  where
    alone : (v : Answer (Unit {0})) → or_else v (given tt) ≡ v
    alone (given u) = refl
    alone (refused n offset) = refl

-- what the exit of a `?` hands back says what the call said
pub failed : (r : Result (Unit {0}) BadValue) {bad : BadValue} {ss : List Section} → IsErrAnd r (λ x. x ≡ bad) → Found ss (refused 4 bad.offset) → verdict_said r ≡ first_bad ss
failed r e h = let p = err_from_is_err_and r e in rw (p.1, p.2) h.is

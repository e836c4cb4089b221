-- "4 VALUE: an entry breaks its rule; with the offset of the first such entry". The sections stand as in document 01's table.
use Rattle.std.specs.Prelude.{Bool, true, false, List, [], ◌∷◌, ◌≡◌, ℕ, ◌+◌, ◌*◌, ◌<◌, ltb, get_or, pos, if◌then◌else◌}
use Rattle.laws.specs.Broken.{first_broken}
use Rattle.laws.specs.Answers.{Answer, given, refused}
use Rattle.settings.specs.Rules.{period_good, input_good, fitted_in, sum_good, coefficient_good, slot_good, window_good, week_good, season_good, holiday_good, rule_good, register_good, zero_input, zero_slot, zero_window, zero_season, zero_holiday, zero_rule, zero_register}
use Rattle.settings.specs.declared.Config.{Config}

-- a section: its first offset, the size of an entry, how many there are, and the rule of entry i
pub record Section : Type 0 where
  pub base : ℕ
  pub size : ℕ
  pub count : ℕ
  pub good : ℕ → Bool

-- a line of the table
abbrev section : ℕ → ℕ → ℕ → (ℕ → Bool) → Section
section base size count good = record { base = base; size = size; count = count; good = good }

-- the table: offset, bytes of an entry, entries, the rule of entry i
unfoldable pub sections : Config → List Section
sections c =
    let fitted = fitted_in c.inputs in
    let p = c.program in
    section 5 1 1 (λ i. period_good c.period)
    ∷ section 6 7 16 (λ i. input_good (get_or c.inputs i zero_input))
    ∷ section 118 2 8 (λ i. sum_good fitted (get_or c.sums i 0))
    ∷ section 134 1 32 (λ i. coefficient_good (get_or c.coefficients i (pos 0)))
    ∷ section 166 2 16 (λ i. slot_good fitted (get_or c.slots i zero_slot))
    ∷ section 198 2 32 (λ i. true)
    ∷ section 262 4 128 (λ i. window_good (get_or p.windows i zero_window))
    ∷ section 774 1 128 (λ i. week_good (get_or p.weeks i 0))
    ∷ section 902 4 8 (λ i. season_good (get_or p.seasons i zero_season))
    ∷ section 934 4 32 (λ i. holiday_good (get_or p.holidays i zero_holiday))
    ∷ section 1062 2 16 (λ i. rule_good (get_or p.rules i zero_rule))
    ∷ section 1094 2 16 (λ i. register_good (get_or c.registers i zero_register))
    ∷ []

-- each result of a call is what the rule says
abbrev pub Says : {A : Type 0} → (A → Bool → Type 0) → (A → Bool) → Type 0
Says {A} post rule = (x : A) (r : Bool) → post x r → r ≡ rule x

-- what is said of a section whose first bad entry is i: 4 VALUE with the offset of that entry, or nothing where i is the count
abbrev pub verdict_at : ℕ → ℕ → ℕ → ℕ → Answer (Unit {0})
verdict_at base size count i = if ltb i count then refused 4 (base + size * i) else given tt

-- the first of two, unless it is no refusal
abbrev pub or_else : Answer (Unit {0}) → Answer (Unit {0}) → Answer (Unit {0})
or_else (given u) later = later
or_else (refused n offset) later = refused n offset

-- the first entry, in the order of the sections, that breaks its rule
unfoldable pub first_bad : List Section → Answer (Unit {0})
first_bad [] = given tt
first_bad (s ∷ rest) = or_else (verdict_at s.base s.size s.count (first_broken s.count s.good)) (first_bad rest)

-- the check of a configuration
unfoldable pub checked : Config → Answer (Unit {0})
checked c = first_bad (sections c)

-- each entry of a section keeps its rule
abbrev pub Holds : Section → Type 0
Holds s = (i : ℕ) → i < s.count → s.good i ≡ true

-- the first entry that breaks its rule stands at an offset: it is the first of its section, and all sections before keep their rules
pub data FirstBadAt : List Section → ℕ → Type 0 where
  here : {s : Section} {rest : List Section} (i : ℕ) → i < s.count → s.good i ≡ false → ((j : ℕ) → j < i → s.good j ≡ true)
      → FirstBadAt (s ∷ rest) (s.base + s.size * i)
  later : {s : Section} {rest : List Section} {offset : ℕ} → Holds s → FirstBadAt rest offset → FirstBadAt (s ∷ rest) offset

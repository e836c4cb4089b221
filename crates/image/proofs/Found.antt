-- What a check finds, said of the entries: nothing exactly if all keep their rules, an offset exactly if it is that of the first that does not.
use mathlib.Core.Path.{◌≡◌, refl, sym, subst}
use mathlib.Core.Bool.{Bool, false, not}
use mathlib.Core.List.{List, [], ◌∷◌}
use Prim.Native.Nat.{ℕ, ◌+◌, ◌*◌}
use native.Mathlib.Nat.{le_refl, lt_of_lt_of_le}
use borrow.Author.Tests.{lt-ltb, le-ltb, ltb-true, ltb-false, not-true, not-false}
use lib.Dec.{ltb}
use Rattle.laws.proofs.Tests.{by_test}
use Rattle.laws.specs.Each.{Each}
use Rattle.laws.proofs.First.{first_is, first_none, first_at, first_before}
use Rattle.laws.specs.Broken.{first_broken}
use Rattle.laws.specs.Answers.{given, refused}
use Rattle.settings.specs.Check.{Section, sections, first_bad, checked, Holds, FirstBadAt, here, later}
use Rattle.image.specs.Laws.{GoodExactly, ValueExactly, ReadHolds}
use Rattle.image.proofs.Laws.{never, read_is_good}

module _ (s : Section) where
  -- the test by which a section is searched
  abbrev broken : ℕ → Bool
  broken i = not (s.good i)

  -- no entry is found: each keeps its rule
  pub none_found : ltb (first_broken s.count s.good) s.count ≡ false → Holds s
  none_found t i l =
      not-false (s.good i) (first_before s.count broken i (lt_of_lt_of_le l (ltb-false (first_broken s.count s.good) s.count t)))

  -- and the other way round
  pub holds_none : Holds s → ltb (first_broken s.count s.good) s.count ≡ false
  holds_none h = rw (first_none s.count broken (λ j l. rw (h j l))) (le-ltb s.count s.count (le_refl _))

-- nothing is found: each section keeps its rules
good_holds : (ss : List Section) → first_bad ss ≡ given tt → Each Holds ss
unfolding first_bad
good_holds [] e = tt
good_holds (s ∷ rest) e =
    by_test (ltb (first_broken s.count s.good) s.count)
    (λ t. absurd (never 4 (s.base + s.size * first_broken s.count s.good) (rw t at e)))
    (λ t. (none_found s t, good_holds rest (rw t at e)))

holds_good : (ss : List Section) → Each Holds ss → first_bad ss ≡ given tt
unfolding first_bad
holds_good [] h = refl
holds_good (s ∷ rest) h = rw (holds_none s h.0) (holds_good rest h.1)

-- an offset is found: it is that of the first bad entry
bad_first : (ss : List Section) (o : ℕ) → first_bad ss ≡ refused 4 o → FirstBadAt ss o
unfolding first_bad
bad_first [] o e = absurd (never 4 o (sym e))
bad_first (s ∷ rest) o e =
    let i = first_broken s.count s.good in
    by_test (ltb i s.count)
    (λ t.
    let q = rw t at e in
    let at : s.base + s.size * i ≡ o = cc in
    subst (λ (p : ℕ). FirstBadAt (s ∷ rest) p) at
    (here i (ltb-true i s.count t) (not-true (s.good i) (first_at s.count (broken s) (ltb-true i s.count t)))
    (λ j l. not-false (s.good j) (first_before s.count (broken s) j l))))
    (λ t. later (none_found s t) (bad_first rest o (rw t at e)))

first_bad_lem : (ss : List Section) (o : ℕ) → FirstBadAt ss o → first_bad ss ≡ refused 4 o
unfolding first_bad
first_bad_lem [] o x = elim x [ ]
first_bad_lem (s ∷ rest) o (here i l b before) =
    rw (first_is s.count (broken s) i l (rw b) (λ j k. rw (before j k)), lt-ltb i s.count l)
first_bad_lem (s ∷ rest) o (later h f) = rw (holds_none s h) (first_bad_lem rest o f)

pub good_exactly : GoodExactly
unfolding checked
good_exactly c = (good_holds (sections c), holds_good (sections c))

pub value_exactly : ValueExactly
unfolding checked
value_exactly c o = (bad_first (sections c) o, first_bad_lem (sections c) o)

pub read_holds : ReadHolds
unfolding checked
read_holds b e = good_holds _ (read_is_good b e)

-- The refusals of an image: one digit, and an offset within the image.
use mathlib.Core.Path.{◌≡◌, sym}
use mathlib.Core.List.{List, [], ◌∷◌}
use Prim.Native.Nat.{ℕ, suc, ◌+◌, ◌*◌, ◌<◌, ◌≤◌}
use native.Mathlib.Nat.{mul-suc, mul-le-mul_left}
use native.Mathlib.Omega.{arith}
use borrow.Author.Tests.{ltb-true}
use lib.Dec.{eqb, ltb, lit≤}
use lib.ListN.{length, drop}
use Rattle.laws.proofs.Tests.{by_test}
use Rattle.laws.specs.Each.{Each}
use Rattle.laws.specs.Broken.{first_broken}
use Rattle.laws.specs.Answers.{Answer, refused}
use Rattle.laws.specs.Bytes.{le}
use Rattle.image.specs.Image.{decode}
use Rattle.settings.specs.Check.{Section, sections, first_bad, checked}
use Rattle.image.specs.Answers.{marked, image_answer}
use Rattle.image.specs.Laws.{RefusalWithin}
use Rattle.settings.specs.declared.Config.{Config}
use Rattle.image.proofs.Laws.{never}

-- a section ends within the image, and its entries have bytes
abbrev Within : Section → Type 0
Within s = (0 < s.size) × (s.base + s.size * s.count ≤ 1126)

-- what a check of such sections refuses
bad_within : (ss : List Section) (k o : ℕ) → Each Within ss → first_bad ss ≡ refused k o → (k ≡ 4) × (o < 1126)
unfolding first_bad
bad_within [] k o w e = absurd (never k o (sym e))
bad_within (s ∷ rest) k o w e =
    let i = first_broken s.count s.good in
    by_test (ltb i s.count)
    (λ t.
    let q = rw t at e in
    let four : 4 ≡ k = cc in
    let there : s.base + s.size * i ≡ o = cc in
    let h : s.size * suc i ≤ s.size * s.count = mul-le-mul_left s.size (ltb-true i s.count t) in
    let g : s.size * i + s.size ≤ s.size * s.count = rw mul-suc at h in
    (sym four, omega (arith, w.0.0, w.0.1)))
    (λ t. bad_within rest k o w.1 (rw t at e))

sections_within : (c : Config) → Each Within (sections c)
unfolding sections
sections_within c = ((lit≤ tt, lit≤ tt), ((lit≤ tt, lit≤ tt), ((lit≤ tt, lit≤ tt), ((lit≤ tt, lit≤ tt), ((lit≤ tt, lit≤ tt), ((lit≤ tt, lit≤ tt), ((lit≤ tt, lit≤ tt), ((lit≤ tt, lit≤ tt), ((lit≤ tt, lit≤ tt), ((lit≤ tt, lit≤ tt), ((lit≤ tt, lit≤ tt), ((lit≤ tt, lit≤ tt), tt))))))))))))

pub refusal_within : RefusalWithin
unfolding image_answer checked
refusal_within b n offset e =
    by_test (eqb (length b) 1126)
    (λ l. by_test (marked b)
    (λ m. by_test (eqb (le 2 (drop 3 b)) 1)
    (λ v. let r = bad_within (sections (decode b)) n offset (sections_within (decode b)) (rw (l, m, v) at e) in (omega (arith, r.0), r.1))
    (λ v. small 3 3 (lit≤ tt) (lit≤ tt) (rw (l, m, v) at e)))
    (λ m. small 2 0 (lit≤ tt) (lit≤ tt) (rw (l, m) at e)))
    (λ l. small 1 0 (lit≤ tt) (lit≤ tt) (rw l at e))
  where
    small : (k o : ℕ) → k < 10 → o < 1126 → ◌≡◌ {A = Answer (Unit {0})} (refused k o) (refused n offset) → (n < 10) × (offset < 1126)
    small k o h g q =
        let a : k ≡ n = cc in
        let d : o ≡ offset = cc in
        (omega arith, omega arith)

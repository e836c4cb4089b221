-- `lines::words::word_start` meets its contract: each turn passes the first blank of what is left.
use Rattle.std.proofs.Common.{◌≡◌, ℕ, suc, ◌+◌, ◌-◌, ◌<◌, ◌≤◌, List, length, take, drop, sym, ◌∙◌, arith, rules, tests, Option, Some, None, option_map, cond, ltb, length-drop, ltb-true, ltb-false, add-zero}
use Rattle.std.proofs.lemmas.Iterator.{YieldsList-from_slice}
use Rattle.std.proofs.lemmas.Iterator.Search.{position_from_yields_List}
use Rattle.std.proofs.lemmas.List.{drop-drop}
use Rattle.std.proofs.Math.Seq.{take_all}
use Rattle.std.specs.List.{position_or_len}
use Rattle.laws.proofs.Tests.{by_test}
use Rattle.lines.specs.Words.{word_place}
use Rattle.lines.proofs.Splits.{blank, place_none, place_some, counted, counted_twice}
use Rattle.lines.proofs.words.word_start.Goals as goal

-- the place of the first blank, as `position` gives it
abbrev found : List ℕ → Option ℕ
found l = cond (ltb (position_or_len blank l) (length l)) (Some (position_or_len blank l)) None

some_found : (l : List ℕ) (i : ℕ) → Some i ≡ found l → (position_or_len blank l ≡ i) × (i < length l)
some_found l i h =
    by_test (ltb (position_or_len blank l) (length l))
    (λ e. let z = rw e at h in let p : position_or_len blank l ≡ i = cc in (p, rw (← p) (ltb-true _ _ e)))
    (λ e. let z = rw e at h in cc)

none_found : (l : List ℕ) → None ≡ found l → length l ≤ position_or_len blank l
none_found l h =
    by_test (ltb (position_or_len blank l) (length l)) (λ e. let z = rw e at h in cc) (λ e. ltb-false _ _ e)

module _ (k c start : ℕ) (text : List ℕ) (more : c < k) (within : start ≤ length text)
    (known : word_place k text ≡ option_map (λ n. start + n) (word_place (k - c) (drop start text))) where
  passed : (i : ℕ) → Some i ≡ found (drop start text) → (start + (i + 1) ≤ length text) × (word_place k text ≡ option_map (λ n. start + (i + 1) + n) (word_place (k - (c + 1)) (drop (start + (i + 1)) text)))
  passed i h =
      let f = some_found (drop start text) i h in
      let left : k - c ≡ suc (k - (c + 1)) = omega arith in
      (omega (arith, length-drop start text, f.1), known ∙ rw (left, place_some (k - (c + 1)) (drop start text) i f.0 f.1, counted_twice, drop-drop) (counted _ _ (λ n. omega arith) _))

  ended : None ≡ found (drop start text) → word_place k text ≡ None
  ended h =
      let left : k - c ≡ suc (k - (c + 1)) = omega arith in
      known ∙ rw (left, place_none (k - (c + 1)) (drop start text) (none_found _ h))

-- what is left, as the code cuts it
left_of : (n : ℕ) (text : List ℕ) → take (length text - n) (drop n text) ≡ drop n text
left_of n text = take_all (length text - n) (drop n text) (omega (arith, length-drop n text))

pub returns-in_err-start-clause-value : goal.returns-in_err-start-clause-value
returns-in_err-start-clause-value c =
    let l = c.loop in
    let f = position_from_yields_List blank _ _ _ c.in_err-start.ensures.ran (YieldsList-from_slice _ c.iter.ensures.rest) (λ x b q k. search (rules, tests)) in
    c.from_residual.ensures ∙ sym (ended c.args.k l.counter l.start _ (omega arith) l.invariant.1 l.invariant.2 (rw left_of at f))

pub loop-preserved : goal.loop-preserved
loop-preserved c =
    let l = c.loop in
    let f = position_from_yields_List blank _ _ _ c.in_ok-start.ensures.ran (YieldsList-from_slice _ c.iter.ensures.rest) (λ x b q k. search (rules, tests)) in
    let p = passed c.args.k l.counter l.start _ (omega arith) l.invariant.1 l.invariant.2 _ (rw left_of at f) in
    (omega arith, p.0, p.1)

pub returns-clause-value : goal.returns-clause-value
unfolding word_place
returns-clause-value c =
    let l = c.loop in
    let none : c.args.k - l.counter ≡ 0 = omega arith in
    sym (rw (none, add-zero) at l.invariant.2)

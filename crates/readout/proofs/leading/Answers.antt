-- `readout::leading` meets its contract: as many pass in front as stand before the first that does not.
use Rattle.std.proofs.Common.{rules, tests}
use Rattle.std.proofs.lemmas.Iterator.{YieldsList-from_slice}
use Rattle.std.proofs.lemmas.Iterator.Search.{position_from_yields_List}
use mathlib.Core.Path.{◌≡◌, refl, sym, ap, ◌∙◌}
use mathlib.Core.Bool.{Bool, not}
use mathlib.Core.List.{List, ◌∷◌, []}
use Prim.Native.Nat.{ℕ}
use native.Mathlib.Omega.{arith}
use borrow.Author.Tests.{ltb-false}
use lib.Dec.{ltb}
use lib.ListN.{length}
use Rattle.std.specs.Option.{unwrap_or}
use Rattle.std.specs.List.{position, position_or_len}
use Rattle.laws.specs.Leading.{leading}
use Rattle.laws.proofs.Leading.{leading_most}
use Rattle.laws.proofs.Tests.{by_test}
use Rattle.readout.proofs.leading.Goals as goal

-- as many pass in front as stand before the first that does not
module _ (p : ℕ → Bool) where
  leading_len : (l : List ℕ) → leading p l ≡ position_or_len (λ b. not (p b)) l
  unfolding leading
  leading_len [] = refl
  leading_len (b ∷ rest) = by_test (p b) (λ t. rw (t, leading_len rest) (omega arith)) (λ t. rw t)

  leading_first : (l : List ℕ) → leading p l ≡ unwrap_or (position (λ b. not (p b)) l) (length l)
  leading_first l =
      let n = position_or_len (λ b. not (p b)) l in
      by_test (ltb n (length l))
      (λ t. rw (leading_len l, t))
      (λ t. let k = ltb-false n (length l) t in let m = leading_most p l in let e = leading_len l in rw t (omega arith))

pub returns-clause-count : goal.returns-clause-count
returns-clause-count g c =
    let text = c.args.text.now in
    let e : c.position.result ≡ position (λ b. not (g.p b)) text =
    position_from_yields_List (λ b. not (g.p b)) _ _ c.position.result c.position.ensures.ran (YieldsList-from_slice _ c.iter.ensures.rest) (λ x b q k. let says = c.requires.1.1 in search (rules, tests, says)) in
    c.unwrap_or.ensures ∙ ap (λ o. unwrap_or o (length text)) e ∙ sym (leading_first g.p text)

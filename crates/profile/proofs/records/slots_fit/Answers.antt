-- `profile::records::slots_fit` meets its contract: all of them fit where none is above 15.
use Rattle.std.proofs.Common.{rules, tests}
use Rattle.std.proofs.lemmas.Iterator.{YieldsList-from_slice}
use Rattle.std.proofs.lemmas.Iterator.Search.{all_from_yields_List}
use mathlib.Core.Path.{◌≡◌, refl, ap, ◌∙◌}
use mathlib.Core.Bool.{not}
use mathlib.Core.List.{List, [], ◌∷◌}
use Prim.Native.Nat.{ℕ}
use borrow.Author.Tests.{leb-true, leb-false, le-ltb, lt-ltb}
use lib.Dec.{leb, ltb}
use lib.ListN.{length, get_or}
use Rattle.std.specs.List.{list_all}
use Rattle.laws.specs.Any.{any}
use Rattle.laws.proofs.Any.{any_low}
use Rattle.laws.proofs.Tests.{by_test}
use Rattle.profile.proofs.records.slots_fit.Goals as goal

none_above : (l : List ℕ) → list_all (λ slot. leb slot 15) l ≡ not (any (length l) (λ k. ltb 15 (get_or l k 0)))
unfolding any
none_above [] = refl
none_above (slot ∷ rest) =
    rw (any_low (length rest) (λ k. ltb 15 (get_or (slot ∷ rest) k 0)))
    (by_test (leb slot 15)
    (λ t. rw (t, le-ltb 15 slot (leb-true slot 15 t)) (none_above rest))
    (λ t. rw (t, lt-ltb 15 slot (leb-false slot 15 t))))

pub returns : goal.returns
returns c =
    let slots = c.args.slots in
    let eight : length slots ≡ 8 = search rules in
    all_from_yields_List (λ slot. leb slot 15) _ _ _ c.all.ensures.ran (YieldsList-from_slice _ c.iter.ensures.rest) (λ x b q k. search (rules, tests))
    ∙ none_above slots
    ∙ ap (λ n. not (any n (λ k. ltb 15 (get_or slots k 0)))) eight

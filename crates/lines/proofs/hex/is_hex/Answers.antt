-- `lines::hex::is_hex` meets its contract: by its tests.
use Rattle.std.proofs.Common.{◌≡◌, true, false, not, sym, ◌∙◌, rules, tests, bytes_eq, [], ◌∷◌}
use Rattle.std.proofs.lemmas.Iterator.{YieldsList-from_slice}
use Rattle.std.proofs.lemmas.Iterator.Search.{all_from_yields_List}
use Rattle.laws.specs.Letters.{letters}
use Rattle.lines.specs.Hex.{is_hex, hex_digits}
use Rattle.lines.proofs.hex.is_hex.Goals as goal
use Rattle.lines.proofs.hex.is_hex.Goals.{then-not-is_empty, else-not-is_empty}

pub returns-then-eq : goal.returns-then-eq
unfolding is_hex letters
returns-then-eq c = let dash : bytes_eq c.args.w.now (45 ∷ []) ≡ true = cc in rw (c.if-eq.true, dash)

pub returns-then-w-eq0 : goal.returns-then-w-eq0
unfolding is_hex letters
returns-then-w-eq0 c =
    let dash : bytes_eq c.args.w.now (45 ∷ []) ≡ false = cc in
    let digits : c.all.result ≡ hex_digits c.args.w.now
    = all_from_yields_List _ _ _ _ c.all.ensures.ran (YieldsList-from_slice c.args.w.now c.iter.ensures.rest) (λ x b q k. search (rules, tests)) in
    elim c.if-not-is_empty.branch [
      | then-not-is_empty w ↦ rw (dash, sym c.is_empty.ensures ∙ w.if-not-is_empty.true, sym w.value-is ∙ c.if-w-eq0.true) digits
      | else-not-is_empty w ↦ let none : not c.is_empty.result ≡ false = rw w.if-not-is_empty.false in cc
    ]

pub returns-else-w-eq0 : goal.returns-else-w-eq0
unfolding is_hex letters
returns-else-w-eq0 c =
    let dash : bytes_eq c.args.w.now (45 ∷ []) ≡ false = cc in
    elim c.if-not-is_empty.branch [
      | then-not-is_empty w ↦ rw (c.if-w-eq0.false, dash, sym c.is_empty.ensures ∙ w.if-not-is_empty.true, sym w.value-is ∙ c.if-w-eq0.false)
      | else-not-is_empty w ↦ rw (c.if-w-eq0.false, dash, sym c.is_empty.ensures ∙ w.if-not-is_empty.false)
    ]

-- `readout::data_sets::ends` meets its contract: by the letters at both ends.
use Rattle.std.proofs.Common.{rules}
use Rattle.std.proofs.lemmas.Iterator.{YieldsList-from_slice}
use Rattle.std.proofs.lemmas.Iterator.Search.{all_from_yields_List}
use mathlib.Core.Path.{◌≡◌, sym, ◌∙◌}
use Prim.Native.Nat.{◌-◌}
use native.Mathlib.Omega.{arith}
use Rattle.std.specs.List.{list_all}
use lib.ListN.{length, take, drop}
use Rattle.readout.specs.DataSets.{between, value_letter}
use Rattle.readout.proofs.Places.{ends_closed, ends_starred, ends_other}
use Rattle.readout.proofs.data_sets.ends.Goals as goal

pub returns-in-41 : goal.returns-in-41
returns-in-41 c = sym (ends_closed c.args.rest.now (omega arith) (omega arith))

pub returns-then-contains : goal.returns-then-contains
returns-then-contains c =
    let rest = c.args.rest.now in
    let unit = take (length rest - 1 - 1) (drop 1 rest) in
    let size : c.contains.result ≡ between 1 16 (length unit) = search rules in
    let letters : c.all.result ≡ list_all value_letter unit =
    all_from_yields_List value_letter _ _ c.all.result c.all.ensures.ran (YieldsList-from_slice _ c.iter.ensures.rest) (λ x b q k. search rules) in
    letters ∙ sym (ends_starred rest c.in-42.len_at_least (omega arith) (omega arith) ∙ rw (sym size ∙ c.if-contains.true))

pub returns-else-contains : goal.returns-else-contains
returns-else-contains c =
    let rest = c.args.rest.now in
    let size : c.contains.result ≡ between 1 16 (length (take (length rest - 1 - 1) (drop 1 rest))) = search rules in
    c.if-contains.false ∙ sym (ends_starred rest c.in-42.len_at_least (omega arith) (omega arith) ∙ rw (sym size ∙ c.if-contains.false))

pub returns-in_default : goal.returns-in_default
returns-in_default c = sym (ends_other _ (λ e. omega arith) (λ e. omega arith))

pub returns-in_default-2 : goal.returns-in_default-2
returns-in_default-2 c = sym (ends_other _ (λ e. omega arith) (λ e. omega arith))

pub returns-in_default-3 : goal.returns-in_default-3
returns-in_default-3 c = sym (ends_other _ (λ e. omega arith) (λ e. omega arith))

pub returns-in_default-4 : goal.returns-in_default-4
returns-in_default-4 c = sym (ends_other _ (λ e. omega arith) (λ e. omega arith))

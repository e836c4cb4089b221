-- `readout::data_sets::value_place` meets its contract: by its tests, of the parts that it has split the line into.
use Rattle.std.proofs.Common.{rules}
use mathlib.Core.Path.{◌≡◌, sym, ◌∙◌}
use native.Mathlib.Omega.{arith}
use borrow.Author.Tests.{le-leb, lt-leb}
use lib.ListN.{length, get_or-eq_default}
use Rattle.readout.specs.DataSets.{between}
use Rattle.readout.proofs.Places.{split_other, split_from}
use Rattle.readout.proofs.data_sets.value_place.Goals as goal
use Rattle.readout.proofs.data_sets.value_place.Goals.{then-address-gt16-via-then-address-gt16, then-address-gt16-via-else-address-gt16+then-not-contains, then-address-gt16-via-else-address-gt16+else-not-contains+then-not-ends}

pub returns-in_default : goal.returns-in_default
returns-in_default c =
    let none = get_or-eq_default c.split_at.result.1.now 0 {n = 0} (omega arith) in
    sym (split_other c.args.line.now c.leading.ensures.count c.split_at.ensures.front c.split_at.ensures.back (λ e. omega arith))

pub returns-in_default-2 : goal.returns-in_default-2
returns-in_default-2 c = sym (split_other c.args.line.now c.leading.ensures.count c.split_at.ensures.front c.split_at.ensures.back (λ e. omega arith))

pub returns-then-address-gt16 : goal.returns-then-address-gt16
returns-then-address-gt16 c =
    let s = c.split_at in
    let t = c.split_at-2 in
    let place = split_from c.args.line.now c.leading.ensures.count s.ensures.front s.ensures.back c.in-40.len_at_least (omega arith) c.leading-2.ensures.count t.ensures.front t.ensures.back in
    elim c.then-address-gt16.branch [
      | then-address-gt16-via-then-address-gt16 w ↦ sym (place ∙ rw (lt-leb (length s.result.0.now) 16 w.if-address-gt16.true))
      | then-address-gt16-via-else-address-gt16+then-not-contains w ↦ (
          let size : w.contains.result ≡ between 1 32 (length t.result.0.now) = search rules in
          sym (place ∙ rw (le-leb (length s.result.0.now) 16 w.if-address-gt16.false, sym size ∙ w.if-not-contains.true)))
      | then-address-gt16-via-else-address-gt16+else-not-contains+then-not-ends w ↦ (
          let size : w.contains.result ≡ between 1 32 (length t.result.0.now) = search rules in
          sym (place ∙ rw (le-leb (length s.result.0.now) 16 w.if-address-gt16.false, sym size ∙ w.if-not-contains.false, sym w.ends.ensures ∙ w.if-not-ends.true)))
    ]

pub returns : goal.returns
returns c =
    let s = c.split_at in
    let t = c.split_at-2 in
    let size : c.contains.result ≡ between 1 32 (length t.result.0.now) = search rules in
    sym (split_from c.args.line.now c.leading.ensures.count s.ensures.front s.ensures.back c.in-40.len_at_least (omega arith) c.leading-2.ensures.count t.ensures.front t.ensures.back
    ∙ rw (le-leb (length s.result.0.now) 16 c.if-address-gt16.false, sym size ∙ c.if-not-contains.false, sym c.ends.ensures ∙ c.if-not-ends.false))

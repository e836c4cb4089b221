-- `readout::data_sets::value_text` meets its contract: the part is the one at the place that was found, which stands within the line.
use mathlib.Core.Path.{◌≡◌, sym, ap}
use Prim.Native.Nat.{◌+◌, ◌-◌}
use native.Mathlib.Omega.{arith}
use borrow.Author.Rules.{rules}
use lib.ListN.{take, drop}
use Rattle.laws.proofs.Parts.{part_same}
use Rattle.readout.proofs.Places.{place_facts}
use Rattle.readout.proofs.data_sets.value_text.Goals as goal

pub overflow_add-result : goal.overflow_add-result
overflow_add-result c = let p = place_facts _ _ (sym c.in-Some.ensures) in search rules

pub slice_bounds-result-end : goal.slice_bounds-result-end
slice_bounds-result-end c = let p = place_facts _ _ (sym c.in-Some.ensures) in search rules

pub returns-in-Some : goal.returns-in-Some
returns-in-Some c =
    let p = c.in-Some.place in
    let line = c.args.line in
    let size : p.start + p.length - p.start ≡ p.length = omega arith in
    rw (sym c.in-Some.ensures) (part_same line.ref_ptr.0 _ _ _ _ (omega arith) (ap (λ k. take k (drop p.start line.now)) size))

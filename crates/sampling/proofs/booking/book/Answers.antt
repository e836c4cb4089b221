-- `sampling::booking::book` meets its contract: the sums are those of the lines that end.
use mathlib.Core.Path.{◌≡◌, sym, ap, ◌∙◌}
use borrow.Author.Rules.{rules}
use Rattle.counting.specs.Bills.{sums_of}
use Rattle.counting.specs.ByMask.{some_full, amounts_booked}
use Rattle.counting.proofs.Parts.{own_units}
use Rattle.sampling.proofs.booking.book.Goals as goal

pub returns-then-some_full : goal.returns-then-some_full
unfolding amounts_booked
returns-then-some_full c =
    let a = c.args in
    let sums : c.sums_units-sums.result ≡ sums_of a.config.now.sums a.units = c.sums_units-sums.ensures ∙ ap (sums_of a.config.now.sums) (own_units a.units a.ending (search rules) c.requires) in
    let e = sym c.if-some_full.true ∙ c.some_full.ensures ∙ ap (some_full _ _ _) sums in
    record { full = rw (← e); amounts = rw (← e) }

pub add_due-requires : goal.add_due-requires
add_due-requires c = sym c.some_full.ensures ∙ c.if-some_full.false

pub returns : goal.returns
returns c =
    let a = c.args in
    let sums : c.sums_units-sums.result ≡ sums_of a.config.now.sums a.units = c.sums_units-sums.ensures ∙ ap (sums_of a.config.now.sums) (own_units a.units a.ending (search rules) c.requires) in
    let e = sym c.if-some_full.false ∙ c.some_full.ensures ∙ ap (some_full _ _ _) sums in
    record {
      full = rw (← e);
      amounts = c.add_due.ensures ∙ ap (amounts_booked _ _ _) sums;
    }

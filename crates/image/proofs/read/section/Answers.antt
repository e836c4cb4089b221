-- `image::read::section` meets its contract: each entry is the one that stands in its place.
use Prim.Native.Nat.{◌*◌}
use borrow.Author.Rules.{rules}
use lib.ListN.{drop}
use Rattle.image.proofs.Sections.{made, all_read}
use Rattle.image.proofs.read.section.Goals as goal

pub returns : goal.returns
returns g c =
    all_read _ _ _ _ c.from_fn.ensures.items.long
    (made _ _ (λ i. g.T.Entry.dec (drop (g.row.S * i) c.args.bytes.now)) (λ i y q k. search rules) _ _ c.from_fn.ensures.items)

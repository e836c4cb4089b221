-- `image::write::section` meets its contract: the entries one after another.
use mathlib.Core.Path.{◌≡◌, ◌∙◌}
use Prim.Native.Nat.{ℕ, ◌+◌, ◌-◌, ◌*◌}
use native.Mathlib.Omega.{arith}
use Rattle.image.proofs.Sections.{none_written, one_written, all_written}
use Rattle.image.proofs.write.section.Goals as goal

pub loop-i-init : goal.loop-i-init
loop-i-init g c = none_written _ _

-- the width of a part, as the code reckons it
part : (size i : ℕ) → size * (i + 1) - size * i ≡ size
part size i = omega arith

pub loop-i-preserved : goal.loop-i-preserved
loop-i-preserved g c =
    one_written c.loop-i.invariant g.met.T.Entry.wide c.index-entries-i.result (omega arith)
    (c.copy_from_slice.ensures.after ∙ c.to_bytes.ensures) (part _ _)

pub returns : goal.returns
returns g c = all_written c.loop-i.invariant c.told-entries (omega arith)

-- `sampling::samples::take` meets its contract. The loop's invariant: what is left to take from the state put together of its parts, counted on from k, is the whole run.
use Rattle.std.specs.Prelude.{Ok}
use mathlib.Core.Path.{◌≡◌}
use mathlib.Core.Bool.{false}
use Prim.Native.Nat.{◌-◌, ◌≤◌}
use lib.ListN.{length, drop}
use Rattle.counting.specs.ByMask.{running_lines, with_amounts}
use Rattle.sampling.specs.Samples.{put_in}
use Rattle.sampling.specs.Laps.{lap_of}
use Rattle.sampling.specs.Kept.{InForce}
use Rattle.sampling.proofs.Laps.{after}
use Rattle.sampling.proofs.samples.take.Given as goal

abbrev pub invariant-loop-k : goal.invariant-loop-k
invariant-loop-k l =
    (l.k ≤ length l.bits)
    × (lap_of l.config l.start l.bits ≡ after l.k (lap_of l.config (put_in l.start l.clock l.count l.lines (with_amounts l.bills l.amounts)) (drop l.k l.bits)))
    × (l.running ≡ running_lines l.lines)
    × (length l.lines ≡ 16)
    × (length l.amounts ≡ 16)
    × (l.clock ≤ 4_294_967_295)
    × InForce l.config l.clock l.tariffs
    × (l.answer ≡ Ok tt)
    × (l.closes ≡ false)

abbrev pub decreases-loop-k : goal.decreases-loop-k
decreases-loop-k l = length l.bits - l.k

-- `sampling::booking::with_due` meets its contract: what does not fill an amount keeps it within 32 bits.
use native.Mathlib.Omega.{arith}
use Rattle.counting.proofs.Full.{stays_small}
use Rattle.sampling.proofs.booking.with_due.Goals as goal

pub overflow_add-result : goal.overflow_add-result
overflow_add-result c = let s = stays_small c.args.amount c.args.due c.ranges.amount.fits c.requires in record { fits = omega arith }

pub overflow_cast-result-2 : goal.overflow_cast-result-2
overflow_cast-result-2 c = record { fits = stays_small c.args.amount c.args.due c.ranges.amount.fits c.requires }

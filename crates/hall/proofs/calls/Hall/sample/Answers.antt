-- `hall::calls::Hall::sample` is safe: no piece takes more samples than it has.
use native.Mathlib.Omega.{arith}
use Rattle.hall.proofs.Taken.{few_taken}
use Rattle.hall.proofs.calls.Hall.sample.Goals as goal

pub overflow_cast-run : goal.overflow_cast-run
overflow_cast-run c = let few = few_taken _ _ _ _ _ c.samples-run.ensures in record { fits = omega arith }

pub overflow_add-count : goal.overflow_add-count
overflow_add-count c = let few = few_taken _ _ _ _ _ c.samples-run.ensures in record { fits = omega arith }

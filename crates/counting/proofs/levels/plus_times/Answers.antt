-- `counting::levels::plus_times` meets its contract: the laws of proofs/Signed.antt at its three numbers.
use mathlib.Core.Path.{refl}
use mir.Facts.{to_z-of_z, sfits_widen}
use Rattle.counting.proofs.Signed.{product_fits, sum_fits, sum_near, times_is, plus_is}
use Rattle.counting.proofs.levels.plus_times.Goals as goal

pub overflow_cast-result : goal.overflow_cast-result
overflow_cast-result c = rw (to_z-of_z c.ranges.coefficient) (sfits_widen tt c.ranges.coefficient)

pub overflow_mul-result : goal.overflow_mul-result
overflow_mul-result c = rw (times_is c.args.value c.args.coefficient c.args.units c.ranges.value c.ranges.coefficient c.requires.0 c.requires.1) (product_fits c.args.value c.args.coefficient c.args.units c.ranges.value c.ranges.coefficient c.requires.0 c.requires.1)

pub overflow_add-result : goal.overflow_add-result
overflow_add-result c = rw (plus_is c.args.value c.args.coefficient c.args.units c.ranges.value c.ranges.coefficient c.requires.0 c.requires.1) (sum_fits c.args.value c.args.coefficient c.args.units c.ranges.value c.ranges.coefficient c.requires.0 c.requires.1)

pub returns : goal.returns
returns c = simp (plus_is c.args.value c.args.coefficient c.args.units c.ranges.value c.ranges.coefficient c.requires.0 c.requires.1, to_z-of_z (sum_fits c.args.value c.args.coefficient c.args.units c.ranges.value c.ranges.coefficient c.requires.0 c.requires.1)) (refl, sum_near c.args.value c.args.coefficient c.args.units c.ranges.value c.ranges.coefficient c.requires.0 c.requires.1)

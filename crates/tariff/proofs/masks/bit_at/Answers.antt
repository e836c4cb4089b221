-- `tariff::masks::bit_at` meets its contract: past bit 31 a mask of 32 bits has none.
use native.Mathlib.Nat.{div-eq_of_lt, lt_of_lt_of_le}
use borrow.Author.Rules.{rules}
use lib.Pow.{pow_mono}
use Rattle.laws.specs.Masks.{bit_at}
use Rattle.tariff.proofs.masks.bit_at.Goals as goal

pub returns-then-place-ge32 : goal.returns-then-place-ge32
unfolding bit_at
returns-then-place-ge32 c = rw (div-eq_of_lt (lt_of_lt_of_le c.ranges.mask.fits (pow_mono c.if-place-ge32.true)))

pub returns : goal.returns
unfolding bit_at
returns c = search rules

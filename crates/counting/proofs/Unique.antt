-- No second result, and no second content of what is lent, fits the contract of a public function of the counting.
use Rattle.std.specs.Prelude.{Option, None, Some}
use mathlib.Core.List.{[], ◌∷◌}
use mathlib.Core.Path.{◌≡◌, refl, sym, ap, ◌∙◌}
use Prim.Native.Nat.{ℕ}
use native.Mathlib.Omega.{arith}
use Rattle.laws.specs.Unique.{OneResult, OneExit}
use Rattle.counting.specs.Bits.{NextBit}
use Rattle.counting.proofs.bits.BitsIterator.next.Reads as next_reads
use Rattle.counting.proofs.filter.advance.Reads as advance_reads
use Rattle.counting.proofs.filter.kind_mask.Reads as kind_mask_reads
use Rattle.counting.proofs.filter.running_lines.Reads as running_lines_reads
use Rattle.counting.proofs.units.settle.Reads as settle_reads
use Rattle.counting.proofs.bills.sums_units.Reads as sums_units_reads
use Rattle.counting.proofs.bills.fed_registers.Reads as fed_registers_reads
use Rattle.counting.proofs.bills.register_units.Reads as register_units_reads
use Rattle.counting.proofs.bills.some_full.Reads as some_full_reads
use Rattle.counting.proofs.bills.amounts_of.Reads as amounts_of_reads
use Rattle.counting.proofs.bills.put_amounts.Reads as put_amounts_reads
use Rattle.counting.proofs.levels.level9.Reads as level9_reads

-- of the bits that are left of a mask, the place of the lowest and those that are left after it are told
one_place : (left : ℕ) (x y : Option ℕ) (after later : ℕ) → NextBit left x after → NextBit left y later → (x ≡ y) × (after ≡ later)
one_place left None None after later p q = (refl, p.1 ∙ sym q.1)
one_place left None (Some j) after later p q = absurd (omega (arith, p.0, q.0))
one_place left (Some i) None after later p q = absurd (omega (arith, p.0, q.0))
one_place left (Some i) (Some j) after later p q = (ap Some (p.2 ∙ sym q.2), p.4 ∙ sym q.4)

pub next_once : OneResult next_reads.Post
next_once κs a x y e f p q = (one_place _ x y _ _ p.0 q.0).0

-- the mask, as a list of one, is the first parameter
pub next_exit : OneExit (λ κs e. e.0.now.0 ∷ []) next_reads.Post
next_exit κs a x y e f p q = ap (λ n. n ∷ []) (one_place _ x y _ _ p.0 q.0).1

-- the run, as a list of one, is the first parameter
pub advance_exit : OneExit (λ κs e. e.0.now ∷ []) advance_reads.Post
advance_exit κs a x y e f p q = ap (λ n. n ∷ []) (p ∙ sym q)

pub kind_mask_lem : OneResult kind_mask_reads.Post
kind_mask_lem κs a x y e f p q = p ∙ sym q

pub running_lines_lem : OneResult running_lines_reads.Post
running_lines_lem κs a x y e f p q = p ∙ sym q

pub settle : OneResult settle_reads.Post
settle κs a x y e f p q = p ∙ sym q

pub sums_units : OneResult sums_units_reads.Post
sums_units κs a x y e f p q = p ∙ sym q

pub fed_registers_lem : OneResult fed_registers_reads.Post
fed_registers_lem κs a x y e f p q = p ∙ sym q

pub register_units_lem : OneResult register_units_reads.Post
register_units_lem κs a x y e f p q = p ∙ sym q

pub some_full_lem : OneResult some_full_reads.Post
some_full_lem κs a x y e f p q = p ∙ sym q

pub amounts_of_lem : OneResult amounts_of_reads.Post
amounts_of_lem κs a x y e f p q = p ∙ sym q

pub put_amounts : OneResult put_amounts_reads.Post
put_amounts κs a x y e f p q = p ∙ sym q

pub level9 : OneResult level9_reads.Post
level9 κs a x y e f p q = p ∙ sym q

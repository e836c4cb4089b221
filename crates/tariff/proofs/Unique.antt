-- No second result fits the contract of a public function of the tariff program.
use mathlib.Core.Path.{◌≡◌, sym, ◌∙◌}
use Rattle.std.specs.Prelude.{ℕ, Option, Some, None}
use Rattle.laws.specs.Unique.{OneResult}
use Rattle.tariff.specs.Weekly.{place_of}
use Rattle.tariff.proofs.masks.bit_at.Reads as bit_at_reads
use Rattle.tariff.proofs.masks.with_bit.Reads as with_bit_reads
use Rattle.tariff.proofs.masks.mask_of.Reads as mask_of_reads
use Rattle.tariff.proofs.daily.daily_active.Reads as daily_active_reads
use Rattle.tariff.proofs.daily.daily_map.Reads as daily_map_reads
use Rattle.tariff.proofs.weekly.holiday_on.Reads as holiday_on_reads
use Rattle.tariff.proofs.weekly.weekly_active.Reads as weekly_active_reads
use Rattle.tariff.proofs.weekly.weekly_map.Reads as weekly_map_reads
use Rattle.tariff.proofs.rules.force_map.Reads as force_map_reads
use Rattle.tariff.proofs.rules.force_map_at.Reads as force_map_at_reads

-- the place tells all findings apart
pub place_apart : (x y : Option ℕ) → place_of x ≡ place_of y → x ≡ y
place_apart (Some i) (Some j) e = cc
place_apart (Some i) None e = cc
place_apart None (Some j) e = cc
place_apart None None e = cc

pub bit_at_lem : OneResult bit_at_reads.Post
bit_at_lem κs a x y e f p q = p ∙ sym q

pub with_bit_lem : OneResult with_bit_reads.Post
with_bit_lem κs a x y e f p q = p ∙ sym q

pub daily_active_lem : OneResult daily_active_reads.Post
daily_active_lem κs a x y e f p q = p ∙ sym q

pub daily_map_lem : OneResult daily_map_reads.Post
daily_map_lem κs a x y e f p q = p ∙ sym q

pub holiday_on_lem : OneResult holiday_on_reads.Post
holiday_on_lem κs a x y e f p q = place_apart x y (p ∙ sym q)

pub weekly_active_lem : OneResult weekly_active_reads.Post
weekly_active_lem κs a x y e f p q = p ∙ sym q

pub weekly_map_lem : OneResult weekly_map_reads.Post
weekly_map_lem κs a x y e f p q = p ∙ sym q

pub force_map_lem : OneResult force_map_reads.Post
force_map_lem κs a x y e f p q = p ∙ sym q

pub force_map_at_lem : OneResult force_map_at_reads.Post
force_map_at_lem κs a x y e f p q = p ∙ sym q

pub mask_of_lem : (n : ℕ) (fits : _) → OneResult (mask_of_reads.Post n fits)
mask_of_lem n fits κs a x y e f p q = p ∙ sym q

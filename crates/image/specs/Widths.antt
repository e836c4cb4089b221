-- The laws of the code's trait `Entry`: each entry has as many bytes as its kind, and what stands behind them makes no difference to it.
use Rattle.std.specs.Prelude.{List, ◌≡◌, ℕ, length, take, get_or, ◌+◌, ℤ}
use Rattle.std.proofs.Common.{refl, arith, lit<, lit≤, length-append}
use Rattle.std.proofs.lemmas.List.{get_or-take, get_or-drop}
use Rattle.laws.specs.Bytes.{bytes_of, le}
use Rattle.laws.proofs.Bytes.{length_bytes_of, le_take}
use Rattle.tariff.specs.declared.Window.{Window}
use Rattle.tariff.specs.declared.Season.{Season}
use Rattle.tariff.specs.declared.Holiday.{Holiday}
use Rattle.tariff.specs.declared.Rule.{Rule}
use Rattle.settings.specs.declared.Input.{Input}
use Rattle.settings.specs.declared.Slot.{Slot}
use Rattle.settings.specs.declared.Register.{Register}
use Rattle.image.specs.Entries.{input_bytes, input_of, coefficient_bytes, coefficient_of, slot_bytes, slot_of, window_bytes, window_of, date_in, season_bytes, season_of, holiday_bytes, holiday_of, rule_bytes, rule_of, register_bytes, register_in}

pub number_wide : (n x : ℕ) → length (bytes_of n x) ≡ n
number_wide = length_bytes_of

pub number_starts : (n : ℕ) (b : List ℕ) → le n (take n b) ≡ le n b
number_starts n b = le_take n 0 n b (omega arith)

pub input_wide : (run : ℕ) (x : Input) → length (input_bytes run x) ≡ 1 + run + run + 2 + 2
unfolding input_bytes
input_wide run x = simp (length-append, length_bytes_of) (omega arith)

pub input_starts : (b : List ℕ) → input_of 1 (take 7 b) ≡ input_of 1 b
unfolding input_of
input_starts b =
    rw (
      le_take 1 0 7 b (lit≤ tt),
      le_take 1 1 7 b (lit≤ tt),
      le_take 1 2 7 b (lit≤ tt),
      le_take 2 3 7 b (lit≤ tt),
      le_take 2 5 7 b (lit≤ tt),
    )

pub coefficient_wide : (x : ℤ) → length (coefficient_bytes x) ≡ 1
unfolding coefficient_bytes
coefficient_wide x = refl

pub coefficient_starts : (b : List ℕ) → coefficient_of (take 1 b) ≡ coefficient_of b
unfolding coefficient_of
coefficient_starts b = rw (get_or-take 1 b 0 0 (lit< tt))

pub slot_wide : (x : Slot) → length (slot_bytes x) ≡ 2
unfolding slot_bytes
slot_wide x = refl

-- the first two bytes, and the first four
two : (b : List ℕ) → (get_or (take 2 b) 0 0 ≡ get_or b 0 0) × (get_or (take 2 b) 1 0 ≡ get_or b 1 0)
two b = (get_or-take 2 b 0 0 (lit< tt), get_or-take 2 b 1 0 (lit< tt))

pub slot_starts : (b : List ℕ) → slot_of (take 2 b) ≡ slot_of b
unfolding slot_of
slot_starts b = let t = two b in rw (t.0, t.1)

pub window_wide : (x : Window) → length (window_bytes x) ≡ 4
unfolding window_bytes
window_wide x = simp (length-append, length_bytes_of)

pub window_starts : (b : List ℕ) → window_of (take 4 b) ≡ window_of b
unfolding window_of
window_starts b = rw (le_take 2 0 4 b (lit≤ tt), le_take 2 2 4 b (lit≤ tt))

pub season_wide : (x : Season) → length (season_bytes x) ≡ 4
unfolding season_bytes
season_wide x = refl

pub season_starts : (b : List ℕ) → season_of (take 4 b) ≡ season_of b
unfolding season_of date_in
season_starts b =
    simp get_or-drop (rw (get_or-take 4 b 0 0 (lit< tt), get_or-take 4 b 1 0 (lit< tt), get_or-take 4 b 2 0 (lit< tt), get_or-take 4 b 3 0 (lit< tt)))

pub holiday_wide : (x : Holiday) → length (holiday_bytes x) ≡ 4
unfolding holiday_bytes
holiday_wide x = simp length_bytes_of

pub holiday_starts : (b : List ℕ) → holiday_of (take 4 b) ≡ holiday_of b
unfolding holiday_of
holiday_starts b = rw (get_or-take 4 b 0 0 (lit< tt), get_or-take 4 b 1 0 (lit< tt), le_take 2 2 4 b (lit≤ tt))

pub rule_wide : (x : Rule) → length (rule_bytes x) ≡ 2
unfolding rule_bytes
rule_wide x = refl

pub rule_starts : (b : List ℕ) → rule_of (take 2 b) ≡ rule_of b
unfolding rule_of
rule_starts b = let t = two b in rw (t.0, t.1)

pub register_wide : (x : Register) → length (register_bytes x) ≡ 2
unfolding register_bytes
register_wide x = refl

pub register_starts : (b : List ℕ) → register_in (take 2 b) ≡ register_in b
unfolding register_in
register_starts b = let t = two b in rw (t.0, t.1)

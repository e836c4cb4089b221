-- Each entry's bytes and its value are one and the same.
use mathlib.Core.Path.{◌≡◌, refl, sym}
use mathlib.Core.List.{List, ◌++◌, append_assoc}
use Prim.Native.Nat.{ℕ, ◌+◌, ◌≤◌}
use native.Mathlib.Omega.{arith}
use lib.ListN.{length, take, drop}
use lib.Seq.{get_or-drop, drop-drop, take-add}
use mir.Syntax.{w8}
use mir.Val.{SFits}
use mir.Facts.{to_z-of_z, of_z-to_z}
use Rattle.laws.specs.Bytes.{Bytes, bytes_of}
use Rattle.laws.proofs.Bytes.{length_bytes_of, le_bytes_of, bytes_of_le, bytes_of_at, take_firsts}
use Rattle.laws.proofs.Codec.{Codec, part_after}
use Rattle.image.specs.Entries.{input_bytes, input_of, coefficient_bytes, coefficient_of, slot_bytes, slot_of, window_bytes, window_of, date_in, season_bytes, season_of, holiday_bytes, holiday_of, rule_bytes, rule_of, register_bytes, register_in}
use Rattle.image.specs.Widths.{input_wide, coefficient_wide, slot_wide, window_wide, season_wide, holiday_wide, rule_wide, register_wide}
use Rattle.image.specs.Image.{TypedInput, TypedWindow, TypedHoliday}
use Rattle.settings.specs.declared.Input.{Input}

-- an input that was written is read back, whatever the width of its runs
input_back : (run : ℕ) (x : Input) (t : List ℕ) → TypedInput run x → input_of run (input_bytes run x ++ t) ≡ x
unfolding input_bytes input_of
input_back run x t h =
    let k = bytes_of 1 x.kind in
    let a = bytes_of run x.shortest in
    let b = bytes_of run x.longest in
    let n = bytes_of 2 x.numerator in
    let d = bytes_of 2 x.denominator in
    let l = k ++ (a ++ (b ++ (n ++ d))) ++ t in
    let at0 : l ≡ k ++ (a ++ (b ++ (n ++ (d ++ t)))) = simp append_assoc in
    let at1 : drop 1 l ≡ a ++ (b ++ (n ++ (d ++ t))) = part_after l 0 1 k at0 (length_bytes_of 1 x.kind) in
    let at2 : drop (1 + run) l ≡ b ++ (n ++ (d ++ t)) = part_after l 1 run a at1 (length_bytes_of run x.shortest) in
    let at3 : drop (1 + run + run) l ≡ n ++ (d ++ t) = part_after l (1 + run) run b at2 (length_bytes_of run x.longest) in
    let at4 : drop (1 + run + run + 2) l ≡ d ++ t = part_after l (1 + run + run) 2 n at3 (length_bytes_of 2 x.numerator) in
    rw (
      at4,
      at3,
      at2,
      at1,
      at0,
      le_bytes_of 1 x.kind (a ++ (b ++ (n ++ (d ++ t)))) h.0,
      le_bytes_of run x.shortest (b ++ (n ++ (d ++ t))) h.1,
      le_bytes_of run x.longest (n ++ (d ++ t)) h.2,
      le_bytes_of 2 x.numerator (d ++ t) h.3,
      le_bytes_of 2 x.denominator t h.4,
    )

-- an input that was read is written back
input_forth : (run : ℕ) (b : List ℕ) → Bytes b → 1 + run + run + 2 + 2 ≤ length b → input_bytes run (input_of run b) ≡ take (1 + run + run + 2 + 2) b
unfolding input_bytes input_of
input_forth run b byte h =
    rw (
      take-add (1 + run + run + 2) 2 b,
      take-add (1 + run + run) 2 b,
      take-add (1 + run) run b,
      take-add 1 run b,
      bytes_of_le 1 b byte (omega arith),
      bytes_of_at run 1 b byte (omega arith),
      bytes_of_at run (1 + run) b byte (omega arith),
      bytes_of_at 2 (1 + run + run) b byte (omega arith),
      bytes_of_at 2 (1 + run + run + 2) b byte (omega arith),
    )
    (simp append_assoc)

pub input : (run : ℕ) → Codec (input_bytes run) (input_of run) (1 + run + run + 2 + 2) (TypedInput run)
unfolding input_bytes
input run = record { wide = input_wide run; back = input_back run; forth = input_forth run }

pub coefficient : Codec coefficient_bytes coefficient_of 1 (SFits w8)
unfolding coefficient_bytes coefficient_of
coefficient = record {
  wide = coefficient_wide;
  back = λ x t h. to_z-of_z h;
  forth = λ b byte h. rw (take_firsts 1 b h, of_z-to_z {w = w8} (record { fits = byte 0 }));
}

pub slot : Codec slot_bytes slot_of 2 (λ _. Unit {0})
unfolding slot_bytes slot_of
slot = record { wide = slot_wide; back = λ x t h. refl; forth = λ b byte h. rw (take_firsts 2 b h) (simp get_or-drop) }

window_forth : (b : List ℕ) → Bytes b → 4 ≤ length b → window_bytes (window_of b) ≡ take 4 b
unfolding window_bytes window_of
window_forth b byte h = rw (bytes_of_le 2 b byte (omega arith), bytes_of_at 2 2 b byte h) (sym (take-add 2 2 b))

pub window : Codec window_bytes window_of 4 TypedWindow
unfolding window_bytes window_of bytes_of
window = record {
  wide = window_wide;
  back = λ x t h. rw (le_bytes_of 2 x.first (bytes_of 2 x.end ++ t) h.0, le_bytes_of 2 x.end t h.1);
  forth = window_forth;
}

pub season : Codec season_bytes season_of 4 (λ _. Unit {0})
unfolding season_bytes season_of date_in
season = record { wide = season_wide; back = λ x t h. refl; forth = λ b byte h. rw (take_firsts 4 b h) (simp (get_or-drop, drop-drop)) }

pub holiday : Codec holiday_bytes holiday_of 4 TypedHoliday
unfolding holiday_bytes holiday_of
holiday = record {
  wide = holiday_wide;
  back = λ x t h. rw (le_bytes_of 2 x.year t h);
  forth = λ b byte h. rw (bytes_of_at 2 2 b byte h, take-add 2 2 b, take_firsts 2 b (omega arith)) (simp get_or-drop);
}

pub rule : Codec rule_bytes rule_of 2 (λ _. Unit {0})
unfolding rule_bytes rule_of
rule = record { wide = rule_wide; back = λ x t h. refl; forth = λ b byte h. rw (take_firsts 2 b h) (simp get_or-drop) }

pub register : Codec register_bytes register_in 2 (λ _. Unit {0})
unfolding register_bytes register_in
register = record { wide = register_wide; back = λ x t h. refl; forth = λ b byte h. rw (take_firsts 2 b h) (simp get_or-drop) }

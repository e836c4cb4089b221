-- What a search by the code finds, said of the rules.
use mathlib.Core.Path.{◌≡◌}
use mathlib.Core.Bool.{true, false}
use mathlib.Core.Option.{some, none}
use mathlib.Core.List.{List}
use Prim.Native.Nat.{ℕ, ◌+◌, ◌-◌, ◌*◌, ◌<◌}
use native.Mathlib.Omega.{arith}
use lib.ListN.{get_or, take, drop, length}
use Rattle.std.proofs.Common.{length-drop}
use Rattle.std.proofs.lemmas.List.{get_or-take, get_or-drop, length-take}
use borrow.Author.Tests.{lt-ltb}
use Rattle.laws.proofs.Any.{any_at, any_none}
use Rattle.laws.proofs.First.{first_is, first_none}
use Rattle.tariff.specs.Daily.{in_window, zero_window, window_at, daily_active}
use Rattle.tariff.specs.Weekly.{holiday_fits, holiday_at, first_holiday}
use Rattle.tariff.specs.declared.Window.{Window}
use Rattle.tariff.specs.declared.Program.{Program}

-- the windows of a daily rule, as the code takes them out of the program
abbrev pub windows_of : Program → ℕ → List Window
windows_of p rule = take (rule * 4 + 4 - rule * 4) (drop (rule * 4) p.windows)

module _ (p : Program) (rule minute : ℕ) (h : rule < 32) (l : length p.windows ≡ 128) where
  -- they are four
  four : length (windows_of p rule) ≡ 4
  four = omega (arith, length-take {A = Window}, length-drop {A = Window})

  -- window k of the rule is one of them
  window_of : (k : ℕ) → k < 4 → get_or (windows_of p rule) k zero_window ≡ window_at p rule k
  window_of k b =
      let n : rule * 4 + 4 - rule * 4 ≡ 4 = omega arith in
      rw (n, get_or-take 4 (drop (rule * 4) p.windows) k zero_window b, get_or-drop (rule * 4) p.windows k zero_window)

  -- the rule is active, if one of them is
  pub daily_on : (k : ℕ) → k < length (windows_of p rule) → in_window (get_or (windows_of p rule) k zero_window) minute ≡ true → true ≡ daily_active p rule minute
  unfolding daily_active
  daily_on k b t =
      let below : k < 4 = omega (arith, four) in
      rw (lt-ltb rule 32 h, any_at 4 (λ i. in_window (window_at p rule i) minute) k below (rw (window_of k below) at t))

  -- and not, if none of them is
  pub daily_off : ((j : ℕ) → j < length (windows_of p rule) → in_window (get_or (windows_of p rule) j zero_window) minute ≡ false) → false ≡ daily_active p rule minute
  unfolding daily_active
  daily_off off =
      rw (lt-ltb rule 32 h, any_none 4 (λ k. in_window (window_at p rule k) minute) (λ j b. rw (window_of j b) at (off j (omega (arith, four)))))

-- holiday k is found, if it is the first that fits
pub holiday_found : (p : Program) (day month year k : ℕ) → k < 32 → holiday_fits (holiday_at p k) day month year ≡ true
    → ((j : ℕ) → j < k → holiday_fits (holiday_at p j) day month year ≡ false) → some k ≡ first_holiday p day month year
unfolding first_holiday
holiday_found p day month year k h t before = simp (first_is 32 (λ i. holiday_fits (holiday_at p i) day month year) k h t before, lt-ltb k 32 h)

-- and none, if none fits
pub holiday_none : (p : Program) (day month year : ℕ) → ((j : ℕ) → j < 32 → holiday_fits (holiday_at p j) day month year ≡ false) → none ≡ first_holiday p day month year
unfolding first_holiday
holiday_none p day month year off = simp (first_none 32 (λ i. holiday_fits (holiday_at p i) day month year) off)

-- The place of a value (specs/DataSets.antt): what its tests come to, one after another; it stands within the line, and has a letter.
use Rattle.std.specs.Prelude.{if◌then◌else◌}
use mathlib.Core.Path.{◌≡◌, refl, sym, ap, ◌∙◌}
use mathlib.Core.Bool.{Bool, true, false, ◌&&◌, true≢false}
use Rattle.std.proofs.Math.Bool.{and-true, and-false}
use mathlib.Core.List.{List, [], ◌∷◌, ◌++◌}
use Prim.Native.Nat.{ℕ, ◌+◌, ◌-◌, ◌≤◌}
use native.Mathlib.Omega.{arith}
use borrow.Author.Tests.{eq-eqb, ne_eqb, leb-true, eqb-true}
use denote.Ref.{Bor}
use lib.Dec.{leb, eqb}
use lib.Seq.{length-take-le, take_all, get_or-drop, drop-drop}
use Rattle.std.specs.List.{list_all}
use lib.ListN.{length, get_or, take, drop, length-drop, take-append-drop, drop_of_length-le}
use Rattle.laws.specs.Answers.{given, refused}
use Rattle.laws.specs.Leading.{leading}
use Rattle.laws.proofs.Answers.{by_answer}
use Rattle.laws.proofs.Leading.{leading_most, leading_each, leading_exactly}
use Rattle.laws.proofs.Suffixes.{inside, at_letter}
use Rattle.laws.proofs.Tests.{by_test, and_left, and_right, and_both}
use Rattle.readout.specs.Answers.{value_part, line_number}
use Rattle.readout.specs.Numbers.{whole_number}
use Rattle.readout.specs.declared.data_sets.Place.{Place}
use Rattle.readout.specs.DataSets.{AllOf, address_letter, value_letter, between, closes_at, letters_at, ends_at, value_place}

-- letters that are tested one after another, or each by itself
each_passes : (p : ℕ → Bool) (l : List ℕ) → list_all p l ≡ true → AllOf p l
each_passes p [] e = tt
each_passes p (b ∷ rest) e = (and_left (p b) (list_all p rest) e, each_passes p rest (and_right (p b) (list_all p rest) e))

all_pass : (p : ℕ → Bool) (l : List ℕ) → AllOf p l → list_all p l ≡ true
all_pass p [] h = refl
all_pass p (b ∷ rest) h = and_both (p b) (list_all p rest) h.0 (all_pass p rest h.1)

-- What stands behind a value

-- a line from a place on
module _ (line : List ℕ) (at : ℕ) (inside : at ≤ length line) where
  from_at : (k : ℕ) → closes_at line (at + k) ≡ closes_at (drop at line) k
  from_at k =
      let l = length-drop at line in
      let e : eqb (length line) (at + k + 1) ≡ eqb (length (drop at line)) (k + 1) =
      by_test (eqb (length line) (at + k + 1))
      (λ t. let q = eqb-true (length line) (at + k + 1) t in rw t (sym (eq-eqb (length (drop at line)) (k + 1) (omega arith))))
      (λ t. rw t (sym (ne_eqb (length (drop at line)) (k + 1) (λ q. absurd (true≢false (sym (eq-eqb (length line) (at + k + 1) (omega arith)) ∙ t)))))) in
      rw (get_or-drop at line k 0, e)

  ends_from : ends_at line at ≡ ends_at (drop at line) 0
  unfolding ends_at
  ends_from =
      let n = letters_at line (at + 1) in
      let z : at + 0 ≡ at = omega arith in
      let k : at + (1 + n) ≡ at + 1 + n = omega arith in
      let e₁ : closes_at line at ≡ closes_at (drop at line) 0 = ap (closes_at line) (sym z) ∙ from_at 0 in
      let e₂ : get_or line at 0 ≡ get_or (drop at line) 0 0 = ap (λ i. get_or line i 0) (sym z) ∙ sym (get_or-drop at line 0 0) in
      let e₃ : letters_at (drop at line) 1 ≡ n = ap (leading value_letter) (drop-drop 1 at line) in
      let e₄ : closes_at line (at + 1 + n) ≡ closes_at (drop at line) (1 + n) = ap (closes_at line) (sym k) ∙ from_at (1 + n) in
      rw (e₁, e₂, e₄, e₃)

-- what ends a line
module _ (rest : List ℕ) where
  abbrev unit : List ℕ
  unit = take (length rest - 1 - 1) (drop 1 rest)

  abbrev n : ℕ
  n = leading value_letter (drop 1 rest)

  -- a bracket alone
  pub ends_closed : length rest ≡ 1 → get_or rest 0 0 ≡ 41 → ends_at rest 0 ≡ true
  unfolding ends_at
  ends_closed e h = rw (h, e)

  -- a star in front and a bracket behind
  pub ends_starred : 2 ≤ length rest → get_or rest 0 0 ≡ 42 → get_or rest (length rest - 1) 0 ≡ 41
      → ends_at rest 0 ≡ (between 1 16 (length unit) && list_all value_letter unit)
  unfolding ends_at
  ends_starred h star bracket =
      let k = length rest - 1 - 1 in
      let inner = drop 1 rest in
      let size : length inner ≡ length rest - 1 = length-drop 1 rest in
      let long : length unit ≡ k = length-take-le k inner (omega arith) in
      let last : length rest - 1 ≡ 1 + k = omega arith in
      let past : length inner ≤ k + 1 = omega arith in
      let bracket_from : drop k inner ≡ 41 ∷ [] =
      at_letter inner k 41 (omega arith) (get_or-drop 1 rest k 0 ∙ ap (λ i. get_or rest i 0) (sym last) ∙ bracket) ∙ ap (λ r. 41 ∷ r) (drop_of_length-le inner past) in
      rw star
      (by_test (list_all value_letter unit)
      (λ t.
      let split : inner ≡ unit ++ (41 ∷ []) = sym (take-append-drop k inner) ∙ ap (λ r. unit ++ r) bracket_from in
      let all : n ≡ k = ap (leading value_letter) split ∙ leading_exactly value_letter unit 41 [] (each_passes value_letter unit t) refl ∙ long in
      rw (t, long, all, ← last, bracket, eq-eqb (length rest) (length rest - 1 + 1) (omega arith)))
      (λ t.
      by_test (closes_at rest (1 + n))
      (λ c.
      let e = eqb-true (length rest) (1 + n + 1) (and_right (eqb (get_or rest (1 + n) 0) 41) (eqb (length rest) (1 + n + 1)) c) in
      let all : n ≡ k = omega arith in
      absurd (true≢false (sym (all_pass value_letter unit (rw all at (leading_each value_letter inner))) ∙ t)))
      (λ c. rw (c, t, and-false (between 1 16 n), and-false (between 1 16 (length unit))))))

  -- and nothing else does
  pub ends_other : ((length rest ≡ 1) × (get_or rest 0 0 ≡ 41) → ⊥) → ((2 ≤ length rest) × (get_or rest 0 0 ≡ 42) × (get_or rest (length rest - 1) 0 ≡ 41) → ⊥)
      → ends_at rest 0 ≡ false
  unfolding ends_at
  ends_other closed starred =
      by_test (closes_at rest 0)
      (λ c. absurd (closed (eqb-true (length rest) 1 (and_right (eqb (get_or rest 0 0) 41) (eqb (length rest) 1) c), eqb-true (get_or rest 0 0) 41 (and_left (eqb (get_or rest 0 0) 41) (eqb (length rest) 1) c))))
      (λ c.
      by_test (eqb (get_or rest 0 0) 42)
      (λ t.
      by_test (closes_at rest (1 + n))
      (λ d.
      let e = eqb-true (length rest) (1 + n + 1) (and_right (eqb (get_or rest (1 + n) 0) 41) (eqb (length rest) (1 + n + 1)) d) in
      let last : length rest - 1 ≡ 1 + n = omega arith in
      absurd (starred (omega arith, eqb-true (get_or rest 0 0) 42 t, rw last (eqb-true (get_or rest (1 + n) 0) 41 (and_left (eqb (get_or rest (1 + n) 0) 41) (eqb (length rest) (1 + n + 1)) d)))))
      (λ d. rw (c, t, d) (and-false (between 1 16 n))))
      (λ t. rw (c, t)))

-- Where a value stands

-- no bracket follows the address
place_other : (line : List ℕ) → (get_or line (leading address_letter line) 0 ≡ 40 → ⊥) → value_place line ≡ refused 17 0
unfolding value_place
place_other line h =
    let a = leading address_letter line in
    rw (ne_eqb (get_or line a 0) 40 h) (by_test (leb a 16) (λ t. rw t) (λ t. rw t))

-- one does
pub place_from : (line : List ℕ) → let a = leading address_letter line in
    get_or line a 0 ≡ 40 →
    let from = drop (a + 1) line in
    let value = leading value_letter from in
    value_place line ≡ (if leb a 16 && between 1 32 value && ends_at (drop value from) 0 then given (record { start = a + 1; length = value }) else refused 17 0)
unfolding value_place
place_from line g =
    let a = leading address_letter line in
    let from = drop (a + 1) line in
    let value = leading value_letter from in
    let i = inside line a 40 (omega arith) g in
    let m = leading_most value_letter from in
    let l = length-drop (a + 1) line in
    let behind : ends_at line (a + 1 + value) ≡ ends_at (drop value from) 0 =
    ends_from line (a + 1 + value) (omega arith) ∙ ap (λ r. ends_at r 0) (sym (drop-drop value (a + 1) line)) in
    rw (eq-eqb (get_or line a 0) 40 g, behind, and-true (leb a 16))

-- a line split behind its address
module _ (line : List ℕ) {n : ℕ} {address rest : List ℕ} (count : n ≡ leading address_letter line) (front : address ≡ take n line) (back : rest ≡ drop n line) where
  first : get_or rest 0 0 ≡ get_or line (leading address_letter line) 0
  first = rw (back, count) (get_or-drop (leading address_letter line) line 0 0 ∙ ap (λ i. get_or line i 0) (omega arith))

  pub split_other : (get_or rest 0 0 ≡ 40 → ⊥) → value_place line ≡ refused 17 0
  split_other h = place_other line (λ e. h (first ∙ e))

  -- and what follows the bracket split behind the value
  pub split_from : {m : ℕ} {value behind : List ℕ} → 1 ≤ length rest → get_or rest 0 0 ≡ 40 →
      let inner = take (length rest - 1) (drop 1 rest) in
      m ≡ leading value_letter inner → value ≡ take m inner → behind ≡ drop m inner
      → value_place line
      ≡ (if leb (length address) 16 && between 1 32 (length value) && ends_at behind 0 then given (record { start = length address + 1; length = length value }) else refused 17 0)
  split_from {m} {value} {behind} h e size value_is behind_is =
      let inner = take (length rest - 1) (drop 1 rest) in
      let a = leading address_letter line in
      let from : inner ≡ drop (a + 1) line = take_all (length rest - 1) (drop 1 rest) (rw length-drop (omega arith)) ∙ ap (drop 1) (back ∙ ap (λ k. drop k line) count) ∙ drop-drop 1 a line in
      let address_size : length address ≡ a = rw (front, count) (length-take-le a line (leading_most address_letter line)) in
      let v : m ≡ leading value_letter (drop (a + 1) line) = size ∙ ap (leading value_letter) from in
      let value_size : length value ≡ m = rw (value_is, size) (length-take-le (leading value_letter inner) inner (leading_most value_letter inner)) in
      rw (value_size, behind_is, address_size, from, v) (place_from line (sym first ∙ e))

module _ (line : List ℕ) where
  -- the tests of a place that is found
  pub found : (p : Place) → value_place line ≡ given p →
      let address = leading address_letter line in
      let value = letters_at line (address + 1) in
      ((leb address 16 && eqb (get_or line address 0) 40 && between 1 32 value && ends_at line (address + 1 + value)) ≡ true)
      × (p ≡ record { start = address + 1; length = value })
  unfolding value_place
  found p e =
      let address = leading address_letter line in
      let value = letters_at line (address + 1) in
      by_test (leb address 16 && eqb (get_or line address 0) 40 && between 1 32 value && ends_at line (address + 1 + value))
      (λ t. (t, let g = rw t at e in cc))
      (λ t. let g = rw t at e in absurd (let z : ◌≡◌ {A = ℕ} 0 1 = cc in omega arith))

  -- the value has a letter, and stands within the line
  pub place_facts : (p : Place) → value_place line ≡ given p → (1 ≤ p.length) × (p.start + p.length ≤ length line)
  place_facts p e =
      let address = leading address_letter line in
      let value = letters_at line (address + 1) in
      let t = found p e in
      let front = leb address 16 && eqb (get_or line address 0) 40 in
      let tests = and_left (front && between 1 32 value) (ends_at line (address + 1 + value)) t.0 in
      let bracket = eqb-true _ _ (and_right (leb address 16) (eqb (get_or line address 0) 40) (and_left front (between 1 32 value) tests)) in
      let sizes = and_right front (between 1 32 value) tests in
      let least = leb-true 1 value (and_left (leb 1 value) (leb value 32) sizes) in
      let i = inside line address 40 (omega arith) bracket in
      let m = leading_most value_letter (drop (address + 1) line) in
      let l = length-drop (address + 1) line in
      rw t.1 (least, omega arith)

  -- no other refusal
  pub only_17 : (n offset : ℕ) → value_place line ≡ refused n offset → (n ≡ 17) × (offset ≡ 0)
  unfolding value_place
  only_17 n offset e =
      let address = leading address_letter line in
      let value = letters_at line (address + 1) in
      by_test (leb address 16 && eqb (get_or line address 0) 40 && between 1 32 value && ends_at line (address + 1 + value))
      (λ t. let g = rw t at e in absurd (let z : ◌≡◌ {A = ℕ} 0 1 = cc in omega arith))
      (λ t. let g = rw t at e in ((cc), (cc)))

-- the bytes of the part that is handed back: none where the line is no data set, and else the value's
module _ (x : Bor (List ℕ)) (d : ℕ) where
  pub no_value : length (value_part x).bytes ≡ 0 → line_number x.now d ≡ refused 17 0
  unfolding line_number
  no_value e =
      by_answer (value_place x.now)
      (λ p g.
      let f = place_facts x.now p g in
      let k : length (take p.length (drop p.start x.now)) ≡ 0 = rw g at e in
      let m : length (take p.length (drop p.start x.now)) ≡ p.length = length-take-le p.length (drop p.start x.now) (rw length-drop (omega arith)) in
      absurd (omega arith))
      (λ n offset g. let o = only_17 x.now n offset g in rw (g, o.0, o.1))

  pub some_value : (length (value_part x).bytes ≡ 0 → ⊥) → line_number x.now d ≡ whole_number (value_part x).bytes d
  unfolding line_number
  some_value h = by_answer (value_place x.now) (λ p g. rw g) (λ n offset g. absurd (h (rw g refl)))

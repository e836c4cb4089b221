-- A number's form and its text are found from one another (specs/Formats.antt, specs/Written.antt): what is read at a place of a string, part by part.
use mathlib.Core.Path.{◌≡◌, refl, sym, ap, ◌∙◌}
use mathlib.Core.Bool.{Bool, true, false, true≢false, not, ◌&&◌, ◌||◌}
use mathlib.Core.List.{List, [], ◌∷◌, ◌++◌}
use Prim.Native.Nat.{ℕ, ◌+◌, ◌-◌, ◌*◌, ◌%◌, ◌/◌, ◌≤◌, ◌<◌}
use native.Mathlib.Nat.{add-zero}
use native.Mathlib.Omega.{arith}
use borrow.Author.Tests.{eq-eqb, ne_eqb, eqb-true, eqb-false, lt-ltb, le-ltb, le-leb, leb-true, leb-false}
use lib.Dec.{leb, eqb}
use lib.ListN.{get_or, drop}
use lib.Seq.{get_or-drop}
use Rattle.laws.specs.Decimals.{is_digit, decimal_in}
use Rattle.laws.specs.Masks.{bit}
use Rattle.laws.proofs.Suffixes.{head_at, next_at, at_letter}
use Rattle.laws.proofs.Tests.{by_test, and_left, and_right, and_both}
use Rattle.display.specs.Formats.{width_of, width_bytes, decimals_of}
use Rattle.display.specs.Written.{optional, width_text, decimals_text}

-- Widths

-- how a width is written, and how many digits it has
module _ (w : ℕ) where
  -- a width of one digit
  width_one : 1 ≤ w → w ≤ 9 → width_text w ≡ (48 + w) ∷ []
  unfolding decimal_in
  width_one h g = let e : 48 + w % 10 ≡ 48 + w = omega arith in rw (ne_eqb w 0 (λ z. omega arith), lt-ltb w 10 (omega arith), e) refl

  -- a width of two
  width_two : 10 ≤ w → w ≤ 16 → width_text w ≡ 49 ∷ (38 + w) ∷ []
  unfolding decimal_in
  width_two h g =
      let tens : w / 10 ≡ 1 = omega arith in
      let ones : 48 + w % 10 ≡ 38 + w = omega arith in
      rw (ne_eqb w 0 (λ z. omega arith), le-ltb w 10 h, tens, ones) refl

  -- one digit
  bytes_one : 1 ≤ w → w ≤ 9 → width_bytes w ≡ 1
  bytes_one h g = rw (ne_eqb w 0 (λ z. omega arith), lt-ltb w 10 (omega arith)) refl

  -- two digits
  bytes_two : 10 ≤ w → width_bytes w ≡ 2
  bytes_two h = rw (ne_eqb w 0 (λ z. omega arith), le-ltb w 10 h) refl

-- the width that is read from two letters
module _ (b c : ℕ) where
  -- two digits, 10 to 16
  read_two : b ≡ 49 → 48 ≤ c → c ≤ 54 → width_of b c ≡ 10 + (c - 48)
  unfolding width_of
  read_two e h g = rw (eq-eqb b 49 e, le-leb 48 c h, le-leb c 54 g) refl

  -- one digit, 1 to 9
  read_one : (eqb b 49 && (leb 48 c && leb c 54)) ≡ false → 49 ≤ b → b ≤ 57 → width_of b c ≡ b - 48
  unfolding width_of
  read_one t h g = rw (t, le-leb 49 b h, le-leb b 57 g) refl

  -- none
  read_none : (leb 49 b && leb b 57) ≡ false → width_of b c ≡ 0
  unfolding width_of
  read_none t =
      let other : eqb b 49 ≡ false = ne_eqb b 49 (λ e. true≢false (sym (and_both (leb 49 b) (leb b 57) (le-leb 49 b (omega arith)) (le-leb b 57 (omega arith))) ∙ t)) in
      rw (other, t) refl

-- What is read at a place stands there

module _ (l : List ℕ) (k : ℕ) where
  -- a letter that may stand or not
  pub optional_stands : (b : ℕ) → 0 < b → drop k l ≡ optional (eqb (get_or l k 0) b) b ++ drop (k + bit (eqb (get_or l k 0) b)) l
  optional_stands b h =
      by_test (eqb (get_or l k 0) b) (λ t. rw t (at_letter l k b h (eqb-true _ b t)))
      (λ t. rw t (ap (λ (n : ℕ). drop n l) (sym (add-zero k))))

  -- a width stands there, of at most 16
  abbrev Width : ℕ → Type 0
  Width w = (w ≤ 16) × (drop k l ≡ width_text w ++ drop (k + width_bytes w) l)

  -- a width in two digits
  width_of_two : (c : ℕ) → get_or l k 0 ≡ 49 → get_or l (k + 1) 0 ≡ c → 48 ≤ c → c ≤ 54 → Width (10 + (c - 48))
  width_of_two c e f h g =
      let w : ℕ = 10 + (c - 48) in
      let same : 38 + w ≡ c = omega arith in
      let next : k + 1 + 1 ≡ k + 2 = omega arith in
      rw (width_two w (omega arith) (omega arith), bytes_two w (omega arith)) (
        omega arith,
        at_letter l k 49 (omega arith) e
            ∙ ap (λ (x : List ℕ). 49 ∷ x) (at_letter l (k + 1) c (omega arith) f)
            ∙ rw (same, next) refl,
      )

  -- a width in one digit
  width_of_one : (b : ℕ) → get_or l k 0 ≡ b → 49 ≤ b → b ≤ 57 → Width (b - 48)
  width_of_one b e h g =
      let w : ℕ = b - 48 in
      let same : 48 + w ≡ b = omega arith in
      rw (width_one w (omega arith) (omega arith), bytes_one w (omega arith) (omega arith))
      (omega arith, at_letter l k b (omega arith) e ∙ rw same refl)

  -- the width that is read, whether there is one or not
  pub width_stands : Width (width_of (get_or l k 0) (get_or l (k + 1) 0))
  width_stands =
      let b = get_or l k 0 in
      let c = get_or l (k + 1) 0 in
      by_test (eqb b 49 && (leb 48 c && leb c 54))
      (λ t.
      let e = eqb-true b 49 (and_left (eqb b 49) (leb 48 c && leb c 54) t) in
      let r = and_right (eqb b 49) (leb 48 c && leb c 54) t in
      let h = leb-true 48 c (and_left (leb 48 c) (leb c 54) r) in
      let g = leb-true c 54 (and_right (leb 48 c) (leb c 54) r) in
      rw (read_two b c e h g) (width_of_two c e refl h g))
      (λ t.
      by_test (leb 49 b && leb b 57)
      (λ u.
      let h = leb-true 49 b (and_left (leb 49 b) (leb b 57) u) in
      let g = leb-true b 57 (and_right (leb 49 b) (leb b 57) u) in
      rw (read_one b c t h g) (width_of_one b refl h g))
      (λ u. rw (read_none b c u) (omega arith, ap (λ (n : ℕ). drop n l) (sym (add-zero k)))))

  -- a point with its digit, or none
  pub point_stands : (p : Bool) → eqb (get_or l k 0) 46 ≡ p → (not p || is_digit (get_or l (k + 1) 0)) ≡ true
      → (decimals_of p (get_or l (k + 1) 0) ≤ 9) × (drop k l ≡ decimals_text p (decimals_of p (get_or l (k + 1) 0)) ++ drop (k + 2 * bit p) l)
  point_stands true t u =
      let c = get_or l (k + 1) 0 in
      let h = leb-true 48 c (and_left (leb 48 c) (leb c 57) u) in
      let g = leb-true c 57 (and_right (leb 48 c) (leb c 57) u) in
      let same : 48 + (c - 48) ≡ c = omega arith in
      let next : k + 1 + 1 ≡ k + 2 = omega arith in
      rw u (
        omega arith,
        at_letter l k 46 (omega arith) (eqb-true _ 46 t) ∙ ap (λ (x : List ℕ). 46 ∷ x) (at_letter l (k + 1) c (omega arith) refl) ∙ rw (same, next) refl,
      )
  point_stands false t u = (omega arith, ap (λ (n : ℕ). drop n l) (sym (add-zero k)))

-- What stands at a place is read there

-- a letter that is no digit is none of some digits
outside : (b low high : ℕ) → 48 ≤ low → high ≤ 57 → is_digit b ≡ false → (leb low b && leb b high) ≡ false
outside b low high f g other =
    by_test (leb low b && leb b high)
    (λ t.
    let h = leb-true low b (and_left (leb low b) (leb b high) t) in
    let m = leb-true b high (and_right (leb low b) (leb b high) t) in
    absurd (true≢false (sym (and_both (leb 48 b) (leb b 57) (le-leb 48 b (omega arith)) (le-leb b 57 (omega arith))) ∙ other)))
    (λ t. t)

-- the letter at a place begins what stands there
first_at : (l : List ℕ) (k : ℕ) (t : List ℕ) → drop k l ≡ t → get_or l k 0 ≡ get_or t 0 0
first_at l k t e = ap (λ (n : ℕ). get_or l n 0) (sym (add-zero k)) ∙ sym (get_or-drop k l 0 0) ∙ ap (λ (x : List ℕ). get_or x 0 0) e

module _ (l : List ℕ) (k : ℕ) where
  -- nothing is passed over
  over_none : (t : List ℕ) → drop k l ≡ t → drop (k + 0) l ≡ t
  over_none t e = ap (λ (n : ℕ). drop n l) (add-zero k) ∙ e

  -- a letter that may stand or not, if what follows it begins with another
  pub optional_read : (z : Bool) (b : ℕ) (t : List ℕ) → drop k l ≡ optional z b ++ t → (get_or t 0 0 ≡ b → ⊥) → (eqb (get_or l k 0) b ≡ z) × (drop (k + bit z) l ≡ t)
  optional_read true b t e other = (eq-eqb _ b (head_at l k b t e), next_at l k b t e)
  optional_read false b t e other = (ne_eqb _ b (λ f. other (sym (first_at l k t e) ∙ f)), over_none t e)

  -- a width, if no digit follows it
  pub width_read : (w : ℕ) (t : List ℕ) → w ≤ 16 → drop k l ≡ width_text w ++ t → is_digit (get_or t 0 0) ≡ false
      → (width_of (get_or l k 0) (get_or l (k + 1) 0) ≡ w) × (drop (k + width_bytes w) l ≡ t)
  width_read w t most e other =
      let b = get_or l k 0 in
      let c = get_or l (k + 1) 0 in
      by_test (eqb w 0)
      (λ z.
      let n = eqb-true w 0 z in
      let f : drop k l ≡ t = rw z at e in
      let none : is_digit b ≡ false = ap is_digit (first_at l k t f) ∙ other in
      rw n (read_none b c (outside b 49 57 (omega arith) (omega arith) none), over_none t f))
      (λ z.
      let some : 1 ≤ w = omega (arith, eqb-false w 0 z) in
      by_test (leb w 9)
      (λ s.
      let short = leb-true w 9 s in
      let f : drop k l ≡ (48 + w) ∷ t = rw (width_one w some short) at e in
      let here = head_at l k (48 + w) t f in
      let behind = next_at l k (48 + w) t f in
      let no_second : (eqb b 49 && (leb 48 c && leb c 54)) ≡ false =
      by_test (eqb b 49 && (leb 48 c && leb c 54))
      (λ u.
      absurd
      (true≢false
      (sym (and_right (eqb b 49) (leb 48 c && leb c 54) u) ∙ outside c 48 54 (omega arith) (omega arith) (ap is_digit (first_at l (k + 1) t behind) ∙ other))))
      (λ u. u) in
      (read_one b c no_second (omega arith) (omega arith) ∙ (omega arith), rw (bytes_one w some short) behind))
      (λ s.
      let long : 10 ≤ w = leb-false w 9 s in
      let f : drop k l ≡ 49 ∷ (38 + w) ∷ t = rw (width_two w long most) at e in
      let second = next_at l k 49 ((38 + w) ∷ t) f in
      let there = head_at l (k + 1) (38 + w) t second in
      let next : k + 2 ≡ k + 1 + 1 = omega arith in (
        read_two b c (head_at l k 49 ((38 + w) ∷ t) f) (omega arith) (omega arith) ∙ (omega arith),
        rw (bytes_two w long, next) (next_at l (k + 1) (38 + w) t second),
      )))

  -- a point with its digit, if what follows is no point
  pub point_read : (p : Bool) (d : ℕ) (t : List ℕ) → drop k l ≡ decimals_text p d ++ t → (get_or t 0 0 ≡ 46 → ⊥)
      → (eqb (get_or l k 0) 46 ≡ p) × (p ≡ true → get_or l (k + 1) 0 ≡ 48 + d) × (drop (k + 2 * bit p) l ≡ t)
  point_read true d t e other =
      let digit_at = next_at l k 46 ((48 + d) ∷ t) e in
      let next : k + 2 ≡ k + 1 + 1 = omega arith in
      (eq-eqb _ 46 (head_at l k 46 ((48 + d) ∷ t) e), λ s. head_at l (k + 1) (48 + d) t digit_at, ap (λ (n : ℕ). drop n l) next ∙ next_at l (k + 1) (48 + d) t digit_at)
  point_read false d t e other = (ne_eqb _ 46 (λ f. other (sym (first_at l k t e) ∙ f)), (λ s. absurd (true≢false (sym s))), over_none t e)

-- a digit behind a point, and none without one
pub digit_read : (p : Bool) (d c : ℕ) → d ≤ 9 → (p ≡ false → d ≡ 0) → (p ≡ true → c ≡ 48 + d) → ((not p || is_digit c) ≡ true) × (decimals_of p c ≡ d)
digit_read true d c most without here =
    let e = here refl in
    let is : is_digit c ≡ true = and_both (leb 48 c) (leb c 57) (le-leb 48 c (omega arith)) (le-leb c 57 (omega arith)) in
    (is, rw is (omega arith))
digit_read false d c most without here = (refl, sym (without refl))

-- How a form begins

-- behind its zero, if there is one: with a digit that is no zero, a point, u or F
abbrev pub begins : ℕ → Bool
begins b = leb 49 b && leb b 57 || (eqb b 46 || (eqb b 117 || eqb b 70))

-- the point or what follows it
pub point_begins : (p : Bool) (d : ℕ) (u : Bool) (rest : List ℕ) → begins (get_or (decimals_text p d ++ (optional u 117 ++ (70 ∷ rest))) 0 0) ≡ true
point_begins true d u rest = refl
point_begins false d true rest = refl
point_begins false d false rest = refl

-- it is no digit
pub point_no_digit : (p : Bool) (d : ℕ) (u : Bool) (rest : List ℕ) → is_digit (get_or (decimals_text p d ++ (optional u 117 ++ (70 ∷ rest))) 0 0) ≡ false
point_no_digit true d u rest = refl
point_no_digit false d true rest = refl
point_no_digit false d false rest = refl

-- u or F is no point
pub unit_no_point : (u : Bool) (rest : List ℕ) → get_or (optional u 117 ++ (70 ∷ rest)) 0 0 ≡ 46 → ⊥
unit_no_point true rest e = omega arith
unit_no_point false rest e = omega arith

-- the width or what follows it
pub width_begins : (w : ℕ) (t : List ℕ) → w ≤ 16 → begins (get_or t 0 0) ≡ true → begins (get_or (width_text w ++ t) 0 0) ≡ true
width_begins w t most h =
    by_test (eqb w 0) (λ z. rw z h)
    (λ z.
    let some : 1 ≤ w = omega (arith, eqb-false w 0 z) in
    by_test (leb w 9)
    (λ s.
    let short = leb-true w 9 s in
    rw (width_one w some short, le-leb 49 (48 + w) (omega arith), le-leb (48 + w) 57 (omega arith)) refl)
    (λ s. rw (width_two w (leb-false w 9 s) most) refl))

-- a form begins with its zero, or else with what follows it, so with no other letter
pub zero_begins : (z : Bool) (t : List ℕ) (b : ℕ) → (48 ≡ b → ⊥) → begins b ≡ false → begins (get_or t 0 0) ≡ true → get_or (optional z 48 ++ t) 0 0 ≡ b → ⊥
zero_begins true t b other f h e = other e
zero_begins false t b other f h e = true≢false (sym h ∙ ap begins e ∙ f)

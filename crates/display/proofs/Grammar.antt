-- A format string means the parts that it is written as (specs/Laws.antt, MeansAsWritten).
use mathlib.Core.Path.{◌≡◌, refl, sym, ap, ◌∙◌}
use mathlib.Core.Bool.{Bool, true, false, true≢false, not, ◌&&◌, ◌||◌}
use mathlib.Core.List.{List, [], ◌∷◌, ◌++◌, append_assoc}
use mathlib.Core.Logic.{◌⊎◌, inl, inr, ⊎_elim}
use Prim.Native.Nat.{ℕ, zero, suc, ◌+◌, ◌*◌, ◌≤◌}
use native.Mathlib.Nat.{not-suc-le-zero, zero-add}
use native.Mathlib.Omega.{arith}
use borrow.Author.Tests.{eq-eqb, ne_eqb, eqb-true, eqb-false}
use lib.Dec.{eqb}
use lib.ListN.{length, get_or, drop, length-drop}
use lib.Seq.{drop-length}
use Rattle.laws.specs.Decimals.{is_digit}
use Rattle.laws.specs.Masks.{bit}
use Rattle.laws.proofs.If.{if_cases}
use Rattle.laws.proofs.Suffixes.{head_at, next_at, at_letter}
use Rattle.laws.proofs.Tests.{by_test, and_left, and_right, and_both}
use Rattle.display.specs.Formats.{FormatPart, letter, line_break, the_date, the_time, number, bad_format, Begun, begun, is_break, width_bytes, decimals_of, bad_in, number_specified, specification_in, parts_behind, meaning}
use Rattle.display.specs.Written.{optional, width_text, decimals_text, form_text, IsForm, Writes, WritesNumber, NoBreak, WrittenAs, NoSpecification}
use Rattle.display.specs.Laws.{BadBehind, MeansAsWritten}
use Rattle.display.specs.declared.formats.Form.{Form}
use Rattle.display.proofs.Specified.{zeros, first, width, point, pointed, digit, unit, shifted, last, form, number_is, whole}
use Rattle.display.proofs.FormTexts.{optional_stands, width_stands, point_stands, optional_read, width_read, point_read, digit_read, begins, point_begins, point_no_digit, unit_no_point, width_begins, zero_begins}
use Rattle.display.proofs.Pages.{parts_drop, percent_first, break_first, letter_first}

-- From what is read to what is written

-- a string begins with this specification, or with none
abbrev Reading : List ℕ → Begun → Type 0
Reading s x = (x ≡ bad_in s) ⊎ ((text : List ℕ) × Writes x.part (37 ∷ text) × (s ≡ text ++ drop x.bytes s))

-- a number that is read stands there
number_stands : (s : List ℕ) → whole s ≡ true → IsForm (form s) (pointed s) × (s ≡ form_text (form s) (pointed s) ++ drop (last s + 1) s)
number_stands s t =
    let f = eqb-true (get_or s (last s) 0) 70 (and_left (eqb (get_or s (last s) 0) 70) (not (pointed s) || is_digit (digit s)) t) in
    let digits = and_right (eqb (get_or s (last s) 0) 70) (not (pointed s) || is_digit (digit s)) t in
    let w = width_stands s (first s) in
    let p = point_stands s (point s) (pointed s) refl digits in
    let letters = at_letter s (last s) 70 (omega arith) f in
    let units = optional_stands s (unit s) 117 (omega arith) ∙ ap (λ (x : List ℕ). optional (shifted s) 117 ++ x) letters in
    let points = p.1 ∙ ap (λ (x : List ℕ). decimals_text (pointed s) (decimals_of (pointed s) (digit s)) ++ x) units in
    let widths = w.1 ∙ ap (λ (x : List ℕ). width_text (width s) ++ x) points in (
      record { width = w.0; decimals = p.0; without = λ e. rw e refl },
      optional_stands s 0 48 (omega arith) ∙ ap (λ (n : ℕ). optional (zeros s) 48 ++ drop n s) (zero-add (first s)) ∙ ap (λ (x : List ℕ). optional (zeros s) 48 ++ x) widths ∙ simp append_assoc,
    )

-- so of a number, read or not
number_reading : (s : List ℕ) → Reading s (number_specified s)
number_reading s =
    rw (number_is s)
    (if_cases (Reading s) (whole s)
    (λ t. let h = number_stands s t in inr (form_text (form s) (pointed s), (pointed s, h.0, refl), h.1))
    (λ t. inl refl))

-- and of any specification
reading : (s : List ℕ) → Reading s (specification_in s)
unfolding specification_in
reading s =
    if_cases (Reading s) (eqb (get_or s 0 0) 68)
    (λ t. inr (68 ∷ [], refl, at_letter s 0 68 (omega arith) (eqb-true _ 68 t)))
    (λ t.
    if_cases (Reading s) (eqb (get_or s 0 0) 84)
    (λ u. inr (84 ∷ [], refl, at_letter s 0 84 (omega arith) (eqb-true _ 84 u)))
    (λ u. number_reading s))

-- From what is written to what is read

-- a string begins with this specification, and what follows it is the rest
abbrev Read : List ℕ → Begun → FormatPart → List ℕ → Type 0
Read s x part rest = (n : ℕ) × (x ≡ begun part n) × (drop n s ≡ rest)

-- a number that stands at the beginning of a string
module _ (f : Form) (p : Bool) (ok : IsForm f p) (s rest : List ℕ) (is : s ≡ form_text f p ++ rest) where
  -- what stands from the unit on, from the point on, and from the width on
  abbrev unit_on : List ℕ
  unit_on = optional f.shifted 117 ++ (70 ∷ rest)

  abbrev point_on : List ℕ
  point_on = decimals_text p f.decimals ++ unit_on

  abbrev width_on : List ℕ
  width_on = width_text f.width ++ point_on

  -- the string from its zero on
  all : s ≡ optional f.zeros 48 ++ width_on
  all = is ∙ simp append_assoc

  -- how it begins from the width on
  front : begins (get_or width_on 0 0) ≡ true
  front = width_begins f.width point_on ok.width (point_begins p f.decimals f.shifted rest)

  -- so it begins with neither D nor T
  other : (b : ℕ) → (48 ≡ b → ⊥) → begins b ≡ false → eqb (get_or s 0 0) b ≡ false
  other b h g = ne_eqb _ b (λ e. zero_begins f.zeros width_on b h g front (ap (λ (x : List ℕ). get_or x 0 0) (sym all) ∙ e))

  -- it is read as a number
  number_read : Read s (number_specified s) (number f) rest
  number_read =
      let zero = optional_read s 0 f.zeros 48 width_on all (λ e. true≢false (sym front ∙ ap begins e)) in
      let width_at : ℕ = bit f.zeros in
      let a = rw (zero-add width_at) at zero in
      let b = width_read s width_at f.width point_on ok.width a.1 (point_no_digit p f.decimals f.shifted rest) in
      let point_at : ℕ = width_at + width_bytes f.width in
      let c = point_read s point_at p f.decimals unit_on b.1 (unit_no_point f.shifted rest) in
      let d = digit_read p f.decimals (get_or s (point_at + 1) 0) ok.decimals ok.without c.1 in
      let unit_at_lem : ℕ = point_at + 2 * bit p in
      let e = optional_read s unit_at_lem f.shifted 117 (70 ∷ rest) c.2 (λ h. omega arith) in
      let last_at : ℕ = unit_at_lem + bit f.shifted in (
        last_at + 1,
        number_is s ∙ rw a.0 (rw b.0 (rw c.0 (rw e.0 (rw (eq-eqb _ 70 (head_at s last_at 70 rest e.1), d.0, d.1) refl)))),
        next_at s last_at 70 rest e.1,
      )

  -- and as a specification
  form_read : Read s (specification_in s) (number f) rest
  unfolding specification_in
  form_read = rw (other 68 (λ e. omega arith) refl, other 84 (λ e. omega arith) refl) number_read

-- any specification that stands there is read
specification_read : (part : FormatPart) (text rest : List ℕ) → Writes part (37 ∷ text) → (s : List ℕ) → s ≡ text ++ rest → Read s (specification_in s) part rest
unfolding specification_in
specification_read (letter b) text rest w s e = absurd (w.1 (ap (λ (x : List ℕ). get_or x 0 0) (sym w.0)))
specification_read line_break text rest w s e = absurd (let h = ap (λ (x : List ℕ). get_or x 0 0) w in omega arith)
specification_read the_date text rest w s e =
    let is : s ≡ 68 ∷ rest = e ∙ ap (λ (x : List ℕ). drop 1 x ++ rest) w in
    (1, rw is refl, ap (drop 1) is)
specification_read the_time text rest w s e =
    let is : s ≡ 84 ∷ rest = e ∙ ap (λ (x : List ℕ). drop 1 x ++ rest) w in
    (1, rw is refl, ap (drop 1) is)
specification_read (number f) text rest w s e = form_read f w.0 w.1 s rest (e ∙ ap (λ (x : List ℕ). drop 1 x ++ rest) w.2)
specification_read bad_format text rest w s e = absurd w

-- The first part of a string

-- a string that begins with a specification
specified_first : (part : FormatPart) (text rest : List ℕ) → Writes part (37 ∷ text) → meaning ((37 ∷ text) ++ rest) ≡ part ∷ meaning rest
specified_first part text rest w =
    let r = specification_read part text rest w (text ++ rest) refl in
    percent_first (text ++ rest) ∙ rw r.1 (ap (λ (x : List FormatPart). part ∷ x) (parts_drop r.0 (text ++ rest) ∙ ap meaning r.2))

-- a letter that begins no line break
no_break : (b : ℕ) (rest : List ℕ) → NoBreak (letter b) rest → is_break (b ∷ rest) ≡ false
no_break b rest h =
    by_test (is_break (b ∷ rest))
    (λ t.
    absurd
    (h (ap letter (eqb-true b 92 (and_left (eqb b 92) (eqb (get_or rest 0 0) 110) t)))
    (eqb-true (get_or rest 0 0) 110 (and_right (eqb b 92) (eqb (get_or rest 0 0) 110) t))))
    (λ t. t)

-- a string that begins with any part means it, and then what the rest means
part_first : (part : FormatPart) (text rest : List ℕ) → Writes part text → NoBreak part rest → meaning (text ++ rest) ≡ part ∷ meaning rest
part_first (letter b) text rest w h = rw w.0 (letter_first b rest w.1 (no_break b rest h))
part_first line_break text rest w h = rw w (break_first 92 (110 ∷ rest) (λ e. omega arith) refl)
part_first the_date text rest w h = rw w (specified_first the_date (68 ∷ []) rest refl)
part_first the_time text rest w h = rw w (specified_first the_time (84 ∷ []) rest refl)
part_first (number f) text rest w h = rw w.2 (specified_first (number f) (form_text f w.0) rest (w.0, w.1, refl))
part_first bad_format text rest w h = absurd w

-- a number's specification means a number
pub number_first : (text rest : List ℕ) (w : WritesNumber text) → meaning (text ++ rest) ≡ number w.0 ∷ meaning rest
number_first text rest w = part_first (number w.0) text rest w.1 (λ e n. let z : ◌≡◌ {A = ℕ} 0 1 = cc in omega arith)

-- and it begins with a per cent, so with no n
pub number_no_n : (text rest : List ℕ) → WritesNumber text → get_or (text ++ rest) 0 0 ≡ 110 → ⊥
number_no_n text rest w e = let h = ap (λ (x : List ℕ). get_or (x ++ rest) 0 0) (sym w.1.2) ∙ e in omega arith

-- All parts of a string

-- a string means the parts that it is written as
each_means : (parts : List FormatPart) (format : List ℕ) → WrittenAs parts format → meaning format ≡ parts
unfolding parts_behind
each_means [] format e = ap meaning e
each_means (part ∷ parts) format h =
    ap meaning h.2 ∙ part_first part h.0 h.1 h.3 h.4 ∙ ap (λ (x : List FormatPart). part ∷ x) (each_means parts h.1 h.5)

-- a string is written as it means, or a bad specification stands in it
abbrev Found : List ℕ → Type 0
Found format = WrittenAs (meaning format) format ⊎ BadBehind format

-- the first letter of a list stays the first
pub first_same : (xs ys : List ℕ) → get_or xs 0 0 ≡ 110 → get_or (xs ++ ys) 0 0 ≡ 110
first_same [] ys e = absurd (omega arith)
first_same (b ∷ xs) ys e = e

-- the first letter of two lists is that of one of them
first_of : (xs ys : List ℕ) → get_or (xs ++ ys) 0 0 ≡ 110 → (get_or xs 0 0 ≡ 110) ⊎ (get_or ys 0 0 ≡ 110)
first_of [] ys e = inr e
first_of (b ∷ xs) ys e = inl e

-- parts before something that begins with no n mean themselves, and then what that means
pub means_before : (parts : List FormatPart) (text behind : List ℕ) → WrittenAs parts text → (get_or behind 0 0 ≡ 110 → ⊥) → meaning (text ++ behind) ≡ parts ++ meaning behind
means_before [] text behind e other = ap (λ (x : List ℕ). meaning (x ++ behind)) e
means_before (part ∷ parts) text behind h other =
    ap (λ (x : List ℕ). meaning (x ++ behind)) h.2 ∙ ap meaning (append_assoc h.0 h.1 behind)
    ∙ part_first part h.0 (h.1 ++ behind) h.3 (λ l n. ⊎_elim (h.4 l) other (first_of h.1 behind n))
    ∙ ap (λ (x : List FormatPart). part ∷ x) (means_before parts h.1 behind h.5 other)

-- one more part in front
module _ (part : FormatPart) (text rest format : List ℕ) (is : format ≡ text ++ rest) (w : Writes part text) (h : NoBreak part rest) where
  -- what the string means
  here : meaning format ≡ part ∷ meaning rest
  here = ap meaning is ∙ part_first part text rest w h

  -- the bad specification stands behind one more
  before_bad : BadBehind rest → BadBehind format
  before_bad b =
      record {
        parts = part ∷ b.parts;
        text = text ++ b.text;
        rest = b.rest;
        split = is ∙ ap (λ (x : List ℕ). text ++ x) b.split ∙ sym (append_assoc text b.text (37 ∷ b.rest));
        good = (text, b.text, refl, w, (λ l n. h l (ap (λ (x : List ℕ). get_or x 0 0) b.split ∙ first_same b.text (37 ∷ b.rest) n)), b.good);
        bad = b.bad;
        means = here ∙ ap (λ (x : List FormatPart). part ∷ x) b.means;
      }

  -- found in the rest, found in the string
  in_front_lem : Found rest → Found format
  in_front_lem r = ⊎_elim (λ g. inl (rw here (text, rest, is, w, h, g))) (λ b. inr (before_bad b)) r

-- where a bad specification is read, none stands
none_there : (s : List ℕ) → specification_in s ≡ bad_in s → NoSpecification s
none_there s bad part text rest e w =
    let r = specification_read part text rest w s e in
    let same : part ≡ bad_format = ap (λ (x : Begun). x.part) (sym r.1 ∙ bad) in
    rw same at w

-- it means FORMAT, and nothing behind it is read
bad_read : (s : List ℕ) → specification_in s ≡ bad_in s → meaning (37 ∷ s) ≡ bad_format ∷ []
unfolding parts_behind
bad_read s bad = percent_first s ∙ rw bad (ap (λ (x : List FormatPart). bad_format ∷ x) (parts_drop (length s) s ∙ ap meaning (drop-length s)))

-- so it is the first bad one
bad_found : (s : List ℕ) → specification_in s ≡ bad_in s → BadBehind (37 ∷ s)
bad_found s bad =
    record {
      parts = [];
      text = [];
      rest = s;
      split = refl;
      good = refl;
      bad = none_there s bad;
      means = bad_read s bad;
    }

-- a per cent with no specification behind it means FORMAT
pub bad_means : (s : List ℕ) → NoSpecification s → meaning (37 ∷ s) ≡ bad_format ∷ []
bad_means s none = ⊎_elim (bad_read s) (λ g. absurd (none (specification_in s).part g.0 (drop (specification_in s).bytes s) g.2 g.1)) (reading s)

-- a specification is no letter
no_letter : (part : FormatPart) (text rest : List ℕ) → Writes part (37 ∷ text) → NoBreak part rest
no_letter part text rest w e n =
    let v : Writes (letter 92) (37 ∷ text) = rw e at w in
    let h = ap (λ (x : List ℕ). get_or x 0 0) v.0 in
    omega arith

-- by the first letter, where all shorter strings are found
module _ (s : List ℕ) (shorter : (rest : List ℕ) → length rest ≤ length s → Found rest) where
  -- a specification
  percent_found : Found (37 ∷ s)
  percent_found =
      let x = specification_in s in
      ⊎_elim (λ bad. inr (bad_found s bad))
      (λ g.
      in_front_lem x.part (37 ∷ g.0) (drop x.bytes s) (37 ∷ s) (ap (λ (l : List ℕ). 37 ∷ l) g.2) g.1 (no_letter x.part g.0 (drop x.bytes s) g.1)
      (shorter (drop x.bytes s) (omega (arith, length-drop x.bytes s))))
      (reading s)

  -- a line break or plain text
  plain_found : (b : ℕ) → (b ≡ 37 → ⊥) → Found (b ∷ s)
  plain_found b other =
      let c = get_or s 0 0 in
      by_test (eqb b 92 && eqb c 110)
      (λ t.
      let slash = eqb-true b 92 (and_left (eqb b 92) (eqb c 110) t) in
      let n = at_letter s 0 110 (omega arith) (eqb-true c 110 (and_right (eqb b 92) (eqb c 110) t)) in
      let is : b ∷ s ≡ 92 ∷ 110 ∷ drop 1 s = ap (λ (x : ℕ). x ∷ s) slash ∙ ap (λ (l : List ℕ). 92 ∷ l) n in
      in_front_lem line_break (92 ∷ 110 ∷ []) (drop 1 s) (b ∷ s) is refl (λ e m. let z : ◌≡◌ {A = ℕ} 0 1 = cc in omega arith)
      (shorter (drop 1 s) (omega (arith, length-drop 1 s))))
      (λ t.
      in_front_lem (letter b) (b ∷ []) s (b ∷ s) refl (refl, other)
      (λ e m. let slash : b ≡ 92 = cc in true≢false (sym (and_both (eqb b 92) (eqb c 110) (eq-eqb b 92 slash) (eq-eqb c 110 m)) ∙ t))
      (shorter s (omega arith)))

  -- any of them
  letter_found : (b : ℕ) → Found (b ∷ s)
  letter_found b = by_test (eqb b 37) (λ t. rw (eqb-true b 37 t) percent_found) (λ t. plain_found b (eqb-false b 37 t))

-- any string of at most n letters
found_in : (n : ℕ) (format : List ℕ) → length format ≤ n → Found format
unfolding parts_behind
found_in zero [] h = inl refl
found_in (suc n) [] h = inl refl
found_in zero (b ∷ s) h = absurd (not-suc-le-zero h)
found_in (suc n) (b ∷ s) h = letter_found s (λ rest l. found_in n rest (omega arith)) b

-- the law
pub means_as_written : MeansAsWritten
means_as_written = record { each = each_means; found = λ format. found_in (length format) format (omega arith) }

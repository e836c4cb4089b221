-- Each line is the line of at most one data set, and the place of the value is found exactly where there is one (specs/Laws.antt, OneSplit).
use Rattle.std.specs.Prelude.{if◌then◌else◌}
use mathlib.Core.Path.{◌≡◌, refl, sym, ap, ◌∙◌}
use mathlib.Core.Bool.{true, ◌&&◌}
use mathlib.Core.List.{List, [], ◌∷◌, ◌++◌}
use Prim.Native.Nat.{ℕ, ◌+◌, ◌≤◌}
use native.Mathlib.Nat.{not-suc-le-zero}
use native.Mathlib.Omega.{arith}
use borrow.Author.Tests.{le-leb, eq-eqb, leb-true, eqb-true}
use lib.Dec.{leb, eqb}
use lib.ListN.{length, get_or, take, drop, take-append-drop, drop_of_length-le}
use lib.Seq.{drop-drop, length-take-le, take-append_seam, drop-append_seam}
use Rattle.laws.specs.Answers.{given}
use Rattle.laws.specs.Leading.{leading}
use Rattle.laws.proofs.Answers.{by_answer}
use Rattle.laws.proofs.Leading.{leading_exactly, leading_most, leading_each}
use Rattle.laws.proofs.Suffixes.{head_at, next_at, length_at, over_at, at_letter}
use Rattle.laws.proofs.Tests.{by_test, and_left, and_right, and_both, or_right}
use Rattle.readout.specs.declared.data_sets.Place.{Place}
use Rattle.readout.specs.DataSets.{AllOf, DataSet, address_letter, value_letter, starred, line_of, IsDataSet, between, closes_at, letters_at, ends_at, value_place}
use Rattle.readout.specs.Laws.{Found, OneSplit}
use Rattle.readout.proofs.Places.{place_from, found, only_17}

-- From a data set to its place

-- a count within its bounds
in_bounds : (least most n : ℕ) → least ≤ n → n ≤ most → between least most n ≡ true
in_bounds least most n h g = and_both (leb least n) (leb n most) (le-leb least n h) (le-leb n most g)

-- behind a value: a unit, if there is one, and the closing bracket
ends_of_lem : (unit : List ℕ) → AllOf value_letter unit → length unit ≤ 16 → ends_at (starred unit ++ (41 ∷ [])) 0 ≡ true
unfolding ends_at
ends_of_lem [] h l = refl
ends_of_lem (b ∷ rest) h l =
    let unit = b ∷ rest in
    let line = 42 ∷ unit ++ (41 ∷ []) in
    let end = 1 + length unit in
    let last : drop end line ≡ 41 ∷ [] = over_at line 1 unit (41 ∷ []) refl in
    let closed : closes_at line end ≡ true =
    and_both (eqb (get_or line end 0) 41) (eqb (length line) (end + 1)) (eq-eqb _ 41 (head_at line end 41 [] last)) (eq-eqb (length line) (end + 1) (length_at line end 41 [] last)) in
    rw (leading_exactly value_letter unit 41 [] h refl, in_bounds 1 16 (length unit) (omega arith) l, closed)

-- a letter that no value has begins what stands behind it
behind_value : (value unit : List ℕ) → AllOf value_letter value → leading value_letter (value ++ (starred unit ++ (41 ∷ []))) ≡ length value
behind_value value [] h = leading_exactly value_letter value 41 [] h refl
behind_value value (b ∷ rest) h = leading_exactly value_letter value 42 (b ∷ rest ++ (41 ∷ [])) h refl

-- what stands where in the line of a data set
module _ (d : DataSet) (r : IsDataSet d) where
  abbrev tail : List ℕ
  tail = d.value ++ (starred d.unit ++ (41 ∷ []))

  address_is : leading address_letter (line_of d) ≡ length d.address
  address_is = leading_exactly address_letter d.address 40 tail r.address_letters refl

  bracket_from : drop (length d.address) (line_of d) ≡ 40 ∷ tail
  bracket_from = drop-append_seam d.address (40 ∷ tail)

  pub value_from_lem : drop (length d.address + 1) (line_of d) ≡ tail
  value_from_lem = next_at (line_of d) (length d.address) 40 tail bracket_from

  pub each_found : value_place (line_of d) ≡ given (record { start = length d.address + 1; length = length d.value })
  each_found =
      let a = length d.address in
      let behind = starred d.unit ++ (41 ∷ []) in
      place_from (line_of d) (rw address_is (head_at (line_of d) a 40 tail bracket_from))
      ∙ rw (
        address_is,
        value_from_lem,
        behind_value d.value d.unit r.value_letters,
        drop-append_seam d.value behind,
        le-leb a 16 r.address_length,
        in_bounds 1 32 (length d.value) r.value_length.0 r.value_length.1,
        ends_of_lem d.unit r.unit_letters r.unit_length,
      )

-- From a line to its data set

-- the unit in what stands behind a value
abbrev unit_in : List ℕ → List ℕ
unit_in s = if eqb (get_or s 0 0) 42 then take (leading value_letter (drop 1 s)) (drop 1 s) else []

-- a line, taken apart
abbrev split_of : List ℕ → DataSet
split_of line =
    let a = leading address_letter line in
    let from = drop (a + 1) line in
    let v = leading value_letter from in
    record { address = take a line; value = take v from; unit = unit_in (drop v from) }

-- the unit is found again
unit_back : (unit : List ℕ) → AllOf value_letter unit → unit_in (starred unit ++ (41 ∷ [])) ≡ unit
unit_back [] h = refl
unit_back (b ∷ rest) h = rw (leading_exactly value_letter (b ∷ rest) 41 [] h refl) (take-append_seam (b ∷ rest) (41 ∷ []))

split_back : (d : DataSet) → IsDataSet d → split_of (line_of d) ≡ d
split_back d r =
    let tail = d.value ++ (starred d.unit ++ (41 ∷ [])) in
    rw (
      address_is d r,
      take-append_seam d.address (40 ∷ tail),
      value_from_lem d r,
      behind_value d.value d.unit r.value_letters,
      take-append_seam d.value (starred d.unit ++ (41 ∷ [])),
      drop-append_seam d.value (starred d.unit ++ (41 ∷ [])),
      unit_back d.unit r.unit_letters,
    )

only : (d e : DataSet) → IsDataSet d → IsDataSet e → line_of d ≡ line_of e → d ≡ e
only d e p q l = sym (split_back d p) ∙ ap split_of l ∙ split_back e q

-- the closing bracket ends the line
closed_from : (line : List ℕ) (at : ℕ) → closes_at line at ≡ true → drop at line ≡ 41 ∷ []
closed_from line at t =
    let b = eqb-true _ 41 (and_left (eqb (get_or line at 0) 41) (eqb (length line) (at + 1)) t) in
    let l : length line ≡ at + 1 = eqb-true _ _ (and_right (eqb (get_or line at 0) 41) (eqb (length line) (at + 1)) t) in
    let past : length line ≤ at + 1 = omega arith in
    at_letter line at 41 (omega arith) b ∙ ap (λ r. 41 ∷ r) (drop_of_length-le line past)

-- a unit that has a letter
starred_some : (unit : List ℕ) → 1 ≤ length unit → starred unit ≡ 42 ∷ unit
starred_some [] h = absurd (not-suc-le-zero h)
starred_some (b ∷ rest) h = refl

-- what stands behind a value is its unit and the closing bracket
pub record Behind (s : List ℕ) : Type 0 where
  pub same : starred (unit_in s) ++ (41 ∷ []) ≡ s
  pub letters : AllOf value_letter (unit_in s)
  pub short : length (unit_in s) ≤ 16

behind_of : (line : List ℕ) (at : ℕ) → ends_at line at ≡ true → Behind (drop at line)
unfolding ends_at
behind_of line at t =
    by_test (closes_at line at)
    (λ c. rw (closed_from line at c) (record { same = refl; letters = tt; short = omega arith }))
    (λ c.
    let n = letters_at line (at + 1) in
    let rest = or_right (closes_at line at) (eqb (get_or line at 0) 42 && between 1 16 n && closes_at line (at + 1 + n)) c t in
    let front = and_left (eqb (get_or line at 0) 42 && between 1 16 n) (closes_at line (at + 1 + n)) rest in
    let star = eqb-true _ 42 (and_left (eqb (get_or line at 0) 42) (between 1 16 n) front) in
    let sizes = and_right (eqb (get_or line at 0) 42) (between 1 16 n) front in
    let least = leb-true 1 n (and_left (leb 1 n) (leb n 16) sizes) in
    let most = leb-true n 16 (and_right (leb 1 n) (leb n 16) sizes) in
    let r = drop (at + 1) line in
    let size : length (take n r) ≡ n = length-take-le n r (leading_most value_letter r) in
    let last : drop n r ≡ 41 ∷ [] = drop-drop n (at + 1) line ∙ closed_from line (at + 1 + n) (and_right (eqb (get_or line at 0) 42 && between 1 16 n) (closes_at line (at + 1 + n)) rest) in
    rw (at_letter line at 42 (omega arith) star)
    (record {
      same = rw (starred_some (take n r) (rw size least)) (ap (λ x. 42 ∷ x) (ap (λ x. take n r ++ x) (sym last) ∙ take-append-drop n r));
      letters = leading_each value_letter r;
      short = rw size most;
    }))

found_set : (line : List ℕ) (p : Place) → value_place line ≡ given p → Found line p
found_set line p e =
    let a = leading address_letter line in
    let v = letters_at line (a + 1) in
    let t = found line p e in
    let front = leb a 16 && eqb (get_or line a 0) 40 in
    let tests = and_left (front && between 1 32 v) (ends_at line (a + 1 + v)) t.0 in
    let bracket = eqb-true _ _ (and_right (leb a 16) (eqb (get_or line a 0) 40) (and_left front (between 1 32 v) tests)) in
    let short = leb-true a 16 (and_left (leb a 16) (eqb (get_or line a 0) 40) (and_left front (between 1 32 v) tests)) in
    let sizes = and_right front (between 1 32 v) tests in
    let from = drop (a + 1) line in
    let b : Behind (drop v from) = rw (drop-drop v (a + 1) line) (behind_of line (a + 1 + v) (and_right (front && between 1 32 v) (ends_at line (a + 1 + v)) t.0)) in
    let address_size : length (take a line) ≡ a = length-take-le a line (leading_most address_letter line) in
    let value_size : length (take v from) ≡ v = length-take-le v from (leading_most value_letter from) in
    record {
      set = split_of line;
      rules = record {
        address_letters = leading_each address_letter line;
        address_length = rw address_size short;
        value_letters = leading_each value_letter from;
        value_length = rw value_size (leb-true 1 v (and_left (leb 1 v) (leb v 32) sizes), leb-true v 32 (and_right (leb 1 v) (leb v 32) sizes));
        unit_letters = b.letters;
        unit_length = b.short;
      };
      split =
          ap (λ x. take a line ++ (40 ∷ take v from ++ x)) b.same
          ∙ ap (λ x. take a line ++ (40 ∷ x)) (take-append-drop v from)
          ∙ ap (λ x. take a line ++ x) (sym (at_letter line a 40 (omega arith) bracket))
          ∙ take-append-drop a line;
      place = t.1 ∙ rw (address_size, value_size);
      value = rw t.1;
    }

pub one_split : OneSplit
one_split =
    record {
      found = found_set;
      only = only;
      each = each_found;
      none = λ line h.
          by_answer (value_place line) (λ p e. let f = found_set line p e in absurd (h f.set f.rules f.split))
          (λ n offset e. let o = only_17 line n offset e in e ∙ rw (o.0, o.1));
    }

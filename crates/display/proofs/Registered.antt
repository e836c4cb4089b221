-- Laws of the fields of registers (specs/Fields.antt): they lie within the bytes that a register request gives.
use mathlib.Core.Path.{◌≡◌, refl, sym, ap, ◌∙◌}
use mathlib.Core.Bool.{Bool, true, false, ◌&&◌}
use mathlib.Core.List.{List, [], ◌∷◌, ◌++◌}
use Prim.Native.Nat.{ℕ, zero, suc, ◌+◌, ◌^◌, ◌≤◌, ◌<◌}
use native.Mathlib.Nat.{not-suc-le-zero}
use native.Mathlib.Numerals.{add-one}
use Rattle.std.proofs.lemmas.List.Sums.{sum_by_more}
use native.Mathlib.Omega.{arith}
use borrow.Author.Tests.{eqb-true, ne_eqb, leb-true, ltb-true, ltb-false}
use lib.Dec.{eqb, leb, ltb}
use lib.ListN.{length, get_or, take, drop, replicate, get_or-eq_default}
use lib.Seq.{get_or-drop, drop-append-add}
use Rattle.laws.specs.Answers.{given, refused}
use Rattle.laws.specs.Bytes.{bytes_of, le}
use Rattle.laws.specs.Each.{Each}
use Rattle.laws.specs.Total.{total}
use Rattle.laws.proofs.Answers.{by_answer}
use Rattle.laws.proofs.Bytes.{length_bytes_of, le_bytes_of, le_take}
use Rattle.laws.proofs.If.{if_cases}
use Rattle.laws.proofs.Tests.{by_test, and_left, and_right}
use Rattle.laws.proofs.Total.{total_more, total_grows, total_first}
use Rattle.recorder.specs.declared.Recorder.{Recorder}
use Rattle.registers.specs.Registers.{Group, groups, look_up, group_of, RegisterReply, register_said, replied, register_reply}
use Rattle.registers.specs.declared.RegisterError.{RegisterError}
use Rattle.registers.specs.declared.RegisterError.TheVariants.{NoGroup, NoRegister, NotFitted, NoRoom}
use Rattle.std.specs.Prelude.{Some, None, Result, Ok, Err, sum}
use Rattle.std.specs.Result.{result_ok}
use Rattle.registers.proofs.Groups.{each_found}
use Rattle.registers.proofs.Laws.{held_long, given_first}
use Rattle.display.specs.Fields.{field_bytes, is_signed, start_of, signed_value, field_given, field_of, bytes_given, read_by}
use Rattle.display.specs.Laws.{one_after_another, FieldsInOrder}

-- the line that is found for a number is that of the number
found_number : (gs : List Group) (n : ℕ) (g : Group) → look_up gs n ≡ given g → n ≡ g.number
unfolding look_up
found_number [] n g e = absurd cc
found_number (l ∷ gs) n g e =
    by_test (eqb n l.number)
    (λ t. let same : l ≡ g = cc (rw t at e) in eqb-true n l.number t ∙ ap (λ (x : Group). x.number) same)
    (λ f. found_number gs n g (rw f at e))

-- the fields of a group's registers
abbrev pub widths : ℕ → ℕ → ℕ
widths group k = get_or (field_bytes group) k 0

-- the fields of each register are its bytes, one after another
abbrev Fill : Group → Type 0
Fill g = total 6 (widths g.number) ≡ g.bytes

pub fields_fill : Each Fill groups
unfolding groups field_bytes total
fields_fill = (refl, (refl, (refl, (refl, (refl, (refl, (refl, (refl, (refl, tt)))))))))

-- at most six fields, each of 1 to 8 bytes: a test that is computed for each list
abbrev sized : List ℕ → Bool
sized [] = true
sized (n ∷ l) = leb 1 n && (leb n 8 && sized l)

abbrev six_sized : List ℕ → Bool
six_sized l = leb (length l) 6 && sized l

all_sized : (group : ℕ) → six_sized (field_bytes group) ≡ true
unfolding field_bytes
all_sized group =
    let P : List ℕ → Type 0 = λ l. six_sized l ≡ true in
    if_cases P (eqb group 82) (λ t. refl)
    (λ t.
    if_cases P (eqb group 89) (λ t. refl)
    (λ t.
    if_cases P (eqb group 90) (λ t. refl)
    (λ t.
    if_cases P (eqb group 91) (λ t. refl)
    (λ t.
    if_cases P (eqb group 201) (λ t. refl)
    (λ t.
    if_cases P (eqb group 202) (λ t. refl)
    (λ t. if_cases P (eqb group 203) (λ t. refl) (λ t. if_cases P (eqb group 204) (λ t. refl) (λ t. if_cases P (eqb group 206) (λ t. refl) (λ t. refl)))))))))

-- no register has a seventh field
pub six_fields : (group : ℕ) → length (field_bytes group) ≤ 6
six_fields group = leb-true (length (field_bytes group)) 6 (and_left (leb (length (field_bytes group)) 6) (sized (field_bytes group)) (all_sized group))

-- a field that is there has 1 to 8 bytes
sized_at : (l : List ℕ) → sized l ≡ true → (k : ℕ) → k < length l → (1 ≤ get_or l k 0) × (get_or l k 0 ≤ 8)
sized_at [] h k low = absurd (not-suc-le-zero low)
sized_at (n ∷ l) h zero low =
    (leb-true 1 n (and_left (leb 1 n) (leb n 8 && sized l) h), leb-true n 8 (and_left (leb n 8) (sized l) (and_right (leb 1 n) (leb n 8 && sized l) h)))
sized_at (n ∷ l) h (suc k) low = sized_at l (and_right (leb n 8) (sized l) (and_right (leb 1 n) (leb n 8 && sized l) h)) k (omega arith)

pub field_sized : (group k : ℕ) → k < length (field_bytes group) → (1 ≤ widths group k) × (widths group k ≤ 8)
field_sized group k low =
    sized_at (field_bytes group) (and_right (leb (length (field_bytes group)) 6) (sized (field_bytes group)) (all_sized group)) k low

pub field_there : (group k : ℕ) → k < length (field_bytes group) → eqb (widths group k) 0 ≡ false
field_there group k low = let s = (field_sized group k low).0 in ne_eqb (widths group k) 0 (λ e. omega arith)

-- any other has none
pub field_past : (group k : ℕ) → length (field_bytes group) ≤ k → widths group k ≡ 0
field_past group k h = get_or-eq_default (field_bytes group) 0 h

-- so none has more than 8
pub field_few : (group k : ℕ) → widths group k ≤ 8
field_few group k =
    by_test (ltb k (length (field_bytes group))) (λ t. (field_sized group k (ltb-true k (length (field_bytes group)) t)).1)
    (λ t. let none = field_past group k (ltb-false k (length (field_bytes group)) t) in omega arith)

-- the line of the table that a request is answered by
record Line (group m : ℕ) : Type 0 where
  pub line : Group
  pub is : group_of group ≡ given line
  pub long : line.bytes ≡ m

-- where a register is given, its fields lie within its bytes
module _ (r : Recorder) (group register : ℕ) (buffer : List ℕ) (m : ℕ) (e : (register_reply r group register buffer).answer ≡ given m) where
  line_of : Line group m
  unfolding register_reply
  line_of =
      by_answer (group_of group)
      (λ g is.
      let first = given_first r group register buffer m e in
      let held : length (g.holds r register) ≡ m = rw is at first.0 in
      record { line = g; is = is; long = sym (held_long group g is r register) ∙ held })
      (λ n offset is. absurd (cc (rw is at e)))

  field_within : (k : ℕ) → k < 6 → start_of group k + widths group k ≤ m
  field_within k low =
      let l = line_of in
      let same = found_number groups group l.line l.is in
      let fill : total 6 (widths group) ≡ m = ap (λ (n : ℕ). total 6 (widths n)) same ∙ each_found Fill groups group l.line l.is fields_fill ∙ l.long in
      let grows = total_grows (widths group) (k + 1) 6 (omega arith) in
      let more = total_more k (widths group) in
      omega arith

  given_room : m ≤ length buffer
  given_room = (given_first r group register buffer m e).1

-- where it is not, there is no field
not_given : (x : Result ℕ RegisterError) → None ≡ result_ok x → (group field : ℕ) (bytes : List ℕ)
    → field_given group field (bytes_given (register_said x) bytes) ≡ refused 22 0
not_given (Ok n) k group field bytes = absurd cc
not_given (Err NoGroup) k group field bytes = refl
not_given (Err NoRegister) k group field bytes = refl
not_given (Err NotFitted) k group field bytes = refl
not_given (Err NoRoom) k group field bytes = refl

-- what was given
was_ok : (x : Result ℕ RegisterError) (m : ℕ) → Some m ≡ result_ok x → x ≡ Ok m
was_ok (Ok n) m k = cc
was_ok (Err error) m k = absurd cc

-- a field of some bytes is the number that they are
a_field : (group field m : ℕ) (bytes : List ℕ) → (widths group field ≡ 0 → ⊥) → start_of group field + widths group field ≤ m
    → field_given group field (given (take m bytes)) ≡ given (signed_value (is_signed group field) (widths group field) (le (widths group field) (drop (start_of group field) bytes)))
a_field group field m bytes some within = rw (ne_eqb (widths group field) 0 some, le_take (widths group field) (start_of group field) m bytes within) refl

-- A field by what the register request answered

module _ (r : Recorder) (group register : ℕ) (x : Result ℕ RegisterError) (bytes : List ℕ) (e : replied x bytes ≡ register_reply r group register (replicate 13 0)) (field : ℕ) where
  read_as : read_by r group register ≡ bytes_given (register_said x) bytes
  unfolding read_by
  read_as = ap (λ (y : RegisterReply). bytes_given y.answer y.buffer) (sym e)

  pub field_refused : None ≡ result_ok x → refused 22 0 ≡ field_of (read_by r) group register field
  field_refused k = sym (ap (field_given group field) read_as ∙ not_given x k group field bytes)

  module _ (m : ℕ) (g : Some m ≡ result_ok x) where
    was_given : (register_reply r group register (replicate 13 0)).answer ≡ given m
    was_given = sym (ap (λ (y : RegisterReply). y.answer) e) ∙ ap register_said (was_ok x m g)

    given_as : read_by r group register ≡ given (take m bytes)
    given_as = read_as ∙ ap (λ (y : Result ℕ RegisterError). bytes_given (register_said y) bytes) (was_ok x m g)

    pub field_fits : field < 6 → start_of group field + widths group field ≤ 13
    field_fits low =
        let within = field_within r group register (replicate 13 0) m was_given field low in
        let room : m ≤ 13 = given_room r group register (replicate 13 0) m was_given in
        omega arith

    pub field_some : field < 6 → (widths group field ≡ 0 → ⊥)
        → given (signed_value (is_signed group field) (widths group field) (le (widths group field) (drop (start_of group field) bytes))) ≡ field_of (read_by r) group register field
    field_some low some =
        sym (ap (field_given group field) given_as ∙ a_field group field m bytes some (field_within r group register (replicate 13 0) m was_given field low))

-- where a field begins, as the code adds it up
pub widths_before : (l : List ℕ) (k : ℕ) → k ≤ length l → sum (take k l) ≡ total k (λ j. get_or l j 0)
unfolding total
widths_before l zero h = refl
widths_before l (suc k) h = rw (← add-one k) (sum_by_more (λ x. x) l k 0 h ∙ ap (λ n. n + get_or l k 0) (widths_before l k (omega arith)))

-- Fields in order

-- field k of numbers one after another
cut : (fields numbers : List ℕ) (k : ℕ) → k < length fields → get_or numbers k 0 < 256 ^ get_or fields k 0
    → le (get_or fields k 0) (drop (total k (λ j. get_or fields j 0)) (one_after_another fields numbers)) ≡ get_or numbers k 0
unfolding one_after_another total
cut [] numbers k h fits = absurd (not-suc-le-zero h)
cut (n ∷ fields) numbers zero h fits = le_bytes_of n (get_or numbers 0 0) (one_after_another fields (drop 1 numbers)) fits
cut (n ∷ fields) numbers (suc k) h fits =
    let start = total_first k (λ j. get_or (n ∷ fields) j 0) in
    let bytes = bytes_of n (get_or numbers 0 0) in
    let rest = one_after_another fields (drop 1 numbers) in
    let one : 1 + k ≡ suc k = omega arith in
    let later : get_or (drop 1 numbers) k 0 ≡ get_or numbers (suc k) 0 = get_or-drop 1 numbers k 0 ∙ ap (λ (i : ℕ). get_or numbers i 0) one in
    let behind : drop (n + total k (λ j. get_or fields j 0)) (bytes ++ rest) ≡ drop (total k (λ j. get_or fields j 0)) rest =
    ap (λ (m : ℕ). drop (m + total k (λ j. get_or fields j 0)) (bytes ++ rest)) (sym (length_bytes_of n (get_or numbers 0 0))) ∙ drop-append-add bytes rest (total k (λ j. get_or fields j 0)) in
    ap (λ (m : ℕ). le (get_or fields k 0) (drop m (bytes ++ rest))) start
    ∙ ap (le (get_or fields k 0)) behind
    ∙ cut fields (drop 1 numbers) k (omega arith) (rw later fits)
    ∙ later

pub fields_in_order : FieldsInOrder
fields_in_order group numbers k h fits =
    rw (field_there group k h)
    (ap (λ (x : ℕ). given (signed_value (is_signed group k) (widths group k) x)) (cut (field_bytes group) numbers k h fits))

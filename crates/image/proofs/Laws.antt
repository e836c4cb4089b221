-- The laws of specs/Laws.antt: the image read back and written back.
use mathlib.Core.Path.{◌≡◌, refl, sym, ap, ◌∙◌}
use mathlib.Core.Bool.{true, ◌&&◌}
use mathlib.Core.List.{List, [], ◌++◌, append-nil, append_assoc}
use Prim.Native.Nat.{ℕ, ◌≤◌}
use native.Mathlib.Omega.{arith}
use borrow.Author.Tests.{eqb-true}
use lib.Dec.{eqb}
use lib.ListN.{length, take, drop, get_or, length-drop, take-append-drop}
use lib.Seq.{take_all, take-suc, get_or-drop, drop-drop}
use Rattle.laws.proofs.Tests.{by_test, and_left, and_right}
use Rattle.laws.specs.Answers.{Answer, given, refused}
use Rattle.laws.specs.Bytes.{Bytes, bytes_of, le}
use Rattle.laws.proofs.Bytes.{le_2, take_firsts}
use Rattle.laws.specs.Runs.{joined}
use Rattle.laws.proofs.Codec.{part_join, part_after, each_any, section_wide, section_back, forth_at, number}
use Rattle.tariff.specs.declared.Program.{Program}
use Rattle.image.specs.Entries.{input_bytes, coefficient_bytes, slot_bytes, window_bytes, season_bytes, holiday_bytes, rule_bytes, register_bytes}
use Rattle.image.specs.Image.{head_bytes, program_bytes, encode, program_in, decode, Counted, CountedProgram, Typed, TypedProgram}
use Rattle.settings.specs.Check.{checked}
use Rattle.image.specs.Answers.{marked, image_answer, image_config}
use Rattle.image.specs.Laws.{WrittenIsRead, ReadIsWritten, ReadIsGood, OneConfig}
use Rattle.settings.specs.declared.Config.{Config}
use Rattle.image.proofs.Entries.{input, coefficient, slot, window, season, holiday, rule, register}
use Rattle.image.proofs.Lengths.{length_program, length_encode}
use Rattle.image.proofs.Answers.{answer_checked}

-- what stands from each section of the program on, with t after it
abbrev r₁ : Program → List ℕ → List ℕ
r₁ p t = joined rule_bytes p.rules ++ t

abbrev h₁ : Program → List ℕ → List ℕ
h₁ p t = joined holiday_bytes p.holidays ++ r₁ p t

abbrev s₁ : Program → List ℕ → List ℕ
s₁ p t = joined season_bytes p.seasons ++ h₁ p t

abbrev w₁ : Program → List ℕ → List ℕ
w₁ p t = joined (bytes_of 1) p.weeks ++ s₁ p t

-- a program that stands at 262 is read back
program_back : (b : List ℕ) (p : Program) (t : List ℕ) → CountedProgram p → TypedProgram p → drop 262 b ≡ program_bytes p ++ t → program_in b ≡ p
unfolding program_in program_bytes
program_back b p t n y e =
    let at262 : drop 262 b ≡ joined window_bytes p.windows ++ w₁ p t = e ∙ simp append_assoc in
    let at774 : drop 774 b ≡ w₁ p t = part_after b 262 512 (joined window_bytes p.windows) at262 (section_wide window p.windows n.windows) in
    let at902 : drop 902 b ≡ s₁ p t = part_after b 774 128 (joined (bytes_of 1) p.weeks) at774 (section_wide (number 1) p.weeks n.weeks) in
    let at934 : drop 934 b ≡ h₁ p t = part_after b 902 32 (joined season_bytes p.seasons) at902 (section_wide season p.seasons n.seasons) in
    let at1062 : drop 1062 b ≡ r₁ p t = part_after b 934 128 (joined holiday_bytes p.holidays) at934 (section_wide holiday p.holidays n.holidays) in
    rw (
      at262,
      at774,
      at902,
      at934,
      at1062,
      section_back window p.windows (w₁ p t) 128 y.windows n.windows,
      section_back (number 1) p.weeks (s₁ p t) 128 y.weeks n.weeks,
      section_back season p.seasons (h₁ p t) 8 (each_any p.seasons) n.seasons,
      section_back holiday p.holidays (r₁ p t) 32 y.holidays n.holidays,
      section_back rule p.rules t 16 (each_any p.rules) n.rules,
    )

-- what stands from each section of the image on
abbrev g : Config → List ℕ
g c = joined register_bytes c.registers

abbrev p : Config → List ℕ
p c = program_bytes c.program ++ g c

abbrev m : Config → List ℕ
m c = joined (bytes_of 2) c.limits ++ p c

abbrev l : Config → List ℕ
l c = joined slot_bytes c.slots ++ m c

abbrev k : Config → List ℕ
k c = joined coefficient_bytes c.coefficients ++ l c

abbrev s : Config → List ℕ
s c = joined (bytes_of 2) c.sums ++ k c

-- what is written is read back
pub decode_encode : (c : Config) → Counted c → Typed c → decode (encode c) ≡ c
unfolding decode encode head_bytes
decode_encode c n t =
    let at118 : drop 118 (encode c) ≡ s c = part_after (encode c) 6 112 (joined (input_bytes 1) c.inputs) refl (section_wide (input 1) c.inputs n.inputs) in
    let at134 : drop 134 (encode c) ≡ k c = part_after (encode c) 118 16 (joined (bytes_of 2) c.sums) at118 (section_wide (number 2) c.sums n.sums) in
    let at166 : drop 166 (encode c) ≡ l c = part_after (encode c) 134 32 (joined coefficient_bytes c.coefficients) at134 (section_wide coefficient c.coefficients n.coefficients) in
    let at198 : drop 198 (encode c) ≡ m c = part_after (encode c) 166 32 (joined slot_bytes c.slots) at166 (section_wide slot c.slots n.slots) in
    let at262 : drop 262 (encode c) ≡ p c = part_after (encode c) 198 64 (joined (bytes_of 2) c.limits) at198 (section_wide (number 2) c.limits n.limits) in
    let at1094 : drop 1094 (encode c) ≡ g c = part_after (encode c) 262 832 (program_bytes c.program) at262 (length_program c.program n.program) in
    rw (
      program_back (encode c) c.program (g c) n.program t.program at262,
      at118,
      at134,
      at166,
      at198,
      at1094 ∙ sym (append-nil _),
      section_back (input 1) c.inputs (s c) 16 t.inputs n.inputs,
      section_back (number 2) c.sums (k c) 8 t.sums n.sums,
      section_back coefficient c.coefficients (l c) 32 t.coefficients n.coefficients,
      section_back slot c.slots (m c) 16 (each_any c.slots) n.slots,
      section_back (number 2) c.limits (p c) 32 t.limits n.limits,
      section_back register c.registers [] 16 (each_any c.registers) n.registers,
    )

-- the letters, the version and the period, and what follows them
head_forth : (b : List ℕ) → 6 ≤ length b → take 5 b ≡ take 5 (head_bytes 0) → head_bytes (get_or b 5 0) ++ drop 6 b ≡ b
unfolding head_bytes
head_forth b n h =
    let e : take 6 b ≡ head_bytes (get_or b 5 0) = take-suc b 5 0 n ∙ rw h in
    ap (λ (l : List ℕ). l ++ drop 6 b) (sym e) ∙ take-append-drop 6 b

-- a program that was read is written back
program_forth : (b t : List ℕ) → Bytes b → 1094 ≤ length b → t ≡ drop 1094 b → program_bytes (program_in b) ++ t ≡ drop 262 b
unfolding program_in program_bytes
program_forth b t byte n e =
    rw (
      forth_at window b 262 128 byte (omega arith),
      forth_at (number 1) b 774 128 byte (omega arith),
      forth_at season b 902 8 byte (omega arith),
      forth_at holiday b 934 32 byte (omega arith),
      forth_at rule b 1062 16 byte (omega arith),
      append_assoc,
      append_assoc,
      append_assoc,
      append_assoc,
      part_join b 1062 32 e,
      part_join b 934 128 refl,
      part_join b 902 32 refl,
      part_join b 774 128 refl,
      part_join b 262 512 refl,
    )

-- what is read is written back: of bytes that start with the letters and the version
pub encode_decode : (b : List ℕ) → Bytes b → length b ≡ 1126 → take 5 b ≡ take 5 (head_bytes 0) → encode (decode b) ≡ b
unfolding decode encode
encode_decode b byte n h =
    rw (
      forth_at (input 1) b 6 16 byte (omega arith),
      forth_at (number 2) b 118 8 byte (omega arith),
      forth_at coefficient b 134 32 byte (omega arith),
      forth_at slot b 166 16 byte (omega arith),
      forth_at (number 2) b 198 32 byte (omega arith),
      forth_at register b 1094 16 byte (omega arith),
      take_all 32 (drop 1094 b) (omega (arith, length-drop 1094 b)),
      program_forth b (drop 1094 b) byte (omega arith) refl,
      part_join b 198 64 refl,
      part_join b 166 32 refl,
      part_join b 134 32 refl,
      part_join b 118 16 refl,
      part_join b 6 112 refl,
    )
    (head_forth b (omega arith) h)

-- a refusal is no acceptance
pub never : (k o : ℕ) → ◌≡◌ {A = Answer (Unit {0})} (refused k o) (given tt) → ⊥
never k o e = let z : ◌≡◌ {A = ℕ} 0 1 = cc in omega arith

-- the tests that an accepted image passed
pub record Accepted (b : List ℕ) : Type 0 where
  pub length_is : length b ≡ 1126
  pub marked_is : marked b ≡ true
  pub version_is : le 2 (drop 3 b) ≡ 1
  pub good : checked (decode b) ≡ given tt

pub accepted : (b : List ℕ) → image_answer b ≡ given tt → Accepted b
unfolding image_answer
accepted b a =
    by_test (eqb (length b) 1126)
    (λ n. by_test (marked b)
    (λ m. by_test (eqb (le 2 (drop 3 b)) 1)
    (λ v. record { length_is = eqb-true (length b) 1126 n; marked_is = m; version_is = eqb-true (le 2 (drop 3 b)) 1 v; good = rw (n, m, v) at a })
    (λ v. absurd (never 3 3 (rw (n, m, v) at a))))
    (λ m. absurd (never 2 0 (rw (n, m) at a))))
    (λ n. absurd (never 1 0 (rw n at a)))

-- the letters and the version, as bytes
headed : (b : List ℕ) → Bytes b → 5 ≤ length b → marked b ≡ true → le 2 (drop 3 b) ≡ 1 → take 5 b ≡ take 5 (head_bytes 0)
unfolding head_bytes
headed b byte n m v =
    let kr = and_left (eqb (get_or b 0 0) 75 && eqb (get_or b 1 0) 82) (eqb (get_or b 2 0) 67) m in
    let first = and_left (eqb (get_or b 0 0) 75) (eqb (get_or b 1 0) 82) kr in
    let second = and_right (eqb (get_or b 0 0) 75) (eqb (get_or b 1 0) 82) kr in
    let third = and_right (eqb (get_or b 0 0) 75 && eqb (get_or b 1 0) 82) (eqb (get_or b 2 0) 67) m in
    let low : get_or b 3 0 ≡ 1 = omega (arith, byte 3, le_2 b 3) in
    let high : get_or b 4 0 ≡ 0 = omega (arith, byte 3, le_2 b 3) in
    take_firsts 5 b n
    ∙ simp (get_or-drop, drop-drop)
    (rw (eqb-true (get_or b 0 0) 75 first, eqb-true (get_or b 1 0) 82 second, eqb-true (get_or b 2 0) 67 third, low, high))

-- the image of a good configuration is accepted
encoded_accepted : (c : Config) → Counted c → Typed c → image_answer (encode c) ≡ checked c
unfolding encode head_bytes le
encoded_accepted c n t = answer_checked (encode c) (length_encode c n) refl refl ∙ ap checked (decode_encode c n t)

pub written_is_read : WrittenIsRead
unfolding image_config
written_is_read c n t good =
    let a = encoded_accepted c n t ∙ good in
    (a, rw a (decode_encode c n t))

pub read_is_written : ReadIsWritten
unfolding image_config
read_is_written b byte a =
    let t = accepted b a in
    rw a (encode_decode b byte t.length_is (headed b byte (omega (arith, t.length_is)) t.marked_is t.version_is))

pub read_is_good : ReadIsGood
unfolding image_config
read_is_good b a = rw a (accepted b a).good

pub one_config : OneConfig
one_config c d n t m u e = sym (decode_encode c n t) ∙ ap decode e ∙ decode_encode d m u

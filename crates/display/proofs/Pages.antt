-- Laws of the two steps (specs/Steps.antt): what a format string comes to from a place on, by what stands there.
use mathlib.Core.Path.{◌≡◌, refl, sym, ap, ◌∙◌}
use mathlib.Core.Bool.{Bool, true, false, ◌&&◌}
use mathlib.Core.List.{List, [], ◌∷◌}
use Prim.Native.Nat.{ℕ, zero, suc, ◌+◌, ◌-◌, ◌≤◌, ◌<◌}
use native.Mathlib.Omega.{arith}
use borrow.Author.Tests.{eq-eqb, ne_eqb, eqb-true, eqb-false, lt-ltb, le-ltb, ltb-false}
use lib.Dec.{eqb, ltb}
use lib.ListN.{length, get_or, take, drop, length-drop}
use Rattle.std.specs.List.{starts_with}
use Rattle.std.proofs.lemmas.List.{take_all}
use Rattle.laws.specs.Answers.{Answer, given, refused, number_in}
use Rattle.laws.proofs.Tests.{by_test, and_left}
use Rattle.registers.specs.Registers.{refusal, register_read}
use Rattle.calendar.specs.Moments.{moment_of}
use Rattle.recorder.specs.declared.Recorder.{Recorder}
use Rattle.display.specs.Formats.{FormatPart, letter, line_break, the_date, the_time, number, bad_format, begun, is_break, specification_in, first_part, parts_behind, meaning}
use Rattle.display.specs.Fields.{read_by, argument_of}
use Rattle.display.specs.Numbers.{date_shown, time_shown, number_shown}
use Rattle.display.specs.Displays.{Mark, character, new_line, characters, preceded, shown_by, displayed, display_with, display_reply}
use Rattle.display.specs.Steps.{blank_screen, put_of, puts_of, next_line, written_on, cells_of, parts_on, page_from, page_behind}
use Rattle.display.specs.declared.fields.Value.{Value}
use Rattle.display.specs.declared.formats.Form.{Form}
use Rattle.display.specs.declared.screen.Screen.{Screen}
use Rattle.display.proofs.Specified.{specified_most}
use Rattle.display.proofs.Screens.{cells_after, on_characters, two_lines_lem}

-- the bytes of the part before are passed over
pub parts_drop : (n : ℕ) (s : List ℕ) → parts_behind n s ≡ meaning (drop n s)
unfolding parts_behind
parts_drop zero [] = refl
parts_drop (suc n) [] = refl
parts_drop zero (b ∷ s) = refl
parts_drop (suc n) (b ∷ s) = parts_drop n s

-- the first part, and those behind it
pub parts_first : (b : ℕ) (s : List ℕ) → meaning (b ∷ s) ≡ (first_part (b ∷ s)).part ∷ meaning (drop ((first_part (b ∷ s)).bytes - 1) s)
unfolding parts_behind
parts_first b s = ap (λ (l : List FormatPart). (first_part (b ∷ s)).part ∷ l) (parts_drop ((first_part (b ∷ s)).bytes - 1) s)

-- a specification, and what follows it
pub percent_first : (s : List ℕ) → meaning (37 ∷ s) ≡ (specification_in s).part ∷ parts_behind (specification_in s).bytes s
unfolding parts_behind first_part
percent_first s = let e : 1 + (specification_in s).bytes - 1 ≡ (specification_in s).bytes = omega arith in ap (λ (n : ℕ). (specification_in s).part ∷ parts_behind n s) e

-- a line break, and a character of plain text
pub break_first : (b : ℕ) (s : List ℕ) → (b ≡ 37 → ⊥) → is_break (b ∷ s) ≡ true → meaning (b ∷ s) ≡ line_break ∷ meaning (drop 1 s)
unfolding first_part
break_first b s e t = parts_first b s ∙ rw (ne_eqb b 37 e, t) refl

pub letter_first : (b : ℕ) (s : List ℕ) → (b ≡ 37 → ⊥) → is_break (b ∷ s) ≡ false → meaning (b ∷ s) ≡ letter b ∷ meaning s
unfolding first_part
letter_first b s e t = parts_first b s ∙ rw (ne_eqb b 37 e, t) refl

-- a part that shows text puts it on the screen, and what follows it comes after
module _ (r : Recorder) (parts : List FormatPart) (arguments : List ℕ) (s : Screen) where
  on_letter : (b : ℕ) → parts_on r (letter b ∷ parts) arguments s ≡ parts_on r parts arguments (put_of s b)
  unfolding shown_by written_on
  on_letter b = cells_after s (character b ∷ []) (shown_by r.state.clock (read_by r) arguments parts)

  on_break : parts_on r (line_break ∷ parts) arguments s ≡ parts_on r parts arguments (next_line s)
  unfolding shown_by written_on
  on_break = cells_after s (new_line ∷ []) (shown_by r.state.clock (read_by r) arguments parts)

  on_text : (text : List ℕ) (later : Answer (List Mark)) → cells_of s (preceded (characters text) later) ≡ cells_of (puts_of s text) later
  on_text text later = cells_after s (characters text) later ∙ ap (λ (x : Screen). cells_of x later) (on_characters s text)

  on_date_lem : parts_on r (the_date ∷ parts) arguments s ≡ parts_on r parts arguments (puts_of s (date_shown (moment_of r.state.clock)))
  unfolding shown_by
  on_date_lem = on_text (date_shown (moment_of r.state.clock)) (shown_by r.state.clock (read_by r) arguments parts)

  on_time : parts_on r (the_time ∷ parts) arguments s ≡ parts_on r parts arguments (puts_of s (time_shown (moment_of r.state.clock)))
  unfolding shown_by
  on_time = on_text (time_shown (moment_of r.state.clock)) (shown_by r.state.clock (read_by r) arguments parts)

  on_number : (f : Form) (v : Value) → argument_of (read_by r) arguments ≡ given v
      → parts_on r (number f ∷ parts) arguments s ≡ parts_on r parts (drop 3 arguments) (puts_of s (number_shown f v))
  unfolding shown_by
  on_number f v e = rw e (on_text (number_shown f v) (shown_by r.state.clock (read_by r) (drop 3 arguments) parts))

  on_none : (f : Form) (n offset : ℕ) → argument_of (read_by r) arguments ≡ refused n offset → parts_on r (number f ∷ parts) arguments s ≡ refused n offset
  unfolding shown_by
  on_none f n offset e = rw e refl

  on_bad : parts_on r (bad_format ∷ parts) arguments s ≡ refused 21 0
  unfolding shown_by
  on_bad = refl

-- what is behind some bytes, as the code gives it
pub left : (k : ℕ) (l : List ℕ) → take (length l - k) (drop k l) ≡ drop k l
left k l = let e = length-drop k l in take_all (length l - k) (drop k l) (omega arith)

-- The text step on a string

-- a break as the code asks for it
asked : (b k : ℕ) → eqb k b ≡ eqb b k
asked b k = by_test (eqb b k) (λ t. rw t (eq-eqb k b (sym (eqb-true b k t)))) (λ t. rw t (ne_eqb k b (λ e. eqb-false b k t (sym e))))

starts_is : (l : List ℕ) → starts_with eqb l (92 ∷ 110 ∷ []) ≡ is_break l
starts_is [] = refl
starts_is (b ∷ []) = rw (asked b 92)
starts_is (b ∷ c ∷ l) = rw (asked b 92, asked c 110) (ap (λ t. eqb b 92 && t) (alone (eqb c 110)))
  where
    alone : (t : Bool) → (t && true) ≡ t
    alone true = refl
    alone false = refl

module _ (r : Recorder) (arguments : List ℕ) (s : Screen) where
  pub text_end : (l : List ℕ) → length l < 1 → page_from r l arguments s ≡ given s.cells
  unfolding page_from parts_behind shown_by written_on
  text_end [] h = refl
  text_end (b ∷ l) h = absurd (omega arith)

  -- a per cent
  pub text_percent : (l : List ℕ) → 1 ≤ length l → get_or l 0 0 ≡ 37 → page_from r l arguments s ≡ page_behind r (drop 1 l) arguments s
  unfolding page_from page_behind
  text_percent [] h e = absurd (omega arith)
  text_percent (b ∷ l) h e = rw e (ap (λ (parts : List FormatPart). parts_on r parts arguments s) (percent_first l))

  -- a line break
  pub text_break : (l : List ℕ) → starts_with eqb l (92 ∷ 110 ∷ []) ≡ true → page_from r l arguments s ≡ page_from r (drop 2 l) arguments (next_line s)
  unfolding page_from
  text_break [] t = absurd cc
  text_break (b ∷ l) t =
      let broken : is_break (b ∷ l) ≡ true = sym (starts_is (b ∷ l)) ∙ t in
      let slash : b ≡ 92 = eqb-true b 92 (and_left (eqb b 92) (eqb (get_or l 0 0) 110) broken) in
      ap (λ (parts : List FormatPart). parts_on r parts arguments s) (break_first b l (λ e. omega arith) broken) ∙ on_break r (meaning (drop 1 l)) arguments s

  -- plain text
  pub text_letter : (l : List ℕ) → 1 ≤ length l → (get_or l 0 0 ≡ 37 → ⊥) → starts_with eqb l (92 ∷ 110 ∷ []) ≡ false
      → page_from r l arguments s ≡ page_from r (drop 1 l) arguments (put_of s (get_or l 0 0))
  unfolding page_from
  text_letter [] h e t = absurd (omega arith)
  text_letter (b ∷ l) h e t =
      ap (λ (parts : List FormatPart). parts_on r parts arguments s) (letter_first b l e (sym (starts_is (b ∷ l)) ∙ t)) ∙ on_letter r (meaning l) arguments s b

-- The specification step on a string

-- a field that was read had three bytes
pub three_left : (read : ℕ → ℕ → Answer (List ℕ)) (arguments : List ℕ) (v : Value) → given v ≡ argument_of read arguments → 3 ≤ length arguments
unfolding argument_of
three_left read arguments v e =
    by_test (ltb (length arguments) 3) (λ t. absurd (cc (rw t at e))) (λ t. ltb-false (length arguments) 3 t)

module _ (r : Recorder) (l arguments : List ℕ) (s : Screen) (n : ℕ) where
  abbrev Found : FormatPart → Type 0
  Found part = begun part n ≡ specification_in l

  found : (part : FormatPart) → Found part → page_behind r l arguments s ≡ parts_on r (part ∷ meaning (drop n l)) arguments s
  unfolding page_behind
  found part e = rw (← e) (ap (λ (parts : List FormatPart). parts_on r (part ∷ parts) arguments s) (parts_drop n l))

  pub behind_bad : Found bad_format → page_behind r l arguments s ≡ refused 21 0
  behind_bad e = found bad_format e ∙ on_bad r (meaning (drop n l)) arguments s

  pub behind_date : Found the_date → page_behind r l arguments s ≡ page_from r (drop n l) arguments (puts_of s (date_shown (moment_of r.state.clock)))
  unfolding page_from
  behind_date e = found the_date e ∙ on_date_lem r (meaning (drop n l)) arguments s

  pub behind_time : Found the_time → page_behind r l arguments s ≡ page_from r (drop n l) arguments (puts_of s (time_shown (moment_of r.state.clock)))
  unfolding page_from
  behind_time e = found the_time e ∙ on_time r (meaning (drop n l)) arguments s

  pub behind_none : (f : Form) → Found (number f) → refused 22 0 ≡ argument_of (read_by r) arguments → page_behind r l arguments s ≡ refused 22 0
  behind_none f e g = found (number f) e ∙ on_none r (meaning (drop n l)) arguments s f 22 0 (sym g)

  pub behind_number : (f : Form) (v : Value) → Found (number f) → given v ≡ argument_of (read_by r) arguments
      → page_behind r l arguments s ≡ page_from r (drop n l) (drop 3 arguments) (puts_of s (number_shown f v))
  unfolding page_from
  behind_number f v e g = found (number f) e ∙ on_number r (meaning (drop n l)) arguments s f v (sym g)

-- what the specification step asks for
pub ruleset specified = (left, behind_date, behind_time, three_left, specified_most)

-- The reply, by what the text step comes to on a blank screen

given_cells : (shown : Answer (List Mark)) (cells buffer : List ℕ) → given cells ≡ cells_of blank_screen shown → register_read 32 cells buffer ≡ displayed shown buffer
given_cells (given marks) cells buffer e = ap (λ (x : List ℕ). register_read 32 x buffer) (cc e ∙ two_lines_lem marks)
given_cells (refused n offset) cells buffer e = absurd cc

refused_cells : (shown : Answer (List Mark)) (n : ℕ) (buffer : List ℕ) → refused n 0 ≡ cells_of blank_screen shown → refusal n buffer ≡ displayed shown buffer
refused_cells (given marks) n buffer e = absurd cc
refused_cells (refused m offset) n buffer e = ap (λ (x : ℕ). refusal x buffer) (ap number_in e)

module _ (r : Recorder) (format arguments buffer : List ℕ) where
  pub reply_13 : length buffer < 32 → refusal 13 buffer ≡ display_reply r format arguments buffer
  unfolding display_with
  reply_13 h = rw (lt-ltb (length buffer) 32 h) refl

  module _ (room : 32 ≤ length buffer) where
    pub reply_shown : (cells : List ℕ) → given cells ≡ page_from r format arguments blank_screen → register_read 32 cells buffer ≡ display_reply r format arguments buffer
    unfolding display_with page_from
    reply_shown cells e = rw (le-ltb (length buffer) 32 room) (given_cells (shown_by r.state.clock (read_by r) arguments (meaning format)) cells buffer e)

    pub reply_refused : (n : ℕ) → refused n 0 ≡ page_from r format arguments blank_screen → refusal n buffer ≡ display_reply r format arguments buffer
    unfolding display_with page_from
    reply_refused n e = rw (le-ltb (length buffer) 32 room) (refused_cells (shown_by r.state.clock (read_by r) arguments (meaning format)) n buffer e)

-- what a display asks for
pub ruleset replies = (reply_13, reply_shown, reply_refused)

-- The laws of specs/Laws.antt on arguments, on the two lines and on the buffer.
use mathlib.Core.Path.{◌≡◌, refl, sym, ap, ◌∙◌}
use mathlib.Core.List.{List, [], ◌∷◌, ◌++◌, append_assoc}
use Prim.Native.Nat.{ℕ, suc, ◌+◌, ◌*◌}
use native.Mathlib.Omega.{arith}
use borrow.Author.Tests.{le-ltb, ltb-false}
use lib.Dec.{ltb}
use lib.ListN.{length, get_or, drop, length-append, get_or-append}
use lib.Seq.{drop-drop, get_or-append-add}
use Rattle.laws.specs.Answers.{Answer, given, refused}
use Rattle.laws.specs.Tables.{table}
use Rattle.laws.proofs.Answers.{by_answer}
use Rattle.laws.proofs.If.{if_cases}
use Rattle.laws.proofs.Tables.{length_table, table_at, table_cong}
use Rattle.laws.proofs.Tests.{by_test}
use Rattle.registers.specs.Registers.{RegisterReply}
use Rattle.calendar.specs.Moments.{moment_of}
use Rattle.display.specs.Formats.{FormatPart, letter, line_break, the_date, the_time, number, bad_format, meaning}
use Rattle.display.specs.Fields.{field_of, argument_of}
use Rattle.display.specs.Numbers.{date_shown, time_shown, number_shown}
use Rattle.display.specs.Displays.{Mark, character, new_line, characters, preceded, number_before, shown_by, line_shown, displayed, display_with}
use Rattle.display.specs.Laws.{numbers_in, ArgumentsInOrder, LinesAsBroken, OnlyTwoLines, RefusedDisplay, ShownFirst}
use Rattle.display.specs.declared.fields.Value.{Value}

-- Arguments

-- three bytes name the same field by either way to read registers
argument_cong : (read other : ℕ → ℕ → Answer (List ℕ)) → ((group register field : ℕ) → field_of read group register field ≡ field_of other group register field)
    → (arguments : List ℕ) → argument_of read arguments ≡ argument_of other arguments
unfolding argument_of
argument_cong read other same arguments = rw (same (get_or arguments 0 0) (get_or arguments 1 0) (get_or arguments 2 0)) refl

-- something before something before something
preceded_twice : (a b : List Mark) (later : Answer (List Mark)) → preceded a (preceded b later) ≡ preceded (a ++ b) later
preceded_twice a b (given later) = ap given (sym (append_assoc a b later))
preceded_twice a b (refused n offset) = refl

-- what stands behind something that is shown is shown
preceded_given : (a : List Mark) (later : Answer (List Mark)) (marks : List Mark) → preceded a later ≡ given marks → (rest : List Mark) × (later ≡ given rest) × (marks ≡ a ++ rest)
preceded_given a (given later) marks e = (later, refl, cc)
preceded_given a (refused n offset) marks e = absurd cc

-- and what stands behind something that is refused is refused
preceded_refused : (a : List Mark) (later : Answer (List Mark)) (n offset : ℕ) → preceded a later ≡ refused n offset → later ≡ refused n offset
preceded_refused a (given later) n offset e = absurd cc
preceded_refused a (refused m other) n offset e = e

preceded_none : (later : Answer (List Mark)) → later ≡ preceded [] later
preceded_none (given later) = refl
preceded_none (refused n offset) = refl

module _ (clock : ℕ) (read : ℕ → ℕ → Answer (List ℕ)) where
  -- a text in front of what is shown
  behind_text : (a : List Mark) (first both later : Answer (List Mark)) (marks : List Mark)
      → ((rest : List Mark) → first ≡ given rest → both ≡ preceded rest later) → preceded a first ≡ given marks → preceded a both ≡ preceded marks later
  behind_text a first both later marks more e =
      let s = preceded_given a first marks e in
      ap (preceded a) (more s.0 s.1) ∙ preceded_twice a s.0 later ∙ ap (λ (m : List Mark). preceded m later) (sym s.2)

  shown : (arguments : List ℕ) (parts later : List FormatPart) (marks : List Mark)
      → shown_by clock read arguments parts ≡ given marks
      → shown_by clock read arguments (parts ++ later) ≡ preceded marks (shown_by clock read (drop (3 * numbers_in parts) arguments) later)
  unfolding shown_by
  shown arguments [] later marks e = preceded_none (shown_by clock read arguments later) ∙ ap (λ (m : List Mark). preceded m (shown_by clock read arguments later)) {x = []} {y = marks} (cc e)
  shown arguments (letter b ∷ parts) later marks e =
      behind_text (character b ∷ []) (shown_by clock read arguments parts) _ (shown_by clock read (drop (3 * numbers_in parts) arguments) later) marks (λ rest f. shown arguments parts later rest f) e
  shown arguments (line_break ∷ parts) later marks e =
      behind_text (new_line ∷ []) (shown_by clock read arguments parts) _ (shown_by clock read (drop (3 * numbers_in parts) arguments) later) marks (λ rest f. shown arguments parts later rest f) e
  shown arguments (the_date ∷ parts) later marks e =
      behind_text (characters (date_shown (moment_of clock))) (shown_by clock read arguments parts) _ (shown_by clock read (drop (3 * numbers_in parts) arguments) later) marks (λ rest f. shown arguments parts later rest f) e
  shown arguments (the_time ∷ parts) later marks e =
      behind_text (characters (time_shown (moment_of clock))) (shown_by clock read arguments parts) _ (shown_by clock read (drop (3 * numbers_in parts) arguments) later) marks (λ rest f. shown arguments parts later rest f) e
  shown arguments (number form ∷ parts) later marks e =
      let three : 3 + 3 * numbers_in parts ≡ 3 * suc (numbers_in parts) = omega arith in
      let rest_of : drop (3 * numbers_in parts) (drop 3 arguments) ≡ drop (3 * suc (numbers_in parts)) arguments = drop-drop (3 * numbers_in parts) 3 arguments ∙ ap (λ (n : ℕ). drop n arguments) three in
      by_answer (argument_of read arguments)
      (λ v g.
      rw g
      (behind_text (characters (number_shown form v)) (shown_by clock read (drop 3 arguments) parts) (shown_by clock read (drop 3 arguments) (parts ++ later))
      (shown_by clock read (drop (3 * suc (numbers_in parts)) arguments) later) marks
      (λ rest f. shown (drop 3 arguments) parts later rest f ∙ ap (λ (l : List ℕ). preceded rest (shown_by clock read l later)) rest_of) (rw g at e)))
      (λ n offset g. absurd (cc (rw g at e)))
  shown arguments (bad_format ∷ parts) later marks e = absurd cc

  -- the first refusal stays
  stays : (a : List Mark) (first both : Answer (List Mark)) (n offset : ℕ)
      → (first ≡ refused n offset → both ≡ refused n offset) → preceded a first ≡ refused n offset → preceded a both ≡ refused n offset
  stays a first both n offset more e = ap (preceded a) (more (preceded_refused a first n offset e))

  first_refusal : (arguments : List ℕ) (parts later : List FormatPart) (n offset : ℕ)
      → shown_by clock read arguments parts ≡ refused n offset → shown_by clock read arguments (parts ++ later) ≡ refused n offset
  unfolding shown_by
  first_refusal arguments [] later n offset e = absurd cc
  first_refusal arguments (letter b ∷ parts) later n offset e =
      stays (character b ∷ []) (shown_by clock read arguments parts) (shown_by clock read arguments (parts ++ later)) n offset (first_refusal arguments parts later n offset) e
  first_refusal arguments (line_break ∷ parts) later n offset e =
      stays (new_line ∷ []) (shown_by clock read arguments parts) (shown_by clock read arguments (parts ++ later)) n offset (first_refusal arguments parts later n offset) e
  first_refusal arguments (the_date ∷ parts) later n offset e =
      stays (characters (date_shown (moment_of clock))) (shown_by clock read arguments parts) (shown_by clock read arguments (parts ++ later)) n offset (first_refusal arguments parts later n offset) e
  first_refusal arguments (the_time ∷ parts) later n offset e =
      stays (characters (time_shown (moment_of clock))) (shown_by clock read arguments parts) (shown_by clock read arguments (parts ++ later)) n offset (first_refusal arguments parts later n offset) e
  first_refusal arguments (number form ∷ parts) later n offset e =
      by_answer (argument_of read arguments)
      (λ v g.
      rw g
      (stays (characters (number_shown form v)) (shown_by clock read (drop 3 arguments) parts) (shown_by clock read (drop 3 arguments) (parts ++ later)) n offset
      (first_refusal (drop 3 arguments) parts later n offset) (rw g at e)))
      (λ m other g. rw g (rw g at e))
  first_refusal arguments (bad_format ∷ parts) later n offset e = e

  -- three bytes are the same with more behind them
  same_argument : (arguments more : List ℕ) (v : Value) → argument_of read arguments ≡ given v → (argument_of read (arguments ++ more) ≡ given v) × (drop 3 (arguments ++ more) ≡ drop 3 arguments ++ more)
  unfolding argument_of
  same_argument [] more v e = absurd cc
  same_argument (a ∷ []) more v e = absurd cc
  same_argument (a ∷ b ∷ []) more v e = absurd cc
  same_argument (a ∷ b ∷ c ∷ rest) more v e =
      (rw (le-ltb (length (a ∷ b ∷ c ∷ rest ++ more)) 3 (omega arith)) (rw (le-ltb (length (a ∷ b ∷ c ∷ rest)) 3 (omega arith)) at e), refl)

  spare : (arguments more : List ℕ) (parts : List FormatPart) (marks : List Mark)
      → shown_by clock read arguments parts ≡ given marks → shown_by clock read (arguments ++ more) parts ≡ given marks
  unfolding shown_by
  spare arguments more [] marks e = e
  spare arguments more (letter b ∷ parts) marks e =
      let s = preceded_given (character b ∷ []) (shown_by clock read arguments parts) marks e in rw (spare arguments more parts s.0 s.1) (ap given (sym s.2))
  spare arguments more (line_break ∷ parts) marks e =
      let s = preceded_given (new_line ∷ []) (shown_by clock read arguments parts) marks e in rw (spare arguments more parts s.0 s.1) (ap given (sym s.2))
  spare arguments more (the_date ∷ parts) marks e =
      let s = preceded_given (characters (date_shown (moment_of clock))) (shown_by clock read arguments parts) marks e in rw (spare arguments more parts s.0 s.1) (ap given (sym s.2))
  spare arguments more (the_time ∷ parts) marks e =
      let s = preceded_given (characters (time_shown (moment_of clock))) (shown_by clock read arguments parts) marks e in rw (spare arguments more parts s.0 s.1) (ap given (sym s.2))
  spare arguments more (number form ∷ parts) marks e =
      by_answer (argument_of read arguments)
      (λ v g.
      let s = preceded_given (characters (number_shown form v)) (shown_by clock read (drop 3 arguments) parts) marks (rw g at e) in
      let t = same_argument arguments more v g in
      rw (t.0, t.1, spare (drop 3 arguments) more parts s.0 s.1) (ap given (sym s.2)))
      (λ n offset g. absurd (cc (rw g at e)))
  spare arguments more (bad_format ∷ parts) marks e = absurd cc

pub arguments_in_order : ArgumentsInOrder
arguments_in_order = record { shown = shown; refusals = first_refusal; spare = spare }

-- what is shown goes by the fields that are read
pub shown_cong : (clock : ℕ) (read other : ℕ → ℕ → Answer (List ℕ)) → ((group register field : ℕ) → field_of read group register field ≡ field_of other group register field)
    → (arguments : List ℕ) (parts : List FormatPart) → shown_by clock read arguments parts ≡ shown_by clock other arguments parts
unfolding shown_by
shown_cong clock read other same arguments [] = refl
shown_cong clock read other same arguments (letter b ∷ parts) = ap (preceded (character b ∷ [])) (shown_cong clock read other same arguments parts)
shown_cong clock read other same arguments (line_break ∷ parts) = ap (preceded (new_line ∷ [])) (shown_cong clock read other same arguments parts)
shown_cong clock read other same arguments (the_date ∷ parts) = ap (preceded (characters (date_shown (moment_of clock)))) (shown_cong clock read other same arguments parts)
shown_cong clock read other same arguments (the_time ∷ parts) = ap (preceded (characters (time_shown (moment_of clock)))) (shown_cong clock read other same arguments parts)
shown_cong clock read other same arguments (number form ∷ parts) =
    ap (λ (v : Answer Value). number_before form v (shown_by clock read (drop 3 arguments) parts)) (argument_cong read other same arguments)
    ∙ ap (number_before form (argument_of other arguments)) (shown_cong clock read other same (drop 3 arguments) parts)
shown_cong clock read other same arguments (bad_format ∷ parts) = refl

-- The two lines

-- text alone is the first line, and there is no second
text_alone : (text : List ℕ) → line_shown 0 (characters text) ≡ text
unfolding line_shown
text_alone [] = refl
text_alone (b ∷ text) = ap (λ (l : List ℕ). b ∷ l) (text_alone text)

none_below : (text : List ℕ) → line_shown 1 (characters text) ≡ []
unfolding line_shown
none_below [] = refl
none_below (b ∷ text) = none_below text

-- text before a break is the first line, and what stands behind it begins the second
text_first : (text : List ℕ) (behind : List Mark) → line_shown 0 (characters text ++ (new_line ∷ behind)) ≡ text
unfolding line_shown
text_first [] behind = refl
text_first (b ∷ text) behind = ap (λ (l : List ℕ). b ∷ l) (text_first text behind)

behind_second : (text : List ℕ) (behind : List Mark) → line_shown 1 (characters text ++ (new_line ∷ behind)) ≡ line_shown 0 behind
unfolding line_shown
behind_second [] behind = refl
behind_second (b ∷ text) behind = behind_second text behind

pub lines_as_broken : LinesAsBroken
lines_as_broken = record { alone = text_alone; no_second = none_below; first = text_first; second = behind_second }

pub only_two_lines : OnlyTwoLines
only_two_lines =
    record {
      first = λ marks i low. get_or-append (line 0 marks) (line 1 marks) 0 i (rw (length_table 16 (at 0 marks)) low) ∙ table_at 16 (at 0 marks) i 0 low;
      second =
          λ marks i low.
          ap (λ (n : ℕ). get_or (line 0 marks ++ line 1 marks) (n + i) 0) (sym (length_table 16 (at 0 marks)))
          ∙ get_or-append-add (line 0 marks) (line 1 marks) i 0 ∙ table_at 16 (at 1 marks) i 0 low;
      characters = λ marks. length-append (line 0 marks) (line 1 marks) ∙ rw (length_table 16 (at 0 marks), length_table 16 (at 1 marks)) refl;
      dropped =
          λ marks others same same_second.
          ap (λ (l : List ℕ). l ++ line 1 marks) (table_cong 16 (at 0 marks) (at 0 others) same) ∙ ap (λ (l : List ℕ). line 0 others ++ l) (table_cong 16 (at 1 marks) (at 1 others) same_second);
    }
  where
    at : ℕ → List Mark → ℕ → ℕ
    at k marks i = get_or (line_shown k marks) i 32

    line : ℕ → List Mark → List ℕ
    line k marks = table 16 (at k marks)

-- The buffer

-- what a reply says, and what it leaves
leaves : (shown : Answer (List Mark)) (buffer : List ℕ) (n offset : ℕ) → (displayed shown buffer).answer ≡ refused n offset → (displayed shown buffer).buffer ≡ buffer
leaves (given marks) buffer n offset e = absurd cc
leaves (refused m other) buffer n offset e = refl

pub refused_display : RefusedDisplay
unfolding display_with
refused_display clock read format arguments buffer n offset =
    if_cases (λ (r : RegisterReply). r.answer ≡ refused n offset → r.buffer ≡ buffer) (ltb (length buffer) 32) (λ t e. refl)
    (λ t e. leaves (shown_by clock read arguments (meaning format)) buffer n offset e)

pub shown_first : ShownFirst
unfolding display_with
shown_first clock read format arguments buffer n e =
    by_test (ltb (length buffer) 32)
    (λ t. absurd (cc (rw t at e)))
    (λ t.
    by_answer (shown_by clock read arguments (meaning format))
    (λ marks g. (
      cc (rw (t, g) at e),
      record { marks = marks; all = g; room = ltb-false (length buffer) 32 t; after = rw (t, g) refl },
    ))
    (λ m offset g. absurd (cc (rw (t, g) at e))))

-- Demand 1 of the display: 13 first, then in string order the first bad specification, 21, or the first number whose argument bytes name no readable field, 22.
use Rattle.std.specs.Prelude.{if◌then◌else◌}
use mathlib.Core.Path.{◌≡◌, refl, sym, ap, ◌∙◌}
use mathlib.Core.Bool.{Bool, true, true≢false}
use mathlib.Core.List.{List, [], ◌∷◌, ◌++◌, append_assoc}
use mathlib.Core.Logic.{◌⊎◌, inl, inr, ⊎_elim}
use Prim.Native.Nat.{ℕ, zero, suc, ◌+◌, ◌*◌}
use native.Mathlib.Omega.{arith}
use borrow.Author.Tests.{ltb-true, ltb-false, lt-ltb}
use lib.Dec.{ltb}
use lib.ListN.{length, get_or, drop, replicate}
use lib.Seq.{drop-drop}
use Rattle.laws.specs.Answers.{Answer, given, refused}
use Rattle.laws.proofs.Answers.{by_answer}
use Rattle.laws.proofs.Tests.{by_test}
use Rattle.calendar.specs.Moments.{moment_of}
use Rattle.settings.specs.declared.Config.{Config}
use Rattle.recorder.specs.declared.Recorder.{Recorder}
use Rattle.registers.specs.Registers.{group_of, contents_of, RegisterReply, register_reply}
use Rattle.registers.proofs.Groups.{is_given_lem}
use Rattle.display.specs.Formats.{FormatPart, letter, line_break, the_date, the_time, number, bad_format, meaning}
use Rattle.display.specs.Written.{Writes, NoBreak, WrittenAs}
use Rattle.display.specs.Fields.{field_bytes, field_given, field_of, argument_of, bytes_given, read_by}
use Rattle.display.specs.Numbers.{date_shown, time_shown, number_shown}
use Rattle.display.specs.Displays.{Mark, character, new_line, characters, preceded, shown_by, displayed, display_with, display_reply}
use Rattle.display.specs.Laws.{BadBehind, numbers_in}
use Rattle.display.proofs.Grammar.{first_same, number_first, number_no_n, means_before, bad_means, means_as_written}
use Rattle.display.proofs.Laws.{arguments_in_order}
use Rattle.display.proofs.Registered.{field_there, field_past}
use Rattle.demands.specs.Demand1.{at, Ordered, ReadableField, AllReadable, FormatFirst, ArgumentFirst, display_refusals}
use Rattle.demands.specs.Shown.{readable}
use Rattle.demands.proofs.Replies.{reply_with_lem, readable_is, long, by_line}

-- Argument bytes

-- the bytes behind the first k numbers, without those of the first
rest_of : (k : ℕ) (arguments : List ℕ) → drop (3 * k) (drop 3 arguments) ≡ drop (3 * suc k) arguments
rest_of k arguments = let three : 3 + 3 * k ≡ 3 * suc k = omega arith in drop-drop (3 * k) 3 arguments ∙ ap (λ (n : ℕ). drop n arguments) three

-- no number, none unreadable
all_none : (c : Config) (arguments : List ℕ) → AllReadable c arguments 0
all_none c arguments k low = absurd (omega arith)

-- where all are readable, those behind the first are
all_later : (c : Config) (arguments : List ℕ) (n : ℕ) → AllReadable c arguments (suc n) → AllReadable c (drop 3 arguments) n
all_later c arguments n all k low = rw (rest_of k arguments) (all (suc k) (omega arith))

-- and where those behind a readable one are, all are
all_more : (c : Config) (arguments : List ℕ) (n : ℕ) → ReadableField c arguments → AllReadable c (drop 3 arguments) n → AllReadable c arguments (suc n)
all_more c arguments n here all zero low = here
all_more c arguments n here all (suc k) low = rw (← rest_of k arguments) (all k (omega arith))

module _ (r : Recorder) where
  -- What can be read

  -- a field of a recorder: that of what its register holds, where it can be read
  field_is : (group register field : ℕ)
      → field_of (read_by r) group register field ≡ field_given group field (if readable r.config group register then given (contents_of r group register) else refused 22 0)
  unfolding read_by register_reply
  field_is group register field =
      ap (λ (x : RegisterReply). field_given group field (bytes_given x.answer x.buffer)) (reply_with_lem (group_of group) r register (replicate 13 0))
      ∙ by_line (group_of group) r.config (contents_of r group register) group register field (λ g found low. long r group register g found)
      ∙ ap (λ (b : Bool). field_given group field (if b then given (contents_of r group register) else refused 22 0)) (sym (readable_is r.config group register))

  -- three bytes name a readable field, and it is given; or they name none, and are refused
  abbrev Named : List ℕ → Type 0
  Named arguments =
      (ReadableField r.config arguments × (is_given_lem (argument_of (read_by r) arguments) ≡ true))
      ⊎ ((ReadableField r.config arguments → ⊥) × (argument_of (read_by r) arguments ≡ refused 22 0))

  -- one of the two, by three tests
  named_or_not : (arguments : List ℕ) → Named arguments
  unfolding argument_of
  named_or_not arguments =
      let group = get_or arguments 0 0 in
      let register = get_or arguments 1 0 in
      let field = get_or arguments 2 0 in
      by_test (ltb (length arguments) 3)
      (λ t. let few = ltb-true (length arguments) 3 t in inr ((λ f. let enough = f.0 in omega arith), rw t refl))
      (λ enough.
      by_test (readable r.config group register)
      (λ u.
      by_test (ltb field (length (field_bytes group)))
      (λ l.
      let low = ltb-true field (length (field_bytes group)) l in
      inl ((ltb-false (length arguments) 3 enough, u, low), rw enough (ap is_given_lem (field_is group register field) ∙ rw (u, field_there group field low) refl)))
      (λ l.
      inr (
        (λ f. true≢false (sym (lt-ltb field (length (field_bytes group)) f.2) ∙ l)),
        rw enough (field_is group register field ∙ rw (u, field_past group field (ltb-false field (length (field_bytes group)) l)) refl),
      )))
      (λ u. inr ((λ f. true≢false (sym f.1 ∙ u)), rw enough (field_is group register field ∙ rw u refl))))

  -- bytes that name a readable field are given
  named_given : (arguments : List ℕ) → ReadableField r.config arguments → is_given_lem (argument_of (read_by r) arguments) ≡ true
  named_given arguments is = ⊎_elim (λ yes. yes.1) (λ no. absurd (no.0 is)) (named_or_not arguments)

  -- and any other are refused
  unnamed_22 : (arguments : List ℕ) → (ReadableField r.config arguments → ⊥) → argument_of (read_by r) arguments ≡ refused 22 0
  unnamed_22 arguments none = ⊎_elim (λ yes. absurd (none yes.0)) (λ no. no.1) (named_or_not arguments)

  -- In string order

  -- what the recorder shows of parts
  abbrev showing : List ℕ → List FormatPart → Answer (List Mark)
  showing arguments parts = shown_by r.state.clock (read_by r) arguments parts

  -- something is shown
  abbrev Shown : Answer (List Mark) → Type 0
  Shown a = (marks : List Mark) × (a ≡ given marks)

  -- so it is with something before it
  before_shown : (a : List Mark) (later : Answer (List Mark)) → Shown later → Shown (preceded a later)
  before_shown a later s = (a ++ s.0, ap (preceded a) s.1)

  -- parts that are written, and whose numbers can be read, are shown
  all_shown : (parts : List FormatPart) (text arguments : List ℕ) → WrittenAs parts text → AllReadable r.config arguments (numbers_in parts) → Shown (showing arguments parts)
  unfolding shown_by
  all_shown [] text arguments w all = ([], refl)
  all_shown (letter b ∷ parts) text arguments w all = before_shown (character b ∷ []) (showing arguments parts) (all_shown parts w.1 arguments w.5 all)
  all_shown (line_break ∷ parts) text arguments w all = before_shown (new_line ∷ []) (showing arguments parts) (all_shown parts w.1 arguments w.5 all)
  all_shown (the_date ∷ parts) text arguments w all =
      before_shown (characters (date_shown (moment_of r.state.clock))) (showing arguments parts) (all_shown parts w.1 arguments w.5 all)
  all_shown (the_time ∷ parts) text arguments w all =
      before_shown (characters (time_shown (moment_of r.state.clock))) (showing arguments parts) (all_shown parts w.1 arguments w.5 all)
  all_shown (number form ∷ parts) text arguments w all =
      let later = all_shown parts w.1 (drop 3 arguments) w.5 (all_later r.config arguments (numbers_in parts) all) in
      by_answer (argument_of (read_by r) arguments)
      (λ v e. rw e (before_shown (characters (number_shown form v)) (showing (drop 3 arguments) parts) later))
      (λ n offset e. absurd (true≢false (sym (named_given arguments (all 0 (omega arith))) ∙ ap is_given_lem e)))
  all_shown (bad_format ∷ parts) text arguments w all = absurd w.3

  -- what is refused behind such parts is refused
  refused_behind : (parts later : List FormatPart) (text arguments : List ℕ) (n : ℕ) → WrittenAs parts text → AllReadable r.config arguments (numbers_in parts)
      → showing (drop (3 * numbers_in parts) arguments) later ≡ refused n 0 → showing arguments (parts ++ later) ≡ refused n 0
  refused_behind parts later text arguments n w all e =
      let s = all_shown parts text arguments w all in
      arguments_in_order.shown r.state.clock (read_by r) arguments parts later s.0 s.1 ∙ ap (preceded s.0) e

  -- where 21 is due, it is given
  format_21 : (format arguments : List ℕ) → FormatFirst r.config format arguments → showing arguments (meaning format) ≡ refused 21 0
  unfolding shown_by
  format_21 format arguments f =
      let means : meaning format ≡ f.parts ++ (bad_format ∷ []) =
      ap meaning f.split ∙ means_before f.parts f.text (37 ∷ f.rest) f.good (λ e. omega arith) ∙ ap (λ (x : List FormatPart). f.parts ++ x) (bad_means f.rest f.bad) in
      ap (showing arguments) means ∙ refused_behind f.parts (bad_format ∷ []) f.text arguments 21 f.good f.shown refl

  -- where 22 is due, it is given
  argument_22 : (format arguments : List ℕ) → ArgumentFirst r.config format arguments → showing arguments (meaning format) ≡ refused 22 0
  unfolding shown_by
  argument_22 format arguments f =
      let later = number f.written.0 ∷ meaning f.rest in
      let means : meaning format ≡ f.parts ++ later =
      ap meaning f.split
      ∙ means_before f.parts f.text (f.specification ++ f.rest) f.good (number_no_n f.specification f.rest f.written)
      ∙ ap (λ (x : List FormatPart). f.parts ++ x) (number_first f.specification f.rest f.written) in
      ap (showing arguments) means
      ∙ refused_behind f.parts later f.text arguments 22 f.good f.shown (rw (unnamed_22 (drop (3 * numbers_in f.parts) arguments) f.unreadable) refl)

  -- one more part in front of the number whose bytes name none
  in_front_lem : (part : FormatPart) (text rest format : List ℕ) → format ≡ text ++ rest → Writes part text → NoBreak part rest
      → (arguments later : List ℕ) (a : ArgumentFirst r.config rest later) → AllReadable r.config arguments (numbers_in (part ∷ a.parts))
      → drop (3 * numbers_in (part ∷ a.parts)) arguments ≡ drop (3 * numbers_in a.parts) later → ArgumentFirst r.config format arguments
  in_front_lem part text rest format is w h arguments later a all same =
      record {
        parts = part ∷ a.parts;
        text = text ++ a.text;
        rest = a.rest;
        specification = a.specification;
        split = is ∙ ap (λ (x : List ℕ). text ++ x) a.split ∙ sym (append_assoc text a.text (a.specification ++ a.rest));
        good = (text, a.text, refl, w, (λ l n. h l (ap (λ (x : List ℕ). get_or x 0 0) a.split ∙ first_same a.text (a.specification ++ a.rest) n)), a.good);
        shown = all;
        written = a.written;
        unreadable = rw same a.unreadable;
      }

  -- the numbers of parts that are written can all be read, or there is a first that cannot
  all_or_first : (parts : List FormatPart) (text arguments : List ℕ) → WrittenAs parts text → AllReadable r.config arguments (numbers_in parts) ⊎ ArgumentFirst r.config text arguments
  all_or_first [] text arguments w = inl (all_none r.config arguments)
  all_or_first (letter b ∷ parts) text arguments w =
      ⊎_elim inl (λ a. inr (in_front_lem (letter b) w.0 w.1 text w.2 w.3 w.4 arguments arguments a a.shown refl)) (all_or_first parts w.1 arguments w.5)
  all_or_first (line_break ∷ parts) text arguments w =
      ⊎_elim inl (λ a. inr (in_front_lem line_break w.0 w.1 text w.2 w.3 w.4 arguments arguments a a.shown refl)) (all_or_first parts w.1 arguments w.5)
  all_or_first (the_date ∷ parts) text arguments w =
      ⊎_elim inl (λ a. inr (in_front_lem the_date w.0 w.1 text w.2 w.3 w.4 arguments arguments a a.shown refl)) (all_or_first parts w.1 arguments w.5)
  all_or_first (the_time ∷ parts) text arguments w =
      ⊎_elim inl (λ a. inr (in_front_lem the_time w.0 w.1 text w.2 w.3 w.4 arguments arguments a a.shown refl)) (all_or_first parts w.1 arguments w.5)
  all_or_first (number form ∷ parts) text arguments w =
      ⊎_elim
      (λ yes.
      ⊎_elim (λ all. inl (all_more r.config arguments (numbers_in parts) yes.0 all))
      (λ a.
      inr
      (in_front_lem (number form) w.0 w.1 text w.2 w.3 w.4 arguments (drop 3 arguments) a (all_more r.config arguments (numbers_in a.parts) yes.0 a.shown)
      (sym (rest_of (numbers_in a.parts) arguments))))
      (all_or_first parts w.1 (drop 3 arguments) w.5))
      (λ no.
      inr
      (record {
        parts = [];
        text = [];
        rest = w.1;
        specification = w.0;
        split = w.2;
        good = refl;
        shown = all_none r.config arguments;
        written = (form, w.3);
        unreadable = no.0;
      }))
      (named_or_not arguments)
  all_or_first (bad_format ∷ parts) text arguments w = absurd w.3

  -- all of a string is shown, or 21 is due, or 22
  abbrev Ends : List ℕ → List ℕ → Type 0
  Ends format arguments = Shown (showing arguments (meaning format)) ⊎ (FormatFirst r.config format arguments ⊎ ArgumentFirst r.config format arguments)

  -- where a bad specification stands in it
  bad_ends : (format arguments : List ℕ) → BadBehind format → Ends format arguments
  bad_ends format arguments b =
      ⊎_elim
      (λ all. inr (inl (record { parts = b.parts; text = b.text; rest = b.rest; split = b.split; good = b.good; shown = all; bad = b.bad })))
      (λ a.
      inr
      (inr
      (record {
        parts = a.parts;
        text = a.text;
        rest = a.rest ++ (37 ∷ b.rest);
        specification = a.specification;
        split = b.split ∙ ap (λ (x : List ℕ). x ++ (37 ∷ b.rest)) a.split ∙ simp append_assoc;
        good = a.good;
        shown = a.shown;
        written = a.written;
        unreadable = a.unreadable;
      })))
      (all_or_first b.parts b.text arguments b.good)

  -- any string ends so
  ends : (format arguments : List ℕ) → Ends format arguments
  ends format arguments =
      ⊎_elim
      (λ w. ⊎_elim (λ all. inl (all_shown (meaning format) format arguments w all)) (λ a. inr (inr a)) (all_or_first (meaning format) format arguments w))
      (bad_ends format arguments)
      (means_as_written.found format)

  -- The refusals

  -- those of the string, where there is room in the buffer
  with_room : (format arguments buffer : List ℕ)
      → Ordered (at 21 0 (FormatFirst r.config format arguments) ∷ at 22 0 (ArgumentFirst r.config format arguments) ∷ []) (displayed (showing arguments (meaning format)) buffer).answer
  unfolding Ordered
  with_room format arguments buffer =
      let no_21 : is_given_lem (showing arguments (meaning format)) ≡ true → FormatFirst r.config format arguments → ⊥ =
      λ e f. true≢false (sym e ∙ ap is_given_lem (format_21 format arguments f)) in
      let no_22 : is_given_lem (showing arguments (meaning format)) ≡ true → ArgumentFirst r.config format arguments → ⊥ =
      λ e f. true≢false (sym e ∙ ap is_given_lem (argument_22 format arguments f)) in
      ⊎_elim
      (λ s. let e = ap is_given_lem s.1 in inr ((λ offset due. no_21 e due.1), inr ((λ offset due. no_22 e due.1), (32, rw s.1 refl))))
      (⊎_elim (λ f. inl (0, (refl, f), rw (format_21 format arguments f) refl))
      (λ a.
      let is = argument_22 format arguments a in
      inr ((λ offset due. let not : refused 21 0 ≡ refused 22 0 = sym (format_21 format arguments due.1) ∙ is in let z : ◌≡◌ {A = ℕ} 21 22 = cc in omega arith), inl (0, (refl, a), rw is refl))))
      (ends format arguments)

  -- and 13 before them
  pub displays : (format arguments buffer : List ℕ) → Ordered (display_refusals r.config format arguments buffer) (display_reply r format arguments buffer).answer
  unfolding Ordered display_with
  displays format arguments buffer =
      by_test (ltb (length buffer) 32)
      (λ t. inl (0, (refl, ltb-true (length buffer) 32 t), rw t refl))
      (λ room. inr ((λ offset due. true≢false (sym (lt-ltb (length buffer) 32 due.1) ∙ room)), rw room (with_room format arguments buffer)))

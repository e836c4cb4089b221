-- Laws of the screen (specs/Steps.antt): characters one after another, and what stands on it at the end.
use Rattle.std.specs.Prelude.{if◌then◌else◌}
use mathlib.Core.Path.{◌≡◌, refl, sym, ap, ◌∙◌}
use mathlib.Core.List.{List, [], ◌∷◌, ◌++◌}
use Prim.Native.Nat.{ℕ, zero, suc, ◌+◌, ◌-◌, ◌/◌, ◌≤◌, ◌<◌}
use native.Mathlib.Omega.{arith}
use borrow.Author.Tests.{lt-ltb, le-ltb, ltb-true, ltb-false, lt-leb, le-leb}
use native.Mathlib.Nat.{sub-zero}
use lib.Dec.{ltb, leb}
use lib.ListN.{length, get_or, set, replicate, length-set, get_or-replicate}
use lib.Seq.{get_or-set_same, get_or-set_other}
use Rattle.laws.specs.Decimals.{digit, last_digits}
use Rattle.laws.specs.Answers.{Answer, given, refused}
use Rattle.laws.specs.Tables.{table}
use Rattle.laws.proofs.If.{if_cases}
use Rattle.laws.proofs.Tables.{table_cong, table_self, table_append}
use Rattle.laws.proofs.Tests.{by_test}
use Rattle.display.specs.Displays.{Mark, character, new_line, characters, preceded, line_shown, two_lines}
use Rattle.display.specs.Steps.{blank_screen, put_of, puts_of, next_line, written_on, cells_of}
use Rattle.display.specs.declared.screen.Screen.{Screen}

-- characters after characters
pub puts_split : (s : Screen) (a b : List ℕ) → puts_of s (a ++ b) ≡ puts_of (puts_of s a) b
unfolding puts_of
puts_split s [] b = refl
puts_split s (x ∷ a) b = puts_split (put_of s x) a b

-- one digit more
pub one_more : (s : Screen) (k n : ℕ) → (k ≡ 0 → ⊥) → put_of (puts_of s (last_digits (k - 1) (n / 10))) (digit n) ≡ puts_of s (last_digits k n)
unfolding last_digits puts_of
one_more s zero n h = absurd (h refl)
one_more s (suc k) n h = let e : suc k - 1 ≡ k = omega arith in rw e (sym (puts_split s (last_digits k (n / 10)) (digit n ∷ [])))

-- one of the same characters less is left, and none
module _ (s : Screen) (byte count k : ℕ) where
  pub same_turn : k < count → puts_of s (replicate (count - k) byte) ≡ puts_of (put_of s byte) (replicate (count - (k + 1)) byte)
  unfolding puts_of
  same_turn h = let e : count - k ≡ suc (count - (k + 1)) = omega arith in rw e refl

  pub same_done : count ≤ k → puts_of s (replicate (count - k) byte) ≡ s
  unfolding puts_of
  same_done h = let e : count - k ≡ 0 = omega arith in rw e refl

-- Characters and line breaks

written_after : (s : Screen) (a b : List Mark) → written_on s (a ++ b) ≡ written_on (written_on s a) b
unfolding written_on
written_after s [] b = refl
written_after s (character x ∷ a) b = written_after (put_of s x) a b
written_after s (new_line ∷ a) b = written_after (next_line s) a b

-- what stands before something is written before it
pub cells_after : (s : Screen) (marks : List Mark) (later : Answer (List Mark)) → cells_of s (preceded marks later) ≡ cells_of (written_on s marks) later
cells_after s marks (given later) = ap (λ (x : Screen). given x.cells) (written_after s marks later)
cells_after s marks (refused n offset) = refl

-- the characters of a text
pub on_characters : (s : Screen) (text : List ℕ) → written_on s (characters text) ≡ puts_of s text
unfolding written_on puts_of
on_characters s [] = refl
on_characters s (b ∷ text) = on_characters (put_of s b) text

-- What stands on the screen at the end

-- a screen as it comes from a blank one
record Ready (s : Screen) : Type 0 where
  pub within : s.at ≤ s.end
  pub first : 16 ≤ s.end
  pub last : s.end ≤ 32
  pub cells : length s.cells ≡ 32

-- a character at its place
put_at : (s : Screen) (b : ℕ) → s.at < s.end → s.end ≤ 32 → put_of s b ≡ record { at = s.at + 1; end = s.end; cells = set s.cells s.at b }
unfolding put_of
put_at s b h l = rw (lt-leb s.end s.at h, lt-leb 32 s.at (omega arith)) refl

-- or dropped
put_past : (s : Screen) (b : ℕ) → s.end ≤ s.at → put_of s b ≡ s
unfolding put_of
put_past s b h = rw (le-leb s.end s.at h) refl

-- what stands at place i, when marks are written: what stood there before the place of the next character; then what is written on this line; then what is written on the next
abbrev finally : Screen → List Mark → ℕ → ℕ
finally s marks i =
    if ltb i s.at then get_or s.cells i 32
    else if ltb i s.end then get_or (line_shown 0 marks) (i - s.at) (get_or s.cells i 32)
    else get_or (line_shown 1 marks) (i - s.end) (get_or s.cells i 32)

-- it is the same for the screen that one mark leaves: nothing left
none_left : (s : Screen) (i : ℕ) → get_or s.cells i 32 ≡ finally s [] i
unfolding line_shown
none_left s i = by_test (ltb i s.at) (λ t. rw t refl) (λ t. by_test (ltb i s.end) (λ u. rw (t, u) refl) (λ u. rw (t, u) refl))

-- a line break
module _ (s : Screen) (ready : Ready s) (marks : List Mark) (i : ℕ) (low : i < 32) where
  broken : finally (next_line s) marks i ≡ finally s (new_line ∷ marks) i
  unfolding line_shown
  broken =
      by_test (ltb i s.end)
      (λ u. by_test (ltb i s.at) (λ t. rw (u, t) refl) (λ t. rw (u, t) refl))
      (λ u.
      let past = ltb-false i s.end u in
      rw (u, lt-ltb i 32 low, le-ltb i s.at (omega (arith, ready.within))) refl)

  -- a character that is dropped
  dropped : (b : ℕ) → s.end ≤ s.at → finally s marks i ≡ finally s (character b ∷ marks) i
  unfolding line_shown
  dropped b full =
      by_test (ltb i s.at) (λ t. rw t refl)
      (λ t.
      let past = ltb-false i s.at t in
      rw (t, le-ltb i s.end (omega arith)) refl)

  -- one that is shown
  shown : (b : ℕ) → s.at < s.end → finally (record { at = s.at + 1; end = s.end; cells = set s.cells s.at b }) marks i ≡ finally s (character b ∷ marks) i
  unfolding line_shown
  shown b room =
      by_test (ltb i s.at)
      (λ t.
      let before = ltb-true i s.at t in
      rw (t, lt-ltb i (s.at + 1) (omega arith), get_or-set_other s.cells s.at i b 32 (λ e. omega arith)) refl)
      (λ t.
      let past = ltb-false i s.at t in
      by_test (ltb i (s.at + 1))
      (λ u.
      let below = ltb-true i (s.at + 1) u in
      let here : i ≡ s.at = omega arith in
      let none : s.at - s.at ≡ 0 = omega arith in
      rw (here, lt-ltb s.at (s.at + 1) (omega arith), le-ltb s.at s.at (omega arith), lt-ltb s.at s.end room, get_or-set_same s.cells s.at b 32 (omega (arith, ready.last, ready.cells)), none) refl)
      (λ u.
      let behind = ltb-false i (s.at + 1) u in
      let next : i - s.at ≡ suc (i - (s.at + 1)) = omega arith in
      rw (t, u, next, get_or-set_other s.cells s.at i b 32 (λ e. omega arith)) refl))

finally_at : (marks : List Mark) (s : Screen) → Ready s → (i : ℕ) → i < 32 → get_or (written_on s marks).cells i 32 ≡ finally s marks i
unfolding written_on
finally_at [] s ready i low = none_left s i
finally_at (new_line ∷ marks) s ready i low =
    finally_at marks (next_line s) (record { within = ready.last; first = omega arith; last = omega arith; cells = ready.cells }) i low ∙ broken s ready marks i low
finally_at (character b ∷ marks) s ready i low =
    by_test (ltb s.at s.end)
    (λ t.
    let room = ltb-true s.at s.end t in
    ap (λ (x : Screen). get_or (written_on x marks).cells i 32) (put_at s b room ready.last)
    ∙ finally_at marks _ (record { within = omega arith; first = ready.first; last = ready.last; cells = length-set s.cells s.at b ∙ ready.cells }) i low
    ∙ shown s ready marks i low b room)
    (λ t.
    let full = ltb-false s.at s.end t in
    ap (λ (x : Screen). get_or (written_on x marks).cells i 32) (put_past s b full) ∙ finally_at marks s ready i low ∙ dropped s ready marks i low b full)

-- the screen keeps its size
put_size : (s : Screen) (b : ℕ) → length (put_of s b).cells ≡ length s.cells
unfolding put_of
put_size s b =
    if_cases (λ (x : Screen). length x.cells ≡ length s.cells) (leb s.end s.at) (λ t. refl)
    (λ t. if_cases (λ (x : Screen). length x.cells ≡ length s.cells) (leb 32 s.at) (λ u. refl) (λ u. length-set s.cells s.at b))

size_at : (marks : List Mark) (s : Screen) → length s.cells ≡ 32 → length (written_on s marks).cells ≡ 32
unfolding written_on
size_at [] s h = h
size_at (new_line ∷ marks) s h = size_at marks (next_line s) h
size_at (character b ∷ marks) s h = size_at marks (put_of s b) (put_size s b ∙ h)

-- a blank stands where nothing is written
blank_at_lem : (i : ℕ) → i < 32 → let blank : ℕ = 32 in get_or (replicate 32 blank) i blank ≡ blank
blank_at_lem i low = get_or-replicate 32 i 32 32 low

-- the 32 characters are the two lines
pub two_lines_lem : (marks : List Mark) → (written_on blank_screen marks).cells ≡ two_lines marks
two_lines_lem marks =
    sym (table_self 32 (written_on blank_screen marks).cells 32 (size_at marks blank_screen refl))
    ∙ table_cong 32 _ (λ i. finally blank_screen marks i) (λ i low. finally_at marks blank_screen (record { within = omega arith; first = omega arith; last = omega arith; cells = refl }) i low)
    ∙ table_append 16 16 (λ i. finally blank_screen marks i)
    ∙ first ∙ second
  where
    first : (table 16 (λ i. finally blank_screen marks i) ++ table 16 (λ i. finally blank_screen marks (16 + i)))
        ≡ (table 16 (λ i. get_or (line_shown 0 marks) i 32) ++ table 16 (λ i. finally blank_screen marks (16 + i)))
    first =
        ap (λ (x : List ℕ). x ++ table 16 (λ i. finally blank_screen marks (16 + i)))
        (table_cong 16 _ _ (λ i low. rw (le-ltb i 0 (omega arith), lt-ltb i 16 low, blank_at_lem i (omega arith), sub-zero i) refl))

    second : (table 16 (λ i. get_or (line_shown 0 marks) i 32) ++ table 16 (λ i. finally blank_screen marks (16 + i))) ≡ two_lines marks
    second =
        ap (λ (x : List ℕ). table 16 (λ i. get_or (line_shown 0 marks) i 32) ++ x)
        (table_cong 16 _ _ (λ i low.
        let e : 16 + i - 16 ≡ i = omega arith in
        rw (le-ltb (16 + i) 0 (omega arith), le-ltb (16 + i) 16 (omega arith), blank_at_lem (16 + i) (omega arith), e) refl))

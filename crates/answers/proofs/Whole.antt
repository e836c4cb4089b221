-- The laws of specs/Laws.antt.
use mathlib.Core.Path.{◌≡◌, refl, ◌∙◌}
use mathlib.Core.List.{List, [], ◌∷◌, ◌++◌, append_assoc, append-nil}
use Prim.Native.Nat.{ℕ, zero, suc, ◌+◌, ◌-◌, ◌*◌, ◌≤◌, ◌<◌}
use native.Mathlib.Omega.{arith}
use borrow.Author.Tests.{lt-ltb, le-leb, lt-leb}
use lib.Dec.{eqb, leb}
use lib.IntN.{ℤ, pos, negsuc}
use lib.ListN.{length, replicate, take, drop, length-append, length-take, length-drop, take-append-drop}
use lib.Seq.{set-append_seam, append_snoc, take_all, drop-drop}
use Rattle.laws.proofs.Digits.{decimal_places}
use Rattle.laws.proofs.If.{if_cases}
use Rattle.laws.specs.Answers.{Answer, given, refused}
use Rattle.laws.specs.Letters.{letters}
use Rattle.lines.specs.declared.Mistake.{Mistake}
use Rattle.lines.specs.declared.Mistake.TheVariants as mistake
use Rattle.lines.specs.declared.Command.{Command}
use Rattle.lines.specs.declared.Command.TheVariants as command
use Rattle.lines.specs.declared.Parameter.{Parameter}
use Rattle.lines.specs.declared.Parameter.TheVariants as parameter
use Rattle.calendar.specs.declared.Moment.{Moment}
use Rattle.registers.specs.declared.fleet.Fleet.{Fleet}
use Rattle.readout.specs.declared.data_sets.Place.{Place}
use Rattle.recorder.specs.Meters.{Stamping, renewed, kept}
use Rattle.image.specs.Answers.{image_answer}
use Rattle.answers.specs.declared.Text.{Text}
use Rattle.answers.specs.Texts.{with_byte, with_bytes, as_text}
use Rattle.laws.specs.Decimals.{decimal_in, decimal_of}
use Rattle.answers.specs.Numbers.{decimal_signed, hex_of}
use Rattle.answers.specs.Errors.{words_text, numbers_text, mistake_text}
use Rattle.answers.specs.Answers.{line_end, ok_line, refused_line, refused_at, refused_after, reading_line, start_line, register_line, record_line, shown_line, display_line, image_part, block_line, value_line, data_set_line, weekday_name, date_line, fleet_line, error_line}
use Rattle.answers.specs.Laws.{TextIs, Fits, NoneCut, EmptyLine, parts_from, PartsJoin}

-- letters with zeros behind them
abbrev filled : List ℕ → Text
filled p = record { bytes = p ++ replicate (256 - length p) 0; length = length p }

-- one letter more
fill_byte : (p : List ℕ) (b : ℕ) → length p < 256 → with_byte (filled p) b ≡ filled (p ++ (b ∷ []))
unfolding with_byte
fill_byte p b h =
    let n : length (p ++ (b ∷ [])) ≡ suc (length p) = length-append p (b ∷ []) ∙ (omega arith) in
    let r : 256 - length p ≡ suc (256 - suc (length p)) = omega arith in
    let l : length p + 1 ≡ suc (length p) = omega arith in
    rw (lt-ltb _ 256 h, n, r, l, set-append_seam p 0 (replicate (256 - suc (length p)) 0) b, append_snoc p b (replicate (256 - suc (length p)) 0))

-- letters one after another
fill_bytes : (p l : List ℕ) → length p + length l ≤ 256 → with_bytes (filled p) l ≡ filled (p ++ l)
unfolding with_bytes
fill_bytes p [] h = rw append-nil
fill_bytes p (b ∷ l) h =
    let n : length (p ++ (b ∷ [])) ≡ suc (length p) = length-append p (b ∷ []) ∙ (omega arith) in
    rw (fill_byte p b (omega arith)) (fill_bytes (p ++ (b ∷ [])) l (omega arith) ∙ rw (append_snoc p b l))

pub text_is : TextIs
text_is l h = fill_bytes [] l (omega arith)

-- a minus, and at most 20 digits
sign : (z : ℤ) → length (decimal_signed z) ≤ 21
unfolding decimal_signed
sign (pos n) = let h = decimal_places n in omega arith
sign (negsuc n) = let h = decimal_places (suc n) in omega arith

-- two digits for each byte
hex_length : (l : List ℕ) → length (hex_of l) ≡ 2 * length l
unfolding hex_of
hex_length [] = refl
hex_length (b ∷ l) = let h = hex_length l in omega arith

-- the names of weekdays
name : (d : ℕ) → length (weekday_name d) ≤ 9
unfolding weekday_name letters
name zero = omega arith
name (suc zero) = omega arith
name (suc (suc zero)) = omega arith
name (suc (suc (suc zero))) = omega arith
name (suc (suc (suc (suc zero)))) = omega arith
name (suc (suc (suc (suc (suc zero))))) = omega arith
name (suc (suc (suc (suc (suc (suc d)))))) = omega arith

-- what is wrong with a line
words_short : (c : Command) → length (words_text c) ≤ 60
unfolding words_text letters
words_short command.Start = omega arith
words_short command.Sample = omega arith
words_short command.Set = omega arith
words_short command.Reading = omega arith
words_short command.Reset = omega arith
words_short command.Register = omega arith
words_short command.Image = omega arith
words_short command.Date = omega arith
words_short command.Fleet = omega arith
words_short command.Profile = omega arith
words_short command.Record = omega arith
words_short command.Dataset = omega arith
words_short command.Readout = omega arith
words_short command.Block = omega arith
words_short command.Blockreadout = omega arith
words_short command.List = omega arith
words_short command.Maker = omega arith
words_short command.Display = omega arith

numbers_short : (p : Parameter) → length (numbers_text p) ≤ 60
unfolding numbers_text letters
numbers_short parameter.Seconds = omega arith
numbers_short parameter.Bits = omega arith
numbers_short parameter.Count = omega arith
numbers_short parameter.Meter = omega arith
numbers_short parameter.Value = omega arith
numbers_short parameter.Status = omega arith
numbers_short parameter.Seq = omega arith
numbers_short parameter.Group = omega arith
numbers_short parameter.Number = omega arith
numbers_short parameter.Room = omega arith
numbers_short parameter.Length = omega arith
numbers_short parameter.Index = omega arith
numbers_short parameter.Decimals = omega arith
numbers_short parameter.Hex = omega arith
numbers_short parameter.Maker = omega arith
numbers_short parameter.Meters = omega arith
numbers_short parameter.Inputs = omega arith
numbers_short parameter.Slots = omega arith
numbers_short parameter.Bills = omega arith
numbers_short (parameter.Slot k) = simp length-append (omega (arith, decimal_places k))

mistake_short : (m : Mistake) → length (mistake_text m) ≤ 60
unfolding mistake_text letters
mistake_short mistake.TooLong = omega arith
mistake_short mistake.Unknown = omega arith
mistake_short (mistake.Words c) = words_short c
mistake_short (mistake.Number p) = numbers_short p

-- a refusal
refused_short : (n : ℕ) → Fits (refused_line n)
unfolding letters
refused_short n = simp length-append (omega (arith, decimal_places n))

at_short : (n offset : ℕ) → Fits (refused_at n offset)
unfolding letters
at_short n offset = simp length-append (omega (arith, decimal_places n, decimal_places offset))

after_short : (n k : ℕ) → Fits (refused_after n k)
unfolding letters
after_short n k = simp length-append (omega (arith, decimal_places n, decimal_places k))

ok_short : Fits ok_line
unfolding letters
ok_short = omega arith

start_short : (a : Answer (Unit {0})) → Fits (start_line a)
start_short (given u) = ok_short
start_short (refused n offset) = at_short n offset

register_short : (a : Answer ℕ) (bytes : List ℕ) → length bytes ≡ 13 → Fits (register_line a bytes)
register_short (given n) bytes h = simp (length-append, hex_length, length-take) (omega arith)
register_short (refused n offset) bytes h = refused_short n

record_short : (a : Answer (Unit {0})) (bytes : List ℕ) → length bytes ≡ 69 → Fits (record_line a bytes)
record_short (given u) bytes h = simp (length-append, hex_length) (omega arith)
record_short (refused n offset) bytes h = refused_short n

display_short : (a : Answer ℕ) (bytes : List ℕ) → Fits (display_line a bytes)
unfolding shown_line letters
display_short (given n) bytes = simp (length-append, length-take) (omega arith)
display_short (refused n offset) bytes = refused_short n

image_short : (a : Answer (Unit {0})) (image : List ℕ) (from : ℕ) → Fits (image_part a image from)
unfolding image_part
image_short (given u) image from =
    if_cases (λ l. length (hex_of (take 100 (drop from image)) ++ l) ≤ 256) (leb (length image) (from + 100))
    (λ e. simp (length-append, hex_length, length-take) (omega arith)) (λ e. simp (length-append, hex_length, length-take) (omega arith))
image_short (refused n offset) image from = if_cases Fits (eqb from 0) (λ e. at_short n offset) (λ e. omega arith)

reading_short : (a : Answer Stamping) → Fits (reading_line a)
unfolding letters
reading_short (given renewed) = omega arith
reading_short (given kept) = omega arith
reading_short (refused n offset) = refused_short n

block_short : (a : Answer (Unit {0})) → Fits (block_line a)
block_short (given u) = ok_short
block_short (refused n offset) = refused_short n

data_set_short : (p : Answer Place) (z : Answer ℤ) → Fits (data_set_line p z)
unfolding value_line letters
data_set_short (given p) (given z) = simp length-append (omega (arith, decimal_places p.start, decimal_places p.length, sign z))
data_set_short (given p) (refused n offset) = refused_short n
data_set_short (refused n offset) z = refused_short n

date_short : (a : Answer Moment) → Fits (date_line a)
unfolding date_line letters
date_short (given m) = simp length-append (omega (arith, name m.weekday))
date_short (refused n offset) = refused_short n

fleet_short : (f : Fleet) → Fits (fleet_line f)
unfolding fleet_line letters
fleet_short f =
    simp length-append
    (omega (arith, decimal_places f.fitted, decimal_places f.awake, decimal_places f.stale, decimal_places f.invalid, decimal_places f.never, sign f.sum))

error_short : (n : ℕ) (m : Mistake) → Fits (error_line n m)
unfolding error_line letters
error_short n m = simp length-append (omega (arith, decimal_places n, mistake_short m))

pub none_cut : NoneCut
none_cut =
    record {
      number = λ n. if_cases Fits (eqb n 0) (λ e. ok_short) (λ e. refused_short n);
      samples = λ n k. if_cases Fits (eqb n 0) (λ e. ok_short) (λ e. after_short n k);
      start = start_short;
      register = register_short;
      profile_record = record_short;
      display = display_short;
      image = image_short;
      reading = reading_short;
      block = block_short;
      data_set = data_set_short;
      date = date_short;
      fleet = fleet_short;
      error = error_short;
    }

pub empty_line : EmptyLine
unfolding letters decimal_of decimal_in image_answer
empty_line = refl

-- the letters of a line stand in its text
pub text_within : (l : List ℕ) → Fits l → (as_text l).length ≤ length (as_text l).bytes
text_within l h = rw (text_is l h, length-append) (omega arith)

-- bytes one after another in hexadecimal
hex_append : (a b : List ℕ) → hex_of (a ++ b) ≡ hex_of a ++ hex_of b
unfolding hex_of
hex_append [] b = refl
hex_append (x ∷ a) b = rw (hex_append a b)

-- the last n parts
parts : (image : List ℕ) (k n : ℕ) → length image ≡ 1126 → k + suc n ≡ 12 → parts_from (given tt) image k (suc n) ≡ hex_of (drop (k * 100) image) ++ line_end
unfolding image_part
parts image k zero h e =
    let d : length (drop (k * 100) image) ≡ length image - k * 100 = length-drop (k * 100) image in
    rw (le-leb (length image) (k * 100 + 100) (omega arith), take_all 100 (drop (k * 100) image) (omega arith), append-nil)
parts image k (suc n) h e =
    let m : suc k * 100 ≡ k * 100 + 100 = omega arith in
    rw (
      lt-leb (length image) (k * 100 + 100) (omega arith),
      append-nil,
      parts image (suc k) n h (omega arith),
      ← append_assoc,
      ← hex_append,
      m,
      ← drop-drop 100 (k * 100) image,
      take-append-drop 100 (drop (k * 100) image),
    )

pub parts_join : PartsJoin
unfolding image_part
parts_join (given u) image h = parts image 0 11 h refl
parts_join (refused n offset) image h = rw append-nil

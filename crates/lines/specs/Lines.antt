-- The table of lines. A line is taken without its end.
use Rattle.std.specs.Prelude.{bytes_eq, find, option_map, Bool, ◌||◌, List, [], ◌∷◌, ℕ, ◌+◌, ltb, leb, eqb, length, get_or, if◌then◌else◌, Option, Some, None, Result, Ok, Err, is_none, ok_or, unwrap_or}
use Rattle.laws.specs.First.{first}
use Rattle.laws.specs.Letters.{letters}
use Rattle.laws.specs.Tables.{table}
use Rattle.lines.specs.Words.{without_return, words, word}
use Rattle.lines.specs.Numbers.{whole_of, signed_of}
use Rattle.lines.specs.Hex.{is_hex}
use Rattle.lines.specs.declared.Line.{Line}
use Rattle.lines.specs.declared.Line.TheVariants.{Nothing, Start, Sample, Set, Reading, Reset, Register, Image, Date, Fleet, Profile, Record, Dataset, Readout, Block, Blockreadout, Maker, Display}
use Rattle.lines.specs.declared.Line.TheVariants as line
use Rattle.lines.specs.declared.Request.{Request}
use Rattle.lines.specs.declared.Readout as seen
use Rattle.lines.specs.declared.Masks.{Masks}
use Rattle.lines.specs.declared.Mistake.{Mistake}
use Rattle.lines.specs.declared.Mistake.TheVariants as mistake
use Rattle.lines.specs.declared.Command.{Command}
use Rattle.lines.specs.declared.Command.TheVariants as command
use Rattle.lines.specs.declared.Parameter.{Parameter}
use Rattle.lines.specs.declared.Parameter.TheVariants as parameter

-- word k as a number of 32 bits
abbrev pub number32 : ℕ → List ℕ → Option ℕ
number32 k text = whole_of 4294967295 (word k text)

-- word k as a number of 16 bits
abbrev pub number16 : ℕ → List ℕ → Option ℕ
number16 k text = whole_of 65535 (word k text)

-- word k as a number of 8 bits
abbrev pub number8 : ℕ → List ℕ → Option ℕ
number8 k text = whole_of 255 (word k text)

-- how many words a line has
abbrev pub count : List ℕ → ℕ
count text = length (words text)

-- word k as a number of 32 bits; n where the line has no such word
abbrev pub number_or : ℕ → ℕ → List ℕ → Option ℕ
number_or n k text = if ltb k (count text) then number32 k text else Some n

-- a number; or that the word is none, or one that does not fit
abbrev pub told : {A : Type 0} → Parameter → Option A → Result A Mistake
told p n = ok_or n (mistake.Number p)

-- a step, if the one before gave a value: so the first that is wrong is told
infixl 10 ◌>>=◌
abbrev pub ◌>>=◌ : {A B : Type 0} → Result A Mistake → (A → Result B Mistake) → Result B Mistake
Ok x >>= f = f x
Err e >>= f = Err e

-- a register request in the words from k on: group, register and room; ROOM is 13, the longest register, where it is not written
abbrev pub request_of : ℕ → List ℕ → Result Request Mistake
request_of k text = do
  group ← told parameter.Group (number32 k text)
  number ← told parameter.Number (number32 (k + 1) text)
  room ← told parameter.Room (number_or 13 (k + 2) text)
  Ok (record { group = group; number = number; room = room })

-- a readout in the words 1 to 4: meter, STATUS, SEQ and DECIMALS
abbrev pub readout_of : List ℕ → Result seen.Readout Mistake
readout_of text = do
  meter ← told parameter.Meter (number8 1 text)
  status ← told parameter.Status (number8 2 text)
  seq ← told parameter.Seq (number8 3 text)
  decimals ← told parameter.Decimals (number8 4 text)
  Ok (record { meter = meter; status = status; seq = seq; decimals = decimals })

-- a maker's masks in the words 2 to 5: meters, inputs, slots and bills
abbrev pub masks_of : List ℕ → Result Masks Mistake
masks_of text = do
  meters ← told parameter.Meters (number32 2 text)
  inputs ← told parameter.Inputs (number16 3 text)
  slots ← told parameter.Slots (number16 4 text)
  bills ← told parameter.Bills (number16 5 text)
  Ok (record { meters = meters; inputs = inputs; slots = slots; bills = bills })

-- the slots of a profile in the words 2 to 9
unfoldable pub slots_of : List ℕ → Result (List ℕ) Mistake
slots_of text =
    let slot : ℕ → Option ℕ = λ k. number8 (k + 2) text in
    let wrong = first 8 (λ k. is_none (slot k)) in
    if ltb wrong 8 then Err (mistake.Number (parameter.Slot wrong)) else Ok (table 8 (λ k. unwrap_or (slot k) 0))

-- what is asked with a word that is HEX
abbrev pub with_hex : List ℕ → Line → Result Line Mistake
with_hex w line = if is_hex w then Ok line else Err (mistake.Number parameter.Hex)

-- how many words a line of a command has; TEXT may hold blanks, and then it is several
abbrev pub has_words : Command → ℕ → Bool
has_words command.Start n = eqb n 2
has_words command.Sample n = eqb n 2 || eqb n 3
has_words command.Set n = eqb n 2
has_words command.Reading n = eqb n 5
has_words command.Reset n = eqb n 1
has_words command.Register n = eqb n 3 || eqb n 4
has_words command.Image n = eqb n 1
has_words command.Date n = eqb n 2
has_words command.Fleet n = eqb n 1
has_words command.Profile n = eqb n 10
has_words command.Record n = eqb n 2 || eqb n 3
has_words command.Dataset n = leb 3 n
has_words command.Readout n = leb 6 n
has_words command.Block n = eqb n 2
has_words command.Blockreadout n = leb 7 n
has_words command.List n = eqb n 6
has_words command.Maker n = eqb n 4 || eqb n 5
has_words command.Display n = leb 4 n

-- what a line of a command asks; COUNT is 1 where it is not written, and ROOM 69, a record
abbrev pub asked_of : Command → List ℕ → Result Line Mistake
asked_of command.Start text = do
  time ← told parameter.Seconds (number32 1 text)
  Ok (Start time)
asked_of command.Sample text = do
  bits ← told parameter.Bits (number16 1 text)
  n ← told parameter.Count (number_or 1 2 text)
  Ok (Sample bits n)
asked_of command.Set text = do
  time ← told parameter.Seconds (number32 1 text)
  Ok (Set time)
asked_of command.Reading text = do
  meter ← told parameter.Meter (number8 1 text)
  value ← told parameter.Value (signed_of (word 2 text))
  status ← told parameter.Status (number8 3 text)
  seq ← told parameter.Seq (number8 4 text)
  Ok (Reading meter value status seq)
asked_of command.Reset text = Ok Reset
asked_of command.Register text = do
  request ← request_of 1 text
  Ok (Register request)
asked_of command.Image text = Ok Image
asked_of command.Date text = do
  time ← told parameter.Seconds (number32 1 text)
  Ok (Date time)
asked_of command.Fleet text = Ok Fleet
asked_of command.Profile text = do
  n ← told parameter.Length (number32 1 text)
  slots ← slots_of text
  Ok (Profile n slots)
asked_of command.Record text = do
  index ← told parameter.Index (number32 1 text)
  room ← told parameter.Room (number_or 69 2 text)
  Ok (Record index room)
asked_of command.Dataset text = do
  decimals ← told parameter.Decimals (number8 1 text)
  Ok (Dataset decimals)
asked_of command.Readout text = do
  readout ← readout_of text
  Ok (Readout readout)
asked_of command.Block text = with_hex (word 1 text) Block
asked_of command.Blockreadout text = do
  readout ← readout_of text
  with_hex (word 5 text) (Blockreadout readout)
asked_of command.List text = do
  maker ← told parameter.Maker (number8 1 text)
  masks ← masks_of text
  Ok (line.List maker masks)
asked_of command.Maker text = do
  maker ← told parameter.Maker (number8 1 text)
  request ← request_of 2 text
  Ok (Maker maker request)
asked_of command.Display text = do
  room ← told parameter.Room (number32 1 text)
  with_hex (word 2 text) (Display room)

-- the commands by their words
unfoldable pub commands : List (List ℕ × Command)
commands =
    (letters "sample", command.Sample)
    ∷ (letters "start", command.Start)
    ∷ (letters "set", command.Set)
    ∷ (letters "reading", command.Reading)
    ∷ (letters "reset", command.Reset)
    ∷ (letters "register", command.Register)
    ∷ (letters "image", command.Image)
    ∷ (letters "date", command.Date)
    ∷ (letters "fleet", command.Fleet)
    ∷ (letters "profile", command.Profile)
    ∷ (letters "record", command.Record)
    ∷ (letters "dataset", command.Dataset)
    ∷ (letters "readout", command.Readout)
    ∷ (letters "block", command.Block)
    ∷ (letters "blockreadout", command.Blockreadout)
    ∷ (letters "list", command.List)
    ∷ (letters "maker", command.Maker)
    ∷ (letters "display", command.Display)
    ∷ []

-- the command of a first word
abbrev pub command_of : List ℕ → Option Command
command_of w = option_map (λ entry. entry.1) (find (λ entry. bytes_eq entry.0 w) commands)

-- what a line asks by its first word: a command with as many words as it has
abbrev pub asked : Option Command → List ℕ → Result Line Mistake
asked (Some c) text = if has_words c (count text) then asked_of c text else Err (mistake.Words c)
asked None text = Err mistake.Unknown

-- what a line asks: at most 255 letters; nothing if it is blank or begins with # (35)
unfoldable pub text_means : List ℕ → Result Line Mistake
text_means text =
    if ltb 255 (length text) then Err mistake.TooLong
    else if eqb (length text) 0 then Ok Nothing
    else if eqb (get_or text 0 0) 35 then Ok Nothing
    else asked (command_of (word 0 text)) text

-- the same where a carriage return may stand at the end
abbrev pub line_means : List ℕ → Result Line Mistake
line_means text = text_means (without_return text)

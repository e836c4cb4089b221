-- The words of a line, which are separated by one blank: two blanks have an empty word between them, and so has a blank at either end.
use Rattle.std.specs.Prelude.{List, [], ◌∷◌, ℕ, zero, suc, ◌-◌, eqb, length, get_or, take, if◌then◌else◌, Option, Some, None, option_map}
use Rattle.std.specs.Borrow.{Bor}
use Rattle.std.specs.List.{slice_split}
use Rattle.laws.specs.Parts.{Part, part_at}

-- a line without the carriage return (13) that may stand at its end
unfoldable pub without_return : List ℕ → List ℕ
without_return text = if eqb (get_or text (length text - 1) 0) 13 then take (length text - 1) text else text

-- the words of a text, which is cut at each blank (32)
abbrev pub words : List ℕ → List (List ℕ)
words text = slice_split (λ b. eqb b 32) text

-- word k, counted from 0; the empty word past the last
abbrev pub word : ℕ → List ℕ → List ℕ
word k text = get_or (words text) k []

-- the place at which word k starts, behind k blanks, if the text has so many
unfoldable pub word_place : ℕ → List ℕ → Option ℕ
word_place zero text = Some 0
word_place (suc k) [] = None
word_place (suc k) (b ∷ rest) = option_map suc (if eqb b 32 then word_place k rest else word_place (suc k) rest)

-- a part from a place to the end; an empty part, at the start, where there is no such place
abbrev pub part_from : Bor (List ℕ) → ℕ → Option ℕ → Part
part_from text end None = part_at text 0 0
part_from text end (Some start) = part_at text start (end - start)

-- TEXT of a line: the part behind its first k words and the blank after them; an empty part, at its start, where there is no such blank
abbrev pub text_after : ℕ → Bor (List ℕ) → Part
text_after k text = let line = without_return text.now in part_from text (length line) (word_place k line)

-- A format string as it is written, part by part: the same rules the other way round. What is proved of the two stands in Laws.antt.
use Rattle.std.specs.Prelude.{◌≡◌, Bool, false, List, [], ◌∷◌, ◌++◌, ℕ, ◌+◌, ◌≤◌, eqb, get_or, if◌then◌else◌}
use Rattle.laws.specs.Decimals.{decimal_in}
use Rattle.display.specs.Formats.{FormatPart, letter, line_break, the_date, the_time, number, bad_format}
use Rattle.display.specs.declared.formats.Form.{Form}

-- an optional letter
abbrev pub optional : Bool → ℕ → List ℕ
optional there b = if there then b ∷ [] else []

-- an optional width in decimal, which has no leading zero; 0 is none
abbrev pub width_text : ℕ → List ℕ
width_text width = if eqb width 0 then [] else decimal_in 2 width

-- an optional point, 46, with one digit of decimals
abbrev pub decimals_text : Bool → ℕ → List ℕ
decimals_text pointed decimals = if pointed then 46 ∷ (48 + decimals) ∷ [] else []

-- "optional zero, optional width .., optional point with one digit of decimals, optional u, and F"
abbrev pub form_text : Form → Bool → List ℕ
form_text f pointed = optional f.zeros 48 ++ (width_text f.width ++ (decimals_text pointed f.decimals ++ (optional f.shifted 117 ++ (70 ∷ []))))

-- a form that can be written so: width 1 to 16 or none, one digit of decimals, and none without a point
pub record IsForm (f : Form) (pointed : Bool) : Type 0 where
  pub width : f.width ≤ 16
  pub decimals : f.decimals ≤ 9
  pub without : pointed ≡ false → f.decimals ≡ 0

-- a part is written as this text: any letter but a per cent, 37; backslash n; per cent D; per cent T; per cent and a form
abbrev pub Writes : FormatPart → List ℕ → Type 0
Writes (letter b) text = (text ≡ b ∷ []) × (b ≡ 37 → ⊥)
Writes line_break text = text ≡ 92 ∷ 110 ∷ []
Writes the_date text = text ≡ 37 ∷ 68 ∷ []
Writes the_time text = text ≡ 37 ∷ 84 ∷ []
Writes (number f) text = (pointed : Bool) × IsForm f pointed × (text ≡ 37 ∷ form_text f pointed)
Writes bad_format text = ⊥

-- a number's specification is written so, whatever its form
abbrev pub WritesNumber : List ℕ → Type 0
WritesNumber text = (f : Form) × Writes (number f) text

-- "any other backslash is text": a backslash of plain text has no n behind it
abbrev pub NoBreak : FormatPart → List ℕ → Type 0
NoBreak part rest = part ≡ letter 92 → get_or rest 0 0 ≡ 110 → ⊥

-- parts are written as this string: one after another
abbrev pub WrittenAs : List FormatPart → List ℕ → Type 0
WrittenAs [] format = format ≡ []
WrittenAs (part ∷ parts) format = (text : List ℕ) × (rest : List ℕ) × (format ≡ text ++ rest) × Writes part text × NoBreak part rest × WrittenAs parts rest

-- no specification stands behind a per cent
abbrev pub NoSpecification : List ℕ → Type 0
NoSpecification behind = (part : FormatPart) (text rest : List ℕ) → behind ≡ text ++ rest → Writes part (37 ∷ text) → ⊥

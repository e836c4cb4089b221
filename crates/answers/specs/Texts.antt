-- Texts of at most 256 letters, as the code has them: letter after letter, with zeros behind them.
use Rattle.std.specs.Prelude.{List, [], ◌∷◌, ℕ, ◌+◌, ltb, replicate, set, if◌then◌else◌}
use Rattle.answers.specs.declared.Text.{Text}

-- no letter
abbrev pub blank_text : Text
blank_text = record { bytes = replicate 256 0; length = 0 }

-- one letter more; a full text is left as it is
unfoldable pub with_byte : Text → ℕ → Text
with_byte t b = if ltb t.length 256 then record { bytes = set t.bytes t.length b; length = t.length + 1 } else t

-- letters one after another
unfoldable pub with_bytes : Text → List ℕ → Text
with_bytes t [] = t
with_bytes t (b ∷ rest) = with_bytes (with_byte t b) rest

-- the text of letters
abbrev pub as_text : List ℕ → Text
as_text l = with_bytes blank_text l

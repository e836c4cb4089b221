-- CR 7 worked out: the hall display after the two makers' history of Example.antt, at 23:00 of 2.1.1970.
use Rattle.std.specs.Prelude.{◌≡◌, List, [], ◌∷◌, ◌++◌, ℕ, replicate}
use Prim.Native.String.{String}
use Rattle.laws.specs.Answers.{given}
use Rattle.laws.specs.Each.{Each}
use Rattle.laws.specs.Letters.{letters}
use Rattle.recorder.specs.declared.Setup.{Setup}
use Rattle.registers.specs.Registers.{RegisterReply, refusal}
use Rattle.display.specs.Displays.{display_reply}
use Rattle.demands.specs.Demand2.{reached}
use Rattle.worked.specs.Example.{two_makers, start, calls}

-- a format string in two lines with its argument bytes, and the two lines that are shown
pub record Page : Type 0 where
  pub first : String
  pub second : String
  pub arguments : List ℕ
  pub shows : String
  pub below : String

-- the date and the time; the open amounts by day, by night and without a tariff; the value of slot 2, -2, shifted by a decimal; meter 1, which is stale, with IV, and meter 0, which is awake, without; the
-- fleet's awake meters and their sum
abbrev pub pages : List Page
pages =
    record { first = "%D"; second = "%T"; arguments = []; shows = "02.01.1970      "; below = "23:00:00        " }
    ∷ record { first = "Day %F night %F"; second = "All %F"; arguments = 202 ∷ 0 ∷ 1 ∷ 202 ∷ 1 ∷ 1 ∷ 202 ∷ 2 ∷ 1 ∷ []; shows = "Day 0 night 2   "; below = "All 2           " }
    ∷ record { first = "Slot 2 %05.1uF"; second = "%5F"; arguments = 201 ∷ 2 ∷ 2 ∷ 201 ∷ 2 ∷ 2 ∷ []; shows = "Slot 2 -00.2    "; below = "   -2           " }
    ∷ record { first = "%F STATUS %F"; second = "%F STATUS %F"; arguments = 82 ∷ 1 ∷ 1 ∷ 82 ∷ 1 ∷ 2 ∷ 82 ∷ 0 ∷ 1 ∷ 82 ∷ 0 ∷ 2 ∷ []; shows = "7 STATUS 1      "; below = "21 STATUS 0     " }
    ∷ record { first = "%F awake of %F"; second = "sum %F"; arguments = 204 ∷ 0 ∷ 1 ∷ 204 ∷ 0 ∷ 0 ∷ 204 ∷ 0 ∷ 5 ∷ []; shows = "1 awake of 4    "; below = "sum 21          " }
    ∷ []

-- two lines with a line break, backslash and n, between them
abbrev pub in_two : String → String → List ℕ
in_two first second = letters first ++ (92 ∷ 110 ∷ letters second)

-- a page shows its two lines
abbrev pub PageShown : (List ℕ → List ℕ → List ℕ → RegisterReply) → Page → Type 0
PageShown display p = display (in_two p.first p.second) p.arguments (replicate 32 0) ≡ record { answer = given 32; buffer = letters p.shows ++ letters p.below }

-- what is claimed, whatever was chosen at the start
pub record DisplayShown (setup : Setup) (lent : ℕ) : Type 0 where
  pub all : Each (PageShown (display_reply (reached setup lent two_makers start calls))) pages
  -- meter 4 is not fitted, and bill register 8 is not in use
  pub no_meter : display_reply (reached setup lent two_makers start calls) (letters "%F") (82 ∷ 4 ∷ 1 ∷ []) (replicate 32 0) ≡ refusal 22 (replicate 32 0)
  pub no_such_bill : display_reply (reached setup lent two_makers start calls) (letters "%F") (202 ∷ 8 ∷ 1 ∷ []) (replicate 32 0) ≡ refusal 22 (replicate 32 0)

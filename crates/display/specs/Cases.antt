-- The examples of document 02 and those of section 3.8.2 of document 000, with the forms that are legal and those that are not: one list of cases.
use Rattle.std.specs.Prelude.{◌≡◌, true, List, [], ◌∷◌, ◌++◌, ℕ, ℤ, pos, negsuc, replicate}
use Prim.Native.String.{String}
use Rattle.laws.specs.Answers.{given}
use Rattle.laws.specs.Letters.{letters}
use Rattle.recorder.specs.declared.Recorder.{Recorder}
use Rattle.registers.specs.Cases.{one_heard}
use Rattle.registers.specs.Registers.{refusal}
use Rattle.display.specs.Displays.{display_reply}

-- a recorder at a time, its one meter just heard with a value
abbrev just_heard : ℕ → ℤ → Recorder
just_heard clock value = one_heard clock (record { read = true; stamp = clock; value = value; status = 0; seq = 0 })

-- the argument bytes of the meter's value: group 82, register 0, field 1
abbrev its_value : List ℕ
its_value = 82 ∷ 0 ∷ 1 ∷ []

-- a case: a value under a string is shown as a line; a second under a string is shown as two lines; a string with argument bytes is refused
pub data DisplayCase : Type 0 where
  value_under : ℤ → String → String → DisplayCase
  second_under : ℕ → List ℕ → String → String → DisplayCase
  refused_case : ℕ → List ℕ → List ℕ → DisplayCase

-- what a case claims of the 32 bytes
abbrev pub DisplayClaim : DisplayCase → Type 0
DisplayClaim (value_under value string line) =
    display_reply (just_heard 0 value) (letters string) its_value (replicate 32 0) ≡ record { answer = given 32; buffer = letters line ++ replicate 16 32 }
DisplayClaim (second_under clock string first second) =
    display_reply (just_heard clock (pos 0)) string [] (replicate 32 0) ≡ record { answer = given 32; buffer = letters first ++ letters second }
DisplayClaim (refused_case n string arguments) = display_reply (just_heard 0 (pos 5)) string arguments (replicate 32 0) ≡ refusal n (replicate 32 0)

-- two strings with a line break, backslash and n, between them
abbrev broken_into : String → String → List ℕ
broken_into first second = letters first ++ (92 ∷ 110 ∷ letters second)

-- "123 under %09.1F is 0000123.0", "123456 under %09.3uF is 00123.456", and the numbers of document 000; then signs, and numbers that are longer than their width
abbrev numbers : List DisplayCase
numbers =
    value_under (pos 123) "%09.1F" "0000123.0       "
    ∷ value_under (pos 123456) "%09.3uF" "00123.456       "
    ∷ value_under (pos 123) "R1 %9F" "R1       123    "
    ∷ value_under (pos 123) "R1 %09F" "R1 000000123    "
    ∷ value_under (pos 123) "R1 %09.1F" "R1 0000123.0    "
    ∷ value_under (pos 123456) "R1 %09.3uF" "R1 00123.456    "
    ∷ value_under (pos 1) "%09.4uF" "0000.0001       "
    ∷ value_under (negsuc 4) "%F" "-5              "
    ∷ value_under (negsuc 4) "%6F" "    -5          "
    ∷ value_under (negsuc 4) "%06F" "-00005          "
    ∷ value_under (negsuc 4) "%07.2F" "-005.00         "
    ∷ value_under (negsuc 4) "%07.3uF" "-00.005         "
    ∷ value_under (negsuc 2147483647) "%1.2uF" "-21474836.48    "
    ∷ value_under (pos 0) "%.3uF" "0.000           "
    ∷ value_under (pos 7) "%0F" "7               "
    ∷ value_under (pos 7) "%uF" "7               "
    ∷ value_under (pos 7) "%.0uF" "7               "
    ∷ value_under (pos 7) "%16F" "               7"
    ∷ []

-- dates and times: those of documents 02 and 000, and lines that are cut
abbrev moments : List DisplayCase
moments =
    second_under 100_000_000 (broken_into "%D" "%T") "03.03.1973      " "09:46:40        "
    ∷ second_under 100_008_235 (letters "%D") "03.03.1973      " "                "
    ∷ second_under 100_008_235 (letters "%T") "12:03:55        " "                "
    ∷ second_under 100_008_235 (letters "%D%T") "03.03.197312:03:" "                "
    ∷ second_under 100_008_235 (broken_into "%D" "%T") "03.03.1973      " "12:03:55        "
    ∷ second_under 928_240_245 (broken_into "Time: %T S" "Date: %D") "Time: 12:30:45 S" "Date: 01.06.1999"
    ∷ second_under 0 (broken_into "a" "b" ++ (92 ∷ 110 ∷ letters "a third line")) "a               " "b               "
    ∷ []

-- 21 FORMAT: two zeros, a width of 17, no digit and two digits of decimals, a width before D, two per cents, a last per cent
-- 22 ARGUMENT: a byte missing, no such field, no such register, a meter that is not fitted, no such group
-- and in string order whichever comes first, in what is dropped, too
abbrev refusals : List DisplayCase
refusals =
    refused_case 21 (letters "%00F") its_value
    ∷ refused_case 21 (letters "%017F") its_value
    ∷ refused_case 21 (letters "%.F") its_value
    ∷ refused_case 21 (letters "%.12F") its_value
    ∷ refused_case 21 (letters "%9D") its_value
    ∷ refused_case 21 (letters "%%") its_value
    ∷ refused_case 21 (letters "5%") its_value
    ∷ refused_case 22 (letters "%F") (82 ∷ 0 ∷ [])
    ∷ refused_case 22 (letters "%F") (82 ∷ 0 ∷ 4 ∷ [])
    ∷ refused_case 22 (letters "%F") (82 ∷ 32 ∷ 0 ∷ [])
    ∷ refused_case 22 (letters "%F") (82 ∷ 1 ∷ 0 ∷ [])
    ∷ refused_case 22 (letters "%F") (205 ∷ 0 ∷ 0 ∷ [])
    ∷ refused_case 21 (letters "%F%d%F") its_value
    ∷ refused_case 22 (letters "%F%F%d") its_value
    ∷ refused_case 22 (broken_into "a line of more than sixteen characters" "" ++ (92 ∷ 110 ∷ letters "%F%F")) its_value
    ∷ refused_case 21 (broken_into "" "" ++ (92 ∷ 110 ∷ letters "%x")) its_value
    ∷ []

-- all of them, one list
abbrev pub display_cases : List DisplayCase
display_cases = numbers ++ (moments ++ refusals)

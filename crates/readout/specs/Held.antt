-- What only the code has: a number without its sign is held at 4,294,967,295. That does not fit 32 bits with a sign, so which one is held makes no difference.
use Rattle.std.specs.Prelude.{Bool, ◌&&◌, Option, Some, None, List, ℕ, ◌-◌, ◌*◌, ◌^◌, min, ltb, eqb, length, take, drop, if◌then◌else◌}
use Rattle.std.specs.List.{list_all}
use Rattle.laws.specs.Answers.{Answer, given, refused}
use Rattle.laws.specs.Decimals.{digits, value_from}
use Rattle.readout.specs.Numbers.{size_of}

-- a number, held
abbrev pub held : ℕ → ℕ
held n = min 4294967295 n

-- each letter is 0, 48
abbrev pub all_zeros : List ℕ → Bool
all_zeros text = list_all (λ b. eqb b 48) text

-- what the code's answer says
abbrev pub size_said : Option ℕ → Answer ℕ
size_said (Some n) = given n
size_said None = refused 18 0

-- a number without its sign, held
abbrev pub held_answer : Answer ℕ → Answer ℕ
held_answer (given n) = given (held n)
held_answer (refused n offset) = refused n offset

-- the same of a text
abbrev pub held_size : List ℕ → ℕ → Answer ℕ
held_size text decimals = held_answer (size_of text decimals)

-- of n before the point and a text behind it: as many of its digits as there are decimals, then zeros alone
unfoldable pub fraction_size : ℕ → List ℕ → ℕ → Answer ℕ
fraction_size n text decimals =
    let places = min (length text) decimals in
    let first = take places text in
    if ltb 0 (length text) && digits first && all_zeros (drop places text) then given (held (held (value_from n first) * 10 ^ (decimals - places))) else refused 18 0

-- CR 1 worked out: five periods of the two makers' recorder (Example.antt), each closed as short by a clock set, in buffers with room for one, two, five and seven records. The bytes were worked out by hand.
use Rattle.std.specs.Prelude.{◌≡◌, List, [], ◌∷◌, ◌++◌, reverse, ℕ, ◌*◌, ◌<◌, length, get_or, drop, replicate}
use Rattle.laws.specs.Answers.{given, refused}
use Rattle.profile.specs.Reading.{record_reply}
use Rattle.recorder.specs.Lists.{empty_list}
use Rattle.recorder.specs.History.{sample, set}
use Rattle.recorder.specs.declared.Setup.{Setup}
use Rattle.worked.specs.Example.{two_makers, start}
use Rattle.demands.specs.Profile.{Made, call, run, sample_with, set_with, after_sequence}

-- slots 0, 1 and 2 are input 2, sum 1 and function 0; 5, 15 and 3 are empty; 0 and 2 are chosen twice
abbrev pub chosen : Setup
chosen = record { slots = 0 ∷ 2 ∷ 5 ∷ 1 ∷ 0 ∷ 15 ∷ 3 ∷ 2 ∷ []; lists = replicate 3 empty_list }

-- an impulse of inputs 0 and 2 together: input 2 has 5/2 units for each, so 2, 3, 2 and 3 for the four below; input 0 has 3/10, so 1 with the fourth. The fourth period has no impulse: it is closed by a
-- set to the present time. In between a sample and a clock set are lent buffers of other lengths
abbrev pub five_periods : List Made
five_periods =
    let impulse = run (7 ∷ 2 ∷ []) in
    reverse
    (impulse ∷ call (set 50_000)
    ∷ sample_with [] 0 ∷ call (sample 7) ∷ call (sample 2) ∷ call (set 60_000)
    ∷ impulse ∷ set_with (replicate 68 1) 5 ∷ call (set 60_000)
    ∷ call (set 60_000)
    ∷ impulse ∷ call (set 70_000) ∷ [])

-- a value of less than 256 in 8 bytes, and one below 0
abbrev plus : ℕ → List ℕ
plus n = n ∷ replicate 7 0

abbrev minus2 : List ℕ
minus2 = 254 ∷ replicate 7 255

abbrev minus3 : List ℕ
minus3 = 253 ∷ replicate 7 255

-- a short record: the two low bytes of the stamp; units of input 2, which are those of sum 1, and function 0, which is sum 0 less sum 1; zeros for the empty slots
abbrev short_record : ℕ → ℕ → ℕ → List ℕ → List ℕ
short_record low high units function =
    low ∷ high ∷ 0 ∷ 0 ∷ 1 ∷ plus units ++ (function ++ (plus 0 ++ (plus units ++ (plus units ++ (plus 0 ++ (plus 0 ++ function))))))

-- the five, oldest first: closed at 43,200, which is 168 * 256 + 192, at 50,000, which is 195 * 256 + 80, and three times at 60,000, which is 234 * 256 + 96
abbrev pub five_records : List (List ℕ)
five_records =
    short_record 192 168 2 minus2
    ∷ short_record 80 195 3 minus3
    ∷ short_record 96 234 2 minus2
    ∷ short_record 96 234 0 (plus 0)
    ∷ short_record 96 234 3 minus2
    ∷ []

-- from a start with this buffer on, these records are read and no others, and the bytes behind them are as they were
pub record Shows (buffer : List ℕ) (records : List (List ℕ)) : Type 0 where
  pub each : (i : ℕ) → i < length records →
      let x = after_sequence chosen two_makers start buffer five_periods in
      record_reply x.recorder.profile i x.buffer (replicate 69 0) ≡ record { answer = given tt; result = get_or records i [] }
  pub no_more : let x = after_sequence chosen two_makers start buffer five_periods in
      (record_reply x.recorder.profile (length records) x.buffer (replicate 69 0)).answer ≡ refused 15 0
  pub rest : let x = after_sequence chosen two_makers start buffer five_periods in
      drop (69 * length records) x.buffer ≡ drop (69 * length records) buffer

-- the last one, the last two, and all five, with room for one, two, five and seven, whatever the buffer held
pub record ProfileCases : Type 0 where
  pub one : (buffer : List ℕ) → length buffer ≡ 69 → Shows buffer (drop 4 five_records)
  pub two : (buffer : List ℕ) → length buffer ≡ 138 → Shows buffer (drop 3 five_records)
  pub two_and_68_bytes : (buffer : List ℕ) → length buffer ≡ 206 → Shows buffer (drop 3 five_records)
  pub five : (buffer : List ℕ) → length buffer ≡ 345 → Shows buffer five_records
  pub room_left : (buffer : List ℕ) → length buffer ≡ 500 → Shows buffer five_records

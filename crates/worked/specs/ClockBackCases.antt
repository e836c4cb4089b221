-- CR 2 worked out: line 10's meter before its stamp, and three meters of the two makers' recorder (Example.antt) that went dead before the clock was set back an hour.
use Rattle.std.specs.Prelude.{◌≡◌, List, [], ◌∷◌, ℕ, ◌<◌, ℤ, pos, negsuc, length, replicate}
use Rattle.laws.specs.Answers.{given}
use Rattle.laws.specs.Each.{Each}
use Rattle.recorder.specs.History.{Call, set, reading}
use Rattle.recorder.specs.declared.Setup.{Setup}
use Rattle.registers.specs.Cases.{AgeCase, class_case, status_at, AgeClaim}
use Rattle.registers.specs.Fleet.{fleet_of}
use Rattle.registers.specs.Registers.{register_reply}
use Rattle.registers.specs.declared.fleet.Fleet.{Fleet}
use Rattle.demands.specs.Demand2.{reached, with_samples}
use Rattle.worked.specs.Example.{two_makers, start}

-- limit 900, stamp 1000, STATUS 6. At 999, a second ahead, it is stale, 1, and STATUS reads 7; at 1000 awake, 0, and it reads 6; at 0, ahead by more than the limit, stale
abbrev pub ahead_cases : List AgeCase
ahead_cases = class_case 999 1 ∷ status_at 999 7 ∷ class_case 1000 0 ∷ status_at 1000 6 ∷ class_case 0 1 ∷ status_at 0 7 ∷ []

-- at noon, 43,200, meters 0, 1 and 2 are heard for the last time: 21, 7 and -5, the last two with STATUS 4 and 2. Meter 3 was never read; all have the limit 900
abbrev pub last_heard : List Call
last_heard = reading 2 (negsuc 4) 2 3 ∷ reading 1 (pos 7) 4 2 ∷ reading 0 (pos 21) 0 1 ∷ []

-- the clock is set back an hour
abbrev pub set_back : List Call
set_back = set 39_600 ∷ last_heard

-- a fleet of the four, none of them invalid and one never read
abbrev pub of_four : ℕ → ℕ → ℤ → Fleet
of_four awake stale sum = record { fitted = 4; awake = awake; stale = stale; invalid = 0; never = 1; sum = sum }

-- what group 204 counts, and a register of group 82
pub record QuietMeters (setup : Setup) (lent : ℕ) : Type 0 where
  -- at noon the three are awake
  pub heard_at_noon : fleet_of (reached setup lent two_makers start last_heard) ≡ of_four 3 0 (pos 23)
  -- for that hour none of them is, whatever samples come, fewer than the 360,000 of an hour
  pub that_hour : (run : List ℕ) → length run < 360_000 → fleet_of (reached setup lent two_makers start (with_samples run set_back)) ≡ of_four 0 3 (pos 0)
  -- register 1 of group 82 shows the stamp, 168 * 256 + 192, the 7, STATUS 4 with IV and the SEQ
  pub marked : register_reply (reached setup lent two_makers start set_back) 82 1 (replicate 10 0) ≡ record { answer = given 10; buffer = 192 ∷ 168 ∷ 0 ∷ 0 ∷ 7 ∷ 0 ∷ 0 ∷ 0 ∷ 5 ∷ 2 ∷ [] }
  -- at any time of that hour meter 1 is read again, with another SEQ, and is awake; the two others are not
  pub read_again : (run : List ℕ) → length run < 360_000
      → fleet_of (reached setup lent two_makers start (reading 1 (pos 9) 0 3 ∷ with_samples run set_back)) ≡ of_four 1 2 (pos 9)
  -- the same with the SEQ that it had, 2, is no sign of life
  pub repeated : (run : List ℕ) → length run < 360_000
      → fleet_of (reached setup lent two_makers start (reading 1 (pos 9) 0 2 ∷ with_samples run set_back)) ≡ of_four 0 3 (pos 0)
  -- forth again: at the stamps and up to a quarter of an hour past them the three count as awake, as they did at noon, heard of or not; a second later as stale
  pub forth : fleet_of (reached setup lent two_makers start (set 43_200 ∷ set_back)) ≡ of_four 3 0 (pos 23)
  pub at_the_limit : fleet_of (reached setup lent two_makers start (set 44_100 ∷ set_back)) ≡ of_four 3 0 (pos 23)
  pub past_the_limit : fleet_of (reached setup lent two_makers start (set 44_101 ∷ set_back)) ≡ of_four 0 3 (pos 0)

-- the cases, and the history
pub record ClockBackCases (setup : Setup) (lent : ℕ) : Type 0 where
  pub cases : Each AgeClaim ahead_cases
  pub history : QuietMeters setup lent

-- CR 5 worked out: "One gateway sent the same reading every minute for a day." Meter 1 of the two makers' recorder (Example.antt) has the limit 900, a quarter of an hour. And single readings after a few calls.
use Rattle.std.specs.Prelude.{◌≡◌, true, List, [], ◌∷◌, ◌++◌, ℕ, zero, suc, ◌+◌, ◌*◌, ◌/◌, ◌<◌, ◌≤◌, ℤ, pos, replicate}
use Rattle.std.specs.Int.{w32}
use Rattle.std.proofs.Common.{of_z}
use Rattle.laws.specs.Answers.{given}
use Rattle.laws.specs.Bytes.{bytes_of}
use Rattle.laws.specs.Each.{Each}
use Rattle.recorder.specs.Calls.{reading_reply}
use Rattle.recorder.specs.History.{Call, set, reading}
use Rattle.recorder.specs.Meters.{meter_at, Stamping, renewed, kept}
use Rattle.recorder.specs.declared.Setup.{Setup}
use Rattle.registers.specs.Fleet.{fleet_of}
use Rattle.registers.specs.Registers.{register_reply}
use Rattle.registers.specs.declared.fleet.Fleet.{Fleet}
use Rattle.demands.specs.Demand2.{reached, with_samples}
use Rattle.worked.specs.Example.{two_makers, start}

-- The same reading every minute

-- n samples in which no line is active
unfoldable pub quiet : ℕ → List ℕ
quiet n = replicate n 2

-- from noon on, 43,200, the gateway sends SEQ 5 every minute of 6,000 samples, with some value each time: its readings and the samples between them, n minutes long
unfoldable pub gateway : (ℕ → ℤ) → ℕ → List Call
gateway value zero = reading 1 (value 0) 0 5 ∷ []
gateway value (suc n) = reading 1 (value (suc n)) 0 5 ∷ with_samples (quiet 6_000) (gateway value n)

-- and k samples more
abbrev pub sent_for : (ℕ → ℤ) → ℕ → ℕ → List Call
sent_for value n k = with_samples (quiet k) (gateway value n)

-- a fleet of the four, of which three were never read
abbrev pub of_one : ℕ → ℕ → ℤ → Fleet
of_one awake stale sum = record { fitted = 4; awake = awake; stale = stale; invalid = 0; never = 3; sum = sum }

-- register 1 of group 82: the stamp, 43,200, which is 168 * 256 + 192, the value, STATUS and SEQ
abbrev pub serial : ℤ → ℕ → List ℕ
serial v status = 192 ∷ 168 ∷ 0 ∷ 0 ∷ bytes_of 4 (of_z w32 v) ++ (status ∷ 5 ∷ [])

-- what is so at each sample of the day, 1,440 minutes, whatever the values are
pub record EveryMinute (setup : Setup) (lent : ℕ) (value : ℕ → ℤ) : Type 0 where
  -- the clock goes on
  pub clock : (n k : ℕ) → n ≤ 1_440 → k ≤ 6_000 → (reached setup lent two_makers start (sent_for value n k)).state.clock ≡ 43_200 + 60 * n + k / 100
  -- the first reading renews the stamp, each after it keeps it
  pub first : (reading_reply (reached setup lent two_makers start []) 1 (value 0) 0 5).answer ≡ given renewed
  pub others : (n : ℕ) → n < 1_440 → (reading_reply (reached setup lent two_makers start (sent_for value n 6_000)) 1 (value (suc n)) 0 5).answer ≡ given kept
  -- for a quarter of an hour the meter is awake, and its newest value is shown
  pub awake : (n k : ℕ) → k ≤ 6_000 → 60 * n + k / 100 ≤ 900 → fleet_of (reached setup lent two_makers start (sent_for value n k)) ≡ of_one 1 0 (value n)
  pub unmarked : (n k : ℕ) → k ≤ 6_000 → 60 * n + k / 100 ≤ 900
      → register_reply (reached setup lent two_makers start (sent_for value n k)) 82 1 (replicate 10 0) ≡ record { answer = given 10; buffer = serial (value n) 0 }
  -- from then on it is stale; its newest value is shown, with IV
  pub stale : (n k : ℕ) → n ≤ 1_440 → k ≤ 6_000 → 900 < 60 * n + k / 100 → fleet_of (reached setup lent two_makers start (sent_for value n k)) ≡ of_one 0 1 (pos 0)
  pub marked : (n k : ℕ) → n ≤ 1_440 → k ≤ 6_000 → 900 < 60 * n + k / 100
      → register_reply (reached setup lent two_makers start (sent_for value n k)) 82 1 (replicate 10 0) ≡ record { answer = given 10; buffer = serial (value n) 1 }
  -- after the day a reading with SEQ 6 comes, and the meter is awake
  pub alive : (v : ℤ) → fleet_of (reached setup lent two_makers start (reading 1 v 0 6 ∷ sent_for value 1_440 6_000)) ≡ of_one 1 0 v

-- Single readings

-- a reading of meter 1 with some SEQ after some calls, what is said of its stamp, and the stamp
pub record Try : Type 0 where
  pub before : List Call
  pub seq : ℕ
  pub said : Stamping
  pub stamp : ℕ

-- it was heard at noon, with SEQ 5, and a minute has passed
abbrev a_minute_ago : List Call
a_minute_ago = set 43_260 ∷ reading 1 (pos 7) 0 5 ∷ []

-- SEQ 0 of a meter that was never read is no repeat; a repeat, and another SEQ; both after the clock was set back; after a reading that was refused for its STATUS; after one of another meter; after one
-- with another SEQ, which is the stored one then; and the SEQ that follows 31
abbrev pub tries : List Try
tries =
    record { before = []; seq = 0; said = renewed; stamp = 43_200 }
    ∷ record { before = a_minute_ago; seq = 5; said = kept; stamp = 43_200 }
    ∷ record { before = a_minute_ago; seq = 6; said = renewed; stamp = 43_260 }
    ∷ record { before = set 39_600 ∷ a_minute_ago; seq = 5; said = kept; stamp = 43_200 }
    ∷ record { before = set 39_600 ∷ a_minute_ago; seq = 4; said = renewed; stamp = 39_600 }
    ∷ record { before = reading 1 (pos 8) 8 6 ∷ a_minute_ago; seq = 5; said = kept; stamp = 43_200 }
    ∷ record { before = reading 1 (pos 8) 8 6 ∷ a_minute_ago; seq = 6; said = renewed; stamp = 43_260 }
    ∷ record { before = reading 2 (pos 8) 0 6 ∷ a_minute_ago; seq = 5; said = kept; stamp = 43_200 }
    ∷ record { before = reading 2 (pos 8) 0 6 ∷ a_minute_ago; seq = 6; said = renewed; stamp = 43_260 }
    ∷ record { before = set 43_320 ∷ reading 1 (pos 8) 0 6 ∷ a_minute_ago; seq = 6; said = kept; stamp = 43_260 }
    ∷ record { before = set 43_320 ∷ reading 1 (pos 8) 0 6 ∷ a_minute_ago; seq = 5; said = renewed; stamp = 43_320 }
    ∷ record { before = reading 1 (pos 8) 0 31 ∷ reading 1 (pos 8) 0 0 ∷ a_minute_ago; seq = 0; said = renewed; stamp = 43_260 }
    ∷ []

-- it is answered so, and leaves that stamp with the value and STATUS that were sent
abbrev pub TryClaim : Setup → ℕ → Try → Type 0
TryClaim setup lent t =
    let reply = reading_reply (reached setup lent two_makers start t.before) 1 (pos 9) 2 t.seq in
    (reply.answer ≡ given t.said)
    × (meter_at reply.after.state.meters 1 ≡ record { read = true; stamp = t.stamp; value = pos 9; status = 2; seq = t.seq })

-- the day, and the readings
pub record RepeatsCases (setup : Setup) (lent : ℕ) : Type 0 where
  pub day : (value : ℕ → ℤ) → EveryMinute setup lent value
  pub each : Each (TryClaim setup lent) tries

-- CR 4 worked out: what the meters of the two makers' recorder (Example.antt) sent at noon, 43,200, and what became of it.
use Rattle.std.specs.Prelude.{◌≡◌, List, [], ◌∷◌, ◌++◌, reverse, ℕ, pos, replicate}
use Rattle.laws.specs.Answers.{Answer, given, refused}
use Rattle.laws.specs.Each.{Each}
use Rattle.laws.specs.Letters.{letters}
use Rattle.recorder.specs.Meters.{Stamping, renewed, kept}
use Rattle.recorder.specs.Readout.{readout_reply, block_readout_reply}
use Rattle.recorder.specs.declared.Recorder.{Recorder}
use Rattle.recorder.specs.declared.Setup.{Setup}
use Rattle.registers.specs.Fleet.{fleet_of}
use Rattle.registers.specs.Registers.{register_reply}
use Rattle.worked.specs.Example.{two_makers, start}
use Rattle.demands.specs.Profile.{Made, readout, block_readout, after_sequence}

-- the energy of a meter, in kWh with three decimals
abbrev pub energy : List ℕ
energy = letters "1.8.0(000269.355*kWh)"

-- the block in which it came: STX, the line, CR LF, !, CR LF, ETX, and t, 116, as the exclusive or of all behind STX
abbrev pub energy_block : List ℕ
energy_block = 2 ∷ energy ++ (13 ∷ 10 ∷ 33 ∷ 13 ∷ 10 ∷ 3 ∷ 116 ∷ [])

-- the same with one digit damaged on the way, 9 for 8
abbrev pub damaged : List ℕ
damaged = 2 ∷ letters "1.9.0(000269.355*kWh)" ++ (13 ∷ 10 ∷ 33 ∷ 13 ∷ 10 ∷ 3 ∷ 116 ∷ [])

-- meter 0 sends a data set by itself, meter 1 one in a block, meter 2 a temperature; and in between come those that are refused: a damaged block, a decimal too many, an empty value, a meter that is not fitted
abbrev pub at_noon : List Made
at_noon =
    reverse
    (readout 0 0 1 3 energy
    ∷ block_readout 1 0 4 3 damaged energy
    ∷ block_readout 1 4 5 3 energy_block energy
    ∷ readout 0 0 2 2 energy
    ∷ readout 0 0 3 0 (letters "C.1.1()")
    ∷ readout 4 0 3 3 energy
    ∷ readout 2 0 6 1 (letters "96.9(-12.5*C)")
    ∷ [])

-- a data set for a meter, with STATUS, SEQ and decimals, and what it is answered
pub record Try : Type 0 where
  pub meter : ℕ
  pub status : ℕ
  pub seq : ℕ
  pub decimals : ℕ
  pub line : List ℕ
  pub answer : Answer Stamping

-- one with STATUS 0 and SEQ 0 for meter 0
abbrev plainly : ℕ → List ℕ → Answer Stamping → Try
plainly decimals line answer = record { meter = 0; status = 0; seq = 0; decimals = decimals; line = line; answer = answer }

-- taken with three decimals and more, as long as it fits; 17 before 18, 18 before 19, 19 before 7, 7 before 8 before 10. Meter 0 was heard with SEQ 1 last: so 0 renews its stamp, and 1 keeps it
abbrev pub tries : List Try
tries =
    plainly 3 energy (given renewed)
    ∷ plainly 6 energy (given renewed)
    ∷ plainly 7 energy (refused 19 0)
    ∷ plainly 2 energy (refused 18 0)
    ∷ plainly 10 energy (refused 18 0)
    ∷ plainly 10 (letters "ERR03") (refused 17 0)
    ∷ plainly 0 (letters "x(-2147483648)") (given renewed)
    ∷ plainly 0 (letters "x(2147483648)") (refused 19 0)
    ∷ plainly 0 (letters "x(99999999999999.5)") (refused 18 0)
    ∷ record { meter = 32; status = 8; seq = 32; decimals = 7; line = energy; answer = refused 19 0 }
    ∷ record { meter = 32; status = 8; seq = 32; decimals = 3; line = energy; answer = refused 7 0 }
    ∷ record { meter = 31; status = 8; seq = 32; decimals = 3; line = energy; answer = refused 8 0 }
    ∷ record { meter = 3; status = 0; seq = 32; decimals = 3; line = energy; answer = refused 10 0 }
    ∷ record { meter = 0; status = 0; seq = 1; decimals = 3; line = energy; answer = given kept }
    ∷ []

-- it is answered so; the sound block in front changes nothing, the damaged one makes it 16
abbrev pub TryClaim : Recorder → Try → Type 0
TryClaim r t =
    ((readout_reply r t.meter t.status t.seq t.decimals t.line).answer ≡ t.answer)
    × ((block_readout_reply r t.meter t.status t.seq t.decimals energy_block t.line).answer ≡ t.answer)
    × ((block_readout_reply r t.meter t.status t.seq t.decimals damaged t.line).answer ≡ refused 16 0)

-- what is there after it
pub record ReadoutCases (setup : Setup) (buffer : List ℕ) : Type 0 where
  -- stamp 43,200, which is 168 * 256 + 192; 269,355, which is 4 * 65,536 + 28 * 256 + 43; STATUS and SEQ
  pub meter_0 : register_reply (after_sequence setup two_makers start buffer at_noon).recorder 82 0 (replicate 10 0)
      ≡ record { answer = given 10; buffer = 192 ∷ 168 ∷ 0 ∷ 0 ∷ 43 ∷ 28 ∷ 4 ∷ 0 ∷ 0 ∷ 1 ∷ [] }
  pub meter_1 : register_reply (after_sequence setup two_makers start buffer at_noon).recorder 82 1 (replicate 10 0)
      ≡ record { answer = given 10; buffer = 192 ∷ 168 ∷ 0 ∷ 0 ∷ 43 ∷ 28 ∷ 4 ∷ 0 ∷ 4 ∷ 5 ∷ [] }
  -- -12.5 with one decimal is -125, of which the lowest byte is 256 - 125
  pub meter_2 : register_reply (after_sequence setup two_makers start buffer at_noon).recorder 82 2 (replicate 10 0)
      ≡ record { answer = given 10; buffer = 192 ∷ 168 ∷ 0 ∷ 0 ∷ 131 ∷ 255 ∷ 255 ∷ 255 ∷ 0 ∷ 6 ∷ [] }
  -- three are awake, with 269,355 twice and -125; meter 3 was never read
  pub fleet : fleet_of (after_sequence setup two_makers start buffer at_noon).recorder ≡ record { fitted = 4; awake = 3; stale = 0; invalid = 0; never = 1; sum = pos 538_585 }
  pub each : Each (TryClaim (after_sequence setup two_makers start buffer at_noon).recorder) tries

-- CR 5, a repeated SEQ is no sign of life: "A reading whose SEQ equals the stored one shall replace value and STATUS but keep the old stamp, after a clock set too, and the call's result says whether the
-- stamp was renewed or kept. A first reading always renews. CR 2's last clause is for renewed stamps." Which readings renew a stamp is spelled out in Account.antt (`renews`, `stamp_of`), demand 2 speaks of
-- the whole state, and CR 2's last clause is `ReadAgain` (ClockBack.antt); here each of these sentences stands by itself.
use Rattle.std.specs.Prelude.{◌≡◌, true, false, List, ◌∷◌, ◌++◌, ◌⊎◌, ℕ, ◌+◌, ◌*◌, ◌/◌, ◌%◌, ◌≤◌, ℤ, get_or, take, drop}
use Rattle.std.specs.Int.{w32}
use Rattle.std.proofs.Common.{of_z}
use Rattle.laws.specs.Answers.{given}
use Rattle.laws.specs.Bytes.{bytes_of}
use Rattle.laws.specs.Each.{Each}
use Rattle.settings.specs.declared.Config.{Config}
use Rattle.recorder.specs.Calls.{reading_reply}
use Rattle.recorder.specs.History.{Call, sample, set, reading, reset}
use Rattle.recorder.specs.Meters.{meter_at, renewed, kept}
use Rattle.recorder.specs.declared.Recorder.{Recorder}
use Rattle.recorder.specs.declared.Setup.{Setup}
use Rattle.registers.specs.Fleet.{fleet_of}
use Rattle.registers.specs.Registers.{register_reply}
use Rattle.demands.specs.Account.{Entry, heard, renews, readings_of, last_reading, answer_of_reading, account_of, journal_of}
use Rattle.demands.specs.ClockBack.{ahead_in, past_in}
use Rattle.demands.specs.Demand2.{reached}
use Rattle.demands.specs.Shown.{awake_in}
use Rattle.demands.specs.Starts.{Accepted}

-- Every recorder

-- a meter was read before, and the stored SEQ is this one
abbrev pub Stored : Recorder → ℕ → ℕ → Type 0
Stored r meter seq = let m = meter_at r.state.meters meter in (m.read ≡ true) × (m.seq ≡ seq)

-- "whether the stamp was renewed or kept": of a reading that is not refused it is kept exactly if the meter was read before and the stored SEQ is the same
pub record KeptExactly : Type 0 where
  pub kept_is : (r : Recorder) (meter : ℕ) (value : ℤ) (status seq : ℕ) → (reading_reply r meter value status seq).answer ≡ given kept → Stored r meter seq
  pub renewed_is : (r : Recorder) (meter : ℕ) (value : ℤ) (status seq : ℕ) → (reading_reply r meter value status seq).answer ≡ given renewed → Stored r meter seq → ⊥

-- Histories

-- a call is no reading of meter i
abbrev pub Silent : ℕ → Call → Type 0
Silent i (sample bits) = Unit
Silent i (set seconds) = Unit
Silent i (reading meter value status seq) = meter ≡ i → ⊥
Silent i reset = Unit

-- a call is no reading of meter i, or one with this SEQ
abbrev pub Repeats : ℕ → ℕ → Call → Type 0
Repeats i seq (sample bits) = Unit
Repeats i seq (set seconds) = Unit
Repeats i seq (reading meter value status other) = meter ≡ i → other ≡ seq
Repeats i seq reset = Unit

-- "keep the old stamp, after a clock set too": whatever calls come, as long as the readings of a meter repeat its SEQ its stamp is the old one
abbrev pub RepeatsKeep : Type 0
RepeatsKeep =
    (c : Config) (time : ℕ) (calls later : List Call) (i : ℕ) →
    let m = last_reading (journal_of c time calls) i in
    m.read ≡ true → Each (Repeats i m.seq) later → (last_reading (journal_of c time (later ++ calls)) i).stamp ≡ m.stamp

-- "no sign of life": a meter that is awake was heard within its limit, by a reading that was its first or had another SEQ than the one before it, and its stamp is from then
pub record HeardWithin (c : Config) (journal : List Entry) (i now : ℕ) : Type 0 where
  pub later : List Entry
  pub earlier : List Entry
  pub second : ℕ
  pub value : ℤ
  pub status : ℕ
  pub seq : ℕ
  pub among : journal ≡ later ++ (heard second i value status seq ∷ earlier)
  pub renewing : renews seq (readings_of earlier i) ≡ true
  pub stamped : (last_reading journal i).stamp ≡ second
  pub not_ahead : second ≤ now
  pub not_past : now ≤ second + get_or c.limits i 0

-- after any history
abbrev pub AwakeWasHeard : Type 0
AwakeWasHeard =
    (c : Config) (time : ℕ) (calls : List Call) (i : ℕ) →
    let a = account_of c time calls in awake_in c a i ≡ true → HeardWithin c a.journal i a.time.second

-- A start with any chosen slots and a buffer of any length
module _ (setup : Setup) (lent : ℕ) where
  -- "the call's result says whether the stamp was renewed or kept", after any history, as the account has it
  abbrev pub AnswersOfReadings : Type 0
  AnswersOfReadings =
      (c : Config) (time : ℕ) (calls : List Call) (meter : ℕ) (value : ℤ) (status seq : ℕ)
      → (reading_reply (reached setup lent c time calls) meter value status seq).answer ≡ answer_of_reading c (journal_of c time calls) meter status seq

  -- "A first reading always renews": where no call before it was a reading of the meter, it is not answered `kept`
  abbrev pub FirstRenews : Type 0
  FirstRenews =
      (c : Config) (time : ℕ) (calls : List Call) (meter : ℕ) (value : ℤ) (status seq : ℕ)
      → Each (Silent meter) calls → (reading_reply (reached setup lent c time calls) meter value status seq).answer ≡ given kept → ⊥

  -- whatever calls come, as long as the readings of a meter repeat its SEQ its register shows the old stamp, in its first four bytes
  abbrev pub RepeatsShown : Type 0
  RepeatsShown =
      (c : Config) → Accepted c → (time : ℕ) (calls later : List Call) (i : ℕ) (buffer : List ℕ) (n : ℕ) →
      let m = last_reading (journal_of c time calls) i in
      let reply = register_reply (reached setup lent c time (later ++ calls)) 82 i buffer in
      m.read ≡ true → Each (Repeats i m.seq) later → reply.answer ≡ given n → take 4 reply.buffer ≡ bytes_of 4 m.stamp

  -- what is so of a meter once a reading of it kept its stamp
  pub record StampKept (c : Config) (time : ℕ) (calls : List Call) (meter : ℕ) (value : ℤ) (status seq : ℕ) : Type 0 where
    -- it is ahead of the clock if it was, and the clock is past its limit if it was
    pub ahead : ahead_in c (account_of c time (reading meter value status seq ∷ calls)) meter ≡ ahead_in c (account_of c time calls) meter
    pub past : past_in c (account_of c time (reading meter value status seq ∷ calls)) meter ≡ past_in c (account_of c time calls) meter
    -- so the stale that group 204 counts are as many
    pub as_many : (fleet_of (reached setup lent c time (reading meter value status seq ∷ calls))).stale ≡ (fleet_of (reached setup lent c time calls)).stale
    -- and the register shows the old stamp, and what was sent: of a meter that was stale with IV set in STATUS, of another as it is
    pub marked : (buffer : List ℕ) (n : ℕ) →
        let a = account_of c time calls in
        let reply = register_reply (reached setup lent c time (reading meter value status seq ∷ calls)) 82 meter buffer in
        (ahead_in c a meter ≡ true) ⊎ (past_in c a meter ≡ true) → reply.answer ≡ given n
        → reply.buffer
        ≡ (bytes_of 4 (last_reading a.journal meter).stamp ++ (bytes_of 4 (of_z w32 value) ++ (bytes_of 1 (status / 2 * 2 + 1) ++ bytes_of 1 seq))) ++ drop n buffer
    pub as_sent : (buffer : List ℕ) (n : ℕ) →
        let a = account_of c time calls in
        let reply = register_reply (reached setup lent c time (reading meter value status seq ∷ calls)) 82 meter buffer in
        ahead_in c a meter ≡ false → past_in c a meter ≡ false → reply.answer ≡ given n
        → reply.buffer ≡ (bytes_of 4 (last_reading a.journal meter).stamp ++ (bytes_of 4 (of_z w32 value) ++ (bytes_of 1 status ++ bytes_of 1 seq))) ++ drop n buffer

  -- "a reading whose SEQ equals the stored one shall replace value and STATUS but keep the old stamp", after any history: it never makes a stale meter awake
  abbrev pub KeptNeverWakes : Type 0
  KeptNeverWakes =
      (c : Config) → Accepted c → (time : ℕ) (calls : List Call) (meter : ℕ) (value : ℤ) (status seq : ℕ)
      → answer_of_reading c (journal_of c time calls) meter status seq ≡ given kept → StampKept c time calls meter value status seq

  -- so after any history each register of group 82 that comes without IV, the lowest bit of its byte 8, is that of a meter which was heard so
  abbrev pub UnmarkedWasHeard : Type 0
  UnmarkedWasHeard =
      (c : Config) → Accepted c → (time : ℕ) (calls : List Call) (meter : ℕ) (buffer : List ℕ) (n : ℕ) →
      let a = account_of c time calls in
      let reply = register_reply (reached setup lent c time calls) 82 meter buffer in
      reply.answer ≡ given n → get_or reply.buffer 8 0 % 2 ≡ 0 → HeardWithin c a.journal meter a.time.second

  -- CR 5, in one
  pub record NoSignOfLife : Type 0 where
    pub exactly : KeptExactly
    pub answers : AnswersOfReadings
    pub first : FirstRenews
    pub keep : RepeatsKeep
    pub shown : RepeatsShown
    pub never_wakes : KeptNeverWakes
    pub heard : AwakeWasHeard
    pub unmarked : UnmarkedWasHeard

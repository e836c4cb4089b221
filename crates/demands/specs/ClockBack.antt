-- CR 2, quiet meters after the clock went back: "A stamp ahead of the clock shall be stale. Groups 82 and 204 follow; a meter read again at the new time is stale no longer." The classes are spelled out in
-- Shown.antt, and demand 2 speaks of all of them; here each of these sentences stands by itself.
use Rattle.std.specs.Prelude.{◌≡◌, Bool, true, false, not, ◌&&◌, cond, List, ◌∷◌, ◌++◌, ℕ, ◌+◌, ◌*◌, ◌/◌, ◌%◌, ◌<◌, ◌≤◌, ltb, eqb, ℤ, pos, length, get_or, drop}
use Rattle.std.specs.Int.{w32}
use Rattle.std.proofs.Common.{of_z}
use Rattle.laws.specs.Answers.{given}
use Rattle.laws.specs.Bytes.{bytes_of}
use Rattle.laws.specs.Counts.{count_of}
use Rattle.laws.specs.Masks.{bit}
use Rattle.laws.specs.SignedTotal.{totalℤ}
use Rattle.settings.specs.declared.Config.{Config}
use Rattle.recorder.specs.History.{Call, set, reading}
use Rattle.recorder.specs.Meters.{class_of, age_of, meter_at, renewed}
use Rattle.recorder.specs.declared.Recorder.{Recorder}
use Rattle.recorder.specs.declared.Setup.{Setup}
use Rattle.registers.specs.Fleet.{fleet_of}
use Rattle.registers.specs.Registers.{register_reply}
use Rattle.demands.specs.Account.{Account, last_reading, answer_of_reading, answer_of, account_of, journal_of}
use Rattle.demands.specs.Starts.{Accepted}
use Rattle.demands.specs.Demand2.{reached, with_samples}

-- Every meter and every recorder

-- "A stamp ahead of the clock shall be stale": the class of a meter that was read, whatever its limit and STATUS; and so a host is answered about one that is fitted, with a STATUS of 0 to 7. 1 is stale
pub record AheadIsStale : Type 0 where
  pub class : (limit stamp status clock : ℕ) → clock < stamp → class_of limit true stamp status clock ≡ 1
  pub answer : (limit stamp status clock : ℕ) → 0 < limit → status ≤ 7 → clock < stamp → age_of limit true stamp status clock ≡ given 1

-- "Groups 82 .. follow": a serial value whose stamp is ahead of the clock carries IV, the lowest bit of STATUS, byte 8 of a register of group 82, for every request
abbrev pub AheadIsMarked : Type 0
AheadIsMarked =
    (r : Recorder) (meter : ℕ) (buffer : List ℕ) (n : ℕ) → (register_reply r 82 meter buffer).answer ≡ given n
    → r.state.clock < (meter_at r.state.meters meter).stamp → get_or (register_reply r 82 meter buffer).buffer 8 0 % 2 ≡ 1

-- Histories

-- meter i is fitted and was read
abbrev pub read_in : Config → Account → ℕ → Bool
read_in c a i = not (eqb (get_or c.limits i 0) 0) && (last_reading a.journal i).read

-- and its stamp is ahead of the clock
unfoldable pub ahead_in : Config → Account → ℕ → Bool
ahead_in c a i = read_in c a i && ltb a.time.second (last_reading a.journal i).stamp

-- and "the clock is past its stamp by more than its limit"
unfoldable pub past_in : Config → Account → ℕ → Bool
past_in c a i = read_in c a i && ltb ((last_reading a.journal i).stamp + get_or c.limits i 0) a.time.second

-- it was read, and is neither ahead nor past, nor did its reading come with IV
unfoldable pub fresh_in : Config → Account → ℕ → Bool
fresh_in c a i = read_in c a i && (not (ahead_in c a i) && (not (past_in c a i) && not (eqb ((last_reading a.journal i).status % 2) 1)))

-- "We set the clock back": a meter that was read is ahead after an accepted clock set to a time before its stamp
abbrev pub SetBackIsAhead : Type 0
SetBackIsAhead =
    (c : Config) (time : ℕ) (calls : List Call) (seconds i : ℕ) →
    let a = account_of c time calls in
    answer_of c a (set seconds) ≡ 0 → read_in c a i ≡ true → seconds < (last_reading a.journal i).stamp → ahead_in c (account_of c time (set seconds ∷ calls)) i ≡ true

-- "for that hour": and it is ahead, whatever samples come, 100 for each second, until there are enough to bring the clock to its stamp
abbrev pub StaysAhead : Type 0
StaysAhead =
    (c : Config) (time : ℕ) (calls : List Call) (run : List ℕ) (i : ℕ) →
    let a = account_of c time calls in
    read_in c a i ≡ true → 100 * a.time.second + a.time.samples + length run < 100 * (last_reading a.journal i).stamp → ahead_in c (account_of c time (with_samples run calls)) i ≡ true

-- A start with any chosen slots and a buffer of any length
module _ (setup : Setup) (lent : ℕ) where
  -- "Groups 82 .. follow", from the account: the register of a meter that is ahead shows its last accepted reading, with IV set in STATUS
  abbrev pub AheadIsShown : Type 0
  AheadIsShown =
      (c : Config) → Accepted c → (time : ℕ) (calls : List Call) (meter : ℕ) (buffer : List ℕ) (n : ℕ) →
      let m = last_reading (account_of c time calls).journal meter in
      let reply = register_reply (reached setup lent c time calls) 82 meter buffer in
      ahead_in c (account_of c time calls) meter ≡ true → reply.answer ≡ given n
      → reply.buffer ≡ (bytes_of 4 m.stamp ++ (bytes_of 4 (of_z w32 m.value) ++ (bytes_of 1 (m.status / 2 * 2 + 1) ++ bytes_of 1 m.seq))) ++ drop n buffer

  -- "Groups .. 204 follow": the stale meters are those that are ahead and those that the clock is past, each counted once; the awake are the fresh ones, and the sum is theirs
  abbrev pub AheadIsCounted : Type 0
  AheadIsCounted =
      (c : Config) → Accepted c → (time : ℕ) (calls : List Call) →
      let a = account_of c time calls in
      let fleet = fleet_of (reached setup lent c time calls) in
      (fleet.stale ≡ count_of 32 (ahead_in c a) + count_of 32 (past_in c a))
      × (fleet.awake ≡ count_of 32 (fresh_in c a))
      × (fleet.sum ≡ totalℤ 32 (λ i. cond (fresh_in c a i) (last_reading a.journal i).value (pos 0)))

  -- what is so of a meter once a reading of it renewed its stamp
  pub record StaleNoLonger (c : Config) (time : ℕ) (calls : List Call) (meter : ℕ) (value : ℤ) (status seq : ℕ) : Type 0 where
    -- it is neither ahead nor past, and fresh unless the reading itself has IV
    pub not_ahead : ahead_in c (account_of c time (reading meter value status seq ∷ calls)) meter ≡ false
    pub not_past : past_in c (account_of c time (reading meter value status seq ∷ calls)) meter ≡ false
    pub fresh : fresh_in c (account_of c time (reading meter value status seq ∷ calls)) meter ≡ not (eqb (status % 2) 1)
    -- if it was stale, the stale that group 204 counts are one less; else they are as many
    pub one_less :
        let a = account_of c time calls in
        (fleet_of (reached setup lent c time calls)).stale
        ≡ (fleet_of (reached setup lent c time (reading meter value status seq ∷ calls))).stale + (bit (ahead_in c a meter) + bit (past_in c a meter))
    -- its register shows the clock and the reading as it was sent
    pub register : (buffer : List ℕ) (n : ℕ) →
        let now = (account_of c time calls).time.second in
        let reply = register_reply (reached setup lent c time (reading meter value status seq ∷ calls)) 82 meter buffer in
        reply.answer ≡ given n → reply.buffer ≡ (bytes_of 4 now ++ (bytes_of 4 (of_z w32 value) ++ (bytes_of 1 status ++ bytes_of 1 seq))) ++ drop n buffer

  -- "a meter read again at the new time is stale no longer", after any history; CR 5: this "is for renewed stamps"
  abbrev pub ReadAgain : Type 0
  ReadAgain =
      (c : Config) → Accepted c → (time : ℕ) (calls : List Call) (meter : ℕ) (value : ℤ) (status seq : ℕ)
      → answer_of_reading c (journal_of c time calls) meter status seq ≡ given renewed → StaleNoLonger c time calls meter value status seq

  -- CR 2, in one
  pub record ClockBack : Type 0 where
    pub stale : AheadIsStale
    pub marked : AheadIsMarked
    pub set_back : SetBackIsAhead
    pub stays : StaysAhead
    pub shown : AheadIsShown
    pub counted : AheadIsCounted
    pub read_again : ReadAgain

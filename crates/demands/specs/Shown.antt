-- What the registers show after a history: the age classes spelled out, and the bytes of the nine groups of document 01's table in the account's words.
use Rattle.std.specs.Prelude.{Bool, true, not, ◌&&◌, ◌||◌, cond, List, ◌++◌, ℕ, ◌+◌, ◌*◌, ◌/◌, ◌%◌, ltb, eqb, pos, get_or, replicate, if◌then◌else◌}
use Rattle.std.specs.Int.{w32, w64}
use Rattle.std.proofs.Common.{of_z}
use Rattle.laws.specs.Bytes.{bytes_of}
use Rattle.laws.specs.Counts.{count_of}
use Rattle.laws.specs.Masks.{bit}
use Rattle.laws.specs.SignedTotal.{totalℤ}
use Rattle.calendar.specs.Moments.{moment_of}
use Rattle.tariff.specs.Daily.{daily_active}
use Rattle.tariff.specs.Rules.{force_map_at}
use Rattle.settings.specs.Rules.{zero_input, zero_slot, zero_register}
use Rattle.settings.specs.declared.Config.{Config}
use Rattle.counting.specs.declared.Bill.{Bill}
use Rattle.counting.specs.declared.Line.{Line}
use Rattle.sampling.specs.declared.Period.{Period}
use Rattle.registers.specs.Contents.{weekly_on}
use Rattle.registers.specs.declared.fleet.Fleet.{Fleet}
use Rattle.demands.specs.Account.{Account, Reading, last_reading, periods_of}
use Rattle.demands.specs.State.{line_in, bill_in, last_period}

-- "A fitted meter is never before its first reading"; a limit of 0 is not fitted
abbrev pub is_never : ℕ → Bool → Bool
is_never limit read = not (eqb limit 0) && not read

-- "stale if the clock is past its stamp by more than its limit"; CR 2: "A stamp ahead of the clock shall be stale"
abbrev pub is_stale : ℕ → Bool → ℕ → ℕ → Bool
is_stale limit read stamp clock = not (eqb limit 0) && (read && (ltb clock stamp || ltb (stamp + limit) clock))

-- a fitted meter that was read and is not stale
abbrev pub is_recent : ℕ → Bool → ℕ → ℕ → Bool
is_recent limit read stamp clock = not (eqb limit 0) && (read && not (is_stale limit read stamp clock))

-- "else invalid if its IV is set": IV is the lowest bit of STATUS
abbrev pub is_invalid : ℕ → Bool → ℕ → ℕ → ℕ → Bool
is_invalid limit read stamp status clock = is_recent limit read stamp clock && eqb (status % 2) 1

-- "else awake"
abbrev pub is_awake : ℕ → Bool → ℕ → ℕ → ℕ → Bool
is_awake limit read stamp status clock = is_recent limit read stamp clock && not (eqb (status % 2) 1)

-- meter i of a history is awake
unfoldable pub awake_in : Config → Account → ℕ → Bool
awake_in c a i =
    let m = last_reading a.journal i in
    is_awake (get_or c.limits i 0) m.read m.stamp m.status a.time.second

-- "204 fleet: fitted, awake, stale, invalid, never .. signed sum of awake values", of the meters that a test names
abbrev pub fleet_among : (ℕ → Bool) → Config → Account → Fleet
fleet_among own c a =
    let now = a.time.second in
    let limit : ℕ → ℕ = λ i. get_or c.limits i 0 in
    let last : ℕ → Reading = λ i. last_reading a.journal i in
    record {
      fitted = count_of 32 (λ i. own i && not (eqb (limit i) 0));
      awake = count_of 32 (λ i. own i && awake_in c a i);
      stale = count_of 32 (λ i. own i && is_stale (limit i) (last i).read (last i).stamp now);
      invalid = count_of 32 (λ i. own i && is_invalid (limit i) (last i).read (last i).stamp (last i).status now);
      never = count_of 32 (λ i. own i && is_never (limit i) (last i).read);
      sum = totalℤ 32 (λ i. cond (own i && awake_in c a i) (last i).value (pos 0));
    }

-- of all meters
unfoldable pub fleet_in : Config → Account → Fleet
fleet_in c a = fleet_among (λ i. true) c a

-- "82 serial: STAMP 4, value 4, STATUS 1 (IV set unless awake), SEQ 1; never: zeros but STATUS 1"
abbrev pub serial_shown : Reading → Bool → List ℕ
serial_shown m awake =
    let status = if awake then m.status else m.status / 2 * 2 + 1 in
    bytes_of 4 m.stamp ++ (bytes_of 4 (of_z w32 m.value) ++ (bytes_of 1 status ++ bytes_of 1 m.seq))

-- "201 level 9: state (0 none closed, 1 short, 2 whole) 1, stamp 4, signed value 8; zeros if none"
abbrev pub slot_shown : Period → ℕ → List ℕ
slot_shown p i =
    if eqb p.state 0 then replicate 13 0
    else bytes_of 1 p.state ++ (bytes_of 4 p.stamp ++ bytes_of 8 (of_z w64 (get_or p.values i (pos 0))))

-- "202 bill: state (0 never reset, 1) 1, open 4, closed 4, stamp 4; the last two zero if never reset"
abbrev pub bill_shown : Bill → List ℕ
bill_shown b = bytes_of 1 (bit b.reset) ++ (bytes_of 4 b.amount ++ (bytes_of 4 b.closed ++ bytes_of 4 b.stamp))

-- "203 input: rejected 2, remainder 2"
abbrev pub input_shown : Line → List ℕ
input_shown line = bytes_of 2 line.rejected ++ bytes_of 2 line.remainder

-- "204 fleet: fitted, awake, stale, invalid, never 1 each; signed sum of awake values 8"
abbrev pub fleet_shown : Fleet → List ℕ
fleet_shown f =
    bytes_of 1 f.fitted
    ++ (bytes_of 1 f.awake ++ (bytes_of 1 f.stale ++ (bytes_of 1 f.invalid ++ (bytes_of 1 f.never ++ bytes_of 8 (of_z w64 f.sum)))))

-- a register that the table has, and that is in use: what can be read, by the configuration alone
unfoldable pub readable : Config → ℕ → ℕ → Bool
readable c group i =
    if eqb group 82 then ltb i 32 && not (eqb (get_or c.limits i 0) 0)
    else if eqb group 89 then ltb i 1
    else if eqb group 90 then ltb i 32
    else if eqb group 91 then ltb i 16
    else if eqb group 201 then ltb i 16 && not (eqb (get_or c.slots i zero_slot).level 255)
    else if eqb group 202 then ltb i 16 && not (eqb (get_or c.registers i zero_register).sum 255)
    else if eqb group 203 then ltb i 16 && not (eqb (get_or c.inputs i zero_input).kind 0)
    else if eqb group 204 then ltb i 1
    else eqb group 206 && ltb i 1

-- the bytes of register i of a group of the table; "206 clock: seconds 4, samples in this second 1"
unfoldable pub shown : Config → Account → ℕ → ℕ → List ℕ
shown c a group i =
    let now = a.time.second in
    if eqb group 82 then serial_shown (last_reading a.journal i) (awake_in c a i)
    else if eqb group 89 then bytes_of 2 (force_map_at c.program now)
    else if eqb group 90 then bytes_of 1 (bit (daily_active c.program i (now / 60 % 1440)))
    else if eqb group 91 then bytes_of 1 (bit (weekly_on c.program i (moment_of now)))
    else if eqb group 201 then slot_shown (last_period c (periods_of c a.journal)) i
    else if eqb group 202 then bill_shown (bill_in c a.journal i)
    else if eqb group 203 then input_shown (line_in c a.journal i)
    else if eqb group 204 then fleet_shown (fleet_in c a)
    else bytes_of 4 now ++ bytes_of 1 a.time.samples

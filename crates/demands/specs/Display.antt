-- CR 7 over histories: what the hall display shows after any calls is worked out from the account (Account.antt): the clock, and the registers' bytes as the account shows them (Shown.antt).
use Rattle.std.specs.Prelude.{◌≡◌, List, ℕ, if◌then◌else◌}
use Rattle.laws.specs.Answers.{Answer, given, refused}
use Rattle.settings.specs.declared.Config.{Config}
use Rattle.recorder.specs.History.{Call}
use Rattle.recorder.specs.declared.Setup.{Setup}
use Rattle.display.specs.Displays.{display_with, display_reply}
use Rattle.display.specs.Laws.{MeansAsWritten, NumbersRead, ReadByMeters, FieldsFill, FieldsInOrder, SignedBack, DatesRead, ArgumentsInOrder, LinesAsBroken, OnlyTwoLines, RefusedDisplay, ShownFirst}
use Rattle.demands.specs.Account.{Account, account_of}
use Rattle.demands.specs.Starts.{Accepted}
use Rattle.demands.specs.Shown.{readable, shown}
use Rattle.demands.specs.Demand2.{reached}
use Rattle.demands.specs.Profile.{calls_of, after_sequence, AfterAnySequence}

-- the way to read registers by the account
abbrev pub read_by_account : Config → Account → ℕ → ℕ → Answer (List ℕ)
read_by_account c a group register = if readable c group register then given (shown c a group register) else refused 22 0

-- after any history a format string is answered, and the buffer is, as with the account's clock and the account's registers
abbrev pub DisplayOfHistory : Type 0
DisplayOfHistory =
    (setup : Setup) (lent : ℕ) (c : Config) → Accepted c → (time : ℕ) (calls : List Call) (format arguments buffer : List ℕ) →
    let a = account_of c time calls in
    display_reply (reached setup lent c time calls) format arguments buffer ≡ display_with a.time.second (read_by_account c a) format arguments buffer

-- the same after sequences in which runs of samples, data sets, and calls that are lent buffers of other lengths stand as well
abbrev pub DisplayOfSequence : Type 0
DisplayOfSequence =
    AfterAnySequence (λ setup c time lent sequence.
    (format arguments buffer : List ℕ) →
    let a = account_of c time (calls_of c time sequence) in
    display_reply (after_sequence setup c time lent sequence).recorder format arguments buffer ≡ display_with a.time.second (read_by_account c a) format arguments buffer)

-- CR 7, in one
pub record HallDisplay : Type 0 where
  -- what is shown after any calls
  pub of_history : DisplayOfHistory
  pub of_sequence : DisplayOfSequence
  -- a format string means what is written, and nothing else can be meant
  pub means : MeansAsWritten
  -- a number that is shown is, read as a decimal number, the value; where sign, zeros, blanks and point stand; its width
  pub numbers : NumbersRead
  pub read_by_meters : ReadByMeters
  -- the fields of document 01's table are the bytes of the registers, and a signed one is the number that was stored
  pub fields : FieldsFill
  pub order : FieldsInOrder
  pub signed : SignedBack
  -- a date and a time that are shown are those of the clock's second
  pub dates : DatesRead
  -- "F uses up three argument bytes each", dropped or not; the first refusal in string order is given
  pub arguments : ArgumentsInOrder
  -- "Characters past the sixteenth of a line are dropped, and lines after the second too; what isn't written is blank"
  pub broken : LinesAsBroken
  pub lines : OnlyTwoLines
  -- only the first 32 bytes are written, and only on success
  pub refused_leaves : RefusedDisplay
  pub shown_first : ShownFirst

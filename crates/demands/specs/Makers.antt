-- CR 6 over histories: "For two histories with the same configuration and lists, the same accepted calls on the clock and billing, and the same samples and readings for everything that feeds a maker's
-- registers, all in the same order, that maker's answers are the same, refusals too. FULL strikes whole samples, so the same samples must have been taken in both." Which calls are accepted is worked
-- out from the calls alone, by the account (Account.antt): no recorder is asked what is compared.
use Rattle.std.specs.Prelude.{◌≡◌, Bool, false, not, ◌&&◌, ◌||◌, List, [], ◌∷◌, ◌++◌, ℕ, ◌+◌, ◌*◌, eqb, pos, nat_abs, length, get_or, drop, if◌then◌else◌}
use Rattle.laws.specs.Answers.{given}
use Rattle.laws.specs.Any.{any}
use Rattle.laws.specs.Each.{Each}
use Rattle.laws.specs.Masks.{mask_of, bit_at}
use Rattle.settings.specs.Rules.{zero_slot}
use Rattle.settings.specs.declared.Config.{Config}
use Rattle.settings.specs.declared.Slot.{Slot}
use Rattle.recorder.specs.History.{Call, sample, set, reading, reset}
use Rattle.recorder.specs.Lists.{list_of}
use Rattle.recorder.specs.declared.MakerList.{MakerList}
use Rattle.recorder.specs.declared.Setup.{Setup}
use Rattle.makers.specs.Laws.{AsTheOperator, FleetOfList, EverythingListed, NothingListed}
use Rattle.makers.specs.Requests.{maker_reply}
use Rattle.demands.specs.Account.{Account, feeding, answer_of, entered, account_of}
use Rattle.demands.specs.Starts.{Accepted, LegalLength, SlotsFit}
use Rattle.demands.specs.Shown.{fleet_among, fleet_shown, shown}
use Rattle.demands.specs.Demand2.{reached}
use Rattle.demands.specs.Profile.{Made, OwnBuffer, calls_of, after_sequence}

-- The inputs that feed a maker

-- input i feeds a slot: of level 0 the input itself, of level 1 those of its sum, of level 2 those of the sums with a coefficient that is not 0
unfoldable pub feeds_slot : Config → Slot → ℕ → Bool
feeds_slot c slot i =
    if eqb slot.level 0 then eqb slot.index i
    else if eqb slot.level 1 then bit_at (get_or c.sums slot.index 0) i
    else if eqb slot.level 2 then any 8 (λ k. not (eqb (nat_abs (get_or c.coefficients (slot.index * 8 + k) (pos 0))) 0) && bit_at (get_or c.sums k 0) i)
    else false

-- input i feeds a maker: it is on the list, or feeds a slot that is, or stands in the sum of a bill register that is
unfoldable pub feeds_maker : Config → MakerList → ℕ → Bool
feeds_maker c list i =
    bit_at list.inputs i
    || (any 16 (λ j. bit_at list.slots j && feeds_slot c (get_or c.slots j zero_slot) i) || any 16 (λ j. bit_at list.bills j && bit_at (feeding c j) i))

-- A maker's view

-- the calls that the account accepts: those that it answers with 0
abbrev pub accepted_of : Config → ℕ → List Call → List Call
accepted_of c time [] = []
accepted_of c time (call ∷ earlier) =
    let before = accepted_of c time earlier in
    if eqb (answer_of c (account_of c time earlier) call) 0 then call ∷ before else before

-- the line bits of the inputs that feed a maker; all others are 0
abbrev pub bits_for : Config → MakerList → ℕ → ℕ
bits_for c list bits = mask_of 16 (λ i. feeds_maker c list i && bit_at bits i)

-- what a maker sees of calls, in order: each sample with these bits, each clock set, each billing reset, each reading of a meter on the list
abbrev pub seen_of : Config → MakerList → List Call → List Call
seen_of c list [] = []
seen_of c list (sample bits ∷ earlier) = sample (bits_for c list bits) ∷ seen_of c list earlier
seen_of c list (set seconds ∷ earlier) = set seconds ∷ seen_of c list earlier
seen_of c list (reset ∷ earlier) = reset ∷ seen_of c list earlier
seen_of c list (reading meter value status seq ∷ earlier) =
    let before = seen_of c list earlier in
    if bit_at list.meters meter then reading meter value status seq ∷ before else before

-- a maker's view of a history: what is seen of the accepted calls
abbrev pub view_of : Config → MakerList → ℕ → List Call → List Call
view_of c list time calls = seen_of c list (accepted_of c time calls)

-- Two histories

-- whatever else differs: other inputs' bits, other meters' readings, refused calls, what is unseen among what is seen, the chosen slots and the buffer of the load profile, and the other makers' lists
abbrev pub MakersApart : Type 0
MakersApart =
    (c : Config) → Accepted c → (time : ℕ) (maker : ℕ) (list : MakerList)
    → (setup : Setup) → list_of setup.lists maker ≡ list → (lent : ℕ) (calls : List Call)
    → (setup' : Setup) → list_of setup'.lists maker ≡ list → (lent' : ℕ) (calls' : List Call)
    → view_of c list time calls ≡ view_of c list time calls'
    → (group register : ℕ) (buffer : List ℕ)
    → maker_reply (reached setup lent c time calls) maker group register buffer ≡ maker_reply (reached setup' lent' c time calls') maker group register buffer

-- the same after sequences in which runs of samples, data sets, and calls that are lent buffers of other lengths stand as well
abbrev pub ApartInSequences : Type 0
ApartInSequences =
    (c : Config) → Accepted c → (time : ℕ) (maker : ℕ) (list : MakerList)
    → (setup : Setup) → list_of setup.lists maker ≡ list → SlotsFit setup → (lent : List ℕ) → LegalLength (length lent)
    → (sequence : List Made) → Each (OwnBuffer (length lent)) sequence
    → (setup' : Setup) → list_of setup'.lists maker ≡ list → SlotsFit setup' → (lent' : List ℕ) → LegalLength (length lent')
    → (sequence' : List Made) → Each (OwnBuffer (length lent')) sequence'
    → view_of c list time (calls_of c time sequence) ≡ view_of c list time (calls_of c time sequence')
    → (group register : ℕ) (buffer : List ℕ)
    → maker_reply (after_sequence setup c time lent sequence).recorder maker group register buffer
    ≡ maker_reply (after_sequence setup' c time lent' sequence').recorder maker group register buffer

-- What a maker is shown

-- "group 204 covers that maker's meters only"; all else is what the operator is shown
abbrev pub shown_to : MakerList → Config → Account → ℕ → ℕ → List ℕ
shown_to list c a group i = if eqb group 204 then fleet_shown (fleet_among (bit_at list.meters) c a) else shown c a group i

-- each register that a maker is given after a history has the bytes that the account shows, and the rest of the buffer is as it was
abbrev pub MakersOfHistory : Type 0
MakersOfHistory =
    (setup : Setup) (lent : ℕ) (c : Config) → Accepted c → (time : ℕ) (calls : List Call) (maker group register : ℕ) (buffer : List ℕ) (n : ℕ)
    → (maker_reply (reached setup lent c time calls) maker group register buffer).answer ≡ given n
    → (maker_reply (reached setup lent c time calls) maker group register buffer).buffer
    ≡ shown_to (list_of setup.lists maker) c (account_of c time calls) group register ++ drop n buffer

-- the account of calls of which each is entered, as a maker would keep it of the view
abbrev pub account_of_view : Config → ℕ → List Call → Account
account_of_view c time [] = account_of c time []
account_of_view c time (call ∷ earlier) = entered c (account_of_view c time earlier) call

-- so these bytes are those that a maker works out from the view alone: whoever has seen the own calls can check the own figures
abbrev pub ShownByView : Type 0
ShownByView =
    (setup : Setup) (lent : ℕ) (c : Config) → Accepted c → (time : ℕ) (calls : List Call) (maker group register : ℕ) (buffer : List ℕ) (n : ℕ) →
    let list = list_of setup.lists maker in
    (maker_reply (reached setup lent c time calls) maker group register buffer).answer ≡ given n
    → (maker_reply (reached setup lent c time calls) maker group register buffer).buffer
    ≡ shown_to list c (account_of_view c time (view_of c list time calls)) group register ++ drop n buffer

-- CR 6, in one
pub record EachTheirOwn : Type 0 where
  -- "that maker's answers are the same, refusals too"
  pub apart : MakersApart
  pub apart_in_sequences : ApartInSequences
  -- what is given is what the account shows, and what the view shows
  pub shown : MakersOfHistory
  pub by_view : ShownByView
  -- "Demand 2 holds for the operator as before": what a maker is given is what the operator is given, the fleet aside, which is that of the maker's meters
  pub as_operator : AsTheOperator
  pub fleet : FleetOfList
  -- what can be learnt at most, and at least
  pub all_listed : EverythingListed
  pub none_listed : NothingListed

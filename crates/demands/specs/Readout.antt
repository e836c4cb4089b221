-- CR 4: "Read one line .. and hand back the value text as the part of the caller's line where it stands, then turn it into a whole number with a stated count of decimals, 0 to 9, and book it as a
-- reading whose meter, STATUS and SEQ the caller gives." What a line, a number and a block are is said in crate readout (specs/DataSets, Numbers and Blocks), of bytes alone; its laws are gathered here.
use Rattle.std.specs.Prelude.{◌≡◌, List, ◌++◌, ℕ, ℤ, drop, if◌then◌else◌}
use Rattle.laws.specs.Answers.{Answer, given, refused}
use Rattle.readout.specs.Answers.{line_number}
use Rattle.readout.specs.Blocks.{is_block}
use Rattle.readout.specs.Laws.{Sent, OneSplit, NumberAsWritten, NumberReadBack, LineReadBack, BlockAroundBytes, OneByteChanged}
use Rattle.readout.specs.Numbers.{Decimal, in32_bits}
use Rattle.recorder.specs.Meters.{Stamping}
use Rattle.recorder.specs.Calls.{reading_reply}
use Rattle.recorder.specs.Readout.{readout_reply, block_readout_reply}
use Rattle.registers.specs.Registers.{register_reply}
use Rattle.settings.specs.declared.Config.{Config}
use Rattle.demands.specs.Account.{Entry, answer_of_reading, account_of, journal_of}
use Rattle.demands.specs.Shown.{shown}
use Rattle.demands.specs.Profile.{Hall, after_sequence, calls_of, AfterAnySequence}

-- what a data set is answered: the refusal of its number, or what its reading is
abbrev pub answer_of_readout : Config → List Entry → ℕ → ℕ → ℕ → Answer ℤ → Answer Stamping
answer_of_readout c journal meter status seq (given value) = answer_of_reading c journal meter status seq
answer_of_readout c journal meter status seq (refused n offset) = refused n offset

-- what data sets are answered, with a block and without, and readings among them, where this is the journal
pub record ReadoutAnswered (c : Config) (journal : List Entry) (x : Hall) : Type 0 where
  pub readings : (meter : ℕ) (value : ℤ) (status seq : ℕ) → (reading_reply x.recorder meter value status seq).answer ≡ answer_of_reading c journal meter status seq
  pub readouts : (meter status seq decimals : ℕ) (line : List ℕ)
      → (readout_reply x.recorder meter status seq decimals line).answer ≡ answer_of_readout c journal meter status seq (line_number line decimals)
  pub block_readouts : (meter status seq decimals : ℕ) (block line : List ℕ)
      → (block_readout_reply x.recorder meter status seq decimals block line).answer
      ≡ (if is_block block then answer_of_readout c journal meter status seq (line_number line decimals) else refused 16 0)

-- after any sequence of calls, data sets among them, each data set and each reading is answered so
abbrev pub AnswersOfReadouts : Type 0
AnswersOfReadouts =
    AfterAnySequence (λ setup c time buffer sequence.
    ReadoutAnswered c (journal_of c time (calls_of c time sequence)) (after_sequence setup c time buffer sequence))

-- and each register that is read has the bytes that the account shows: a data set that was accepted is a reading of its whole number, and one that was refused is nothing
abbrev pub RegistersOfSequence : Type 0
RegistersOfSequence =
    AfterAnySequence (λ setup c time buffer sequence.
    (group register : ℕ) (result : List ℕ) (n : ℕ) →
    let reply = register_reply (after_sequence setup c time buffer sequence).recorder group register result in
    reply.answer ≡ given n → reply.buffer ≡ shown c (account_of c time (calls_of c time sequence)) group register ++ drop n result)

-- whatever number is written in the value of a line, the line is read as that number with its sign, or is 19 where that does not fit
abbrev pub SentIsRead : Type 0
SentIsRead = (line : List ℕ) (decimals n : ℕ) (w : Decimal) → Sent line decimals n w → line_number line decimals ≡ in32_bits w.minus (given n)

-- CR 4, in one
pub record MetersReadout : Type 0 where
  -- the value text found is the only split of the line that meets the rules; LINE exactly if there is none
  pub one_split : OneSplit
  -- a number is read as a person writes it, and one that is written with the stated decimals and read back is the same, by itself and from a line
  pub as_written : NumberAsWritten
  pub read_back : NumberReadBack
  pub line_read_back : LineReadBack
  pub sent_is_read : SentIsRead
  -- a block is what stands around bytes, and any one byte of it changed makes it refused
  pub blocks : BlockAroundBytes
  pub one_byte_changed : OneByteChanged
  -- what is booked
  pub answers : AnswersOfReadouts
  pub registers : RegistersOfSequence

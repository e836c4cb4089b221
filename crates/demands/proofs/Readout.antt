-- CR 4 over histories: what data sets are answered, and what the registers show of them.
use mathlib.Core.Path.{◌≡◌, sym, ap, ◌∙◌}
use mathlib.Core.List.{List}
use Prim.Native.Nat.{ℕ}
use Rattle.laws.proofs.Answers.{by_answer}
use Rattle.laws.proofs.Tests.{by_test}
use Rattle.readout.specs.Answers.{line_number}
use Rattle.readout.specs.Blocks.{is_block}
use Rattle.readout.proofs.Splits.{one_split}
use Rattle.readout.proofs.Written.{number_as_written}
use Rattle.readout.proofs.ReadBack.{number_read_back, line_read_back, line_value}
use Rattle.readout.proofs.Framed.{block_around_bytes, one_byte_changed}
use Rattle.recorder.specs.History.{Call}
use Rattle.recorder.specs.Readout.{readout_reply, block_readout_reply}
use Rattle.recorder.specs.declared.Setup.{Setup}
use Rattle.settings.specs.declared.Config.{Config}
use Rattle.demands.specs.Account.{journal_of}
use Rattle.demands.specs.Demand2.{reached}
use Rattle.demands.specs.Profile.{calls_of}
use Rattle.demands.specs.Readout.{answer_of_readout, SentIsRead, AnswersOfReadouts, RegistersOfSequence, MetersReadout}
use Rattle.demands.proofs.Repeats.{answers_of_readings}
use Rattle.demands.proofs.Shown.{registers_of_history}
use Rattle.demands.proofs.Profile.{reaches}

-- a number that is written in a line is read from it
sent_is_read : SentIsRead
sent_is_read line decimals n w sent =
    ap (λ l. line_number l decimals) (sym sent.split)
    ∙ line_value sent.set sent.rules decimals
    ∙ number_as_written.each sent.set.value decimals n w sent.decimals_most sent.number

-- a data set is answered with its number's refusal, or as its reading is
module _ (setup : Setup) (lent : ℕ) (c : Config) (time : ℕ) (calls : List Call) (meter status seq decimals : ℕ) where
  readout_answer : (line : List ℕ)
      → (readout_reply (reached setup lent c time calls) meter status seq decimals line).answer
      ≡ answer_of_readout c (journal_of c time calls) meter status seq (line_number line decimals)
  unfolding readout_reply
  readout_answer line =
      by_answer (line_number line decimals) (λ z e. rw e (answers_of_readings setup lent c time calls meter z status seq)) (λ n offset e. rw e)

answers_of_readouts : AnswersOfReadouts
unfolding block_readout_reply
answers_of_readouts setup fit c accepted time buffer limits sequence own =
    let calls = calls_of c time sequence in
    rw (reaches setup fit c accepted time buffer limits sequence own)
    (record {
      readings = λ meter value status seq. answers_of_readings setup _ c time calls meter value status seq;
      readouts = λ meter status seq decimals line. readout_answer setup _ c time calls meter status seq decimals line;
      block_readouts = λ meter status seq decimals block line.
          by_test (is_block block) (λ t. rw t (readout_answer setup _ c time calls meter status seq decimals line)) (λ t. rw t);
    })

registers_of_sequence : RegistersOfSequence
registers_of_sequence setup fit c accepted time buffer limits sequence own =
    rw (reaches setup fit c accepted time buffer limits sequence own)
    (λ group register result n. registers_of_history setup _ c accepted time (calls_of c time sequence) group register result n)

pub cr_4 : MetersReadout
cr_4 =
    record {
      one_split = one_split;
      as_written = number_as_written;
      read_back = number_read_back;
      line_read_back = line_read_back;
      sent_is_read = sent_is_read;
      blocks = block_around_bytes;
      one_byte_changed = one_byte_changed;
      answers = answers_of_readouts;
      registers = registers_of_sequence;
    }

-- The data sets of noon, by computation.
use mathlib.Core.Path.{refl}
use mathlib.Core.List.{List}
use Prim.Native.Nat.{ℕ}
use Rattle.laws.specs.Bytes.{bytes_of}
use Rattle.laws.specs.Decimals.{digits, value_from}
use Rattle.laws.specs.Each.{Each}
use Rattle.laws.specs.Leading.{leading}
use Rattle.laws.specs.Letters.{letters}
use Rattle.laws.specs.SignedTotal.{totalℤ}
use Rattle.laws.specs.Tables.{table}
use Rattle.laws.specs.Total.{total}
use Rattle.readout.specs.Answers.{line_number}
use Rattle.readout.specs.Blocks.{xor_from, is_block}
use Rattle.readout.specs.DataSets.{ends_at, value_place}
use Rattle.readout.specs.Numbers.{is_decimal, size_of, whole_number}
use Rattle.recorder.specs.Calls.{fresh_state}
use Rattle.recorder.specs.Meters.{class_of, stamping_of, reading_answer}
use Rattle.recorder.specs.Readout.{readout_reply, block_readout_reply}
use Rattle.recorder.specs.declared.Recorder.{Recorder}
use Rattle.recorder.specs.declared.Setup.{Setup}
use Rattle.registers.specs.Contents.{status_shown, serial_bytes, meter_bytes}
use Rattle.registers.specs.Fleet.{meter_class, class_at, has_class, has_any, awake_value, awake_sum, fleet_of}
use Rattle.registers.specs.Registers.{groups, look_up, register_reply}
use Rattle.worked.specs.Example.{two_makers, start}
use Rattle.demands.specs.Profile.{after_sequence}
use Rattle.worked.specs.ReadoutCases.{at_noon, tries, TryClaim, ReadoutCases}

module _ (setup : Setup) (buffer : List ℕ) where
  -- the recorder after the data sets
  abbrev noon : Recorder
  noon = (after_sequence setup two_makers start buffer at_noon).recorder

  each_try : Each (TryClaim noon) tries
  unfolding letters leading digits value_from ends_at value_place is_decimal size_of whole_number line_number xor_from is_block fresh_state stamping_of reading_answer readout_reply block_readout_reply after_sequence
  each_try =
      ((refl, refl, refl), ((refl, refl, refl), ((refl, refl, refl), ((refl, refl, refl), ((refl, refl, refl), ((refl, refl, refl), ((refl, refl, refl), ((refl, refl, refl), ((refl, refl, refl), ((refl, refl, refl), ((refl, refl, refl), ((refl, refl, refl), ((refl, refl, refl), ((refl, refl, refl), tt))))))))))))))

  pub readout_cases : ReadoutCases setup buffer
  unfolding letters leading digits value_from ends_at value_place is_decimal size_of whole_number line_number xor_from is_block fresh_state stamping_of reading_answer readout_reply block_readout_reply after_sequence total totalℤ table bytes_of class_of meter_class class_at has_class has_any awake_value awake_sum fleet_of status_shown serial_bytes meter_bytes groups look_up register_reply
  readout_cases = record { meter_0 = refl; meter_1 = refl; meter_2 = refl; fleet = refl; each = each_try }
